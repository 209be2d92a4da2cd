-- Numbers that move up in an order: what stays, and what stands behind them.
use Rattle.std.proofs.Common.{◌≡◌, ℕ, ◌+◌, ◌-◌, ◌<◌, ◌≤◌, Bool, true, false, cond, List, [], ◌∷◌, ◌++◌, length, get_or}
use Rattle.std.proofs.Common.{Option, Some, None, refl, sym, ap, subst, ◌∙◌, arith, inl, inr, add-one, append_assoc}
use Rattle.std.specs.Prelude.{filter, ◌==◌, if◌then◌else◌, All}
use Rattle.std.specs.List.{last_or, swap}
use Rattle.std.proofs.Math.ListN.{set}
use Rattle.std.proofs.lemmas.Bool.{cases_Bool, cases_eq, eq-eqb, ne_eqb, false≢true}
use Rattle.std.proofs.lemmas.List.{get_or_default, get_or-append_right, set_at, length-append}
use Rattle.std.proofs.lemmas.List.Elements.{All-cons, All-head, All-tail}
use Rattle.proto.specs.Counts.{times}
use Rattle.proto.specs.declared.eviction.Eviction.{Eviction}
use Rattle.proto.specs.declared.eviction.Eviction.TheVariants.{Oldest, LeastRead}
use Rattle.segments.specs.Pools.{PoolState, Used, in_bucket}
use Rattle.segments.specs.Inside.{IsLinked}
use Rattle.segments.specs.LeastReadRule.{put_before, moved_before}
use Rattle.segments.specs.Rules.{order_by}
use Rattle.segments.specs.Filling.{AreInTime}
use Rattle.segments.specs.Rules.{OpensNoLater}
use Rattle.segments.proofs.LinkLemmas.{times-filter, same_length}
use Rattle.segments.proofs.MergingLemmas.{last_any}

-- ---- how often numbers stand there

-- a number put before another one stands there once more
times_put : (k next n : ℕ) (xs : List ℕ) → times k (put_before next n xs) ≡ times k (n ∷ xs)
times_put k next n [] = refl
times_put k next n (m ∷ xs) =
    let rest = times_put k next n xs in
    elim (cases_Bool (m == next)) [
      | inl y ↦ rw y refl
      | inr f ↦ rw f (omega (arith, rest))
    ]

-- where a number moves up, each stands there as often as before
pub times_moved : (k next n : ℕ) (xs : List ℕ) → times k (moved_before next n xs) ≡ times k xs
times_moved k next n [] = refl
times_moved k next n (m ∷ xs) =
    let rest = times_moved k next n xs in
    elim (cases_eq m n) [
      | inl e ↦
          let z = eq-eqb m n e in
          let put = times_put k next n xs ∙ ap (λ x. times k (x ∷ xs)) (sym e) in
          ap (λ b. times k (cond b (put_before next n xs) (m ∷ moved_before next n xs))) z ∙ put
      | inr e ↦
          let z = ne_eqb m n e in
          ap (λ b. times k (cond b (put_before next n xs) (m ∷ moved_before next n xs))) z
          ∙ ap (λ t. (if m == k then 1 else 0) + t) rest
    ]

-- by either rule
pub times_ordered : (e : Eviction) (k next n : ℕ) (xs : List ℕ) → times k (order_by e next n xs) ≡ times k xs
times_ordered Oldest k next n xs = refl
times_ordered LeastRead k next n xs = times_moved k next n xs

-- ---- the last number that passes a test

-- a number that fails the test changes nothing of those that pass
put_fails : (q : ℕ → Bool) (next n : ℕ) (xs : List ℕ) → q n ≡ false → filter q (put_before next n xs) ≡ filter q xs
put_fails q next n [] f = rw f refl
put_fails q next n (m ∷ xs) f =
    let rest = put_fails q next n xs f in
    elim (cases_Bool (m == next)) [
      | inl y ↦ rw (y, f) refl
      | inr g ↦ rw g (ap (λ ys. cond (q m) (m ∷ ys) ys) rest)
    ]

-- a number that passes, put before another one that does, isn't the last one
put_passes : (q : ℕ → Bool) (next n : ℕ) (o : Option ℕ) (xs : List ℕ) → q n ≡ true → q next ≡ true → 1 ≤ times next xs
    → last_or o (filter q (put_before next n xs)) ≡ last_or o (filter q xs)
put_passes q next n o [] t u h = absurd (omega (arith, h))
put_passes q next n o (m ∷ xs) t u h =
    elim (cases_eq m next) [
      | inl e ↦
          let z = eq-eqb m next e in
          let v : q m ≡ true = ap q e ∙ u in
          rw (z, t, v) refl
      | inr e ↦
          let z = ne_eqb m next e in
          let later : 1 ≤ 0 + times next xs = rw z at h in
          let some : 1 ≤ times next xs = omega (arith, later) in
          elim (cases_Bool (q m)) [
            | inl v ↦ rw (z, v) (put_passes q next n (Some m) xs t u some)
            | inr v ↦ rw (z, v) (put_passes q next n o xs t u some)
          ]
    ]

-- how often a number stands behind the first place of another one
abbrev pub times_behind : ℕ → ℕ → List ℕ → ℕ
times_behind k n [] = 0
times_behind k n (m ∷ xs) = if m == n then times k xs else times_behind k n xs

-- what is known of the number before which another one is to stand: it passes the test, and stands
-- behind the other
abbrev pub IsAhead : (ℕ → Bool) → ℕ → ℕ → List ℕ → Type 0
IsAhead q next n xs = (q next ≡ true) × (1 ≤ times_behind next n xs)

-- the last number that passes stays the last
moved_last : (q : ℕ → Bool) (next n : ℕ) (o : Option ℕ) (xs : List ℕ) → (q n ≡ true → IsAhead q next n xs)
    → last_or o (filter q (moved_before next n xs)) ≡ last_or o (filter q xs)
moved_last q next n o [] h = refl
moved_last q next n o (m ∷ xs) h =
    elim (cases_eq m n) [
      | inl e ↦
          let z = eq-eqb m n e in
          elim (cases_Bool (q n)) [
            | inl t ↦
                let v : q m ≡ true = ap q e ∙ t in
                let u = (h t).0 in
                let w = (h t).1 in
                let some : 1 ≤ times next xs = rw z at w in
                let named : times next (filter q xs) ≡ times next xs = times-filter q next xs ∙ rw u refl in
                let put = put_passes q next n o xs t u some in
                rw (z, v) (put ∙ last_any o (Some m) next (filter q xs) (omega (arith, some, named)))
            | inr f ↦
                let v : q m ≡ false = ap q e ∙ f in
                rw (z, v) (ap (last_or o) (put_fails q next n xs f))
          ]
      | inr e ↦
          let z = ne_eqb m n e in
          let later : q n ≡ true → IsAhead q next n xs = λ t. (let w = (h t).1 in ((h t).0, rw z at w)) in
          elim (cases_Bool (q m)) [
            | inl v ↦ rw (z, v) (moved_last q next n (Some m) xs later)
            | inr v ↦ rw (z, v) (moved_last q next n o xs later)
          ]
    ]

-- where a number moves up to before another one of its chains, the pool stays linked
pub linked_ordered : (e : Eviction) (count : ℕ) (us : List (Option Used)) (free order : List ℕ) (tails : List (Option ℕ))
    (next n : ℕ) → IsLinked count us free order tails
    → ((b : ℕ) → in_bucket us b n ≡ true → IsAhead (in_bucket us b) next n order)
    → IsLinked count us free (order_by e next n order) tails
linked_ordered Oldest count us free order tails next n l h = l
linked_ordered LeastRead count us free order tails next n l h =
    record {
      named = λ m. times_moved m next n order ∙ l.named m;
      each = λ m. ap (λ k. times m free + k) (times_moved m next n order) ∙ l.each m;
      together = ap (λ k. k + length free)
          (same_length (moved_before next n order) order (λ m. times_moved m next n order)) ∙ l.together;
      tail_count = l.tail_count;
      each_tail = λ b lt. l.each_tail b lt ∙ sym (moved_last (in_bucket us b) next n None order (h b));
    }

-- ---- parts of an order

-- the numbers that pass, where both do: the other one stands behind as often
pub behind_filter : (q : ℕ → Bool) (k n : ℕ) (xs : List ℕ) → q n ≡ true → q k ≡ true
    → times_behind k n (filter q xs) ≡ times_behind k n xs
behind_filter q k n [] t u = refl
behind_filter q k n (m ∷ xs) t u =
    let rest = behind_filter q k n xs t u in
    elim (cases_eq m n) [
      | inl e ↦
          let z = eq-eqb m n e in
          let v : q m ≡ true = ap q e ∙ t in
          let named : times k (filter q xs) ≡ times k xs = times-filter q k xs ∙ rw u refl in
          rw (v, z) named
      | inr e ↦
          let z = ne_eqb m n e in
          elim (cases_Bool (q m)) [
            | inl v ↦ rw (v, z) rest
            | inr v ↦ rw (v, z) rest
          ]
    ]

-- numbers in front that don't have it change nothing
pub behind_append : (k n : ℕ) (xs ys : List ℕ) → times n xs ≡ 0 → times_behind k n (xs ++ ys) ≡ times_behind k n ys
behind_append k n [] ys h = refl
behind_append k n (m ∷ xs) ys h =
    elim (cases_eq m n) [
      | inl e ↦ (let z = eq-eqb m n e in let f : 1 + times n xs ≡ 0 = rw z at h in absurd (omega (arith, f)))
      | inr e ↦
          let z = ne_eqb m n e in
          let f : 0 + times n xs ≡ 0 = rw z at h in
          rw z (behind_append k n xs ys (omega (arith, f)))
    ]

-- a number that moves up moves up among those that pass
put_filter : (q : ℕ → Bool) (next n : ℕ) (xs : List ℕ) → q n ≡ true → q next ≡ true
    → filter q (put_before next n xs) ≡ put_before next n (filter q xs)
put_filter q next n [] t u = rw t refl
put_filter q next n (m ∷ xs) t u =
    let rest = put_filter q next n xs t u in
    elim (cases_eq m next) [
      | inl e ↦ (let z = eq-eqb m next e in let v : q m ≡ true = ap q e ∙ u in rw (z, v, t, z) refl)
      | inr e ↦
          let z = ne_eqb m next e in
          elim (cases_Bool (q m)) [
            | inl v ↦ rw (z, v, z) (ap (λ ys. m ∷ ys) rest)
            | inr v ↦ rw (z, v) rest
          ]
    ]

-- a number that moves up moves up among those that pass
pub moved_filter : (q : ℕ → Bool) (next n : ℕ) (xs : List ℕ) → q n ≡ true → q next ≡ true
    → filter q (moved_before next n xs) ≡ moved_before next n (filter q xs)
moved_filter q next n [] t u = refl
moved_filter q next n (m ∷ xs) t u =
    let rest = moved_filter q next n xs t u in
    elim (cases_eq m n) [
      | inl e ↦
          let z = eq-eqb m n e in
          let v : q m ≡ true = ap q e ∙ t in
          rw (z, v, z) (put_filter q next n xs t u)
      | inr e ↦
          let z = ne_eqb m n e in
          elim (cases_Bool (q m)) [
            | inl v ↦ rw (z, v, z) (ap (λ ys. m ∷ ys) rest)
            | inr v ↦ rw (z, v) rest
          ]
    ]

-- ---- what a number moves past

-- how often a number stands in front of the first place of another one
abbrev pub times_before : ℕ → ℕ → List ℕ → ℕ
times_before k next [] = 0
times_before k next (m ∷ xs) = if m == next then 0 else (if m == k then 1 else 0) + times_before k next xs

-- how often it stands there behind the first place of a third one
abbrev pub times_between : ℕ → ℕ → ℕ → List ℕ → ℕ
times_between k next n [] = 0
times_between k next n (m ∷ xs) = if m == n then times_before k next xs else times_between k next n xs

-- no more often than in a part that ends there
pub before_few : (k next : ℕ) (xs ys : List ℕ) → times_before k next (xs ++ next ∷ ys) ≤ times k xs
before_few k next [] ys = let z = eq-eqb next next refl in rw z (omega arith)
before_few k next (m ∷ xs) ys =
    let rest = before_few k next xs ys in
    elim (cases_Bool (m == next)) [
      | inl y ↦ rw y (omega arith)
      | inr f ↦ rw f (omega (arith, rest))
    ]

-- among those that pass, where both do, as often
before_filter : (q : ℕ → Bool) (k next : ℕ) (xs : List ℕ) → q k ≡ true → q next ≡ true
    → times_before k next (filter q xs) ≡ times_before k next xs
before_filter q k next [] t u = refl
before_filter q k next (m ∷ xs) t u =
    let rest = before_filter q k next xs t u in
    elim (cases_eq m next) [
      | inl e ↦ (let z = eq-eqb m next e in let v : q m ≡ true = ap q e ∙ u in rw (v, z) refl)
      | inr e ↦
          let z = ne_eqb m next e in
          elim (cases_Bool (q m)) [
            | inl v ↦ rw (v, z) (ap (λ j. (if m == k then 1 else 0) + j) rest)
            | inr v ↦
                let other : (m == k) ≡ false = ne_eqb m k (λ s. false≢true (sym v ∙ ap q s ∙ t)) in
                let none : times_before k next xs ≡ 0 + times_before k next xs = omega arith in
                rw (v, z, other) (rest ∙ none)
          ]
    ]

-- among those that pass, where all three do, as often
pub between_filter : (q : ℕ → Bool) (k next n : ℕ) (xs : List ℕ) → q k ≡ true → q next ≡ true → q n ≡ true
    → times_between k next n (filter q xs) ≡ times_between k next n xs
between_filter q k next n [] t u v = refl
between_filter q k next n (m ∷ xs) t u v =
    let rest = between_filter q k next n xs t u v in
    elim (cases_eq m n) [
      | inl e ↦ (let z = eq-eqb m n e in let w : q m ≡ true = ap q e ∙ v in rw (w, z) (before_filter q k next xs t u))
      | inr e ↦
          let z = ne_eqb m n e in
          elim (cases_Bool (q m)) [
            | inl w ↦ rw (w, z) rest
            | inr w ↦ rw (w, z) rest
          ]
    ]

-- numbers in front that don't have it change nothing
pub between_append : (k next n : ℕ) (xs ys : List ℕ) → times n xs ≡ 0
    → times_between k next n (xs ++ ys) ≡ times_between k next n ys
between_append k next n [] ys h = refl
between_append k next n (m ∷ xs) ys h =
    elim (cases_eq m n) [
      | inl e ↦ (let z = eq-eqb m n e in let f : 1 + times n xs ≡ 0 = rw z at h in absurd (omega (arith, f)))
      | inr e ↦
          let z = ne_eqb m n e in
          let f : 0 + times n xs ≡ 0 = rw z at h in
          rw z (between_append k next n xs ys (omega (arith, f)))
    ]

-- ---- the order of moments

-- what holds of all numbers and of one more holds of all with it
all_put : (P : ℕ → Type 0) (next n : ℕ) (xs : List ℕ) → P n → All P xs → All P (put_before next n xs)
all_put P next n [] here all = All-cons P n [] here all
all_put P next n (m ∷ xs) here all =
    elim (cases_Bool (m == next)) [
      | inl y ↦ rw y (All-cons P n (m ∷ xs) here all)
      | inr f ↦ rw f (All-cons P m (put_before next n xs) (All-head P m xs all)
          (all_put P next n xs here (All-tail P m xs all)))
    ]

-- what holds of all numbers holds of them where one moves up
all_moved : (P : ℕ → Type 0) (next n : ℕ) (xs : List ℕ) → All P xs → All P (moved_before next n xs)
all_moved P next n [] all = all
all_moved P next n (m ∷ xs) all =
    elim (cases_eq m n) [
      | inl e ↦
          let z = eq-eqb m n e in
          rw z (all_put P next n xs (subst P e (All-head P m xs all)) (All-tail P m xs all))
      | inr e ↦
          let z = ne_eqb m n e in
          rw z (All-cons P m (moved_before next n xs) (All-head P m xs all)
          (all_moved P next n xs (All-tail P m xs all)))
    ]

-- a segment moved past others that were opened no later leaves all in order
in_time_put : (e : Eviction) (p : PoolState) (next n : ℕ) (xs : List ℕ) → AreInTime e p (n ∷ xs)
    → ((m : ℕ) → 1 ≤ times_before m next xs → OpensNoLater e p m n) → AreInTime e p (put_before next n xs)
in_time_put e p next n [] t h = t
in_time_put e p next n (m ∷ xs) t h =
    elim (cases_Bool (m == next)) [
      | inl y ↦ rw y t
      | inr f ↦
          let same = eq-eqb m m refl in
          let here : 1 ≤ times_before m next (m ∷ xs) = rw (f, same) (omega arith) in
          let later : (k : ℕ) → 1 ≤ times_before k next xs → OpensNoLater e p k n =
          λ k some. h k (rw f (omega (arith, some))) in
          let both : AreInTime e p (m ∷ put_before next n xs) = (
            all_put (OpensNoLater e p m) next n xs (h m here) t.1.0,
            in_time_put e p next n xs (All-tail (OpensNoLater e p n) m xs t.0, t.1.1) later,
          ) in
          rw f both
    ]

-- a segment that moves up past others that were opened no later leaves all in order
pub in_time_moved : (e : Eviction) (p : PoolState) (next n : ℕ) (xs : List ℕ) → AreInTime e p xs
    → ((m : ℕ) → 1 ≤ times_between m next n xs → OpensNoLater e p m n) → AreInTime e p (moved_before next n xs)
in_time_moved e p next n [] t h = t
in_time_moved e p next n (x ∷ xs) t h =
    elim (cases_eq x n) [
      | inl e' ↦
          let z = eq-eqb x n e' in
          rw z (in_time_put e p next n xs (subst (λ k. AreInTime e p (k ∷ xs)) e' t)
          (λ m some. h m (rw z some)))
      | inr e' ↦
          let z = ne_eqb x n e' in
          let both : AreInTime e p (x ∷ moved_before next n xs) = (
            all_moved (OpensNoLater e p x) next n xs t.0,
            in_time_moved e p next n xs t.1 (λ m some. h m (rw z some)),
          ) in
          rw z both
    ]

-- ---- a list in which a number moves up step by step

-- a list of one number at least is its first one and the others
one_at_least : (xs : List ℕ) → 1 ≤ length xs → (m : ℕ) × ((later : List ℕ) × (xs ≡ m ∷ later))
one_at_least [] h = absurd (omega (arith, h))
one_at_least (m ∷ xs) h = (m, (xs, refl))

-- what two writes make of a list
swap_is : (xs : List ℕ) (i j : ℕ) → i < length xs → j < length xs
    → swap xs i j ≡ set (set xs i (get_or xs j 0)) j (get_or xs i 0)
swap_is [] i j a b = absurd (omega (arith, a))
swap_is (x ∷ xs) i j a b =
    ap (λ v. set (set (x ∷ xs) i v) j (get_or (x ∷ xs) i x)) (get_or_default (x ∷ xs) j x 0 b)
    ∙ ap (λ v. set (set (x ∷ xs) i (get_or (x ∷ xs) j 0)) j v) (get_or_default (x ∷ xs) i x 0 a)

-- two numbers that follow each other, swapped
swap_mid : (pre : List ℕ) (n m : ℕ) (later : List ℕ) (i : ℕ) → length pre ≡ i
    → swap (pre ++ n ∷ m ∷ later) i (i + 1) ≡ (pre ++ m ∷ []) ++ n ∷ later
swap_mid pre n m later i e =
    let xs = pre ++ n ∷ m ∷ later in
    let long = length-append pre (n ∷ m ∷ later) in
    let two = add-one (length (m ∷ later)) in
    let one = add-one (length later) in
    let zero_off : i - i ≡ 0 = omega arith in
    let one_off : i + 1 - i ≡ 1 = omega arith in
    let at : get_or xs i 0 ≡ n = get_or-append_right pre (n ∷ m ∷ later) i i 0 e (omega arith)
    ∙ ap (λ k. get_or (n ∷ m ∷ later) k 0) zero_off in
    let next : get_or xs (i + 1) 0 ≡ m = get_or-append_right pre (n ∷ m ∷ later) i (i + 1) 0 e (omega arith)
    ∙ ap (λ k. get_or (n ∷ m ∷ later) k 0) one_off in
    let more : length (pre ++ m ∷ []) ≡ i + 1 = length-append pre (m ∷ []) ∙ omega (arith, e) in
    swap_is xs i (i + 1) (omega (arith, e, long, two)) (omega (arith, e, long, two, one))
    ∙ ap (λ v. set (set xs i v) (i + 1) (get_or xs i 0)) next ∙ ap (λ v. set (set xs i m) (i + 1) v) at
    ∙ ap (λ ys. set ys (i + 1) n) (set_at pre n (m ∷ later) m i e ∙ sym (append_assoc pre (m ∷ []) (m ∷ later)))
    ∙ set_at (pre ++ m ∷ []) m later n (i + 1) more

-- So far a number moved up to a place: with it and the numbers behind it put in order, the list is
-- as it is to be.
pub record IsMoving (next n : ℕ) (old now : List ℕ) (place : ℕ) : Type 0 where
  pub before : List ℕ
  pub later : List ℕ
  pub now_is : now ≡ before ++ n ∷ later
  pub long : length before + 1 ≡ place
  pub whole : before ++ put_before next n later ≡ moved_before next n old

-- it wasn't found yet
pub record IsSeeking (next n : ℕ) (old now : List ℕ) (place : ℕ) : Type 0 where
  pub before : List ℕ
  pub later : List ℕ
  pub now_is : now ≡ before ++ later
  pub long : length before ≡ place
  pub whole : before ++ moved_before next n later ≡ moved_before next n old

-- one or the other
abbrev pub IsSoFar : ℕ → ℕ → List ℕ → List ℕ → ℕ → Bool → Type 0
IsSoFar next n old now place true = IsMoving next n old now place
IsSoFar next n old now place false = IsSeeking next n old now place

-- nothing is behind the last place
none_later : (xs : List ℕ) → length xs ≡ 0 → xs ≡ []
none_later [] e = refl
none_later (x ∷ xs) e = absurd (let h = add-one (length xs) in omega (arith, e, h))

-- at the end the list is as it is to be
pub moved_end : (next n : ℕ) (old now : List ℕ) (place : ℕ) (b : Bool) → IsSoFar next n old now place b
    → length now ≤ place → now ≡ moved_before next n old
moved_end next n old now place true w h =
    let count = ap length w.now_is ∙ length-append w.before (n ∷ w.later) in
    let more = add-one (length w.later) in
    let long = w.long in
    let none : w.later ≡ [] = none_later w.later (omega (arith, count, more, long, h)) in
    w.now_is ∙ ap (λ ys. w.before ++ n ∷ ys) none ∙ sym (ap (λ ys. w.before ++ put_before next n ys) none) ∙ w.whole
moved_end next n old now place false w h =
    let count = ap length w.now_is ∙ length-append w.before w.later in
    let long = w.long in
    let none : w.later ≡ [] = none_later w.later (omega (arith, count, long, h)) in
    w.now_is ∙ ap (λ ys. w.before ++ ys) none ∙ sym (ap (λ ys. w.before ++ moved_before next n ys) none) ∙ w.whole

-- the number at a place behind the one that moves
record IsNext (next n : ℕ) (old now : List ℕ) (place : ℕ) : Type 0 where
  before : List ℕ
  m : ℕ
  later : List ℕ
  now_is : now ≡ before ++ n ∷ m ∷ later
  long : length before + 1 ≡ place
  at : get_or now place 0 ≡ m
  whole : before ++ put_before next n (m ∷ later) ≡ moved_before next n old

-- within the list there is one
next_is : (next n : ℕ) (old now : List ℕ) (place : ℕ) → IsMoving next n old now place → place < length now
    → IsNext next n old now place
next_is next n old now place w lt =
    let count = ap length w.now_is ∙ length-append w.before (n ∷ w.later) in
    let more = add-one (length w.later) in
    let long = w.long in
    let cut = one_at_least w.later (omega (arith, count, more, long, lt)) in
    let is : now ≡ w.before ++ n ∷ cut.0 ∷ cut.1.0 = w.now_is ∙ ap (λ ys. w.before ++ n ∷ ys) cut.1.1 in
    let off : place - length w.before ≡ 1 = omega (arith, long) in
    record {
      before = w.before;
      m = cut.0;
      later = cut.1.0;
      now_is = is;
      long = w.long;
      at = ap (λ ys. get_or ys place 0) is
          ∙ get_or-append_right w.before (n ∷ cut.0 ∷ cut.1.0) (length w.before) place 0 refl (omega (arith, long))
          ∙ ap (λ k. get_or (n ∷ cut.0 ∷ cut.1.0) k 0) off;
      whole = ap (λ ys. w.before ++ put_before next n ys) (sym cut.1.1) ∙ w.whole;
    }

-- before the other number it stays
pub moved_here : (next n : ℕ) (old now : List ℕ) (place : ℕ) → IsMoving next n old now place → place < length now
    → get_or now place 0 ≡ next → now ≡ moved_before next n old
moved_here next n old now place w lt e =
    let x = next_is next n old now place w lt in
    let z = eq-eqb x.m next (sym x.at ∙ e) in
    let put : put_before next n (x.m ∷ x.later) ≡ n ∷ x.m ∷ x.later = rw z refl in
    x.now_is ∙ ap (λ ys. x.before ++ ys) (sym put) ∙ x.whole

-- past any other it moves by one place
pub moved_past : (next n : ℕ) (old now : List ℕ) (place : ℕ) → IsMoving next n old now place → place < length now
    → (get_or now place 0 ≡ next → ⊥) → IsMoving next n old (swap now (place - 1) place) (place + 1)
moved_past next n old now place w lt e =
    let x = next_is next n old now place w lt in
    let z = ne_eqb x.m next (λ same. e (x.at ∙ same)) in
    let put : put_before next n (x.m ∷ x.later) ≡ x.m ∷ put_before next n x.later = rw z refl in
    let long = x.long in
    let low : place - 1 ≡ length x.before = omega (arith, long) in
    let high : place ≡ length x.before + 1 = omega (arith, long) in
    record {
      before = x.before ++ x.m ∷ [];
      later = x.later;
      now_is = ap (λ ys. swap ys (place - 1) place) x.now_is
          ∙ ap (λ i. swap (x.before ++ n ∷ x.m ∷ x.later) i place) low
          ∙ ap (λ j. swap (x.before ++ n ∷ x.m ∷ x.later) (length x.before) j) high
          ∙ swap_mid x.before n x.m x.later (length x.before) refl;
      long = (let l = length-append x.before (x.m ∷ []) in omega (arith, l, long));
      whole = append_assoc x.before (x.m ∷ []) (put_before next n x.later)
          ∙ ap (λ ys. x.before ++ ys) (sym put) ∙ x.whole;
    }

-- the number at a place where it wasn't found yet
record IsThis (next n : ℕ) (old now : List ℕ) (place : ℕ) : Type 0 where
  before : List ℕ
  m : ℕ
  later : List ℕ
  now_is : now ≡ before ++ m ∷ later
  long : length before ≡ place
  at : get_or now place 0 ≡ m
  whole : before ++ moved_before next n (m ∷ later) ≡ moved_before next n old

-- within the list there is one
this_is : (next n : ℕ) (old now : List ℕ) (place : ℕ) → IsSeeking next n old now place → place < length now
    → IsThis next n old now place
this_is next n old now place w lt =
    let count = ap length w.now_is ∙ length-append w.before w.later in
    let long = w.long in
    let cut = one_at_least w.later (omega (arith, count, long, lt)) in
    let is : now ≡ w.before ++ cut.0 ∷ cut.1.0 = w.now_is ∙ ap (λ ys. w.before ++ ys) cut.1.1 in
    let off : place - length w.before ≡ 0 = omega (arith, long) in
    record {
      before = w.before;
      m = cut.0;
      later = cut.1.0;
      now_is = is;
      long = w.long;
      at = ap (λ ys. get_or ys place 0) is
          ∙ get_or-append_right w.before (cut.0 ∷ cut.1.0) (length w.before) place 0 refl (omega (arith, long))
          ∙ ap (λ k. get_or (cut.0 ∷ cut.1.0) k 0) off;
      whole = ap (λ ys. w.before ++ moved_before next n ys) (sym cut.1.1) ∙ w.whole;
    }

-- where it is found it moves from there on
pub found_moves : (next n : ℕ) (old now : List ℕ) (place : ℕ) → IsSeeking next n old now place → place < length now
    → get_or now place 0 ≡ n → IsMoving next n old now (place + 1)
found_moves next n old now place w lt e =
    let x = this_is next n old now place w lt in
    let same : x.m ≡ n = sym x.at ∙ e in
    let z = eq-eqb x.m n same in
    let put : moved_before next n (x.m ∷ x.later) ≡ put_before next n x.later = rw z refl in
    let long = x.long in
    record {
      before = x.before;
      later = x.later;
      now_is = x.now_is ∙ ap (λ k. x.before ++ k ∷ x.later) same;
      long = omega (arith, long);
      whole = ap (λ ys. x.before ++ ys) (sym put) ∙ x.whole;
    }

-- where another one stands the search goes on
pub seeks_on : (next n : ℕ) (old now : List ℕ) (place : ℕ) → IsSeeking next n old now place → place < length now
    → (get_or now place 0 ≡ n → ⊥) → IsSeeking next n old now (place + 1)
seeks_on next n old now place w lt e =
    let x = this_is next n old now place w lt in
    let z = ne_eqb x.m n (λ same. e (x.at ∙ same)) in
    let put : moved_before next n (x.m ∷ x.later) ≡ x.m ∷ moved_before next n x.later = rw z refl in
    let long = x.long in
    record {
      before = x.before ++ x.m ∷ [];
      later = x.later;
      now_is = x.now_is ∙ sym (append_assoc x.before (x.m ∷ []) x.later);
      long = (let l = length-append x.before (x.m ∷ []) in omega (arith, l, long));
      whole = append_assoc x.before (x.m ∷ []) (moved_before next n x.later)
          ∙ ap (λ ys. x.before ++ ys) (sym put) ∙ x.whole;
    }

-- it is behind a place
pub moving_low : (next n : ℕ) (old now : List ℕ) (place : ℕ) → IsMoving next n old now place → 1 ≤ place
moving_low next n old now place w = let h = w.long in omega (arith, h)

-- past another number it moves
pub moves_on : (next n : ℕ) (old now after : List ℕ) (place : ℕ) (b c : Bool) → IsSoFar next n old now place b → b ≡ true
    → place < length now → (get_or now place 0 ≡ next → ⊥) → after ≡ swap now (place - 1) place → c ≡ true
    → IsSoFar next n old after (place + 1) c
moves_on next n old now after place b c w t lt e is u =
    subst (IsSoFar next n old after (place + 1)) (sym u)
    (subst (λ ys. IsMoving next n old ys (place + 1)) (sym is)
    (moved_past next n old now place (subst (IsSoFar next n old now place) t w) lt e))

-- where it is found it begins to move
pub starts_here : (next n : ℕ) (old now : List ℕ) (place : ℕ) (b c : Bool) → IsSoFar next n old now place b → b ≡ false
    → place < length now → get_or now place 0 ≡ n → c ≡ true → IsSoFar next n old now (place + 1) c
starts_here next n old now place b c w f lt e u =
    subst (IsSoFar next n old now (place + 1)) (sym u)
    (found_moves next n old now place (subst (IsSoFar next n old now place) f w) lt e)

-- where it isn't found yet, it is looked for
pub starts_later : (next n : ℕ) (old now : List ℕ) (place : ℕ) (b c : Bool) → IsSoFar next n old now place b → b ≡ false
    → place < length now → (get_or now place 0 ≡ n → ⊥) → c ≡ false → IsSoFar next n old now (place + 1) c
starts_later next n old now place b c w f lt e u =
    subst (IsSoFar next n old now (place + 1)) (sym u)
    (seeks_on next n old now place (subst (IsSoFar next n old now place) f w) lt e)
