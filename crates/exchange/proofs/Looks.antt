-- The looks of one call of `next`.
use Rattle.std.proofs.Common.{◌≡◌, ◌≢◌, ◌⊎◌, ℕ, zero, suc, ◌+◌, ◌-◌, ◌<◌, ◌≤◌, List, [], ◌∷◌, ◌++◌}
use Rattle.std.proofs.Common.{map, length, take, length-append, Option, Some, None, Bool, cond, refl, sym, ap, ◌∙◌}
use Rattle.std.proofs.Common.{subst, inl}
use Rattle.std.proofs.Common.{inr, ⊎_elim, arith, append_assoc, eq-eqb, ne_eqb}
use Rattle.std.specs.Prelude.{◌==◌, MatchOption}
use Rattle.std.specs.List.{filter, range_with_len, All}
use mathlib.Core.Logic.{dite}
use mathlib.Core.List.{map-append}
use native.Mathlib.Decide.{ℕ_discrete, dec_le}
use Rattle.std.proofs.lemmas.List.{append-nil}
use Rattle.std.proofs.lemmas.List.Elements.{filter-append, All-append, All-nil, All-cons, All-head, All-tail}
use Rattle.exchange.specs.declared.messages.Taken.{Taken}
use Rattle.exchange.specs.declared.messages.Taken.TheVariants.{Asked, Bye}
use Rattle.proto.specs.Counts.{times}
use Rattle.exchange.specs.Beginnings.{StartsWith}
use Rattle.exchange.specs.Ends.{StorageView, looks_of_lane, lanes_of, lanes_in_turn, settled_count, FoundNone, LookedOnce}
use Rattle.exchange.specs.Ends.{IsNextMessage, with_taken, LooksAt, FindsNone}
use Rattle.exchange.specs.Ends.{FindsOne}
use Rattle.proto.proofs.CountLemmas.{one_more_time, no_more_time, times-append}
use Rattle.std.proofs.lemmas.List.FromFn.{length-range_with_len}
use mathlib.Core.Option.{some}
use lib.ListN.{get_elem?}
use Rattle.atomic_table.proofs.Lists.{at_longer}
use Rattle.exchange.proofs.Lists.{take_more, take_whole, starts_take}

-- looks: lanes, each with its posted word
abbrev Pairs : Type 0
Pairs = List (ℕ × ℕ)

-- one look at this lane
one_here : (w n : ℕ) → looks_of_lane ((w, n) ∷ []) w ≡ n ∷ []
one_here w n = ap (λ (b : Bool). let l : Pairs = cond b ((w, n) ∷ []) [] in map (λ (x : ℕ × ℕ). x.1) l)
    (eq-eqb w w refl)

-- one look at another lane
one_else : (w n v : ℕ) → w ≢ v → looks_of_lane ((w, n) ∷ []) v ≡ []
one_else w n v e = ap (λ (b : Bool). let l : Pairs = cond b ((w, n) ∷ []) [] in map (λ (x : ℕ × ℕ). x.1) l)
    (ne_eqb w v e)

-- the words read in both lists of looks
pub looked-append : (xs ys : Pairs) (w : ℕ) → looks_of_lane (xs ++ ys) w ≡ looks_of_lane xs w ++ looks_of_lane ys w
looked-append xs ys w = ap (map (λ (x : ℕ × ℕ). x.1)) (filter-append (λ (x : ℕ × ℕ). x.0 == w) xs ys)
    ∙ map-append (λ (x : ℕ × ℕ). x.1) (filter (λ (x : ℕ × ℕ). x.0 == w) xs) (filter (λ (x : ℕ × ℕ). x.0 == w) ys)

-- one more look at this lane
pub looked_here : (xs : Pairs) (w n : ℕ) → looks_of_lane (xs ++ (w, n) ∷ []) w ≡ looks_of_lane xs w ++ n ∷ []
looked_here xs w n = looked-append xs ((w, n) ∷ []) w ∙ ap (λ (l : List ℕ). looks_of_lane xs w ++ l) (one_here w n)

-- one more look at another lane changes nothing here
pub looked_else : (xs : Pairs) (w n v : ℕ) → w ≢ v → looks_of_lane (xs ++ (w, n) ∷ []) v ≡ looks_of_lane xs v
looked_else xs w n v e = looked-append xs ((w, n) ∷ []) v
    ∙ (ap (λ (l : List ℕ). looks_of_lane xs v ++ l) (one_else w n v e) ∙ append-nil (looks_of_lane xs v))

-- Looks, at these lanes, which found no message that isn't done
pub record InVain (old now : StorageView) (lanes : List ℕ) : Type 0 where
  pub looks : Pairs
  pub lanes_are : lanes_of looks ≡ lanes
  pub found_none : FoundNone old looks
  pub now_is : now ≡ record old { looks = old.looks ++ looks }

-- no look, no word
pub no_look : (old : StorageView) → InVain old old []
no_look old = record {
  looks = [];
  lanes_are = refl;
  found_none = All-nil (λ (x : ℕ × ℕ). x.1 ≤ settled_count old.history old.byes x.0);
  now_is = λ i. let l : Pairs = sym (append-nil old.looks) i in record old { looks = l };
}

-- one more look, one more lane
lanes_more : (looks : Pairs) (w n : ℕ) → lanes_of (looks ++ (w, n) ∷ []) ≡ lanes_of looks ++ w ∷ []
lanes_more looks w n = map-append (λ (x : ℕ × ℕ). x.0) looks ((w, n) ∷ [])

module _ (old now : StorageView) (lanes : List ℕ) (r : InVain old now lanes) where
  -- what is done stays while no entry and no bye comes
  done_same : (w : ℕ) → settled_count now.history now.byes w ≡ settled_count old.history old.byes w
  done_same w = ap (λ (z : StorageView). settled_count z.history z.byes w) r.now_is

  -- one more look in vain
  pub look_more : (new : StorageView) (w n : ℕ) → n ≤ settled_count now.history now.byes w
      → new ≡ record now { looks = now.looks ++ (w, n) ∷ [] } → InVain old new (lanes ++ w ∷ [])
  look_more new w n small is = record {
    looks = r.looks ++ (w, n) ∷ [];
    lanes_are = lanes_more r.looks w n ∙ ap (λ (l : List ℕ). l ++ w ∷ []) r.lanes_are;
    found_none = All-append (λ (x : ℕ × ℕ). x.1 ≤ settled_count old.history old.byes x.0) r.looks ((w, n) ∷ []) r.found_none
        (All-cons (λ (x : ℕ × ℕ). x.1 ≤ settled_count old.history old.byes x.0) (w, n) [] (subst (λ (z : ℕ). n ≤ z) (done_same w) small)
        (All-nil (λ (x : ℕ × ℕ). x.1 ≤ settled_count old.history old.byes x.0)));
    now_is = is ∙ (λ i. let z : StorageView = r.now_is i in record z { looks = z.looks ++ (w, n) ∷ [] })
        ∙ ap (λ (l : Pairs). record old { looks = l }) (append_assoc old.looks r.looks ((w, n) ∷ []));
  }

  -- a look that found a message
  pub look_found : (new : StorageView) (w : ℕ) (t : Taken) → w < old.workers
      → StartsWith (lanes_in_turn old.workers old.last) (lanes ++ w ∷ [])
      → LooksAt now w (Some t) new → FindsOne old new t
  look_found new w t inside turn l = let n : ℕ = l.0 in record {
    lane = w;
    posted = n;
    before = r.looks;
    inside = inside;
    in_turn = subst (StartsWith (lanes_in_turn old.workers old.last))
        (sym (lanes_more r.looks w n ∙ ap (λ (k : List ℕ). k ++ w ∷ []) r.lanes_are)) turn;
    none_before = r.found_none;
    found = subst (λ (z : ℕ). z < n) (done_same w) l.1.0;
    is_next = same_next t l.1.1;
    after = l.1.2 ∙ (λ i. let z : StorageView = r.now_is i in
        record (with_taken z w t) { looks = z.looks ++ (w, n) ∷ [] })
        ∙ (taken_looks n t ∙ ap (λ (k : Pairs). record (with_taken old w t) { looks = k })
        (append_assoc old.looks r.looks ((w, n) ∷ [])));
  }
    where
      same_next : (u : Taken) → IsNextMessage now w u → IsNextMessage old w u
      same_next u h = next_of u (subst (λ (z : StorageView). IsNextMessage z w u) r.now_is h)
        where
          next_of : (u : Taken) → IsNextMessage (record old { looks = old.looks ++ r.looks }) w u
              → IsNextMessage old w u
          next_of (Asked v p) h = h
          next_of (Bye v) h = h

      taken_looks : (n : ℕ) (u : Taken)
          → let z : StorageView = record old { looks = old.looks ++ r.looks } in
          record (with_taken z w u) { looks = (old.looks ++ r.looks) ++ (w, n) ∷ [] } ≡ record
          (with_taken old w u) { looks = (old.looks ++ r.looks) ++ (w, n) ∷ [] }
      taken_looks n (Asked v p) = refl
      taken_looks n (Bye v) = refl

  -- a lane that was looked at once has one word more
  pub looked_all : lanes ≡ lanes_in_turn old.workers old.last → FindsNone old now
  looked_all all = (r.looks, r.lanes_are ∙ all, r.found_none, r.now_is)

-- how often a lane is looked at

-- a number outside a range is not in it
times_range_out : (w a n : ℕ) → (w < a) ⊎ (a + n ≤ w) → times w (range_with_len a n) ≡ 0
times_range_out w a zero h = refl
times_range_out w a (suc n) h = no_more_time w a (range_with_len (a + 1) n)
    (λ e. ⊎_elim (λ (l : w < a). omega arith) (λ (l : a + suc n ≤ w). omega arith) h) ∙
    times_range_out w (a + 1) n
    (⊎_elim (λ (l : w < a). let g : w < a + 1 = omega arith in inl g)
    (λ (l : a + suc n ≤ w). let g : a + 1 + n ≤ w = omega arith in inr g) h)

-- a number inside a range is in it once
times_range_in : (w a n : ℕ) → a ≤ w → w < a + n → times w (range_with_len a n) ≡ 1
times_range_in w a zero low high = let low' : a ≤ w = low in let high' : w < a + 0 = high in absurd (omega arith)
times_range_in w a (suc n) low high = let low' : a ≤ w = low in let high' : w < a + suc n = high in
    dite (ℕ_discrete a w)
    (λ e. one_more_time w a (range_with_len (a + 1) n) e
    ∙ ap suc (times_range_out w (a + 1) n (inl (let e' : a ≡ w = e in let g : w < a + 1 = omega arith in g))))
    (λ ne. let ne' : a ≢ w = ne in no_more_time w a (range_with_len (a + 1) n) ne
    ∙ times_range_in w (a + 1) n (omega arith) (omega arith))

-- each lane comes once in a turn
once_in_turn : (workers last w : ℕ) → last < workers → w < workers → times w (lanes_in_turn workers last) ≡ 1
once_in_turn workers last w inside small =
    times-append w (range_with_len (last + 1) (workers - (last + 1))) (range_with_len 0 (last + 1))
    ∙ dite (dec_le w last)
    (λ le. let a = times_range_out w (last + 1) (workers - (last + 1)) (inl (omega arith)) in
    let b = times_range_in w 0 (last + 1) (omega arith) (omega arith) in omega (arith, a, b))
    (λ gt. let a = times_range_in w (last + 1) (workers - (last + 1)) (omega arith) (omega arith) in
    let b = times_range_out w 0 (last + 1) (inr (omega arith)) in omega (arith, a, b))

-- no word of a lane that was not looked at
none_there : (looks : Pairs) (w : ℕ) → times w (lanes_of looks) ≡ 0 → looks_of_lane looks w ≡ []
none_there [] w e = refl
none_there (x ∷ looks) w e = dite (ℕ_discrete x.0 w)
    (λ same. absurd (let one = one_more_time w x.0 (lanes_of looks) same in omega (arith, one)))
    (λ other. ap (λ (b : Bool). let l : Pairs = cond b (x ∷ filter (λ (y : ℕ × ℕ). y.0 == w) looks)
    (filter (λ (y : ℕ × ℕ). y.0 == w) looks) in
    map (λ (y : ℕ × ℕ). y.1) l) (ne_eqb x.0 w other) ∙
    none_there looks w (sym (no_more_time w x.0 (lanes_of looks) other) ∙ e))

-- one word of a lane that was looked at once
one_there : (P : ℕ × ℕ → Type 0) (looks : Pairs) (w : ℕ) → times w (lanes_of looks) ≡ 1 → All P looks
    → (n : ℕ) × P (w, n) × (looks_of_lane looks w ≡ n ∷ [])
one_there P [] w e all = absurd (omega arith)
one_there P (x ∷ looks) w e all = dite (ℕ_discrete x.0 w)
    (λ same. (
      x.1,
      subst (λ (z : ℕ). P (z, x.1)) same (All-head P x looks all),
      ap (λ (b : Bool). let l : Pairs = cond b (x ∷ filter (λ (y : ℕ × ℕ). y.0 == w) looks)
          (filter (λ (y : ℕ × ℕ). y.0 == w) looks) in
          map (λ (y : ℕ × ℕ). y.1) l) (eq-eqb x.0 w same) ∙
          ap (λ (l : List ℕ). x.1 ∷ l) (none_there looks w
          (let one = one_more_time w x.0 (lanes_of looks) same in omega (arith, one))),
    ))
    (λ other. let rest = one_there P looks w (sym (no_more_time w x.0 (lanes_of looks) other) ∙ e)
    (All-tail P x looks all) in (
      rest.0,
      rest.1,
      ap (λ (b : Bool). let l : Pairs = cond b (x ∷ filter (λ (y : ℕ × ℕ). y.0 == w) looks)
          (filter (λ (y : ℕ × ℕ). y.0 == w) looks) in
          map (λ (y : ℕ × ℕ). y.1) l) (ne_eqb x.0 w other) ∙ rest.2,
    ))

-- a call that found nothing looked once at each lane
pub each_once : (old new : StorageView) (w : ℕ) → old.last < old.workers → w < old.workers → FindsNone old new
    → LookedOnce old new w
each_once old new w inside small f = let one = one_there (λ (x : ℕ × ℕ). x.1 ≤ settled_count old.history old.byes x.0) f.0 w
    (ap (times w) f.1 ∙ once_in_turn old.workers old.last w inside small) f.2 in (
      one.0,
      one.1,
      ap (λ (z : StorageView). looks_of_lane z.looks w) f.3
          ∙ (looked-append old.looks f.0 w ∙ ap (λ (l : List ℕ). looks_of_lane old.looks w ++ l) one.2),
    )

-- the next lane in turn

-- a number of a range, by its place
range_at : (a n k : ℕ) → k < n → get_elem? (range_with_len a n) k ≡ some (a + k)
range_at a zero k h = let h' : k < 0 = h in absurd (omega arith)
range_at a (suc n) zero h = ap (λ (z : ℕ). some z) (let e : a ≡ a + 0 = omega arith in e)
range_at a (suc n) (suc k) h = let h' : suc k < suc n = h in range_at (a + 1) n k (omega arith)
    ∙ ap (λ (z : ℕ). some z) (let e : a + 1 + k ≡ a + suc k = omega arith in e)

-- a number of the second of two lists
at_behind : (l m : List ℕ) (k i a : ℕ) → i ≡ length l + k → get_elem? m k ≡ some a → get_elem? (l ++ m) i ≡ some a
at_behind [] m k i a e h = let e' : i ≡ 0 + k = e in let g : k ≡ i = omega arith in
    subst (λ (z : ℕ). get_elem? m z ≡ some a) g h
at_behind (x ∷ l) m k zero a e h = let e' : 0 ≡ suc (length l) + k = e in absurd (omega arith)
at_behind (x ∷ l) m k (suc i) a e h = let e' : suc i ≡ suc (length l) + k = e in at_behind l m k i a (omega arith) h

-- this lane comes as the one with this number, counted from the one after the last
abbrev pub IsTurn : ℕ → ℕ → ℕ → Type 0
IsTurn workers turn lane = ((turn < workers) × (lane ≡ turn)) ⊎ ((workers ≤ turn) × (lane + workers ≡ turn))

-- the lane at a place of the turn
lane_at : (workers last k lane : ℕ) → last < workers → k < workers → IsTurn workers (last + 1 + k) lane
    → get_elem? (lanes_in_turn workers last) k ≡ some lane
lane_at workers last k lane inside small is = let a : ℕ = last + 1 in let n : ℕ = workers - (last + 1) in
    let long = length-range_with_len a n in ⊎_elim
    (λ (h : (last + 1 + k < workers) × (lane ≡ last + 1 + k)). let h0 : last + 1 + k < workers = h.0 in
    at_longer (range_with_len a n) (range_with_len 0 a) k lane
    (range_at a n k (omega arith) ∙ ap (λ (z : ℕ). some z) (sym h.1)))
    (λ (h : (workers ≤ last + 1 + k) × (lane + workers ≡ last + 1 + k)). let h0 : workers ≤ last + 1 + k = h.0 in
    let h1 : lane + workers ≡ last + 1 + k = h.1 in
    at_behind (range_with_len a n) (range_with_len 0 a) lane k lane (omega (arith, long))
    (range_at 0 a lane (omega arith) ∙ ap (λ (z : ℕ). some z) (let e : 0 + lane ≡ lane = omega arith in e))) is

-- the first lanes of the turn
abbrev pub first_lanes : ℕ → ℕ → ℕ → List ℕ
first_lanes workers last k = take k (lanes_in_turn workers last)

-- the looks of `next` at the first k lanes, whose variables are those of the end
module _ (old now : StorageView) (workers last k : ℕ)
    (same : (workers ≡ old.workers) × (last ≡ old.last) × (last < workers))
    (r : InVain old now (first_lanes workers last k)) where
  turn_same : lanes_in_turn workers last ≡ lanes_in_turn old.workers old.last
  turn_same = λ i. lanes_in_turn (same.0 i) (same.1 i)

  -- one more look
  module _ (new : StorageView) (turn lane : ℕ) (turn_is : last + 1 + k ≡ turn) (below : turn < last + 1 + workers)
      (is : IsTurn workers turn lane) where
    one_more : first_lanes workers last (suc k) ≡ first_lanes workers last k ++ lane ∷ []
    one_more = take_more (lanes_in_turn workers last) k lane
        (lane_at workers last k lane same.2 (omega arith) (subst (λ (z : ℕ). IsTurn workers z lane) (sym turn_is) is))

    inside : lane < workers
    inside = let low : last < workers = same.2 in ⊎_elim
        (λ (h : (turn < workers) × (lane ≡ turn)). let h0 : turn < workers = h.0 in let h1 : lane ≡ turn = h.1 in
        omega arith)
        (λ (h : (workers ≤ turn) × (lane + workers ≡ turn)). let h1 : lane + workers ≡ turn = h.1 in omega arith) is

    -- that found a message
    pub found_in_turn : (t : Taken) → LooksAt now lane (Some t) new → FindsOne old new t
    found_in_turn t l = look_found old now (first_lanes workers last k) r new lane t
        (subst (λ (z : ℕ). lane < z) same.0 inside)
        (subst (λ (z : List ℕ). StartsWith z (first_lanes workers last k ++ lane ∷ [])) turn_same
        (subst (StartsWith (lanes_in_turn workers last)) one_more (starts_take (lanes_in_turn workers last) (suc k)))) l

    -- in vain
    pub vain_in_turn : (n : ℕ) → n ≤ settled_count now.history now.byes lane → new ≡ record now { looks = now.looks ++ (lane, n) ∷ [] }
        → InVain old new (first_lanes workers last (suc k))
    vain_in_turn n few now_is = subst (InVain old new) (sym one_more)
        (look_more old now (first_lanes workers last k) r new lane n few now_is)

  -- where all looks were in vain, each lane was looked at
  pub all_looked : workers ≤ k → FindsNone old now
  all_looked all = let a : ℕ = last + 1 in let n : ℕ = workers - (last + 1) in let low : last < workers = same.2 in
      let long = length-append (range_with_len a n) (range_with_len 0 a) in
      let first = length-range_with_len a n in let second = length-range_with_len 0 a in
      looked_all old now (first_lanes workers last k) r
      (take_whole (lanes_in_turn workers last) k (omega (arith, long, first, second)) ∙ turn_same)

-- taking a message leaves the history as it was
taken_history : (v : StorageView) (w : ℕ) (t : Taken) → (with_taken v w t).history ≡ v.history
taken_history v w (Asked worker posted) = refl
taken_history v w (Bye worker) = refl

-- a look changes no answer
pub next_history : (old new : StorageView) (result : Option Taken)
    → MatchOption result (FindsNone old new) (FindsOne old new) → new.history ≡ old.history
next_history old new None f = ap (λ (z : StorageView). z.history) f.3
next_history old new (Some t) f = ap (λ (z : StorageView). z.history) f.after ∙ taken_history old f.lane t
