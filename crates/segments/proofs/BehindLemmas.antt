-- The segment of a chain that follows its front.
use Rattle.std.proofs.Common.{◌≡◌, ℕ, zero, suc, ◌+◌, ◌<◌, ◌≤◌, Bool, true, false, cond, eqb, List, [], ◌∷◌, ◌++◌, length}
use Rattle.std.proofs.Common.{get_or, take, drop, Option, Some, None, refl, sym, ap, subst, ◌∙◌, arith, inl, inr, add-one}
use Rattle.std.specs.Prelude.{filter, is_some, nat_lt, take_while, ◌||◌, if◌then◌else◌}
use Rattle.std.specs.List.{prefix_len}
use Rattle.std.specs.Option.{option_map_or, unwrap_or}
use Rattle.std.proofs.Math.Seq.{drop-cons}
use Rattle.std.proofs.lemmas.Bool.{cases_lt, cases_Bool, cases_eq, eq-eqb, ne_eqb, eqb-true, false≢true, le-ltb}
use Rattle.std.proofs.lemmas.List.{take_all, take-take, length-take, length-take-le, take-append-drop, get_or-take}
use Rattle.std.proofs.lemmas.List.Sums.{take_while-cons}
use Rattle.proto.specs.Counts.{times}
use Rattle.proto.proofs.CountLemmas.{times-append}
use Rattle.segments.specs.declared.merge.Choice.{Choice}
use Rattle.segments.specs.declared.pool.Pool.TheInside.{Inside}
use Rattle.segments.specs.Items.{Item}
use Rattle.segments.specs.Inside.{shown_segments, pool_of, is_used_at, IsLinked, IsPoolKept}
use Rattle.segments.specs.Pools.{PoolState, Used, lasting, in_bucket, chain_in}
use Rattle.segments.specs.Merges.{merged_segments}
use Rattle.segments.specs.Chains.{opened_in, opened_at, go_together, front, front_of, chain_of, behind_front}
use Rattle.segments.specs.Merges.{without_segments}
use Rattle.segments.specs.Rules.{order_by, most_merged}
use Rattle.segments.proofs.LinkLemmas.{times-filter, times_at, without_at, in_chain, order_once}
use Rattle.segments.proofs.FrontLemmas.{times-take, times-drop, most_two}
use Rattle.segments.proofs.MateLemmas.{chain_with, chain_without}
use Rattle.segments.proofs.MergingLemmas.{passes_if, times_filter_few, times_others, of_one_bucket, of_filled, first_filled}
use Rattle.segments.proofs.MergingLemmas.{IsMerging, IsCut, linked_behind}
use Rattle.segments.proofs.MovedNumbers.{times_behind, behind_filter, behind_append, times_before, times_between}
use Rattle.segments.proofs.MovedNumbers.{between_filter, between_append, before_few, linked_ordered}

-- ---- a walk along a chain finds it

-- the first segment of a chain that doesn't go with the one before it, or the last one
abbrev pub end_of : List (Option Used) → ℕ → List ℕ → ℕ
end_of us b [] = 0
end_of us b (n ∷ []) = n
end_of us b (n ∷ m ∷ later) = if go_together us b n m then end_of us b (m ∷ later) else m

-- where items have no deadline, it is the last one
end_lasting : (us : List (Option Used)) (b n : ℕ) (r : List ℕ) → eqb b lasting ≡ true
    → end_of us b (n ∷ r) ≡ get_or (n ∷ r) (length r) 0
end_lasting us b n [] e = refl
end_lasting us b n (m ∷ r) e =
    let rest = end_lasting us b m r e in
    ap (λ l. cond (l || eqb (opened_in us m) (opened_in us n)) (end_of us b (m ∷ r)) m) e ∙ rest

-- of numbers of which the first fails the test none is in front of that one
while_none : (q : ℕ → Bool) (m k : ℕ) (r : List ℕ) → q m ≡ false → take_while q (take k (m ∷ r)) ≡ []
while_none q m zero r f = refl
while_none q m (suc k) r f = take_while-cons q m (take k r) ∙ rw f refl

-- else it is the one behind those of one moment
end_dated : (us : List (Option Used)) (b f n : ℕ) (r : List ℕ) → eqb b lasting ≡ false → opened_in us n ≡ opened_in us f
    → end_of us b (n ∷ r)
    ≡ get_or (n ∷ r)
    (length (take_while (λ m. eqb (opened_in us m) (opened_in us f)) (take (length r) (n ∷ r)))) 0
end_dated us b f n [] e same = refl
end_dated us b f n (m ∷ r) e same =
    let q : ℕ → Bool = λ k. eqb (opened_in us k) (opened_in us f) in
    let ys = take (length r) (m ∷ r) in
    let here : q n ≡ true = eq-eqb (opened_in us n) (opened_in us f) same in
    let cut : take_while q (n ∷ ys) ≡ n ∷ take_while q ys =
    take_while-cons q n ys ∙ ap (λ t. cond t (n ∷ take_while q ys) []) here in
    elim (cases_eq (opened_in us m) (opened_in us f)) [
      | inl at ↦
          let pair : eqb (opened_in us m) (opened_in us n) ≡ true =
          eq-eqb (opened_in us m) (opened_in us n) (at ∙ sym same) in
          let rest = end_dated us b f m r e at in
          ap (λ l. cond (l || eqb (opened_in us m) (opened_in us n)) (end_of us b (m ∷ r)) m) e
          ∙ ap (λ l. cond l (end_of us b (m ∷ r)) m) pair ∙ rest
          ∙ sym (ap (λ xs. get_or (n ∷ m ∷ r) (length xs) 0) cut)
      | inr at ↦
          let pair : eqb (opened_in us m) (opened_in us n) ≡ false =
          ne_eqb (opened_in us m) (opened_in us n) (λ x. at (x ∙ same)) in
          let none = while_none q m (length r) r (ne_eqb (opened_in us m) (opened_in us f) at) in
          ap (λ l. cond (l || eqb (opened_in us m) (opened_in us n)) (end_of us b (m ∷ r)) m) e
          ∙ ap (λ l. cond l (end_of us b (m ∷ r)) m) pair
          ∙ sym (ap (λ xs. get_or (n ∷ m ∷ r) (length (n ∷ xs)) 0) none)
          ∙ sym (ap (λ xs. get_or (n ∷ m ∷ r) (length xs) 0) cut)
    ]

-- by one way or the other
end_by : (us : List (Option Used)) (b f : ℕ) (r : List ℕ) (l : Bool) → eqb b lasting ≡ l
    → end_of us b (f ∷ r)
    ≡ get_or (f ∷ r)
    (length (if l then take (length r) (f ∷ r)
    else take_while (λ m. eqb (opened_in us m) (opened_in us f)) (take (length r) (f ∷ r)))) 0
end_by us b f r true e =
    let long : length r ≤ length (f ∷ r) = omega (arith, add-one (length r)) in
    end_lasting us b f r e ∙ sym (ap (λ k. get_or (f ∷ r) k 0) (length-take-le (length r) (f ∷ r) long))
end_by us b f r false e = end_dated us b f f r e refl

-- the walk finds the segment that follows the front
pub end_is : (us : List (Option Used)) (b : ℕ) (chain : List ℕ) → end_of us b chain ≡ behind_front us b chain
end_is us b [] = refl
end_is us b (f ∷ r) = end_by us b f r (eqb b lasting) refl

-- So far the walk has seen a part of the order: what it has to find is what it finds behind the
-- last segment that it saw.
abbrev pub IsWalking : List (Option Used) → ℕ → List ℕ → List ℕ → Option ℕ → Type 0
IsWalking us b order rest None = chain_in us rest b ≡ chain_in us order b
IsWalking us b order rest (Some n) = end_of us b (n ∷ chain_in us rest b) ≡ end_of us b (chain_in us order b)

-- a segment of another bucket is passed over
pub walks_past : (us : List (Option Used)) (b : ℕ) (order : List ℕ) (k : ℕ) (o : Option ℕ) → k < length order
    → in_bucket us b (get_or order k 0) ≡ false → IsWalking us b order (drop k order) o
    → IsWalking us b order (drop (suc k) order) o
walks_past us b order k None lt f w = sym (chain_without us order b k lt f) ∙ w
walks_past us b order k (Some n) lt f w = ap (λ xs. end_of us b (n ∷ xs)) (sym (chain_without us order b k lt f)) ∙ w

-- the first segment of the bucket
pub walks_first : (us : List (Option Used)) (b : ℕ) (order : List ℕ) (k : ℕ) → k < length order
    → in_bucket us b (get_or order k 0) ≡ true → IsWalking us b order (drop k order) None
    → IsWalking us b order (drop (suc k) order) (Some (get_or order k 0))
walks_first us b order k lt t w = ap (end_of us b) (sym (chain_with us order b k lt t) ∙ w)

-- one that goes with the last one
pub walks_on : (us : List (Option Used)) (b : ℕ) (order : List ℕ) (k n : ℕ) → k < length order
    → in_bucket us b (get_or order k 0) ≡ true → go_together us b n (get_or order k 0) ≡ true
    → IsWalking us b order (drop k order) (Some n) → IsWalking us b order (drop (suc k) order) (Some (get_or order k 0))
walks_on us b order k n lt t g w =
    let m = get_or order k 0 in
    let later = chain_in us (drop (suc k) order) b in
    sym (ap (λ l. cond l (end_of us b (m ∷ later)) m) g)
    ∙ ap (λ xs. end_of us b (n ∷ xs)) (sym (chain_with us order b k lt t)) ∙ w

-- one that doesn't is found
pub walk_ends : (us : List (Option Used)) (b : ℕ) (order : List ℕ) (k n : ℕ) → k < length order
    → in_bucket us b (get_or order k 0) ≡ true → go_together us b n (get_or order k 0) ≡ false
    → IsWalking us b order (drop k order) (Some n) → get_or order k 0 ≡ behind_front us b (chain_in us order b)
walk_ends us b order k n lt t g w =
    let m = get_or order k 0 in
    let later = chain_in us (drop (suc k) order) b in
    sym (ap (λ l. cond l (end_of us b (m ∷ later)) m) g)
    ∙ ap (λ xs. end_of us b (n ∷ xs)) (sym (chain_with us order b k lt t)) ∙ w
    ∙ end_is us b (chain_in us order b)

-- at the end the last one that was seen is found, or 0 where none was
pub walk_over : (us : List (Option Used)) (b : ℕ) (order : List ℕ) (o : Option ℕ) → IsWalking us b order [] o
    → unwrap_or o 0 ≡ behind_front us b (chain_in us order b)
walk_over us b order None w = ap (end_of us b) w ∙ end_is us b (chain_in us order b)
walk_over us b order (Some n) w = w ∙ end_is us b (chain_in us order b)

-- ---- a chain is its front, that segment, and what is behind

-- a part of a list's front is as many of the list
part_of : (j m : ℕ) (xs : List ℕ) → take j (take m xs) ≡ take (length (take j (take m xs))) xs
part_of j m xs =
    let ys = take m xs in
    let short = length-take m xs in
    elim (cases_lt j (length ys)) [
      | inl lt ↦
          let few = length-take-le j ys (omega (arith, lt)) in
          take-take j m xs (omega (arith, lt, short)) ∙ ap (λ k. take k xs) (sym few)
      | inr le ↦
          let all : take j ys ≡ ys = take_all j ys (omega (arith, le)) in
          all ∙ whole_part m xs ∙ ap (λ zs. take (length zs) xs) (sym all)
    ]
  where
    whole_part : (k : ℕ) (zs : List ℕ) → take k zs ≡ take (length (take k zs)) zs
    whole_part k zs =
        elim (cases_lt k (length zs)) [
          | inl lt ↦ ap (λ i. take i zs) (sym (length-take-le k zs (omega (arith, lt))))
          | inr le ↦
              let all : take k zs ≡ zs = take_all k zs (omega (arith, le)) in
              all ∙ sym (take_all (length zs) zs (omega arith)) ∙ ap (λ ys. take (length ys) zs) (sym all)
        ]

-- how a front is cut off its chain
record IsCutAt (xs front : List ℕ) : Type 0 where
  is : front ≡ take (length front) xs
  short : length front < length xs

-- all but the last, or the first of them that pass a test
cut_by : (us : List (Option Used)) (f : ℕ) (r : List ℕ) (l : Bool)
    → IsCutAt (f ∷ r) (if l then take (length r) (f ∷ r)
    else take_while (λ m. eqb (opened_in us m) (opened_in us f)) (take (length r) (f ∷ r)))
cut_by us f r true =
    let long : length (f ∷ r) ≡ length r + 1 = omega (arith, add-one (length r)) in
    let few = length-take-le (length r) (f ∷ r) (omega (arith, long)) in
    record { is = ap (λ k. take k (f ∷ r)) (sym few); short = omega (arith, few, long) }
cut_by us f r false =
    let long : length (f ∷ r) ≡ length r + 1 = omega (arith, add-one (length r)) in
    let xs = take (length r) (f ∷ r) in
    let q : ℕ → Bool = λ m. eqb (opened_in us m) (opened_in us f) in
    let j = prefix_len q xs in
    let few = length-take-le (length r) (f ∷ r) (omega (arith, long)) in
    let part = length-take j xs in
    record { is = part_of j (length r) (f ∷ r); short = omega (arith, few, long, part) }

-- a list cut at a place
cut_list : (xs : List ℕ) (k : ℕ) → k < length xs → xs ≡ take k xs ++ get_or xs k 0 ∷ drop (suc k) xs
cut_list xs k lt = sym (take-append-drop k xs) ∙ ap (λ ys. take k xs ++ ys) (drop-cons xs k 0 lt)

-- a chain is its front, the segment that follows it, and others
chain_cut : (us : List (Option Used)) (b f : ℕ) (r : List ℕ)
    → f ∷ r ≡ front_of us b (f ∷ r) ++ behind_front us b (f ∷ r) ∷ drop (suc (length (front_of us b (f ∷ r)))) (f ∷ r)
chain_cut us b f r =
    let c = cut_by us f r (eqb b lasting) in
    let k = length (front_of us b (f ∷ r)) in
    cut_list (f ∷ r) k c.short
    ∙ ap (λ ys. ys ++ get_or (f ∷ r) k 0 ∷ drop (suc k) (f ∷ r)) (sym c.is)

-- ---- what stands between a merge's first segment and that one

-- a number of the run that passes a test passes it
pub while_passes : (q : ℕ → Bool) (xs : List ℕ) (n : ℕ) → 1 ≤ times n (take_while q xs) → q n ≡ true
while_passes q [] n h = absurd (omega (arith, h))
while_passes q (x ∷ xs) n h =
    elim (cases_Bool (q x)) [
      | inl t ↦
          let e : take_while q (x ∷ xs) ≡ x ∷ take_while q xs = take_while-cons q x xs ∙ rw t refl in
          elim (cases_eq x n) [
            | inl same ↦ ap q (sym same) ∙ t
            | inr other ↦
                let f = ne_eqb x n other in
                let l : times n (take_while q (x ∷ xs)) ≡ 0 + times n (take_while q xs) = ap (times n) e ∙ rw f refl in
                while_passes q xs n (omega arith)
          ]
      | inr f ↦ (let e : take_while q (x ∷ xs) ≡ [] = take_while-cons q x xs ∙ rw f refl in let l = ap (times n) e in
          absurd (omega arith))
    ]

-- those of a front whose items have deadlines were opened at one moment
moment_by : (us : List (Option Used)) (f n : ℕ) (r : List ℕ) (l : Bool) → l ≡ false
    → 1 ≤ times n (if l then take (length r) (f ∷ r)
    else take_while (λ m. eqb (opened_in us m) (opened_in us f)) (take (length r) (f ∷ r)))
    → opened_in us n ≡ opened_in us f
moment_by us f n r true e h = absurd (false≢true (sym e))
moment_by us f n r false e h =
    let q : ℕ → Bool = λ m. eqb (opened_in us m) (opened_in us f) in
    eqb-true (opened_in us n) (opened_in us f) (while_passes q (take (length r) (f ∷ r)) n h)

-- What is known of the segment that follows the front, where the merge's first segment is another
-- one: it isn't merged, is of the same bucket, and stands behind the first one; and those of the
-- bucket between the two are of the front, so that they were opened at the moment of the first one,
-- unless their items have no deadline.
pub record IsBehind (p : PoolState) (c : Choice) (first : ℕ) : Type 0 where
  pub kept : times (behind_front p.segments c.bucket (chain_of p c)) (merged_segments p c) ≡ 0
  pub of_first : in_bucket p.segments c.bucket first ≡ true
  pub of_bucket : in_bucket p.segments c.bucket (behind_front p.segments c.bucket (chain_of p c)) ≡ true
  pub behind : 1 ≤ times_behind (behind_front p.segments c.bucket (chain_of p c)) first p.order
  pub between : (m : ℕ) → in_bucket p.segments c.bucket m ≡ true
      → 1 ≤ times_between m (behind_front p.segments c.bucket (chain_of p c)) first p.order
      → eqb c.bucket lasting ≡ false → opened_at p m ≡ opened_at p first

-- a number stands once at most in two parts of a list in sum, where it stands once at most in it
parts_once : (n k : ℕ) (xs : List ℕ) → times n xs ≤ 1 → times n (take k xs) + times n (drop k xs) ≤ 1
parts_once n k xs h =
    let split = times-append n (take k xs) (drop k xs) in
    let whole = ap (times n) (take-append-drop k xs) in
    omega (arith, split, whole, h)

-- where a chain starts with a segment, the merge does
first_by : (p : PoolState) (c : Choice) (f : ℕ) (r others : List ℕ) (first : ℕ) → chain_of p c ≡ f ∷ r
    → 1 ≤ length (merged_segments p c) → merged_segments p c ≡ first ∷ others → first ≡ f
first_by p c f r others first e some m =
    let us = p.segments in
    let F = front_of us c.bucket (f ∷ r) in
    let most = most_merged p.eviction c.bucket in
    let two = most_two p.eviction c.bucket in
    let is : merged_segments p c ≡ take most F = ap (λ xs. take most (front_of us c.bucket xs)) e in
    let cut = cut_by us f r (eqb c.bucket lasting) in
    let l = ap length is in
    let short = length-take most F in
    sym (ap (λ xs. get_or xs 0 0) m) ∙ ap (λ xs. get_or xs 0 0) is ∙ get_or-take most F 0 0 (omega (arith, two))
    ∙ ap (λ xs. get_or xs 0 0) cut.is ∙ get_or-take (length F) (f ∷ r) 0 0 (omega (arith, l, short, some))

-- what is known, of a chain of at least one segment
behind_by : (p : PoolState) (c : Choice) (f : ℕ) (r others : List ℕ) (first : ℕ) → chain_of p c ≡ f ∷ r
    → ((n : ℕ) → times n p.order ≤ 1) → 1 ≤ length (merged_segments p c) → merged_segments p c ≡ first ∷ others
    → IsBehind p c first
behind_by p c f r others first e once some m =
    let us = p.segments in
    let b = c.bucket in
    let q = in_bucket us b in
    let chain = chain_of p c in
    let F = front p c in
    let rest = drop c.from p.order in
    let next = behind_front us b chain in
    let start : first ≡ f = first_by p c f r others first e some m in
    let few : length (merged_segments p c) ≤ length F = (let l = length-take (most_merged p.eviction c.bucket) F in omega (arith, l)) in
    let whole : chain ≡ F ++ next ∷ drop (suc (length F)) chain =
    e ∙ chain_cut us b f r
    ∙ ap (λ xs. front_of us b xs ++ behind_front us b xs ∷ drop (suc (length (front_of us b xs))) xs) (sym e) in
    let same = eq-eqb next next refl in
    let count : times next chain ≡ times next F + (1 + times next (drop (suc (length F)) chain)) =
    ap (times next) whole ∙ times-append next F (next ∷ drop (suc (length F)) chain) ∙ rw same refl in
    let part = times_filter_few q next rest in
    let dropped = times-drop next c.from p.order in
    let one = once next in
    let apart : times next F ≡ 0 = omega (arith, count, part, dropped, one) in
    let passes : q next ≡ true =
    passes_if (q next) (times next rest) (let t = times-filter q next rest in omega (arith, t, count)) in
    let head : 1 ≤ times first F = (let cut = cut_by us f r (eqb b lasting) in
    let is : F ≡ front_of us b (f ∷ r) = ap (front_of us b) e in
    let long = ap length is in
    let at : get_or F 0 0 ≡ first = ap (λ xs. get_or xs 0 0) (is ∙ cut.is)
    ∙ get_or-take (length (front_of us b (f ∷ r))) (f ∷ r) 0 0 (omega (arith, some, few, long)) ∙ sym start in
    subst (λ n. 1 ≤ times n F) at (times_at F 0 0 (omega (arith, some, few)))) in
    let named : times first chain ≡ times first F + times first (next ∷ drop (suc (length F)) chain) =
    ap (times first) whole ∙ times-append first F (next ∷ drop (suc (length F)) chain) in
    let passes_first : q first ≡ true =
    passes_if (q first) (times first rest) (let t = times-filter q first rest in omega (arith, t, named, head)) in
    let in_front : times first (take c.from p.order) ≡ 0 =
    (let parts = parts_once first c.from p.order (once first) in
    let more = times_filter_few q first rest in
    omega (arith, parts, more, named, head)) in
    let split = take-append-drop c.from p.order in
    let other : (first ≡ next → ⊥) = λ x. (let h = subst (λ n. 1 ≤ times n F) x head in omega (arith, h, apart)) in
    let z = eq-eqb f first (sym start) in
    let y = ne_eqb f next (λ x. other (start ∙ x)) in
    let later : times next (f ∷ r) ≡ 0 + times next r = rw y refl in
    let all : times next chain ≡ times next (f ∷ r) = ap (times next) e in
    let walk : times_behind next first (f ∷ r) ≡ times next r = rw z refl in
    let behind : times_behind next first p.order ≡ times next r =
    ap (times_behind next first) (sym split) ∙ behind_append next first (take c.from p.order) rest in_front
    ∙ sym (behind_filter q next first rest passes_first passes) ∙ ap (times_behind next first) e ∙ walk in
    record {
      kept = (let t = times-take next (most_merged p.eviction c.bucket) F in omega (arith, t, apart));
      of_first = passes_first;
      of_bucket = passes;
      behind = omega (arith, behind, later, all, count);
      between = λ k here some_k dated.
          let moved : times_between k next first p.order ≡ times_between k next first chain =
          ap (times_between k next first) (sym split) ∙ between_append k next first (take c.from p.order) rest in_front
          ∙ sym (between_filter q k next first rest here passes passes_first) in
          let at : times_between k next first (f ∷ r) ≡ times_before k next r = rw z refl in
          let front_is : times_before k next (f ∷ r) ≡ (if eqb f k then 1 else 0) + times_before k next r = rw y refl in
          let bound : times_before k next chain ≤ times k F =
          subst (λ xs. times_before k next xs ≤ times k F) (sym whole)
          (before_few k next F (drop (suc (length F)) chain)) in
          let x = ap (times_between k next first) e in
          let w = ap (times_before k next) e in
          let in_part : 1 ≤ times k F = omega (arith, some_k, moved, at, front_is, bound, x, w) in
          moment_by us f k r (eqb b lasting) dated (subst (λ xs. 1 ≤ times k (front_of us b xs)) e in_part)
          ∙ ap (opened_in us) (sym start);
    }

-- so of a merge that can be done
pub behind_is : (p : PoolState) (c : Choice) (first : ℕ) (others : List ℕ) → ((n : ℕ) → times n p.order ≤ 1)
    → merged_segments p c ≡ first ∷ others → IsBehind p c first
behind_is p c first others once m = by (chain_of p c) refl
  where
    by : (xs : List ℕ) → chain_of p c ≡ xs → IsBehind p c first
    by [] e =
        let most = most_merged p.eviction c.bucket in
        let none : merged_segments p c ≡ take most [] = ap (λ xs. take most (front_of p.segments c.bucket xs)) e in
        absurd (let l = ap length (sym none ∙ m) in let t = length-take {A = ℕ} most [] in
        let k = add-one (length others) in omega (arith, l, t, k))
    by (f ∷ r) e =
        behind_by p c f r others first e once
        (let l = ap length m in let k = add-one (length others) in omega (arith, l, k)) m

-- ---- the pool after a merge

-- a segment that isn't one of the others is of its bucket before the merge and after it
of_same : (a : Inside) (first : ℕ) (others : List ℕ) (items : List Item) (after : List (Option Used)) (b n : ℕ)
    → IsCut a first others → after ≡ without_segments (first_filled (shown_segments a.segments.items) first items) others
    → times n others ≡ 0 → in_bucket after b n ≡ in_bucket (shown_segments a.segments.items) b n
of_same a first others items after b n c e none =
    let us = shown_segments a.segments.items in
    let filled = first_filled us first items in
    let test : Option Used → Bool = λ o. option_map_or (λ s. eqb s.bucket b) o false in
    let stays : nat_lt 0 (times n others) ≡ false = le-ltb 0 (times n others) (omega (arith, none)) in
    ap (λ vs. in_bucket vs b n) e ∙ ap test (without_at filled others n)
    ∙ ap (λ (gone : Bool). test (if gone then None else get_or filled n None)) stays
    ∙ of_filled us first c.segment items b n c.is_at

-- a segment of a bucket is one of a chain
used_of_bucket : (us : List (Option Used)) (b n : ℕ) → in_bucket us b n ≡ true → is_used_at us n ≡ true
used_of_bucket us b n h = ap is_some (in_chain us b n h).is_at

-- the links after a merge, where the filled segment stands where the rule lets it stand
pub linked_placed : (a : Inside) (d : Choice) (first : ℕ) (others : List ℕ) (items : List Item)
    (after : List (Option Used)) (free kept : List ℕ) (next : ℕ)
    → IsPoolKept a → IsMerging a → IsCut a first others → a.merged.items ≡ merged_segments (pool_of a) d
    → after ≡ without_segments (first_filled (shown_segments a.segments.items) first items) others
    → kept ≡ filter (is_used_at after) a.order.items → free ≡ a.free.items ++ others
    → next ≡ behind_front (shown_segments a.segments.items) d.bucket (chain_of (pool_of a) d)
    → IsLinked a.geometry.segments after free (order_by a.eviction next first kept) a.tails.items
linked_placed a d first others items after free kept next k m c same e o f n =
    let us = shown_segments a.segments.items in
    let once = order_once a.geometry.segments us a.free.items a.order.items a.tails.items k.linked in
    let x = behind_is (pool_of a) d first others once (sym same ∙ c.whole) in
    let z = eq-eqb first first refl in
    let all : times first a.merged.items ≡ 1 + times first others = ap (times first) c.whole ∙ rw z refl in
    let apart : times first others ≡ 0 = (let g = m.named first in let h = once first in omega (arith, all, g, h)) in
    let merged : times next a.merged.items ≡ 0 =
    ap (λ i. times i a.merged.items) n
    ∙ ap (times (behind_front us d.bucket (chain_of (pool_of a) d))) same ∙ x.kept in
    let gone : times next others ≡ 0 =
    (let l = times_others next first others in let w = ap (times next) c.whole in omega (arith, l, w, merged)) in
    let next_of : in_bucket us d.bucket next ≡ true = ap (in_bucket us d.bucket) n ∙ x.of_bucket in
    let first_after = of_same a first others items after d.bucket first c e apart ∙ x.of_first in
    let next_after = of_same a first others items after d.bucket next c e gone ∙ next_of in
    let behind : 1 ≤ times_behind next first kept =
    (let w = ap (times_behind next first) o ∙ behind_filter (is_used_at after) next first a.order.items
    (used_of_bucket after d.bucket first first_after) (used_of_bucket after d.bucket next next_after) in
    let v = ap (λ i. times_behind i first a.order.items) n in
    let g = x.behind in
    omega (arith, w, v, g)) in
    linked_ordered a.eviction a.geometry.segments after free kept a.tails.items next first
    (linked_behind a first others items after free kept k m c e o f)
    (λ b t.
    let is : b ≡ d.bucket = of_one_bucket after b d.bucket first t first_after in
    (ap (λ i. in_bucket after i next) is ∙ next_after, behind))
