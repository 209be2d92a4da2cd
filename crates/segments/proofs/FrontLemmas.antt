-- The front of a chain: the segments of it that would be merged.
use Rattle.std.proofs.Common.{◌≡◌, ℕ, zero, suc, ◌+◌, ◌-◌, ◌≤◌, Bool, true, false, cond, eqb, List, [], ◌∷◌, length}
use Rattle.std.proofs.Common.{get_or, take, drop, Option, refl, sym, ap, subst, ◌∙◌, arith, inl, inr, add-one}
use Rattle.std.specs.Prelude.{All, take_while, if◌then◌else◌}
use Rattle.std.specs.List.{prefix_len}
use Rattle.std.proofs.lemmas.List.{take_all, take-take, length-take, length-take-le, length-drop}
use Rattle.std.proofs.lemmas.List.Sums.{take_while-cons}
use Rattle.std.proofs.lemmas.List.Elements.{All-take, All-filter}
use Rattle.std.proofs.lemmas.Bool.{cases_lt}
use Rattle.proto.specs.Counts.{times}
use Rattle.segments.specs.Pools.{Used, lasting, in_bucket, chain_in}
use Rattle.proto.specs.declared.eviction.Eviction.{Eviction}
use Rattle.proto.specs.declared.eviction.Eviction.TheVariants.{Oldest, LeastRead}
use Rattle.segments.specs.Merges.{merged_in}
use Rattle.segments.specs.Chains.{opened_in, front_of}
use Rattle.segments.specs.Rules.{most_merged}

-- a slice up to the end is all that follows its start
pub rest_from : (n : ℕ) (xs : List ℕ) → take (length xs - n) (drop n xs) ≡ drop n xs
rest_from n xs = let l = length-drop n xs in take_all (length xs - n) (drop n xs) (omega (arith, l))

-- ---- the first segments of a front

-- two or three are two at least
two_or_three : (b : Bool) → 2 ≤ (if b then 2 else 3)
two_or_three true = omega arith
two_or_three false = omega arith

-- and four at most
few_or_three : (b : Bool) → (if b then 2 else 3) ≤ 4
few_or_three true = omega arith
few_or_three false = omega arith

-- a rule merges two segments at least, if it merges any
pub most_two : (e : Eviction) (bucket : ℕ) → 2 ≤ most_merged e bucket
most_two Oldest bucket = omega arith
most_two LeastRead bucket = two_or_three (eqb bucket lasting)

-- and four at most
pub most_four : (e : Eviction) (bucket : ℕ) → most_merged e bucket ≤ 4
most_four Oldest bucket = omega arith
most_four LeastRead bucket = few_or_three (eqb bucket lasting)

-- a first number that passes or ends the run leaves a cut where it was
while_step : (p : ℕ → Bool) (b : Bool) (x : ℕ) (xs ys : List ℕ) (n : ℕ) → xs ≡ take n ys
    → cond b (x ∷ xs) [] ≡ take (suc n) (cond b (x ∷ ys) [])
while_step p true x xs ys n e = ap (λ zs. x ∷ zs) e
while_step p false x xs ys n e = refl

-- the passing numbers of a cut list are the cut of the passing numbers
while_take : (p : ℕ → Bool) (n : ℕ) (xs : List ℕ) → take_while p (take n xs) ≡ take n (take_while p xs)
while_take p zero xs = refl
while_take p (suc n) [] = refl
while_take p (suc n) (x ∷ xs) =
    take_while-cons p x (take n xs) ∙ while_step p (p x) x (take_while p (take n xs)) (take_while p xs) n
    (while_take p n xs)
    ∙ ap (take (suc n)) (sym (take_while-cons p x xs))

-- a cut leaves the first number, to whose moment the others are compared
same_while : (us : List (Option Used)) (f : ℕ) (r : List ℕ) (k : ℕ)
    → take_while (λ m. eqb (opened_in us m) (opened_in us (get_or (take k (f ∷ r)) 0 0))) (take k (f ∷ r))
    ≡ take_while (λ m. eqb (opened_in us m) (opened_in us f)) (take k (f ∷ r))
same_while us f r zero = refl
same_while us f r (suc k) = refl

-- a number of segments at which both ways of cutting a chain end
record IsCut (most : ℕ) (xs : List ℕ) (tail : ℕ) (k : ℕ) : Type 0 where
  first : take (length (take (most + 1) xs) - 1) (take (most + 1) xs) ≡ take k xs
  front : take most (take tail xs) ≡ take k xs

-- of one more segment all but the last, and of all but the tail the first ones, are the same
cut : (most f : ℕ) (r : List ℕ) → (k : ℕ) × IsCut most (f ∷ r) (length r) k
cut most f r =
    let xs = f ∷ r in
    let long : length xs ≡ length r + 1 = omega (arith, add-one (length r)) in
    elim (cases_lt most (length r)) [
      | inl lt ↦
          let more : length (take (most + 1) xs) ≡ most + 1 = length-take-le (most + 1) xs (omega arith) in
          let less : most + 1 - 1 ≡ most = omega arith in (
            most,
            record {
              first = ap (λ n. take (n - 1) (take (most + 1) xs)) more ∙ ap (λ n. take n (take (most + 1) xs)) less
                  ∙ take-take most (most + 1) xs (omega arith);
              front = take-take most (length r) xs (omega arith);
            },
          )
      | inr le ↦
          let all : take (most + 1) xs ≡ xs = take_all (most + 1) xs (omega arith) in
          let less : length xs - 1 ≡ length r = omega arith in
          let short = length-take (length r) xs in (
            length r,
            record {
              first = ap (λ ys. take (length ys - 1) ys) all ∙ ap (λ n. take n xs) less;
              front = take_all most (take (length r) xs) (omega arith);
            },
          )
    ]

-- the numbers with the opening moment of the first one, in front of any other
abbrev pub same_opening : List (Option Used) → List ℕ → List ℕ
same_opening us xs = take_while (λ m. eqb (opened_in us m) (opened_in us (get_or xs 0 0))) xs

-- of the first numbers, one more than so many, all but the last
abbrev pub first_most : ℕ → List ℕ → List ℕ
first_most most xs = take (length (take (most + 1) xs) - 1) (take (most + 1) xs)

-- nothing is cut off nothing
take-none : (k : ℕ) → take {A = ℕ} k [] ≡ []
take-none zero = refl
take-none (suc k) = refl

-- both ways of cutting agree, whether the items have deadlines or not
front_by : (most : ℕ) (us : List (Option Used)) (f : ℕ) (r : List ℕ) (l : Bool)
    (c : (k : ℕ) × IsCut most (f ∷ r) (length r) k)
    → (if l then first_most most (f ∷ r) else same_opening us (first_most most (f ∷ r)))
    ≡ take most (if l then take (length r) (f ∷ r)
    else take_while (λ n. eqb (opened_in us n) (opened_in us f)) (take (length r) (f ∷ r)))
front_by most us f r true c = c.1.first ∙ sym c.1.front
front_by most us f r false c =
    let q : ℕ → Bool = λ n. eqb (opened_in us n) (opened_in us f) in
    ap (same_opening us) c.1.first ∙ same_while us f r c.0 ∙ ap (take_while q) (sym c.1.front)
    ∙ while_take q most (take (length r) (f ∷ r))

-- of no segments both ways leave none
nothing_by : (most : ℕ) (us : List (Option Used)) (l : Bool)
    → (if l then first_most most [] else same_opening us (first_most most [])) ≡ take most []
nothing_by most us true = ap (λ xs. take (length xs - 1) xs) (take-none (most + 1)) ∙ sym (take-none most)
nothing_by most us false =
    ap (λ xs. same_opening us (take (length xs - 1) xs)) (take-none (most + 1)) ∙ sym (take-none most)

-- of the first segments of a chain, one more than so many, all but the last, cut where a moment
-- differs, are the first of its front
pub front_cut : (most : ℕ) (us : List (Option Used)) (b : ℕ) (xs : List ℕ)
    → (if eqb b lasting then first_most most xs else same_opening us (first_most most xs)) ≡ take most (front_of us b xs)
front_cut most us b [] = nothing_by most us (eqb b lasting)
front_cut most us b (f ∷ r) = front_by most us f r (eqb b lasting) (cut most f r)

-- ---- how often numbers stand in a front

-- a cut list has a number no more often
pub times-take : (n k : ℕ) (xs : List ℕ) → times n (take k xs) ≤ times n xs
times-take n zero xs = omega arith
times-take n (suc k) [] = omega arith
times-take n (suc k) (x ∷ xs) = let e = times-take n k xs in omega arith

-- nor has what is left of it
pub times-drop : (n k : ℕ) (xs : List ℕ) → times n (drop k xs) ≤ times n xs
times-drop n zero xs = omega arith
times-drop n (suc k) [] = omega arith
times-drop n (suc k) (x ∷ xs) = let e = times-drop n k xs in omega arith

-- a number stands in the first of a front no more often than in the chain without its tail
few_by : (most : ℕ) (us : List (Option Used)) (n f : ℕ) (r : List ℕ) (l : Bool)
    → times n (take most
    (if l then take (length r) (f ∷ r) else take_while (λ m. eqb (opened_in us m) (opened_in us f))
    (take (length r) (f ∷ r)))) ≤ times n (take (length r) (f ∷ r))
few_by most us n f r true = times-take n most (take (length r) (f ∷ r))
few_by most us n f r false =
    let first = take (length r) (f ∷ r) in
    let q : ℕ → Bool = λ m. eqb (opened_in us m) (opened_in us f) in
    let a = times-take n most (take_while q first) in
    let b = times-take n (prefix_len q first) first in
    omega arith

-- a number stands in the first of a front no more often than in the chain without its tail
pub front_few : (most : ℕ) (us : List (Option Used)) (b n : ℕ) (xs : List ℕ)
    → times n (take most (front_of us b xs)) ≤ times n (take (length xs - 1) xs)
front_few most us b n [] = (let t = times-take n most [] in omega (arith, t))
front_few most us b n (f ∷ r) =
    let h = few_by most us n f r (eqb b lasting) in
    let l : length (f ∷ r) - 1 ≡ length r = omega (arith, add-one (length r)) in
    subst (λ k. times n (take most (front_of us b (f ∷ r))) ≤ times n (take k (f ∷ r))) (sym l) h

-- the first of a front are no more than the chain
short_by : (most : ℕ) (us : List (Option Used)) (f : ℕ) (r : List ℕ) (l : Bool)
    → length (take most (if l then take (length r) (f ∷ r)
    else take_while (λ m. eqb (opened_in us m) (opened_in us f)) (take (length r) (f ∷ r))))
    ≤ length (f ∷ r)
short_by most us f r true =
    let a = length-take most (take (length r) (f ∷ r)) in
    let b = length-take (length r) (f ∷ r) in
    omega arith
short_by most us f r false =
    let first = take (length r) (f ∷ r) in
    let q : ℕ → Bool = λ m. eqb (opened_in us m) (opened_in us f) in
    let a = length-take most (take_while q first) in
    let b = length-take (prefix_len q first) first in
    let c = length-take (length r) (f ∷ r) in
    omega arith

-- the first of a front are no more than the chain
pub front_short : (most : ℕ) (us : List (Option Used)) (b : ℕ) (xs : List ℕ)
    → length (take most (front_of us b xs)) ≤ length xs
front_short most us b [] = (let t = length-take {A = ℕ} most [] in omega (arith, t))
front_short most us b (f ∷ r) = short_by most us f r (eqb b lasting)

-- ---- the numbers of a front

-- what holds of all numbers of a chain holds of those of its front
front_all_by : (P : ℕ → Type 0) (us : List (Option Used)) (f : ℕ) (r : List ℕ) (l : Bool) → All P (f ∷ r)
    → All P (if l then take (length r) (f ∷ r)
    else take_while (λ n. eqb (opened_in us n) (opened_in us f)) (take (length r) (f ∷ r)))
front_all_by P us f r true all = All-take P (length r) (f ∷ r) all
front_all_by P us f r false all = All-take P _ (take (length r) (f ∷ r)) (All-take P (length r) (f ∷ r) all)

-- what holds of all numbers of a chain holds of those of its front
All-front : (P : ℕ → Type 0) (us : List (Option Used)) (b : ℕ) (xs : List ℕ) → All P xs → All P (front_of us b xs)
All-front P us b [] all = all
All-front P us b (f ∷ r) all = front_all_by P us f r (eqb b lasting) all

-- what holds of all numbers of the order holds of those that are merged
pub All-merged : (P : ℕ → Type 0) (e : Eviction) (us : List (Option Used)) (order : List ℕ) (b : ℕ) → All P order
    → All P (merged_in e us order b)
All-merged P e us order b all =
    All-take P (most_merged e b) (front_of us b (chain_in us order b))
    (All-front P us b (chain_in us order b) (All-filter (in_bucket us b) P order all))
