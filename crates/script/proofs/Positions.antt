-- Numbers that rise, and the position of one among them, by a binary search.
use Rattle.std.proofs.Common.{◌≡◌, ℕ, ◌+◌, ◌<◌, ◌≤◌, List, [], ◌∷◌, ◌++◌, length, length-append, get_or, map, Err}
use Rattle.std.proofs.Common.{ap, sym, ◌∙◌, arith, tests, inl, inr}
use Rattle.std.specs.Prelude.{Contains}
use Rattle.std.specs.List.{HoldsAt}
use Rattle.std.specs.List.Sorted.{IsBinarySearchResult, IsNonDecreasingBy, IsStrictlyIncreasing}
use Rattle.std.specs.Ordering.{nat_cmp, ordering_index}
use Rattle.std.specs.declared.cmp.Ordering.TheVariants.{Less, Equal, Greater}
use Rattle.std.proofs.lemmas.Bool.{cases_lt}
use Rattle.std.proofs.lemmas.Cmp.{ranked}
use Rattle.std.proofs.lemmas.List.{get_or-map, length-map, get_or_append_left}
use Rattle.std.proofs.lemmas.List.Kept.{AllPairs-from_increasing}
use Rattle.std.proofs.Math.Seq.{get_or-append_seam}

-- numbers that rise, and one above the last of them
pub rising_more : (numbers : List ℕ) (n : ℕ) → IsStrictlyIncreasing numbers
    → ((k : ℕ) → k + 1 ≡ length numbers → get_or numbers k 0 < n) → IsStrictlyIncreasing (numbers ++ n ∷ [])
rising_more numbers n rising above k within =
    let len = length-append numbers (n ∷ []) in
    let first : get_or (numbers ++ n ∷ []) k 0 ≡ get_or numbers k 0 =
    get_or_append_left numbers (n ∷ []) 0 k (omega (arith, len)) in
    elim (cases_lt (k + 1) (length numbers)) [
      | inl inside ↦ rw (first, get_or_append_left numbers (n ∷ []) 0 (k + 1) inside) (rising k inside)
      | inr outside ↦
          let last : k + 1 ≡ length numbers = omega (arith, len) in
          let second : get_or (numbers ++ n ∷ []) (k + 1) 0 ≡ n =
          ap (λ (i : ℕ). get_or (numbers ++ n ∷ []) i 0) last ∙ get_or-append_seam numbers n [] 0 in
          rw (first, second) (above k last)
    ]

-- each of numbers that rise is below those after it
pub rises : (numbers : List ℕ) (i j : ℕ) → IsStrictlyIncreasing numbers → i < j → j < length numbers
    → get_or numbers i 0 < get_or numbers j 0
rises numbers i j rising lt within = AllPairs-from_increasing numbers rising i j 0 lt within

-- if the search finds the number, it stands there
pub position_found : {A : Type 0} (f : A → ℕ) (xs : List A) (n i : ℕ) → i < length xs
    → HoldsAt (λ (s : A). nat_cmp (f s) n ≡ Equal) xs i
    → (i < length (map f xs)) × (get_or (map f xs) i 0 ≡ n)
position_found f [] n i lt h = absurd (omega arith)
position_found f (x ∷ xs) n i lt h =
    let len = length-map (x ∷ xs) f in
    (omega (arith, len), get_or-map f (x ∷ xs) i x 0 lt ∙ ranked (f (get_or (x ∷ xs) i x)) n Equal (sym (h x)))

-- numbers that rise can be searched
searchable : {A : Type 0} (f : A → ℕ) (xs : List A) (n : ℕ) → IsStrictlyIncreasing (map f xs)
    → IsNonDecreasingBy (λ (s : A). ordering_index (nat_cmp (f s) n)) xs
searchable f xs n rising i j d le lt =
    let len = length-map xs f in
    let a = get_or-map f xs i d 0 (omega arith) in
    let b = get_or-map f xs j d 0 lt in
    higher (f (get_or xs i d)) (f (get_or xs j d)) (
    elim (cases_lt i j) [
      | inl below ↦ let less = rises (map f xs) i j rising below (omega (arith, len)) in omega (arith, a, b, less)
      | inr above ↦ let same : i ≡ j = omega arith in rw same (omega arith)
    ])
  where
    higher : (a b : ℕ) → a ≤ b → ordering_index (nat_cmp a n) ≤ ordering_index (nat_cmp b n)
    higher a b le = grind (arith, tests)

-- if the search finds none, the number isn't there
pub position_none : {A : Type 0} (f : A → ℕ) (xs : List A) (n i : ℕ) → IsStrictlyIncreasing (map f xs)
    → IsBinarySearchResult (λ (s : A). nat_cmp (f s) n) xs (Err i) → Contains (map f xs) n → ⊥
position_none f [] n i rising h there = absurd (omega (arith, there.1))
position_none f (x ∷ xs) n i rising h there =
    let all = x ∷ xs in let k = there.0 in
    let lt : k < length all = omega (arith, there.1, length-map all f) in
    let is : f (get_or all k x) ≡ n = sym (get_or-map f all k x n lt) ∙ there.2 in
    let parted = h (searchable f all n rising) in
    elim (cases_lt k i) [
      | inl before ↦ let less = ranked (f (get_or all k x)) n Less (sym (parted.0 k x (omega (arith, lt)) before)) in
          omega (arith, less, is)
      | inr behind ↦ let more = ranked (f (get_or all k x)) n Greater (sym (parted.1 k x behind lt)) in
          omega (arith, more, is)
    ]
