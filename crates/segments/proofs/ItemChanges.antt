-- A change of one item that leaves its size: a read of it, or another item in its place.
use Rattle.std.proofs.Common.{◌≡◌, ℕ, ◌+◌, ◌-◌, ◌<◌, ◌≤◌, List, [], ◌∷◌, Option, Some, None, refl, sym, ap, subst, ◌∙◌}
use Rattle.std.proofs.Common.{arith, inl, inr}
use Rattle.std.specs.Prelude.{Bool, true, false, cond, eqb, ◌==◌, if◌then◌else◌, IsSome, option_map, All}
use Rattle.std.proofs.lemmas.Bool.{cases_eq, cases_lt, eq-eqb, ne_eqb, lt-ltb, le-ltb, eqb-true, false≢true}
use Rattle.std.proofs.lemmas.List.Elements.{All-head, All-tail, All-cons}
use Rattle.std.proofs.lemmas.List.Sums.{sum_by-cons}
use Rattle.std.proofs.lemmas.Option.{none-some}
use Rattle.segments.specs.Items.{Item, item_at, size_of_item, size_of_all, change_at, read_again, fits_over, IsStorable}
use Rattle.segments.proofs.ItemLayout.{some_size}

-- an item stands there, and the change leaves its size
pub record KeepsSize (change : Item → Item) (o : Option Item) : Type 0 where
  pub item : Item
  pub is : o ≡ Some item
  pub sized : size_of_item (change item) ≡ size_of_item item

-- a read leaves the size of an item
pub keeps_read : (o : Option Item) → IsSome o → KeepsSize read_again o
keeps_read None h = absurd (false≢true h)
keeps_read (Some i) h = record { item = i; is = refl; sized = refl }

-- so does another item that fits over it
pub keeps_over : (new : Item) (o : Option Item) → fits_over new o ≡ true → KeepsSize (λ _. new) o
keeps_over new None h = absurd (false≢true h)
keeps_over new (Some i) h = record { item = i; is = refl; sized = sym (eqb-true _ _ h) }

-- where a change leaves the size of an item, one stands there
pub some_kept : (change : Item → Item) (o : Option Item) → KeepsSize change o → IsSome o
some_kept change o k = subst IsSome (sym k.is) refl

-- ---- items by their offsets

-- the first item stands at 0, none within it, and the others after it
pub at_first : (i : Item) (items : List Item) (offset : ℕ) → offset ≡ 0 → item_at (i ∷ items) offset ≡ Some i
at_first i items offset e = let z = eq-eqb offset 0 e in rw z refl

-- inside an item none begins
pub at_within : (i : Item) (items : List Item) (offset : ℕ) → (offset ≡ 0 → ⊥) → offset < size_of_item i
    → item_at (i ∷ items) offset ≡ None
at_within i items offset e lt = let z = ne_eqb offset 0 e in let l = lt-ltb offset (size_of_item i) lt in rw (z, l) refl

-- an item after the first one is found among the others
pub at_behind : (i : Item) (items : List Item) (offset : ℕ) → size_of_item i ≤ offset
    → item_at (i ∷ items) offset ≡ item_at items (offset - size_of_item i)
at_behind i items offset ge =
    let s = some_size i in
    let z = ne_eqb offset 0 (λ q. absurd (omega arith)) in
    let l = le-ltb offset (size_of_item i) ge in
    rw (z, l) refl

-- a change that leaves the size of the item at 0 leaves that of the first one
first_sized : (change : Item → Item) (i : Item) (items : List Item) (offset : ℕ) → offset ≡ 0
    → KeepsSize change (item_at (i ∷ items) offset) → size_of_item (change i) ≡ size_of_item i
first_sized change i items offset e k =
    let both : Some k.item ≡ Some i = sym k.is ∙ at_first i items offset e in
    let is : k.item ≡ i = cc in
    subst (λ (j : Item). size_of_item (change j) ≡ size_of_item j) is k.sized

-- the changed item stands where it stood, and the others do
pub at_change : (change : Item → Item) (items : List Item) (offset q : ℕ) → KeepsSize change (item_at items offset)
    → item_at (change_at change items offset) q
    ≡ (if q == offset then option_map change (item_at items q) else item_at items q)
at_change change [] offset q k = absurd (none-some k.item k.is)
at_change change (i ∷ items) offset q k =
    let s = some_size i in
    elim (cases_eq offset 0) [
      | inl e ↦
          let z = eq-eqb offset 0 e in
          let sized = first_sized change i items offset e k in
          elim (cases_eq q 0) [
            | inl f ↦
                let y = eq-eqb q 0 f in
                let x = eq-eqb q offset (f ∙ sym e) in
                rw (x, z, y) refl
            | inr f ↦
                let y = ne_eqb q 0 f in
                let x = ne_eqb q offset (λ r. f (r ∙ e)) in
                rw (x, z, y, sized) refl
          ]
      | inr e ↦
          let z = ne_eqb offset 0 e in
          elim (cases_lt offset (size_of_item i)) [
            | inl lt ↦ absurd (none-some k.item (sym (at_within i items offset e lt) ∙ k.is))
            | inr ge ↦
                let rest : KeepsSize change (item_at items (offset - size_of_item i)) =
                subst (KeepsSize change) (at_behind i items offset ge) k in
                elim (cases_lt q (size_of_item i)) [
                  | inl lt ↦
                      let x = ne_eqb q offset (λ r. absurd (omega arith)) in
                      let l = lt-ltb q (size_of_item i) lt in
                      rw (x, z, l) refl
                  | inr above ↦
                      let y = ne_eqb q 0 (λ r. absurd (omega arith)) in
                      let l = le-ltb q (size_of_item i) above in
                      let same : eqb q offset ≡ eqb (q - size_of_item i) (offset - size_of_item i) =
                      elim (cases_eq q offset) [
                        | inl r ↦ eq-eqb q offset r
                            ∙ sym (eq-eqb (q - size_of_item i) (offset - size_of_item i) (omega arith))
                        | inr r ↦ ne_eqb q offset r
                            ∙ sym (ne_eqb (q - size_of_item i) (offset - size_of_item i) (λ w. r (omega arith)))
                      ] in
                      rw (same, z, y, l) (at_change change items (offset - size_of_item i) (q - size_of_item i) rest)
                ]
          ]
    ]

-- ---- all items of a segment

-- of two lists of storable items either is one
storable_cond : (limit : ℕ) (b : Bool) (x y : List Item) → All (IsStorable limit) x → All (IsStorable limit) y
    → All (IsStorable limit) (cond b x y)
storable_cond limit true x y p q = p
storable_cond limit false x y p q = q

-- items of which one is changed are storable, where the change leaves an item so
pub change_storable : (change : Item → Item) (limit : ℕ) (items : List Item) (offset : ℕ)
    → ((i : Item) → IsStorable limit i → IsStorable limit (change i)) → All (IsStorable limit) items
    → All (IsStorable limit) (change_at change items offset)
change_storable change limit [] offset still all = all
change_storable change limit (i ∷ items) offset still all =
    let first = All-head (IsStorable limit) i items all in
    let rest = All-tail (IsStorable limit) i items all in
    storable_cond limit (eqb offset 0) (change i ∷ items) (i ∷ change_at change items (offset - size_of_item i))
    (All-cons (IsStorable limit) (change i) items (still i first) rest)
    (All-cons (IsStorable limit) i (change_at change items (offset - size_of_item i)) first
    (change_storable change limit items (offset - size_of_item i) still rest))

-- the items' size stays
pub change_size : (change : Item → Item) (items : List Item) (offset : ℕ) → KeepsSize change (item_at items offset)
    → size_of_all (change_at change items offset) ≡ size_of_all items
change_size change [] offset k = refl
change_size change (i ∷ items) offset k =
    elim (cases_eq offset 0) [
      | inl e ↦
          let z = eq-eqb offset 0 e in
          let sized = first_sized change i items offset e k in
          rw z (sum_by-cons size_of_item (change i) items ∙ ap (λ n. n + size_of_all items) sized
          ∙ sym (sum_by-cons size_of_item i items))
      | inr e ↦
          let z = ne_eqb offset 0 e in
          elim (cases_lt offset (size_of_item i)) [
            | inl lt ↦ absurd (none-some k.item (sym (at_within i items offset e lt) ∙ k.is))
            | inr ge ↦
                let rest : KeepsSize change (item_at items (offset - size_of_item i)) =
                subst (KeepsSize change) (at_behind i items offset ge) k in
                rw z (sum_by-cons size_of_item i (change_at change items (offset - size_of_item i))
                ∙ ap (λ n. size_of_item i + n) (change_size change items (offset - size_of_item i) rest)
                ∙ sym (sum_by-cons size_of_item i items))
          ]
    ]
