-- Slots kept in one of two lists of numbers.
use Rattle.std.proofs.Common.{◌≡◌, ℕ, true, false, List, [], ◌∷◌, ◌++◌, refl, ap, ◌∙◌}
use Rattle.std.specs.Prelude.{nat_le, map, slice_set}
use Rattle.std.proofs.lemmas.List.{map-set, map-append}
use Rattle.index.specs.declared.slots.Slot.{Slot}
use Rattle.index.specs.declared.layout.Layout.{Layout}
use Rattle.index.specs.Slots.{empty_slot}
use Rattle.index.specs.Layouts.{slot_array_of, slot_of}

-- a number written into the list that is used
pub narrow_set : (l : Layout) (narrow wide : List ℕ) (a b i w : ℕ) → nat_le l.place_bits 32 ≡ true
    → slot_array_of l (slice_set narrow i w) wide a b
    ≡ record (slot_array_of l narrow wide a b) { slots = slice_set (slot_array_of l narrow wide a b).slots i (slot_of l w) }
narrow_set l narrow wide a b i w e =
    rw e (ap (λ (s : List Slot). record { slots = s; layout = l; room = a }) (map-set (slot_of l) narrow i w))

-- likewise where the list of the wide numbers is the one that is used
pub wide_set : (l : Layout) (narrow wide : List ℕ) (a b i w : ℕ) → nat_le l.place_bits 32 ≡ false
    → slot_array_of l narrow (slice_set wide i w) a b
    ≡ record (slot_array_of l narrow wide a b) { slots = slice_set (slot_array_of l narrow wide a b).slots i (slot_of l w) }
wide_set l narrow wide a b i w e =
    rw e (ap (λ (s : List Slot). record { slots = s; layout = l; room = b }) (map-set (slot_of l) wide i w))

-- the number 0 is an empty slot
pub zero_empty : (l : Layout) → slot_of l 0 ≡ empty_slot
unfolding slot_of
zero_empty l = refl

-- a 0 after the numbers is an empty slot after the slots
pub zero_behind : (l : Layout) (packed : List ℕ) → map (slot_of l) (packed ++ 0 ∷ []) ≡ map (slot_of l) packed ++ empty_slot ∷ []
zero_behind l packed = map-append (slot_of l) packed (0 ∷ []) ∙ ap (λ (s : Slot). map (slot_of l) packed ++ s ∷ []) (zero_empty l)

-- one empty slot more in the list that is used
pub narrow_push : (l : Layout) (narrow wide : List ℕ) (a b : ℕ) → nat_le l.place_bits 32 ≡ true
    → slot_array_of l (narrow ++ 0 ∷ []) wide a b
    ≡ record (slot_array_of l narrow wide a b) { slots = (slot_array_of l narrow wide a b).slots ++ empty_slot ∷ [] }
narrow_push l narrow wide a b e =
    rw e (ap (λ (s : List Slot). record { slots = s; layout = l; room = a }) (zero_behind l narrow))

-- likewise where that is the one of the wide numbers
pub wide_push : (l : Layout) (narrow wide : List ℕ) (a b : ℕ) → nat_le l.place_bits 32 ≡ false
    → slot_array_of l narrow (wide ++ 0 ∷ []) a b
    ≡ record (slot_array_of l narrow wide a b) { slots = (slot_array_of l narrow wide a b).slots ++ empty_slot ∷ [] }
wide_push l narrow wide a b e =
    rw e (ap (λ (s : List Slot). record { slots = s; layout = l; room = b }) (zero_behind l wide))
