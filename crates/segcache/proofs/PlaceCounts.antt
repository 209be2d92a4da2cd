-- How many places of items a pool has, and that the index has a slot for one more item where one
-- was appended.
use Rattle.std.proofs.Common.{◌≡◌, ℕ, zero, suc, ◌+◌, ◌*◌, ◌/◌, ◌<◌, ◌≤◌, List, [], ◌∷◌, ◌++◌, length, get_or, map}
use Rattle.std.proofs.Common.{Some, sym, ap, subst, ◌∙◌, inl, inr, arith, length-append}
use Rattle.std.specs.Prelude.{Contains}
use Rattle.std.specs.List.{remove}
use Rattle.std.proofs.lemmas.Bool.{cases_eq}
use Rattle.std.proofs.lemmas.List.{length-map, get_or_default}
use Rattle.std.proofs.lemmas.List.Edits.{length-remove}
use Rattle.std.proofs.lemmas.List.Elements.{Contains-append_left, Contains-append_right}
use Rattle.std.proofs.lemmas.Grind.{in_remove}
use Rattle.segments.specs.declared.place.Place.{Place}
use Rattle.segments.specs.Items.{Item}
use Rattle.segments.specs.Pools.{PoolState, IsPool, Standing, item_in, items_of, segment_at, standing}
use Rattle.segments.proofs.Places.{standing_by, pool_items_few, mark_within}
use Rattle.segments.proofs.MergeLemmas.{length_standing}
use Rattle.segments.specs.Pools.{key_at}
use Rattle.index.specs.Slots.{used_in}
use Rattle.index.specs.Table.{Table, IsIndex, HasPlace}
use Rattle.index.proofs.UsedSlots.{few_used}

-- the place at which an item stands
abbrev place_in : Standing → Place
place_in s = s.place

-- the places of items in the segments below a number
pub places_below : PoolState → ℕ → List Place
places_below p zero = []
places_below p (suc n) = map place_in (standing p n) ++ places_below p n

-- in the segments below a number there are at most as many places of items as these segments have
-- whole 32 bytes
pub few_places : (p : PoolState) (n : ℕ) → IsPool p → length (places_below p n) ≤ n * (p.sizes.segment_size / 32)
unfolding places_below
few_places p zero k = omega arith
few_places p (suc n) k =
    let split = length-append (map place_in (standing p n)) (places_below p n) in
    let long = length-map (standing p n) place_in in
    let all = length_standing n 0 (items_of (segment_at p n)) in
    let few = pool_items_few p n k in
    let rest = few_places p n k in
    omega (arith, split, long, all, few, rest)

-- a place where an item stands is one of them
mapped : (xs : List Standing) (k : ℕ) (r : Place) (d : Standing) → k < length xs → (get_or xs k d).place ≡ r
    → Contains (map place_in xs) r
mapped [] k r d lt e = absurd (omega (arith, lt))
mapped (x ∷ xs) zero r d lt e = (0, omega arith, e)
mapped (x ∷ xs) (suc k) r d lt e =
    let rest = mapped xs k r d (omega (arith, lt)) e in
    let l = rest.1 in
    (suc rest.0, omega (arith, l), rest.2)

-- the place of an item in a segment below a number is one of the places of items there
pub in_places : (p : PoolState) (n : ℕ) (r : Place) (i : Item) → item_in p r ≡ Some i → r.segment < n
    → Contains (places_below p n) r
unfolding places_below
in_places p zero r i e lt = absurd (omega (arith, lt))
in_places p (suc n) r i e lt =
    elim (cases_eq r.segment n) [
      | inl same ↦
          let w = standing_by r.segment 0 (items_of (segment_at p r.segment)) r.offset i e in
          let zero_plus : 0 + r.offset ≡ r.offset = omega arith in
          let d : Standing = record { place = record { segment = r.segment; offset = 0 }; item = i } in
          let there : (get_or (standing p r.segment) w.0 d).place ≡ r = ap place_in w.2
          ∙ ap (λ (x : ℕ). record { segment = r.segment; offset = x }) zero_plus in
          Contains-append_left (map place_in (standing p n)) (places_below p n) r
          (subst (λ (m : ℕ). Contains (map place_in (standing p m)) r) same
          (mapped (standing p r.segment) w.0 r d w.1 there))
      | inr other ↦ Contains-append_right (map place_in (standing p n)) (places_below p n) r
          (in_places p n r i e (omega (arith, lt, other)))
    ]

-- two places that a list has at the same number are equal
at_same : (all : List Place) (i j : ℕ) (a b : Place) → i ≡ j → j < length all → get_or all j b ≡ b
    → get_or all i a ≡ a → a ≡ b
at_same all i j a b same lt e f = sym f ∙ ap (λ (k : ℕ). get_or all k a) same ∙ get_or_default all j a b lt ∙ e

-- One more item stands than the index has: it has a slot to spare.
pub slot_to_spare : (p : PoolState) (index : Table) (place : Place) (i : Item) → IsPool p → IsIndex (key_at p) index
    → item_in p place ≡ Some i
    → ((r : Place) → HasPlace index r → (j : Item) × (item_in p r ≡ Some j)) → (HasPlace index place → ⊥)
    → 2 * (p.sizes.segments * (p.sizes.segment_size / 32)) ≤ index.room
    → 2 * (used_in index.slots + 1) ≤ index.room
slot_to_spare p index place i pool indexed here held fresh roomy =
    let all = places_below p p.sizes.segments in
    let few = few_places p p.sizes.segments pool in
    let at = in_places p p.sizes.segments place i here (mark_within p place i pool here).0 in
    let rest : List Place = remove all at.0 in
    let shorter = length-remove all at.0 at.1 in
    let used : used_in index.slots ≤ length rest =
    few_used (key_at p) index rest indexed (λ r h.
    let j = held r h in
    let k = in_places p p.sizes.segments r j.0 j.1 (mark_within p r j.0 pool j.1).0 in
    (in_remove all at.0 k.0 r at.1 k.1 (sym k.2)
    (λ same. fresh (subst (HasPlace index) (at_same all k.0 at.0 r place same at.1 at.2 k.2) h))).1) in
    let some = at.1 in
    omega (arith, used, shorter, few, some, roomy)
