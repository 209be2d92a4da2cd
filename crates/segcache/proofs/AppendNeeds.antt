-- What index and marks need where an item is appended, and what is shown then.
use Rattle.std.proofs.Common.{◌≡◌, ℕ, ◌+◌, ◌*◌, ◌/◌, ◌≤◌, Option, Some, refl, sym, ap, subst, ◌∙◌, inl, inr}
use Rattle.std.specs.FinMap as finite
use Rattle.std.proofs.lemmas.Bool.{cases_Bool}
use Rattle.std.proofs.lemmas.Option.{none-some}
use Rattle.proto.specs.Sizes.{Sizes}
use Rattle.segments.specs.declared.place.Place.{Place}
use Rattle.segments.specs.Items.{Item}
use Rattle.segments.specs.Pools.{PoolState, IsPool, item_in}
use Rattle.segments.specs.Places.{same_place, IsAppended}
use Rattle.segments.proofs.MovedPlaces.{same_place_is, same_place_itself}
use Rattle.segments.specs.Marks.{Marks}
use Rattle.segments.specs.Pools.{key_at}
use Rattle.index.specs.Slots.{used_in}
use Rattle.index.specs.Table.{Table, Places, IsIndex, IsMap, places, place_at}
use Rattle.segcache.specs.Shown.{current}
use Rattle.segcache.specs.Invariants.{IsTied}
use Rattle.segcache.proofs.TiedParts.{current_item, held_place, same_current}
use Rattle.segcache.proofs.PlaceCounts.{slot_to_spare}
use Rattle.index.proofs.PoolKeys.{item_key}

-- an item that was appended stands at its place
pub appended_here : (p after : PoolState) (bucket t : ℕ) (i : Item) (place : Place)
    → IsAppended p bucket t i after place → item_in after place ≡ Some i
appended_here p after bucket t i place a = a.items place ∙ (let s = same_place_itself place in rw s refl)

-- another item stays where it stood
pub appended_other : (p after : PoolState) (bucket t : ℕ) (i j : Item) (place r : Place)
    → IsAppended p bucket t i after place
    → item_in p r ≡ Some j → item_in after r ≡ Some j
appended_other p after bucket t i j place r a e =
    elim (cases_Bool (same_place r place)) [
      | inl y ↦ absurd (none-some j (sym a.fresh ∙ ap (item_in p) (sym (same_place_is r place y)) ∙ e))
      | inr n ↦ a.items r ∙ rw n e
    ]

-- after an append an index that stayed is right for the new pool, and its current places are the
-- same
pub appended_current : (p after : PoolState) (bucket t : ℕ) (i : Item) (place : Place) (index : Table)
    → IsIndex (key_at p) index
    → IsAppended p bucket t i after place
    → IsMap (key_at after) index (current p index)
appended_current p after bucket t i place index indexed a =
    same_current p after index indexed
    (λ q r h. let x = current_item p index q r h in
    item_key after r x.0 (appended_other p after bucket t i x.0 place r a x.1) ∙ sym (item_key p r x.0 x.1))

-- after an append the index has a slot to spare: with one place more at most half of its slots are
-- used
pub appended_room : (p after : PoolState) (bucket t : ℕ) (i : Item) (place : Place) (index : Table) (marks : Marks)
    → IsTied p index marks → IsPool after → IsAppended p bucket t i after place
    → 2 * (used_in index.slots + 1) ≤ index.room
appended_room p after bucket t i place index marks tied pool a =
    slot_to_spare after index place i pool (appended_current p after bucket t i place index tied.indexed a).index
    (appended_here p after bucket t i place a)
    (λ r h. let k = held_place (key_at p) index r tied.indexed h in let x = current_item p index k.0 r k.1 in
    (x.0, appended_other p after bucket t i x.0 place r a x.1))
    (λ h. let k = held_place (key_at p) index place tied.indexed h in let x = current_item p index k.0 place k.1 in
    none-some x.0 (sym a.fresh ∙ x.1))
    (subst (λ (s : Sizes). 2 * (s.segments * (s.segment_size / 32)) ≤ index.room) (sym a.sizes) tied.roomy)

-- what `insert` says of the index, at the pool after the append
pub appended_index : (p after : PoolState) (bucket t : ℕ) (i : Item) (place : Place) (index : Table) (found : Table)
    → IsIndex (key_at p) index
    → IsAppended p bucket t i after place
    → IsMap (key_at after) found (finite.insert (places (key_at after) index) i.key place)
    → IsMap (key_at after) found (finite.insert (current p index) i.key place)
appended_index p after bucket t i place index found indexed a says =
    let m = appended_current p after bucket t i place index indexed a in
    subst (λ (n : Places). IsMap (key_at after) found (finite.insert n i.key place)) m.places_are says

-- the place that the key had
pub had_current : (p after : PoolState) (bucket t : ℕ) (i : Item) (place : Place) (index : Table)
    (source : Option Place) → IsIndex (key_at p) index
    → IsAppended p bucket t i after place → source ≡ place_at (key_at after) index i.key
    → source ≡ finite.get (current p index) i.key
had_current p after bucket t i place index source indexed a had =
    had ∙ ap (λ (n : Places). finite.get n i.key) (appended_current p after bucket t i place index indexed a).places_are
