use Rattle.std.proofs.Common.{◌≡◌, ap, List, length, Some, refl, ◌<◌}
use Rattle.std.specs.Prelude.{slice_set, MatchOption}
use Rattle.std.specs.FinMap as map
use Rattle.std.proofs.lemmas.List.{length-set}
use Rattle.index.specs.declared.slots.Slot.{Slot}
use Rattle.index.specs.Keys.{hash_of, KeysOf}
use Rattle.index.specs.Slots.{slot_with, slot_at, place_of}
use Rattle.index.specs.Table.{AreIndexed, hashing, Hashing, places_in}
use Rattle.index.specs.Searches.{NoneOfPlace, IsOfPlace}
use Rattle.index.proofs.SlotsAsMap.{stands_from_get}
use Rattle.std.proofs.Common.{sym}
use Rattle.index.specs.Table.{Table}
use Rattle.index.proofs.PackedSlots.{some_tag}
use Rattle.index.proofs.KeySlots.{can_replace, put_indexed, put_places, set_at, no_place_found, slot_of_key, some_found, found_is}
use Rattle.index.proofs.index.Index.replace.Goals as goal

pub unwrap-at-requires : goal.unwrap-at-requires
unwrap-at-requires c =
    let slots = c.self.inside.slots.slots in
    let key = c.args.key.now in
    let source = c.args.source in
    let h : Hashing = hashing (length slots) c.self.inside.slots.layout c.self.inside.hasher in
    let found : MatchOption c.find_place.result (NoneOfPlace slots (h.home key) source) (IsOfPlace slots source) =
    rw c.start_of-home.ensures.home at c.find_place.ensures in
    let below : h.home key < length slots = rw c.start_of-home.ensures.home at c.start_of-home.ensures.in_range in
    let keys : KeysOf = c.requires.there.0 in
    let index : AreIndexed h keys slots = rw (← c.self.view_is) at c.requires.there.1 in
    let is : map.get (places_in keys slots) key ≡ Some source = rw (← c.self.view_is) at c.requires.there.2 in
    some_found c.find_place.result (NoneOfPlace slots (h.home key) source) (IsOfPlace slots source) found
    (no_place_found h keys slots key source index below (stands_from_get keys slots key source is))

pub returns-clause-map : goal.returns-clause-map
returns-clause-map c =
    let slots = c.self.inside.slots.slots in
    let hasher = c.self.inside.hasher in
    let key = c.args.key.now in
    let source = c.args.source in
    let target = c.args.target in
    let h : Hashing = hashing (length slots) c.self.inside.slots.layout hasher in
    let at = c.unwrap-at.result in
    let of : IsOfPlace slots source at =
    found_is c.find_place.result at (NoneOfPlace slots c.start_of-home.result.home source)
    (IsOfPlace slots source) c.find_place.ensures c.unwrap-at.ensures in
    rw (← c.self.view_is) (λ before after index is key_is agree.
    let slot = slot_of_key h before slots at key source is of in
    let slot_is : slot_with c.start_of-home.result.tag target ≡ slot_with (h.tag key) target = ap (λ t. slot_with t target) c.start_of-home.ensures.tag in
    let can = can_replace h before after slots at key source target index slot
    (some_tag c.self.inside.slots.layout (hash_of hasher key)) key_is
    (λ i r u other. agree (place_of (slot_at slots i)) record { at = i; in_range = r; used = u; place_is = refl }
    other) in
    let set = set_at slots at (slot_with (h.tag key) target) of.in_range in
    let new : List Slot = slice_set slots at (slot_with (h.tag key) target) in
    let same : length new ≡ length slots = length-set slots at (slot_with (h.tag key) target) in
    rw (c.set.ensures, slot_is) record {
      index = rw same (put_indexed h before after slots new at key target can set);
      places_are = put_places h before after slots new at key target can set;
    })

pub set-requires-clause-slot : goal.set-requires-clause-slot
set-requires-clause-slot c =
    let view : c.args.self.now.layout ≡ c.self.inside.slots.layout = sym (ap (λ (t : Table). t.layout) c.self.view_is) in
    c.start_of-home.ensures.fits c.args.target (rw view at c.requires.target)
