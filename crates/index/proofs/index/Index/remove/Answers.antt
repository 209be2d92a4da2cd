use Rattle.std.proofs.Common.{◌≡◌, ap, ◌∙◌, length, Some, ◌<◌}
use Rattle.std.specs.Prelude.{MatchOption, IfSome}
use Rattle.std.specs.FinMap as map
use Rattle.index.specs.Keys.{KeysOf}
use Rattle.segments.specs.Pools.{key_at}
use Rattle.index.specs.Slots.{slot_at, place_of}
use Rattle.index.specs.Table.{AreIndexed, hashing, Hashing, places_in}
use Rattle.index.specs.Searches.{NoneOfPlace, IsOfPlace}
use Rattle.index.specs.BackwardShift.{IsWithout}
use Rattle.index.proofs.SlotsAsMap.{stands_from_get}
use Rattle.index.proofs.KeySlots.{no_place_found, some_found, found_is}
use Rattle.index.proofs.index.Index.remove.Goals as goal

pub unwrap-at-requires : goal.unwrap-at-requires
unwrap-at-requires c =
    let slots = c.self.inside.slots.slots in
    let key = c.args.key.now in
    let place = c.args.place in
    let keys : KeysOf = key_at c.args.pool.now in
    let h : Hashing = hashing (length slots) c.self.inside.slots.layout c.self.inside.hasher in
    let found : MatchOption c.find_place.result (NoneOfPlace slots (h.home key) place) (IsOfPlace slots place) =
    rw c.start_of-home.ensures.home at c.find_place.ensures in
    let below : h.home key < length slots = rw c.start_of-home.ensures.home at c.start_of-home.ensures.in_range in
    let index : AreIndexed h keys slots = rw (← c.self.view_is) at c.requires.index in
    let is : map.get (places_in keys slots) key ≡ Some place = rw (← c.self.view_is) at c.requires.there in
    some_found c.find_place.result (NoneOfPlace slots (h.home key) place) (IsOfPlace slots place) found
    (no_place_found h keys slots key place index below (stands_from_get keys slots key place is))

pub returns-clause-map : goal.returns-clause-map
returns-clause-map c =
    let slots = c.self.inside.slots.slots in
    let key = c.args.key.now in
    let place = c.args.place in
    let keys : KeysOf = key_at c.args.pool.now in
    let h : Hashing = hashing (length slots) c.self.inside.slots.layout c.self.inside.hasher in
    let at = c.unwrap-at.result in
    let after = c.delete.new.slots.slots in
    let of : IsOfPlace slots place at =
    found_is c.find_place.result at (NoneOfPlace slots c.start_of-home.result.home place)
    (IsOfPlace slots place) c.find_place.ensures c.unwrap-at.ensures in
    let is : map.get (places_in keys slots) key ≡ Some place = rw (← c.self.view_is) at c.requires.there in
    let has : keys (place_of (slot_at slots at)) ≡ Some key =
    ap keys of.place_is ∙ (stands_from_get keys slots key place is).key_is in
    let emptied : IfSome (keys (place_of (slot_at slots at))) (λ k. IsWithout h keys slots after k) =
    c.delete.ensures.without in
    let without : IsWithout h keys slots after key = rw has at emptied in
    let len : length after ≡ length slots = c.delete.ensures.count in
    rw (← c.self.view_is) record {
      index = rw (len, c.delete.ensures.layout) without.indexed;
      places_are = without.places_are;
    }
