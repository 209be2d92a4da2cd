use Rattle.std.proofs.Common.{◌≡◌, ap, ◌∙◌, length, Some, ◌<◌}
use Rattle.std.specs.Prelude.{IfSome}
use Rattle.std.specs.FinMap as map
use Rattle.index.specs.Keys.{KeysOf}
use Rattle.segments.specs.Pools.{key_at}
use Rattle.index.specs.Slots.{slot_at, place_of}
use Rattle.index.specs.Table.{AreIndexed, hashing, Hashing, places_in}
use Rattle.index.specs.Searches.{NoneOfPlace, IsOfPlace}
use Rattle.index.specs.BackwardShift.{IsWithout}
use Rattle.index.proofs.SlotsAsMap.{get_from_stands, stands_once, Stands}
use Rattle.index.proofs.KeySlots.{no_place_found}
use Rattle.index.proofs.RelocatedTables.{forgotten, unforgotten}
use Rattle.index.proofs.index.Index.take_out.Goals as goal

pub returns-in-Some-clause-relocated : goal.returns-in-Some-clause-relocated
returns-in-Some-clause-relocated c =
    let slots = c.self.inside.slots.slots in
    let key = c.args.key.now in
    let place = c.args.place in
    let keys : KeysOf = key_at c.args.pool.now in
    let h : Hashing = hashing (length slots) c.self.inside.slots.layout c.self.inside.hasher in
    let at = c.in-Some.at in
    let after = c.delete.new.slots.slots in
    let index : AreIndexed h keys slots = rw (← c.self.view_is) at c.requires.index in
    let of : IsOfPlace slots place at = c.in-Some.ensures in
    let has : keys (place_of (slot_at slots at)) ≡ Some key = ap keys of.place_is ∙ c.requires.key in
    let st : Stands keys slots key place =
    record { at = at; in_range = of.in_range; used = of.used; place_is = of.place_is; key_is = c.requires.key } in
    let held : map.get (places_in keys slots) key ≡ Some place = get_from_stands keys slots key place st
    (λ r. stands_once h keys slots index key place r st) in
    let emptied : IfSome (keys (place_of (slot_at slots at))) (λ k. IsWithout h keys slots after k) =
    c.delete.ensures.without in
    let without : IsWithout h keys slots after key = rw has at emptied in
    let len : length after ≡ length slots = c.delete.ensures.count in
    rw (← c.self.view_is) record {
      index = rw (len, c.delete.ensures.layout) without.indexed;
      places = λ q. rw without.places_are (forgotten keys slots key place c.requires.key held q);
    }

pub returns-in_default-clause-relocated : goal.returns-in_default-clause-relocated
returns-in_default-clause-relocated c =
    let slots = c.self.inside.slots.slots in
    let key = c.args.key.now in
    let place = c.args.place in
    let keys : KeysOf = key_at c.args.pool.now in
    let h : Hashing = hashing (length slots) c.self.inside.slots.layout c.self.inside.hasher in
    let none : NoneOfPlace slots (h.home key) place = rw c.start_of-home.ensures.home at c.in_default.ensures in
    let below : h.home key < length slots = rw c.start_of-home.ensures.home at c.start_of-home.ensures.in_range in
    let index : AreIndexed h keys slots = rw (← c.self.view_is) at c.requires.index in
    rw (← c.self.view_is) record {
      index = index;
      places = λ q. unforgotten keys slots key place c.requires.key
          (λ st. no_place_found h keys slots key place index below st none) q;
    }
