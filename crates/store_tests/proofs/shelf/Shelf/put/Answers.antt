use Rattle.std.proofs.Common.{rules, ◌≡◌, ◌+◌, ◌≤◌, sym, ap, subst, arith}
use Rattle.segments.specs.Pools.{PoolState}
use Rattle.segments.proofs.Places.{appended}
use Rattle.index.specs.Keys.{KeysOf, IsKeyAdded}
use Rattle.segments.specs.Pools.{key_at}
use Rattle.index.specs.Sizing.{most_items}
use Rattle.index.specs.Slots.{used_in}
use Rattle.index.specs.Table.{Table, IsIndex, IsMap, places}
use Rattle.index.proofs.KeptKeys.{keys_agree, held_key}
use Rattle.index.proofs.PoolKeys.{key_added}
use Rattle.index.proofs.PoolPlaces.{room_for_one}
use Rattle.index.proofs.PlacesInLayout.{appended_in_layout}
use Rattle.store_tests.proofs.shelf.Shelf.put.Goals as goal

pub find-found-requires : goal.find-found-requires
find-found-requires c =
    let pool = c.self.inside.pool in
    let before : KeysOf = key_at pool in
    let t : Table = c.self.inside.index in
    let added : IsKeyAdded pool c.append.new.self c.in-Ok.place c.args.key.now =
    key_added pool c.append.new.self _ _ _ c.in-Ok.place c.geometry.ensures.pool c.in-Ok.ensures.appended in
    (keys_agree before (key_at c.append.new.self) t c.self.invariant.0
    (λ p h. added.kept p (held_key before t c.self.invariant.0 p h))).index

pub insert-requires : goal.insert-requires
insert-requires c =
    let pool = c.self.inside.pool in
    let before : KeysOf = key_at pool in
    let after : KeysOf = key_at c.append.new.self in
    let t : Table = c.self.inside.index in
    let place = c.in-Ok.place in
    let stands = appended pool _ _ _ c.append.new.self place c.geometry.ensures.pool c.in-Ok.ensures.appended in
    let added : IsKeyAdded pool c.append.new.self place c.args.key.now =
    key_added pool c.append.new.self _ _ _ place c.geometry.ensures.pool c.in-Ok.ensures.appended in
    let same : IsMap after t (places before t) = keys_agree before after t c.self.invariant.0
    (λ p h. added.kept p (held_key before t c.self.invariant.0 p h)) in
    let few : used_in t.slots + 1 ≤ most_items pool.sizes =
    room_for_one pool c.append.new.self _ _ _ place t c.append.ensures.pool stands c.self.invariant.0 in
    let sizes : most_items pool.sizes ≡ most_items c.self.inside.geometry = ap most_items c.self.invariant.1 in
    let room = c.self.invariant.2 in
    record {
      index = same.index;
      found = search rules;
      key = added.new;
      place = appended_in_layout pool c.append.new.self _ _ _ place c.self.inside.index.layout c.append.ensures.pool stands
          (rw c.self.invariant.1 c.self.invariant.3);
      room = omega (arith, few, sizes, room);
    }

pub invariant_of-self : goal.invariant_of-self
invariant_of-self c =
    let e = sym c.in_default.ensures.appended.1 in (
      subst (λ (p : PoolState). IsIndex (key_at p) c.self.inside.index) e c.self.invariant.0,
      subst (λ (p : PoolState). p.sizes ≡ c.self.inside.geometry) e c.self.invariant.1,
      c.self.invariant.2,
      c.self.invariant.3,
    )
