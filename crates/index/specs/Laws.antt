-- Laws of the index that a store needs.
use Rattle.std.specs.Prelude.{◌≡◌, ◌≤◌, List, length, Contains}
use Rattle.segments.specs.declared.place.Place.{Place}
use Rattle.segments.specs.Pools.{PoolState, Plan, IsPool, Liveness}
use Rattle.segments.specs.Merges.{IsPlan, with_merge_planned, carried_out}
use Rattle.index.specs.Keys.{KeysOf}
use Rattle.segments.specs.Pools.{key_at}
use Rattle.index.specs.Relocating.{CanRelocate, HoldsLive, keys_after_merge}
use Rattle.index.specs.Layouts.{IsLayoutOf}
use Rattle.index.specs.Slots.{used_in}
use Rattle.index.specs.Table.{Table, IsIndex, HasPlace, IsMap, places}

-- where the places in the table keep their keys, the table stays an index of the same map
abbrev pub KeysMayChangeElsewhere : Type 0
KeysMayChangeElsewhere =
    (before after : KeysOf) (t : Table) → IsIndex before t → ((p : Place) → HasPlace t p → after p ≡ before p)
    → IsMap after t (places before t)

-- of the places that there are, each is in one slot at most
abbrev pub EachPlaceOnce : Type 0
EachPlaceOnce =
    (keys : KeysOf) (t : Table) (all : List Place) → IsIndex keys t → ((p : Place) → HasPlace t p → Contains all p)
    → used_in t.slots ≤ length all

-- a table of the live items' places can be relocated by the merge that was planned for them
abbrev pub PlansCanRelocate : Type 0
PlansCanRelocate =
    (lives : Liveness) (p : PoolState) (plan : Plan) (t : Table) → IsPool p → IsPlan lives p plan
    → IsPool (carried_out (with_merge_planned p plan) plan)
    → IsLayoutOf p.sizes t.layout → IsIndex (key_at p) t → HoldsLive lives p t
    → CanRelocate (key_at (with_merge_planned p plan)) (keys_after_merge (with_merge_planned p plan)) t plan.moves
