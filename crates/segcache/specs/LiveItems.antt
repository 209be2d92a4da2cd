-- Which items are live.
use Rattle.std.specs.Prelude.{ℕ, Bool, List, ◌&&◌, not, bytes_eq}
use Rattle.proto.specs.Cache.{has_arrived}
use Rattle.segments.specs.Pools.{PoolState, Liveness, has_live}
use Rattle.segments.specs.Marks.{Marks, is_marked}

-- the items that are live at the moment t: those that are marked and whose deadline hasn't come
abbrev pub live_marks : Marks → ℕ → Liveness
live_marks marks t place i deadline = is_marked marks place && not (has_arrived deadline t)

-- whether a segment has none
abbrev pub is_dead : Marks → PoolState → ℕ → ℕ → Bool
is_dead marks p t n = not (has_live (live_marks marks t) p n)

-- of these the ones of other keys than one that is written
abbrev pub live_others : List ℕ → Marks → ℕ → Liveness
live_others key marks t place i deadline = live_marks marks t place i deadline && not (bytes_eq i.key key)
