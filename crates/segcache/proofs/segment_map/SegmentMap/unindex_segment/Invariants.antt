use Rattle.std.proofs.Common.{length}
use Rattle.segcache.specs.Shown.{current}
use Rattle.segcache.proofs.LeftPlaces.{IsLeaving}
use Rattle.segcache.proofs.segment_map.SegmentMap.unindex_segment.Given as goal

-- of the map's fields, that the walk has borrowed one of, `.1.0` is the pool, `.1.1.0` the index
-- and `.1.1.1.0` the marks
abbrev pub invariant-loop-place : goal.invariant-loop-place
invariant-loop-place l =
    IsLeaving l.initial.self-inside.1.0 l.segment
    (current l.initial.self-inside.1.0 l.initial.self-inside.1.1.0) l.self-inside.1.1.0 l.self-inside.1.1.1.0 l.walk.left

abbrev pub decreases-loop-place : goal.decreases-loop-place
decreases-loop-place l = length l.walk.left
