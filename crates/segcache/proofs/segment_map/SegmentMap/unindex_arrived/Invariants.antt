use Rattle.std.proofs.Common.{◌≡◌, length}
use Rattle.segments.specs.Pools.{deadline_in, segment_at}
use Rattle.segcache.specs.Shown.{current}
use Rattle.segcache.proofs.LeftPlaces.{IsArriving}
use Rattle.segcache.proofs.segment_map.SegmentMap.unindex_arrived.Given as goal

-- of the map's fields, that the walk has borrowed one of, `.1.0` is the pool, `.1.1.0` the index,
-- `.1.1.1.0` the marks and `.1.1.1.1.0` the moment
abbrev pub invariant-loop-place : goal.invariant-loop-place
invariant-loop-place l = record {
  arriving : IsArriving l.initial.self-inside.1.0 l.initial.self-inside.1.1.1.1.0 l.segment
      (current l.initial.self-inside.1.0 l.initial.self-inside.1.1.0) l.self-inside.1.1.0 l.self-inside.1.1.1.0 l.walk.left;
  deadline : l.walk.deadline ≡ deadline_in (segment_at l.initial.self-inside.1.0 l.segment);
}

abbrev pub decreases-loop-place : goal.decreases-loop-place
decreases-loop-place l = length l.walk.left
