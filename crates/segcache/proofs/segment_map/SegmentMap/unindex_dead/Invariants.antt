use Rattle.std.proofs.Common.{◌≡◌}
use Rattle.segcache.specs.LiveItems.{is_dead}
use Rattle.segcache.specs.Shown.{current}
use Rattle.segcache.specs.State.{IsSegmentedMap}
use Rattle.segcache.proofs.LeftPlaces.{IsExpiring}
use Rattle.segcache.proofs.segment_map.SegmentMap.unindex_dead.Given as goal

abbrev pub invariant-loop-segment : goal.invariant-loop-segment
invariant-loop-segment l = record {
  kept : IsSegmentedMap l.fn.self;
  pool : l.self.pool ≡ l.fn.self.pool;
  moment : l.self.moment ≡ l.fn.self.moment;
  expiring : IsExpiring l.fn.self.pool l.fn.self.moment (is_dead l.fn.self.marks l.fn.self.pool l.fn.self.moment)
      (current l.fn.self.pool l.fn.self.index) l.self.index l.self.marks l.segment;
}
