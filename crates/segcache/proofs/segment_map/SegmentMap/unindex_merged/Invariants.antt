use Rattle.std.proofs.Common.{◌≡◌, take}
use Rattle.segments.specs.Merges.{contains_number, planned_segments}
use Rattle.segcache.specs.Removals.{HaveExpiredLeft}
use Rattle.segcache.specs.Shown.{current}
use Rattle.segcache.specs.State.{IsSegmentedMap}
use Rattle.segcache.proofs.segment_map.SegmentMap.unindex_merged.Given as goal

abbrev pub invariant-loop-k : goal.invariant-loop-k
invariant-loop-k l = record {
  kept : IsSegmentedMap l.fn.self;
  now : IsSegmentedMap l.self;
  pool : l.self.pool ≡ l.fn.self.pool;
  moment : l.self.moment ≡ l.fn.self.moment;
  left : HaveExpiredLeft l.fn.self.pool l.fn.self.moment (contains_number (take l.k (planned_segments l.fn.self.pool)))
      (current l.fn.self.pool l.fn.self.index) (current l.fn.self.pool l.self.index);
}
