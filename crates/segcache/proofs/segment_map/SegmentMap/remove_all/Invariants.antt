use Rattle.std.proofs.Common.{◌≡◌, ℕ, ◌<◌, false}
use Rattle.segments.specs.Marks.{KnowsPool, mark_at}
use Rattle.segcache.proofs.segment_map.SegmentMap.remove_all.Given as goal

abbrev pub invariant-loop-segment : goal.invariant-loop-segment
invariant-loop-segment l = record {
  pool : l.self-inside.pool ≡ l.initial.self-inside.pool;
  index : l.self-inside.index ≡ l.initial.self-inside.index;
  moment : l.self-inside.moment ≡ l.initial.self-inside.moment;
  known : KnowsPool l.self-inside.marks l.self-inside.pool;
  cleared : (n k : ℕ) → n < l.segment → mark_at l.self-inside.marks n k ≡ false;
}
