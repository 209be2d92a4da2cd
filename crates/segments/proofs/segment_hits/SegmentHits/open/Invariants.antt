use Rattle.std.proofs.Common.{◌≡◌, ◌/◌, ◌++◌, map, take, drop}
use Rattle.std.specs.Prelude.{slice_set}
use Rattle.segments.proofs.segment_hits.SegmentHits.open.Given as goal

abbrev pub invariant-loop-count : goal.invariant-loop-count
invariant-loop-count l =
    l.count-items ≡ map (λ hits. hits / 2) (take l.count-index (slice_set l.fn.self.counts l.fn.segment 0))
    ++ drop l.count-index (slice_set l.fn.self.counts l.fn.segment 0)
