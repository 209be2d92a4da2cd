use Rattle.std.proofs.Common.{drop}
use Rattle.segments.specs.Inside.{shown_segments}
use Rattle.segments.proofs.BehindLemmas.{IsWalking}
use Rattle.segments.proofs.merge.find_end.Given as goal

abbrev pub invariant-loop-number : goal.invariant-loop-number
invariant-loop-number l =
    IsWalking (shown_segments l.segments) l.bucket l.order (drop l.number-index l.order) l.last
