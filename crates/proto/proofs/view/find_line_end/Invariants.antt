use Rattle.std.proofs.Common.{◌-◌, ◌≤◌, length}
use Rattle.memchr.specs.Find.{Nowhere, OccursAt}
use Rattle.proto.specs.Lines.{line_end}
use Rattle.proto.proofs.view.find_line_end.Given as goal

-- no line end begins among the bytes so far
abbrev pub invariant-loop-i : goal.invariant-loop-i
invariant-loop-i l = record {
  within : l.from ≤ length l.bytes;
  before : Nowhere (OccursAt l.bytes line_end) 0 l.from;
}

abbrev pub decreases-loop-i : goal.decreases-loop-i
decreases-loop-i l = length l.bytes - l.from
