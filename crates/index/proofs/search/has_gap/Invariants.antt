use Rattle.std.proofs.Common.{◌≤◌}
use Rattle.index.proofs.search.has_gap.Given as goal

abbrev pub invariant-loop-at : goal.invariant-loop-at
invariant-loop-at l = l.at ≤ l.to

abbrev pub decreases-loop-at : goal.decreases-loop-at
decreases-loop-at l = l.at
