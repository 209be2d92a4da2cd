use Rattle.std.proofs.Common.{◌≤◌, ◌-◌}
use Rattle.index.proofs.layout.bits_for.Given as goal

abbrev pub invariant-loop-bits : goal.invariant-loop-bits
invariant-loop-bits l = record { least : 1 ≤ l.bits; most : l.bits ≤ l.most }

abbrev pub decreases-loop-bits : goal.decreases-loop-bits
decreases-loop-bits l = l.most - l.bits
