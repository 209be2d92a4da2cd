use Rattle.std.proofs.Common.{◌<◌}
use Rattle.engine.proofs.showing.read_ahead.Given as goal

-- there is room for one more hash
abbrev pub invariant-loop : goal.invariant-loop
invariant-loop g l = l.count < 16
