use Rattle.std.proofs.Common.{◌≡◌}
use Rattle.proto.proofs.stats.StatsText.with_gauges.Given as goal

abbrev pub invariant-loop-gauge : goal.invariant-loop-gauge
invariant-loop-gauge l = l.text ≡ l.fn.self
