use Rattle.std.proofs.Common.{◌≡◌}
use Rattle.storage_thread.proofs.stats.StatsSource.text.Given as goal

abbrev pub invariant-loop-each : goal.invariant-loop-each
invariant-loop-each g l = l.text ≡ l.fn.counts
