use Rattle.std.proofs.Common.{◌≡◌}
use Rattle.refused_growth.proofs.pools.are_free.Given as goal

abbrev pub invariant-loop-bucket : goal.invariant-loop-bucket
invariant-loop-bucket l = l.pool.sizes ≡ l.geometry
