use Rattle.std.proofs.Common.{sym, ◌∙◌}
use Rattle.segments.proofs.PoolLemmas.{merged_shown}
use Rattle.segments.proofs.pool.Pool.merged.Goals as goal

pub returns-then-is_some : goal.returns-then-is_some
returns-then-is_some c =
    merged_shown c.self.inside c.args.self.now c.as_slice.result.now c.self.view_is c.self.invariant
    (sym c.if-is_some.true ∙ c.is_some.ensures) c.as_slice.ensures.value
