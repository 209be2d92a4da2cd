use Rattle.std.proofs.Common.{◌∙◌}
use Rattle.store_tests.proofs.Planned.{planned_known}
use Rattle.store_tests.proofs.pool.stock.Stock.plan.Goals as goal

pub invariant_of-self : goal.invariant_of-self
invariant_of-self c =
    let s = c.args.self.now in
    let h = planned_known s.marks s.pool c.plan_merge.new.self c.plan_merge.result c.plan_merge.ensures.plan s.known
    c.plan_merge.ensures.pool in
    record { sizes = h.1 ∙ s.sizes; known = h.0 }
