use Rattle.std.proofs.Common.{sym, ap, subst, ◌∙◌}
use Rattle.segments.specs.Pools.{IsPool}
use Rattle.segments.specs.Marks.{KnowsPool}
use Rattle.segments.specs.Items.{read_again}
use Rattle.segments.proofs.ItemChanges.{keeps_read}
use Rattle.segments.proofs.MarkedPlaces.{knows_changed}
use Rattle.store_tests.proofs.pool.stock.Stock.read.Goals as goal

pub invariant_of-self : goal.invariant_of-self
invariant_of-self c =
    let s = c.args.self.now in
    let e = c.count_read.ensures.counted in
    record {
      sizes = ap (λ p. p.sizes) e ∙ s.sizes;
      known = subst (KnowsPool s.marks) (sym e)
          (knows_changed read_again s.marks s.pool c.args.place s.known (subst IsPool e c.count_read.ensures.pool)
          (keeps_read _ (c.has_item.ensures c.if-has_item.true)));
    }
