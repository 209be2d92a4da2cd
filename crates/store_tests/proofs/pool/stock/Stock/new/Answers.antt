use Rattle.std.proofs.Common.{◌≡◌, sym, ap, subst, ◌∙◌}
use Rattle.segments.specs.Changes.{new_pool}
use Rattle.segments.specs.Marks.{KnowsPool, no_marks}
use Rattle.segments.proofs.MarkedPlaces.{knows_none}
use Rattle.store_tests.proofs.pool.stock.Stock.new.Goals as goal

pub invariant_of-result : goal.invariant_of-result
unfolding new_pool
invariant_of-result c =
    let p = c.in_ok-pool.pool in
    let sizes : p.sizes ≡ c.in_ok-geometry.geometry = ap (λ q. q.sizes) c.in_ok-pool.ensures.empty in
    record {
      sizes = sizes;
      known = subst (λ t. KnowsPool t p) (ap no_marks sizes ∙ sym c.in_ok-new.ensures)
          (knows_none p c.in_ok-pool.ensures.pool);
    }
