use Rattle.std.proofs.Common.{◌∙◌}
use Rattle.segments.proofs.MarkedPlaces.{knows_given}
use Rattle.store_tests.proofs.pool.stock.Stock.give_back.Goals as goal

pub invariant_of-self : goal.invariant_of-self
invariant_of-self c =
    let s = c.args.self.now in
    record {
      sizes = c.give_back.ensures.freed.sizes ∙ s.sizes;
      known = knows_given s.marks s.pool c.give_back.new.self s.known c.give_back.ensures.pool
          c.give_back.ensures.freed;
    }
