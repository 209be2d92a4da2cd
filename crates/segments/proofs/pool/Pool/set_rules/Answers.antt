use Rattle.std.proofs.lemmas.Option.{none-some}
use Rattle.segments.proofs.PoolLemmas.{pool_kept}
use Rattle.segments.proofs.pool.Pool.set_rules.Goals as goal

pub invariant_of-self : goal.invariant_of-self
invariant_of-self c =
    let i = c.self.invariant in
    record {
      geometry = i.geometry;
      count = i.count;
      kept = i.kept;
      linked = i.linked;
      cursor = i.cursor;
      hit_count = i.hit_count;
      order_room = i.order_room;
      free_room = i.free_room;
      merge_room = i.merge_room;
      sound = λ b h. absurd (none-some b h);
    }

pub returns-clause-pool : goal.returns-clause-pool
returns-clause-pool c = pool_kept _ (invariant_of-self c)
