use Rattle.std.proofs.Common.{length, ap, ◌∙◌}
use Rattle.std.proofs.lemmas.List.{length-set}
use Rattle.segments.proofs.PoolLemmas.{pool_kept}
use Rattle.segments.proofs.pool.Pool.count_hit.Goals as goal

pub invariant_of-self : goal.invariant_of-self
invariant_of-self c =
    let i = c.self.invariant in
    record {
      geometry = i.geometry;
      count = i.count;
      kept = i.kept;
      linked = i.linked;
      cursor = i.cursor;
      hit_count = ap (λ h. length h.counts) c.count.ensures
          ∙ length-set c.self.inside.hits.counts c.args.segment _ ∙ i.hit_count;
      order_room = i.order_room;
      free_room = i.free_room;
      merge_room = i.merge_room;
      sound = λ b h.
          (let s = i.sound b h in
          record {
            in_range = s.in_range;
            qualifying = s.qualifying;
            merged_are = s.merged_are;
            sources = s.sources;
            fits = s.fits;
          });
    }

pub returns-clause-pool : goal.returns-clause-pool
returns-clause-pool c = pool_kept _ (invariant_of-self c)
