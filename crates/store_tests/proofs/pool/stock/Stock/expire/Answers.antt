use Rattle.std.proofs.Common.{◌≡◌, ◌<◌, sym, ap, subst, ◌∙◌, arith}
use Rattle.proto.specs.Sizes.{Sizes}
use Rattle.segments.specs.Marks.{KnowsPool}
use Rattle.segments.proofs.MarkedPlaces.{knows_without}
use Rattle.store_tests.proofs.pool.stock.Stock.expire.Goals as goal

pub invariant_of-self : goal.invariant_of-self
invariant_of-self c =
    let s = c.args.self.now in
    let segments : s.geometry.segments ≡ s.marks.sizes.segments =
    ap (λ (g : Sizes). g.segments) (sym (s.known.sizes ∙ s.sizes)) in
    let count = c.segments.ensures.value in
    let within = c.if-segment-segments.false in
    let below : c.args.segment < s.marks.sizes.segments = omega arith in
    record {
      sizes = s.sizes;
      known = subst (λ t. KnowsPool t s.pool) (sym c.clear_segment.ensures)
          (knows_without s.marks s.pool c.args.segment s.known below);
    }
