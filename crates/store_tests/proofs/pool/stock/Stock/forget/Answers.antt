use Rattle.std.proofs.Common.{◌≡◌, ◌<◌, ◌/◌, sym, ap, subst, ◌∙◌}
use Rattle.proto.specs.Sizes.{Sizes}
use Rattle.segments.specs.Marks.{KnowsPool}
use Rattle.segments.proofs.MarkedPlaces.{knows_unmark}
use Rattle.store_tests.proofs.pool.stock.Stock.forget.Goals as goal

pub invariant_of-self : goal.invariant_of-self
invariant_of-self c =
    let s = c.args.self.now in
    let place = c.args.place in
    let sizes : s.marks.sizes ≡ s.geometry = s.known.sizes ∙ s.sizes in
    let segments : s.geometry.segments ≡ s.marks.sizes.segments = ap (λ (g : Sizes). g.segments) (sym sizes) in
    let size : s.geometry.segment_size ≡ s.marks.sizes.segment_size = ap (λ (g : Sizes). g.segment_size) (sym sizes) in
    let in_range : place.segment < s.marks.sizes.segments =
    subst (λ n. place.segment < n) (c.segments.ensures.value ∙ segments) c.if-place-segments.true in
    let below : place.offset / 32 < s.marks.sizes.segment_size / 32 = subst (λ n. place.offset / 32 < n / 32)
    (c.segment_size-marks.ensures.value ∙ size) c.if-place-marks.true in
    record {
      sizes = s.sizes;
      known = subst (λ t. KnowsPool t s.pool) (sym c.unmark.ensures)
          (knows_unmark s.marks s.pool place s.known record { segment = in_range; offset = below });
    }
