use Rattle.std.proofs.Common.{◌≡◌, ◌<◌, ℕ, Option, Some, None, sym, ap, subst, ◌∙◌, arith, refl}
use Rattle.std.specs.Prelude.{IsSome}
use Rattle.proto.specs.Sizes.{Sizes}
use Rattle.segments.specs.Pools.{Used, PoolState, IsPool, segment_at}
use Rattle.segments.proofs.LinkLemmas.{some_within}
use Rattle.segments.specs.Marks.{Marks, KnowsPool, without_marks}
use Rattle.segments.proofs.MarkedPlaces.{knows_cleared}
use Rattle.store_tests.proofs.pool.stock.Stock.clear_oldest.Goals as goal

some_used : (o : Option Used) → IsSome o → (u : Used) × (o ≡ Some u)
some_used None h = cc
some_used (Some u) h = (u, refl)

within : (t : Marks) (p : PoolState) (n : ℕ) → KnowsPool t p → IsSome (segment_at p n) → n < t.sizes.segments
within t p n known h =
    let u = some_used (segment_at p n) h in
    let lt = some_within p.segments n u.0 u.1 in
    let count = known.pool.count in
    let same = ap (λ (g : Sizes). g.segments) known.sizes in
    omega arith

pub clear_segment-requires : goal.clear_segment-requires
clear_segment-requires c =
    let s = c.args.self.now in
    within s.marks s.pool c.in_ok-segment.segment s.known c.in_ok-segment.ensures.in_chain

pub invariant_of-self : goal.invariant_of-self
invariant_of-self c =
    let s = c.args.self.now in
    let n = c.in_ok-segment.segment in
    let some = c.in_ok-segment.ensures.in_chain in
    let e = c.clear.ensures.cleared in
    record {
      sizes = ap (λ p. p.sizes) e ∙ s.sizes;
      known = subst (λ t. KnowsPool t c.clear.new.self) (sym c.clear_segment.ensures)
          (subst (KnowsPool (without_marks s.marks n)) (sym e)
          (knows_cleared s.marks s.pool n s.known (subst IsPool e c.clear.ensures.pool) some
          (within s.marks s.pool n s.known some)));
    }
