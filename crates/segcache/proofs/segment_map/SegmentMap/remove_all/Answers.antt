use Rattle.std.proofs.Common.{◌≡◌, ◌<◌, sym, ap, subst, ◌∙◌, inl, inr, arith, refl}
use Rattle.std.proofs.lemmas.Bool.{cases_eq, eq-eqb, ne_eqb}
use Rattle.segments.specs.Pools.{key_at}
use Rattle.segments.specs.Pools.{PoolState}
use Rattle.segments.specs.Marks.{KnowsPool, mark_at}
use Rattle.segments.proofs.MarkedPlaces.{knows_without, mark_without}
use Rattle.segcache.specs.State.{MapState}
use Rattle.segcache.proofs.LeftPlaces.{kept_same, tied_none}
use Rattle.segcache.proofs.segment_map.SegmentMap.remove_all.Goals as goal

pub loop-segment-init : goal.loop-segment-init
loop-segment-init c = record {
  pool = refl;
  index = refl;
  moment = refl;
  known = c.self.invariant.tied.known;
  cleared = λ n k lt. absurd (omega arith);
}

pub clear_segment-requires : goal.clear_segment-requires
clear_segment-requires c =
    let lt = c.loop-segment-test.true in
    let known = c.loop-segment.invariant.known in
    let s : c.segments-segment-end.result ≡ c.loop-segment.self-inside.marks.sizes.segments =
    c.segments-segment-end.ensures.value
    ∙ ap (λ z. z.segments) (c.geometry.ensures.sizes
    ∙ sym (ap (λ (p : PoolState). p.sizes) c.loop-segment.invariant.pool) ∙ sym known.sizes) in
    omega (arith, lt, s)

pub loop-segment-preserved : goal.loop-segment-preserved
loop-segment-preserved c =
    let inside = c.loop-segment.self-inside in
    let known = c.loop-segment.invariant.known in
    let lt = c.loop-segment-test.true in
    let s : c.segments-segment-end.result ≡ inside.marks.sizes.segments = c.segments-segment-end.ensures.value
    ∙ ap (λ z. z.segments) (c.geometry.ensures.sizes
    ∙ sym (ap (λ (p : PoolState). p.sizes) c.loop-segment.invariant.pool) ∙ sym known.sizes) in
    let within : c.loop-segment.segment < inside.marks.sizes.segments = omega (arith, lt, s) in
    record {
      pool = c.loop-segment.invariant.pool;
      index = c.loop-segment.invariant.index;
      moment = c.loop-segment.invariant.moment;
      known = subst (λ t. KnowsPool t inside.pool) (sym c.clear_segment.ensures)
          (knows_without inside.marks inside.pool c.loop-segment.segment known within);
      cleared = λ n k less.
          (let at = mark_without inside.marks c.loop-segment.segment n k known.sized within in
          ap (λ t. mark_at t n k) c.clear_segment.ensures ∙ at ∙
          elim (cases_eq n c.loop-segment.segment) [
            | inl e ↦ (let z = eq-eqb n c.loop-segment.segment e in rw z refl)
            | inr e ↦ (let z = ne_eqb n c.loop-segment.segment e in
                rw z (c.loop-segment.invariant.cleared n k (omega (arith, less, e))))
          ]);
    }

pub invariant_of-self : goal.invariant_of-self
invariant_of-self c =
    let a = c.self.inside in
    let i = c.loop-segment.invariant in
    let done = c.loop-segment-test.false in
    let s : c.segments-segment-end.result ≡ a.pool.sizes.segments =
    c.segments-segment-end.ensures.value ∙ ap (λ z. z.segments) c.geometry.ensures.sizes in
    kept_same a.pool c.loop-segment.self-inside.pool c.clear.new.self c.loop-segment.self-inside.index
    c.loop-segment.self-inside.marks a.moment c.loop-segment.self-inside.moment i.pool i.index i.moment
    (record {
      tied = tied_none a.pool a.index c.clear.new.self a.marks c.loop-segment.self-inside.marks c.self.invariant.tied
          (subst (λ (p : PoolState). KnowsPool c.loop-segment.self-inside.marks p) i.pool i.known)
          (c.clear.ensures.map (key_at a.pool)) c.clear.ensures.size
          (λ n k lt. i.cleared n k (omega (arith, lt, s, done)));
      past = c.self.invariant.past;
    })

pub returns-clause-left : goal.returns-clause-left
returns-clause-left c =
    let i = c.loop-segment.invariant in
    let inside = c.loop-segment.self-inside in
    rw i.index (c.clear.ensures.map (key_at inside.pool)).places_are

pub returns-clause-same : goal.returns-clause-same
returns-clause-same c =
    record {
      pool = c.loop-segment.invariant.pool ∙ ap (λ (m : MapState). m.pool) c.self.view_is;
      kept = invariant_of-self c;
    }
