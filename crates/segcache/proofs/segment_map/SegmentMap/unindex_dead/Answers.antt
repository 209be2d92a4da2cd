use Rattle.std.proofs.Common.{◌≡◌, ℕ, sym, ap, subst, ◌∙◌}
use Rattle.std.specs.Prelude.{not, nat_lt, ◌&&◌}
use Rattle.segments.specs.Pools.{PoolState}
use Rattle.segments.specs.Marks.{Marks}
use Rattle.segments.proofs.AgreeingTests.{same_has_live}
use Rattle.index.specs.Table.{Table}
use Rattle.segcache.specs.Invariants.{IsTied}
use Rattle.segcache.specs.LiveItems.{live_marks, is_dead}
use Rattle.segcache.specs.Removals.{HaveArrivedLeft, AllWaitIn}
use Rattle.segcache.specs.Shown.{current}
use Rattle.segcache.specs.State.{MapState}
use Rattle.segcache.proofs.ForgottenKeys.{expired_agree}
use Rattle.segcache.proofs.LeftPlaces.{IsExpiring, expiring_passed, expiring_more}
use Rattle.segcache.proofs.segment_map.SegmentMap.unindex_dead.Goals as goal
use Rattle.segcache.proofs.segment_map.SegmentMap.unindex_dead.Goals.{then-is_expired, else-is_expired}

pub loop-segment-preserved : goal.loop-segment-preserved
loop-segment-preserved c =
    let s = c.args.self.now in
    let i = c.loop-segment.invariant in
    let here = c.loop-segment.self in
    let b = c.self-in-loop-segment.inside in
    let n = c.loop-segment.segment in
    let old = current s.pool s.index in
    let dead = is_dead s.marks s.pool s.moment in
    let pool : b.pool ≡ s.pool = ap (λ (m : MapState). m.pool) c.self-in-loop-segment.view_is ∙ i.pool in
    let moment : b.moment ≡ s.moment = ap (λ (m : MapState). m.moment) c.self-in-loop-segment.view_is ∙ i.moment in
    let marks : b.marks ≡ here.marks = ap (λ (m : MapState). m.marks) c.self-in-loop-segment.view_is in
    let index : b.index ≡ here.index = ap (λ (m : MapState). m.index) c.self-in-loop-segment.view_is in
    let agree = expired_agree s.pool s.index here.index s.marks here.marks s.moment (λ m. nat_lt m n && dead m)
    i.kept.tied i.expiring.tied i.expiring.left in
    let seen : is_dead b.marks b.pool b.moment n ≡ dead n =
    ap (λ (u : Marks). is_dead u b.pool b.moment n) marks ∙ ap (λ (q : PoolState). is_dead here.marks q b.moment n) pool
    ∙ ap (λ (t : ℕ). is_dead here.marks s.pool t n) moment
    ∙ ap not (same_has_live s.pool (live_marks here.marks s.moment) (live_marks s.marks s.moment) n agree) in
    let expiring : IsExpiring s.pool s.moment dead old b.index b.marks n =
    subst (λ (x : Table). IsExpiring s.pool s.moment dead old x b.marks n) (sym index)
    (subst (λ (u : Marks). IsExpiring s.pool s.moment dead old here.index u n) (sym marks) i.expiring) in
    elim c.if-is_expired.branch [
      | then-is_expired w ↦
          let new = w.unindex_arrived.new.self in
          let after : new.pool ≡ s.pool = w.unindex_arrived.ensures.same.pool ∙ pool in
          let tied : IsTied s.pool new.index new.marks =
          subst (λ (q : PoolState). IsTied q new.index new.marks) after w.unindex_arrived.ensures.same.kept.tied in
          let left : HaveArrivedLeft s.pool s.moment n (current s.pool b.index) (current s.pool new.index) =
          subst (λ (q : PoolState). HaveArrivedLeft s.pool s.moment n (current s.pool b.index) (current q new.index)) after
          (subst (λ (t : ℕ). HaveArrivedLeft s.pool t n (current s.pool b.index) (current new.pool new.index)) moment
          (subst (λ (q : PoolState). HaveArrivedLeft q b.moment n (current q b.index) (current new.pool new.index)) pool
          w.unindex_arrived.ensures.left)) in
          rw w.self-is (record {
            kept = i.kept;
            pool = after;
            moment = w.unindex_arrived.ensures.moment ∙ moment;
            expiring = expiring_more s.pool s.moment dead old b.index new.index b.marks new.marks n expiring
                tied (sym seen ∙ c.is_expired.ensures.dead w.if-is_expired.true) left;
          })
      | else-is_expired w ↦
          rw w.self-is (record {
            kept = i.kept;
            pool = pool;
            moment = moment;
            expiring = expiring_passed s.pool s.moment dead old b.index b.marks n expiring
                (λ is_so. subst (λ (q : PoolState). AllWaitIn q s.moment n) pool
                (subst (λ (t : ℕ). AllWaitIn b.pool t n) moment
                (c.is_expired.ensures.alive w.if-is_expired.false (seen ∙ is_so))));
          })
    ]
