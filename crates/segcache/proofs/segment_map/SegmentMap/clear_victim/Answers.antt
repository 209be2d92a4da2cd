use Rattle.std.proofs.Common.{◌≡◌, ℕ, [], Option, None, sym, ap, subst, ◌∙◌}
use Rattle.std.specs.Prelude.{MatchOption}
use Rattle.segments.specs.Pools.{PoolState}
use Rattle.segments.specs.Merges.{IsVictim}
use Rattle.segments.specs.Changes.{IsPoolFull, without_segment}
use Rattle.segcache.specs.Invariants.{IsPast}
use Rattle.segcache.specs.Removals.{HasLeft, HaveArrivedLeft}
use Rattle.segcache.specs.Room.{IsCrowded}
use Rattle.segcache.specs.Shown.{current}
use Rattle.segcache.specs.State.{MapState}
use Rattle.segcache.proofs.EvictedKeys.{tied_cleared}
use Rattle.segcache.proofs.GivenBack.{some_order}
use Rattle.segcache.proofs.PlannedSegments.{asks_clear, clear_made, clear_evicted}
use Rattle.segcache.proofs.segment_map.SegmentMap.clear_victim.Goals as goal

pub invariant_of-self : goal.invariant_of-self
invariant_of-self c =
    let a = c.self.inside in
    let b = c.self-in-Some-2.inside in
    let n = c.in-Some.segment in
    let m : MapState = record { pool = a.pool; index = a.index; marks = a.marks; moment = a.moment } in
    let left = c.unindex_arrived.new.self in
    let cleared : MapState = record { pool = b.pool; index = b.index; marks = b.marks; moment = b.moment } in
    let first : left.pool ≡ a.pool =
    c.unindex_arrived.ensures.same.pool ∙ sym (ap (λ (x : MapState). x.pool) c.self.view_is) in
    let again : b.pool ≡ left.pool =
    ap (λ (x : MapState). x.pool) c.self-in-Some-2.view_is ∙ c.unindex_segment.ensures.same.pool in
    let moment : b.moment ≡ a.moment = ap (λ (x : MapState). x.moment) c.self-in-Some-2.view_is
    ∙ c.unindex_segment.ensures.moment ∙ c.unindex_arrived.ensures.moment
    ∙ sym (ap (λ (x : MapState). x.moment) c.self.view_is) in
    let arrived : HaveArrivedLeft a.pool a.moment n (current a.pool a.index) (current left.pool left.index) =
    (let h = c.unindex_arrived.ensures.left in rw (← c.self.view_is) at h) in
    let gone : HasLeft n (current left.pool left.index) (current b.pool b.index) =
    (let h = c.unindex_segment.ensures.left in rw (← c.self-in-Some-2.view_is) at h) in
    let asks = asks_clear m left cleared n c.self.invariant c.unindex_arrived.ensures.same.kept c.self-in-Some-2.invariant
    first again arrived gone in
    let is : c.clear.new.self ≡ without_segment a.pool n =
    c.clear.ensures.cleared ∙ ap (λ (q : PoolState). without_segment q n) (again ∙ first) in
    let crowded : IsCrowded a.pool a.index a.moment = (let h = c.requires.crowded in rw (← c.self.view_is) at h) in
    record {
      tied = (tied_cleared a.pool c.clear.new.self n b.index b.marks asks.tied c.clear.ensures.pool is
          c.in-Some.ensures.in_chain (λ q r e s. asks.gone.elsewhere q r e s)).0;
      past = subst (λ (t : ℕ). IsPast c.clear.new.self t) (sym moment)
          (clear_made m left cleared n c.clear.new.self asks c.clear.ensures.pool is c.in-Some.ensures.in_chain crowded).past;
    }

pub returns-in-Some-clause-made : goal.returns-in-Some-clause-made
returns-in-Some-clause-made c =
    let a = c.self.inside in
    let b = c.self-in-Some-2.inside in
    let n = c.in-Some.segment in
    let m : MapState = record { pool = a.pool; index = a.index; marks = a.marks; moment = a.moment } in
    let left = c.unindex_arrived.new.self in
    let cleared : MapState = record { pool = b.pool; index = b.index; marks = b.marks; moment = b.moment } in
    let first : left.pool ≡ a.pool =
    c.unindex_arrived.ensures.same.pool ∙ sym (ap (λ (x : MapState). x.pool) c.self.view_is) in
    let again : b.pool ≡ left.pool =
    ap (λ (x : MapState). x.pool) c.self-in-Some-2.view_is ∙ c.unindex_segment.ensures.same.pool in
    let moment : b.moment ≡ a.moment = ap (λ (x : MapState). x.moment) c.self-in-Some-2.view_is
    ∙ c.unindex_segment.ensures.moment ∙ c.unindex_arrived.ensures.moment
    ∙ sym (ap (λ (x : MapState). x.moment) c.self.view_is) in
    let arrived : HaveArrivedLeft a.pool a.moment n (current a.pool a.index) (current left.pool left.index) =
    (let h = c.unindex_arrived.ensures.left in rw (← c.self.view_is) at h) in
    let gone : HasLeft n (current left.pool left.index) (current b.pool b.index) =
    (let h = c.unindex_segment.ensures.left in rw (← c.self-in-Some-2.view_is) at h) in
    let asks = asks_clear m left cleared n c.self.invariant c.unindex_arrived.ensures.same.kept c.self-in-Some-2.invariant
    first again arrived gone in
    let is : c.clear.new.self ≡ without_segment a.pool n =
    c.clear.ensures.cleared ∙ ap (λ (q : PoolState). without_segment q n) (again ∙ first) in
    let crowded : IsCrowded a.pool a.index a.moment = (let h = c.requires.crowded in rw (← c.self.view_is) at h) in
    rw (← c.self.view_is)
    (clear_made m left cleared n c.clear.new.self asks c.clear.ensures.pool is c.in-Some.ensures.in_chain crowded)

pub returns-in-Some-clause-evicted : goal.returns-in-Some-clause-evicted
returns-in-Some-clause-evicted c =
    let a = c.self.inside in
    let b = c.self-in-Some-2.inside in
    let n = c.in-Some.segment in
    let m : MapState = record { pool = a.pool; index = a.index; marks = a.marks; moment = a.moment } in
    let left = c.unindex_arrived.new.self in
    let cleared : MapState = record { pool = b.pool; index = b.index; marks = b.marks; moment = b.moment } in
    let first : left.pool ≡ a.pool =
    c.unindex_arrived.ensures.same.pool ∙ sym (ap (λ (x : MapState). x.pool) c.self.view_is) in
    let again : b.pool ≡ left.pool =
    ap (λ (x : MapState). x.pool) c.self-in-Some-2.view_is ∙ c.unindex_segment.ensures.same.pool in
    let moment : b.moment ≡ a.moment = ap (λ (x : MapState). x.moment) c.self-in-Some-2.view_is
    ∙ c.unindex_segment.ensures.moment ∙ c.unindex_arrived.ensures.moment
    ∙ sym (ap (λ (x : MapState). x.moment) c.self.view_is) in
    let arrived : HaveArrivedLeft a.pool a.moment n (current a.pool a.index) (current left.pool left.index) =
    (let h = c.unindex_arrived.ensures.left in rw (← c.self.view_is) at h) in
    let gone : HasLeft n (current left.pool left.index) (current b.pool b.index) =
    (let h = c.unindex_segment.ensures.left in rw (← c.self-in-Some-2.view_is) at h) in
    let asks = asks_clear m left cleared n c.self.invariant c.unindex_arrived.ensures.same.kept c.self-in-Some-2.invariant
    first again arrived gone in
    let is : c.clear.new.self ≡ without_segment a.pool n =
    c.clear.ensures.cleared ∙ ap (λ (q : PoolState). without_segment q n) (again ∙ first) in
    let victim : IsVictim a.pool n = c.in-Some.ensures.victim in
    rw (← c.self.view_is) (λ none.
    clear_evicted m left cleared n c.clear.new.self asks c.clear.ensures.pool is c.in-Some.ensures.in_chain victim none
    c.self.invariant.past)

pub returns-in_default-clause-made : goal.returns-in_default-clause-made
returns-in_default-clause-made c =
    let full : IsPoolFull c.self.inside.pool = (let h = c.requires.full in rw (← c.self.view_is) at h) in
    let victim : MatchOption None (c.self.inside.pool.order ≡ []) (IsVictim c.self.inside.pool) =
    subst (λ (o : Option ℕ). MatchOption o (c.self.inside.pool.order ≡ []) (IsVictim c.self.inside.pool)) c.in_default.is
    c.victim.ensures.victim in
    absurd (some_order c.self.inside.pool c.self.invariant.tied.known.pool full victim)

pub returns-in_default-clause-evicted : goal.returns-in_default-clause-evicted
returns-in_default-clause-evicted c =
    let full : IsPoolFull c.self.inside.pool = (let h = c.requires.full in rw (← c.self.view_is) at h) in
    let victim : MatchOption None (c.self.inside.pool.order ≡ []) (IsVictim c.self.inside.pool) =
    subst (λ (o : Option ℕ). MatchOption o (c.self.inside.pool.order ≡ []) (IsVictim c.self.inside.pool)) c.in_default.is
    c.victim.ensures.victim in
    absurd (some_order c.self.inside.pool c.self.invariant.tied.known.pool full victim)
