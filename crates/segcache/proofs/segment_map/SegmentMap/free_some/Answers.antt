use Rattle.std.proofs.Common.{◌≡◌, ℕ, sym, ap, subst, ◌∙◌, arith}
use Rattle.segments.specs.Pools.{PoolState}
use Rattle.segments.specs.Changes.{IsPoolFull, IsGivenBack, dead_segments}
use Rattle.segments.specs.Marks.{lives_by}
use Rattle.segments.proofs.Places.{given_free}
use Rattle.segcache.specs.Invariants.{IsTied, IsPast}
use Rattle.segcache.specs.Removals.{HaveExpiredLeft}
use Rattle.segcache.specs.LiveItems.{live_marks, is_dead}
use Rattle.segcache.specs.ForgottenKeys.{IsEvicted}
use Rattle.segcache.specs.Room.{IsCrowded, IsRoomMade}
use Rattle.segcache.specs.Shown.{current}
use Rattle.segcache.specs.State.{MapState}
use Rattle.segcache.proofs.GivenBack.{full_given}
use Rattle.segcache.proofs.RoomMade.{swept_given, swept_made, swept_evicted}
use Rattle.segcache.proofs.ForgottenKeys.{expired_agree, dead_left, crowded_given, room_evicted, room_given}
use Rattle.segcache.proofs.segment_map.SegmentMap.free_some.Goals as goal

pub invariant_of-self : goal.invariant_of-self
invariant_of-self c =
    let s = c.args.self.now in
    let a = c.self.inside in
    let new = c.give_back.new.self in
    let dead = is_dead s.marks s.pool s.moment in
    let b : MapState = record { pool = a.pool; index = a.index; marks = a.marks; moment = a.moment } in
    let pool : a.pool ≡ s.pool =
    ap (λ (m : MapState). m.pool) c.self.view_is ∙ c.unindex_dead.ensures.same.pool in
    let moment : a.moment ≡ s.moment =
    ap (λ (m : MapState). m.moment) c.self.view_is ∙ c.unindex_dead.ensures.moment in
    let left : HaveExpiredLeft s.pool s.moment dead (current s.pool s.index) (current a.pool a.index) =
    (let h = c.unindex_dead.ensures.left in rw (← c.self.view_is) at h) in
    let w = swept_given s b new dead c.unindex_dead.ensures.kept c.self.invariant pool left c.give_back.ensures.pool
    c.give_back.ensures.freed in
    record {
      tied = w.tied;
      past = subst (λ (t : ℕ). IsPast new t) (sym moment) w.past;
    }

pub invariant_of-self-else-give_back-eq0 : goal.invariant_of-self-else-give_back-eq0
invariant_of-self-else-give_back-eq0 c =
    let s = c.args.self.now in
    let a = c.self.inside in
    let new = c.give_back.new.self in
    let dead = is_dead s.marks s.pool s.moment in
    let b : MapState = record { pool = a.pool; index = a.index; marks = a.marks; moment = a.moment } in
    let pool : a.pool ≡ s.pool =
    ap (λ (m : MapState). m.pool) c.self.view_is ∙ c.unindex_dead.ensures.same.pool in
    let moment : a.moment ≡ s.moment =
    ap (λ (m : MapState). m.moment) c.self.view_is ∙ c.unindex_dead.ensures.moment in
    let left : HaveExpiredLeft s.pool s.moment dead (current s.pool s.index) (current a.pool a.index) =
    (let h = c.unindex_dead.ensures.left in rw (← c.self.view_is) at h) in
    let w = swept_given s b new dead c.unindex_dead.ensures.kept c.self.invariant pool left c.give_back.ensures.pool
    c.give_back.ensures.freed in
    record {
      tied = w.tied;
      past = subst (λ (t : ℕ). IsPast new t) (sym moment) w.past;
    }

pub forget_some-requires-clause-full : goal.forget_some-requires-clause-full
forget_some-requires-clause-full c =
    let s = c.args.self.now in
    let a = c.self.inside in
    let pool : a.pool ≡ s.pool =
    ap (λ (m : MapState). m.pool) c.self.view_is ∙ c.unindex_dead.ensures.same.pool in
    let full : IsPoolFull a.pool = subst IsPoolFull (sym pool) c.requires.full in
    full_given (lives_by a.marks) a.pool c.give_back.new.self c.self.invariant.tied.known.pool full c.give_back.ensures.freed
    (sym c.give_back.ensures.count ∙ c.if-give_back-eq0.true)

pub forget_some-requires-clause-crowded : goal.forget_some-requires-clause-crowded
forget_some-requires-clause-crowded c =
    let s = c.args.self.now in
    let a = c.self.inside in
    let new = c.give_back.new.self in
    let dead = is_dead s.marks s.pool s.moment in
    let b : MapState = record { pool = a.pool; index = a.index; marks = a.marks; moment = a.moment } in
    let pool : a.pool ≡ s.pool =
    ap (λ (m : MapState). m.pool) c.self.view_is ∙ c.unindex_dead.ensures.same.pool in
    let moment : a.moment ≡ s.moment =
    ap (λ (m : MapState). m.moment) c.self.view_is ∙ c.unindex_dead.ensures.moment in
    let left : HaveExpiredLeft s.pool s.moment dead (current s.pool s.index) (current a.pool a.index) =
    (let h = c.unindex_dead.ensures.left in rw (← c.self.view_is) at h) in
    let w = swept_given s b new dead c.unindex_dead.ensures.kept c.self.invariant pool left c.give_back.ensures.pool
    c.give_back.ensures.freed in
    let tied : IsTied s.pool a.index a.marks =
    subst (λ (q : PoolState). IsTied q a.index a.marks) pool c.self.invariant.tied in
    let gone : HaveExpiredLeft s.pool s.moment dead (current s.pool s.index) (current s.pool a.index) =
    subst (λ (q : PoolState). HaveExpiredLeft s.pool s.moment dead (current s.pool s.index) (current q a.index)) pool left in
    let was = c.unindex_dead.ensures.kept.tied in
    let given : IsGivenBack (lives_by a.marks) s.pool new =
    subst (λ (q : PoolState). IsGivenBack (lives_by a.marks) q new) pool c.give_back.ensures.freed in
    let count : c.give_back.result ≡ dead_segments (lives_by a.marks) s.pool =
    c.give_back.ensures.count ∙ ap (λ (q : PoolState). dead_segments (lives_by a.marks) q) pool in
    subst (λ (t : ℕ). IsCrowded new a.index t) (sym moment)
    (crowded_given s.pool s.index a.index s.marks a.marks s.moment new was tied gone c.requires.full given
    (sym count ∙ c.if-give_back-eq0.true) w)

pub returns-then-give_back-eq0-clause-made : goal.returns-then-give_back-eq0-clause-made
returns-then-give_back-eq0-clause-made c =
    let s = c.args.self.now in
    let a = c.self.inside in
    let new = c.give_back.new.self in
    let dead = is_dead s.marks s.pool s.moment in
    let b : MapState = record { pool = a.pool; index = a.index; marks = a.marks; moment = a.moment } in
    let pool : a.pool ≡ s.pool =
    ap (λ (m : MapState). m.pool) c.self.view_is ∙ c.unindex_dead.ensures.same.pool in
    let moment : a.moment ≡ s.moment =
    ap (λ (m : MapState). m.moment) c.self.view_is ∙ c.unindex_dead.ensures.moment in
    let left : HaveExpiredLeft s.pool s.moment dead (current s.pool s.index) (current a.pool a.index) =
    (let h = c.unindex_dead.ensures.left in rw (← c.self.view_is) at h) in
    let w = swept_given s b new dead c.unindex_dead.ensures.kept c.self.invariant pool left c.give_back.ensures.pool
    c.give_back.ensures.freed in
    swept_evicted s.pool s.index s.moment new a.index a.marks c.forget_some.new.self.pool c.forget_some.new.self.index w
    (subst (λ (t : ℕ). IsRoomMade new a.index t c.forget_some.new.self.pool c.forget_some.new.self.index) moment
    c.forget_some.ensures.made)

pub returns-else-give_back-eq0-clause-made : goal.returns-else-give_back-eq0-clause-made
returns-else-give_back-eq0-clause-made c =
    let s = c.args.self.now in
    let a = c.self.inside in
    let new = c.give_back.new.self in
    let dead = is_dead s.marks s.pool s.moment in
    let b : MapState = record { pool = a.pool; index = a.index; marks = a.marks; moment = a.moment } in
    let pool : a.pool ≡ s.pool =
    ap (λ (m : MapState). m.pool) c.self.view_is ∙ c.unindex_dead.ensures.same.pool in
    let moment : a.moment ≡ s.moment =
    ap (λ (m : MapState). m.moment) c.self.view_is ∙ c.unindex_dead.ensures.moment in
    let left : HaveExpiredLeft s.pool s.moment dead (current s.pool s.index) (current a.pool a.index) =
    (let h = c.unindex_dead.ensures.left in rw (← c.self.view_is) at h) in
    let w = swept_given s b new dead c.unindex_dead.ensures.kept c.self.invariant pool left c.give_back.ensures.pool
    c.give_back.ensures.freed in
    let count = c.give_back.ensures.count in
    let some = c.if-give_back-eq0.false in
    swept_made s.pool s.index s.moment new a.index a.marks w
    (given_free (lives_by a.marks) a.pool new c.self.invariant.tied.known.pool c.give_back.ensures.freed
    (omega (arith, count, some)))

pub returns-then-give_back-eq0-clause-room : goal.returns-then-give_back-eq0-clause-room
returns-then-give_back-eq0-clause-room c =
    let s = c.args.self.now in
    let a = c.self.inside in
    let new = c.give_back.new.self in
    let dead = is_dead s.marks s.pool s.moment in
    let b : MapState = record { pool = a.pool; index = a.index; marks = a.marks; moment = a.moment } in
    let pool : a.pool ≡ s.pool =
    ap (λ (m : MapState). m.pool) c.self.view_is ∙ c.unindex_dead.ensures.same.pool in
    let moment : a.moment ≡ s.moment =
    ap (λ (m : MapState). m.moment) c.self.view_is ∙ c.unindex_dead.ensures.moment in
    let left : HaveExpiredLeft s.pool s.moment dead (current s.pool s.index) (current a.pool a.index) =
    (let h = c.unindex_dead.ensures.left in rw (← c.self.view_is) at h) in
    let w = swept_given s b new dead c.unindex_dead.ensures.kept c.self.invariant pool left c.give_back.ensures.pool
    c.give_back.ensures.freed in
    let tied : IsTied s.pool a.index a.marks =
    subst (λ (q : PoolState). IsTied q a.index a.marks) pool c.self.invariant.tied in
    let gone : HaveExpiredLeft s.pool s.moment dead (current s.pool s.index) (current s.pool a.index) =
    subst (λ (q : PoolState). HaveExpiredLeft s.pool s.moment dead (current s.pool s.index) (current q a.index)) pool left in
    let was = c.unindex_dead.ensures.kept.tied in
    let given : IsGivenBack (lives_by a.marks) s.pool new =
    subst (λ (q : PoolState). IsGivenBack (lives_by a.marks) q new) pool c.give_back.ensures.freed in
    let count : c.give_back.result ≡ dead_segments (lives_by a.marks) s.pool =
    c.give_back.ensures.count ∙ ap (λ (q : PoolState). dead_segments (lives_by a.marks) q) pool in
    let agree = expired_agree s.pool s.index a.index s.marks a.marks s.moment dead was tied gone in
    let evicted = subst
    (λ (t : ℕ). IsEvicted (live_marks a.marks t) new a.index t c.forget_some.new.self.pool c.forget_some.new.self.index)
    moment c.forget_some.ensures.evicted in
    λ bucket i full.
    room_evicted s.pool s.index (lives_by a.marks) (live_marks a.marks s.moment)
    (live_marks s.marks s.moment) bucket s.moment i new a.index a.marks
    c.forget_some.new.self.pool c.forget_some.new.self.index was.known.pool
    (λ n. dead_left s.pool s.index a.index s.marks a.marks s.moment n was tied gone) agree full
    (sym count ∙ c.if-give_back-eq0.true) given w evicted

pub returns-else-give_back-eq0-clause-room : goal.returns-else-give_back-eq0-clause-room
returns-else-give_back-eq0-clause-room c =
    let s = c.args.self.now in
    let a = c.self.inside in
    let new = c.give_back.new.self in
    let dead = is_dead s.marks s.pool s.moment in
    let b : MapState = record { pool = a.pool; index = a.index; marks = a.marks; moment = a.moment } in
    let pool : a.pool ≡ s.pool =
    ap (λ (m : MapState). m.pool) c.self.view_is ∙ c.unindex_dead.ensures.same.pool in
    let moment : a.moment ≡ s.moment =
    ap (λ (m : MapState). m.moment) c.self.view_is ∙ c.unindex_dead.ensures.moment in
    let left : HaveExpiredLeft s.pool s.moment dead (current s.pool s.index) (current a.pool a.index) =
    (let h = c.unindex_dead.ensures.left in rw (← c.self.view_is) at h) in
    let w = swept_given s b new dead c.unindex_dead.ensures.kept c.self.invariant pool left c.give_back.ensures.pool
    c.give_back.ensures.freed in
    let tied : IsTied s.pool a.index a.marks =
    subst (λ (q : PoolState). IsTied q a.index a.marks) pool c.self.invariant.tied in
    let gone : HaveExpiredLeft s.pool s.moment dead (current s.pool s.index) (current s.pool a.index) =
    subst (λ (q : PoolState). HaveExpiredLeft s.pool s.moment dead (current s.pool s.index) (current q a.index)) pool left in
    let was = c.unindex_dead.ensures.kept.tied in
    let given : IsGivenBack (lives_by a.marks) s.pool new =
    subst (λ (q : PoolState). IsGivenBack (lives_by a.marks) q new) pool c.give_back.ensures.freed in
    let count : c.give_back.result ≡ dead_segments (lives_by a.marks) s.pool =
    c.give_back.ensures.count ∙ ap (λ (q : PoolState). dead_segments (lives_by a.marks) q) pool in
    let some = c.if-give_back-eq0.false in
    λ bucket i full.
    room_given s.pool s.index (lives_by a.marks)
    (live_marks s.marks s.moment) bucket s.moment i new a.index a.marks
    (λ n. dead_left s.pool s.index a.index s.marks a.marks s.moment n was tied gone) full
    (omega (arith, count, some)) given w
