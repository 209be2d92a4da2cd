use Rattle.std.proofs.Common.{◌≡◌, ℕ, subst, sym, ◌∙◌, ap}
use Rattle.segments.specs.Pools.{PoolState}
use Rattle.segments.specs.Merges.{contains_number, planned_moves, planned_segments}
use Rattle.segments.specs.Marks.{carried_marks, lives_by}
use Rattle.segments.proofs.MarkedPlaces.{merge_ready}
use Rattle.segcache.specs.ForgottenKeys.{IsEvicted}
use Rattle.segcache.specs.Invariants.{IsTied}
use Rattle.segcache.specs.LiveItems.{live_marks}
use Rattle.segcache.specs.PlannedMerges.{HasPlan}
use Rattle.segcache.specs.Removals.{HaveExpiredLeft}
use Rattle.segcache.specs.Room.{IsRoomMade}
use Rattle.segcache.specs.Shown.{current}
use Rattle.segcache.specs.State.{MapState}
use Rattle.segcache.proofs.MergedMarks.{has_planned, can_relocate, merge_relocated, tied_merged}
use Rattle.segcache.proofs.PlannedSegments.{asks_merge, left_plan, merge_made, merge_evicted}
use Rattle.segcache.proofs.segment_map.SegmentMap.merge.Goals as goal

pub relocate-requires-clause-can : goal.relocate-requires-clause-can
relocate-requires-clause-can c =
    let s = c.args.self.now in
    let a = c.self.inside in
    let m : MapState = record { pool = a.pool; index = a.index; marks = a.marks; moment = a.moment } in
    let pool : a.pool ≡ s.pool =
    ap (λ (x : MapState). x.pool) c.self.view_is ∙ c.unindex_merged.ensures.same.pool in
    let moment : a.moment ≡ s.moment =
    ap (λ (x : MapState). x.moment) c.self.view_is ∙ c.unindex_merged.ensures.moment in
    let gone : HaveExpiredLeft s.pool s.moment (contains_number (planned_segments s.pool)) (current s.pool s.index)
    (current a.pool a.index) = (let h = c.unindex_merged.ensures.left in rw (← c.self.view_is) at h) in
    let asks = asks_merge s m c.unindex_merged.ensures.kept c.self.invariant pool moment gone c.requires.planned
    c.requires.crowded in
    let h : HasPlan (lives_by a.marks) a.pool = left_plan s m asks in
    can_relocate a.pool a.index a.marks c.self.invariant.tied h c.moves-moves.ensures.carried

pub carry-requires-clause-sources : goal.carry-requires-clause-sources
carry-requires-clause-sources c =
    let s = c.args.self.now in
    let a = c.self.inside in
    let m : MapState = record { pool = a.pool; index = a.index; marks = a.marks; moment = a.moment } in
    let pool : a.pool ≡ s.pool =
    ap (λ (x : MapState). x.pool) c.self.view_is ∙ c.unindex_merged.ensures.same.pool in
    let moment : a.moment ≡ s.moment =
    ap (λ (x : MapState). x.moment) c.self.view_is ∙ c.unindex_merged.ensures.moment in
    let gone : HaveExpiredLeft s.pool s.moment (contains_number (planned_segments s.pool)) (current s.pool s.index)
    (current a.pool a.index) = (let h = c.unindex_merged.ensures.left in rw (← c.self.view_is) at h) in
    let asks = asks_merge s m c.unindex_merged.ensures.kept c.self.invariant pool moment gone c.requires.planned
    c.requires.crowded in
    let h : HasPlan (lives_by a.marks) a.pool = left_plan s m asks in
    (merge_ready a.marks a.pool a.pool c.moves-moves.result.now c.self.invariant.tied.known
    (h.plan, h.is_plan, has_planned a.pool h.plan h.planned)
    c.moves-moves.ensures.planned c.moves-moves.ensures.sources c.moves-moves.ensures.carried).0

pub carry-requires-clause-targets : goal.carry-requires-clause-targets
carry-requires-clause-targets c =
    let s = c.args.self.now in
    let a = c.self.inside in
    let m : MapState = record { pool = a.pool; index = a.index; marks = a.marks; moment = a.moment } in
    let pool : a.pool ≡ s.pool =
    ap (λ (x : MapState). x.pool) c.self.view_is ∙ c.unindex_merged.ensures.same.pool in
    let moment : a.moment ≡ s.moment =
    ap (λ (x : MapState). x.moment) c.self.view_is ∙ c.unindex_merged.ensures.moment in
    let gone : HaveExpiredLeft s.pool s.moment (contains_number (planned_segments s.pool)) (current s.pool s.index)
    (current a.pool a.index) = (let h = c.unindex_merged.ensures.left in rw (← c.self.view_is) at h) in
    let asks = asks_merge s m c.unindex_merged.ensures.kept c.self.invariant pool moment gone c.requires.planned
    c.requires.crowded in
    let h : HasPlan (lives_by a.marks) a.pool = left_plan s m asks in
    (merge_ready a.marks a.pool a.pool c.moves-moves.result.now c.self.invariant.tied.known
    (h.plan, h.is_plan, has_planned a.pool h.plan h.planned)
    c.moves-moves.ensures.planned c.moves-moves.ensures.sources c.moves-moves.ensures.carried).1

pub invariant_of-self : goal.invariant_of-self
invariant_of-self c =
    let s = c.args.self.now in
    let a = c.self.inside in
    let m : MapState = record { pool = a.pool; index = a.index; marks = a.marks; moment = a.moment } in
    let pool : a.pool ≡ s.pool =
    ap (λ (x : MapState). x.pool) c.self.view_is ∙ c.unindex_merged.ensures.same.pool in
    let moment : a.moment ≡ s.moment =
    ap (λ (x : MapState). x.moment) c.self.view_is ∙ c.unindex_merged.ensures.moment in
    let gone : HaveExpiredLeft s.pool s.moment (contains_number (planned_segments s.pool)) (current s.pool s.index)
    (current a.pool a.index) = (let h = c.unindex_merged.ensures.left in rw (← c.self.view_is) at h) in
    let asks = asks_merge s m c.unindex_merged.ensures.kept c.self.invariant pool moment gone c.requires.planned
    c.requires.crowded in
    let h : HasPlan (lives_by a.marks) a.pool = left_plan s m asks in
    let w = merge_relocated a.pool c.merge_next.new.self a.index c.relocate.new.self a.marks c.self.invariant.tied h
    c.merge_next.ensures.merged c.merge_next.ensures.pool c.relocate.ensures.relocated c.relocate.ensures.size in
    record {
      tied = subst (IsTied c.merge_next.new.self c.relocate.new.self)
          (sym (c.carry.ensures ∙ ap (carried_marks a.marks)
          (c.moves-moves.ensures.planned ∙ ap planned_moves h.planned)))
          (tied_merged a.pool h.plan c.merge_next.new.self a.index c.relocate.new.self a.marks w);
      past = (merge_made s m c.merge_next.new.self c.relocate.new.self asks w).past;
    }

pub returns-clause-made : goal.returns-clause-made
returns-clause-made c =
    let s = c.args.self.now in
    let a = c.self.inside in
    let m : MapState = record { pool = a.pool; index = a.index; marks = a.marks; moment = a.moment } in
    let pool : a.pool ≡ s.pool =
    ap (λ (x : MapState). x.pool) c.self.view_is ∙ c.unindex_merged.ensures.same.pool in
    let moment : a.moment ≡ s.moment =
    ap (λ (x : MapState). x.moment) c.self.view_is ∙ c.unindex_merged.ensures.moment in
    let gone : HaveExpiredLeft s.pool s.moment (contains_number (planned_segments s.pool)) (current s.pool s.index)
    (current a.pool a.index) = (let h = c.unindex_merged.ensures.left in rw (← c.self.view_is) at h) in
    let asks = asks_merge s m c.unindex_merged.ensures.kept c.self.invariant pool moment gone c.requires.planned
    c.requires.crowded in
    let h : HasPlan (lives_by a.marks) a.pool = left_plan s m asks in
    let w = merge_relocated a.pool c.merge_next.new.self a.index c.relocate.new.self a.marks c.self.invariant.tied h
    c.merge_next.ensures.merged c.merge_next.ensures.pool c.relocate.ensures.relocated c.relocate.ensures.size in
    let after = c.merge_next.new.self in
    let found = c.relocate.new.self in
    subst (λ (t : ℕ). IsRoomMade s.pool s.index t after found) moment
    (subst (λ (q : PoolState). IsRoomMade q s.index a.moment after found) pool (merge_made s m after found asks w))

pub returns-clause-evicted : goal.returns-clause-evicted
returns-clause-evicted c =
    let s = c.args.self.now in
    let a = c.self.inside in
    let m : MapState = record { pool = a.pool; index = a.index; marks = a.marks; moment = a.moment } in
    let pool : a.pool ≡ s.pool =
    ap (λ (x : MapState). x.pool) c.self.view_is ∙ c.unindex_merged.ensures.same.pool in
    let moment : a.moment ≡ s.moment =
    ap (λ (x : MapState). x.moment) c.self.view_is ∙ c.unindex_merged.ensures.moment in
    let gone : HaveExpiredLeft s.pool s.moment (contains_number (planned_segments s.pool)) (current s.pool s.index)
    (current a.pool a.index) = (let h = c.unindex_merged.ensures.left in rw (← c.self.view_is) at h) in
    let asks = asks_merge s m c.unindex_merged.ensures.kept c.self.invariant pool moment gone c.requires.planned
    c.requires.crowded in
    let h : HasPlan (lives_by a.marks) a.pool = left_plan s m asks in
    let w = merge_relocated a.pool c.merge_next.new.self a.index c.relocate.new.self a.marks c.self.invariant.tied h
    c.merge_next.ensures.merged c.merge_next.ensures.pool c.relocate.ensures.relocated c.relocate.ensures.size in
    let after = c.merge_next.new.self in
    let found = c.relocate.new.self in
    subst (λ (t : ℕ). IsEvicted (live_marks s.marks t) s.pool s.index t after found) moment
    (subst (λ (q : PoolState). IsEvicted (live_marks s.marks a.moment) q s.index a.moment after found) pool
    (merge_evicted s m after found asks w))
