use Rattle.std.proofs.Common.{None, Some}
use Rattle.segcache.specs.LiveItems.{live_marks}
use Rattle.segcache.specs.Room.{IsCrowded}
use Rattle.segcache.proofs.MergePlans.{tied_replanned, crowded_replanned, made_replanned, has_plan}
use Rattle.segcache.proofs.ForgottenKeys.{evicted_replanned, none_replanned}
use Rattle.segcache.proofs.segment_map.SegmentMap.forget_some.Goals as goal

pub invariant_of-self : goal.invariant_of-self
invariant_of-self c =
    let a = c.self.inside in
    let h = c.if-plan_merge.ensures.plan in
    let crowded : IsCrowded a.pool a.index a.moment = (let h = c.requires.crowded in rw (← c.self.view_is) at h) in
    record {
      tied = (tied_replanned a.pool c.plan_merge.new.pool (Some h.0) a.index a.marks c.self.invariant.tied
          c.plan_merge.ensures.pool h.2).0;
      past = (crowded_replanned a.pool c.plan_merge.new.pool (Some h.0) a.index a.marks a.moment c.self.invariant.tied
          c.plan_merge.ensures.pool h.2 crowded).past;
    }

pub merge-requires-clause-crowded : goal.merge-requires-clause-crowded
merge-requires-clause-crowded c =
    let a = c.self.inside in
    let h = c.if-plan_merge.ensures.plan in
    let crowded : IsCrowded a.pool a.index a.moment = (let h = c.requires.crowded in rw (← c.self.view_is) at h) in
    crowded_replanned a.pool c.plan_merge.new.pool (Some h.0) a.index a.marks a.moment c.self.invariant.tied
    c.plan_merge.ensures.pool h.2 crowded

pub merge-requires-clause-planned : goal.merge-requires-clause-planned
merge-requires-clause-planned c =
    let h = c.if-plan_merge.ensures.plan in
    let a = c.self.inside in
    has_plan (live_marks a.marks a.moment) a.pool c.plan_merge.new.pool h.0 h.1 h.2

pub returns-then-plan_merge-clause-made : goal.returns-then-plan_merge-clause-made
returns-then-plan_merge-clause-made c =
    let a = c.self.inside in
    let h = c.if-plan_merge.ensures.plan in
    let crowded : IsCrowded a.pool a.index a.moment = (let h = c.requires.crowded in rw (← c.self.view_is) at h) in
    rw (← c.self.view_is)
    (made_replanned a.pool c.plan_merge.new.pool (Some h.0) a.index a.marks a.moment c.merge.new.self.pool
    c.merge.new.self.index c.self.invariant.tied c.plan_merge.ensures.pool h.2 crowded c.merge.ensures.made)

pub returns-then-plan_merge-clause-evicted : goal.returns-then-plan_merge-clause-evicted
returns-then-plan_merge-clause-evicted c =
    let a = c.self.inside in
    let h = c.if-plan_merge.ensures.plan in
    rw (← c.self.view_is)
    (evicted_replanned (live_marks a.marks a.moment) a.pool c.plan_merge.new.pool (Some h.0) a.index a.marks a.moment c.merge.new.self.pool
    c.merge.new.self.index c.self.invariant.tied c.plan_merge.ensures.pool h.2 c.merge.ensures.evicted)

pub invariant_of-self-else-plan_merge : goal.invariant_of-self-else-plan_merge
invariant_of-self-else-plan_merge c =
    let a = c.self.inside in
    let h = c.if-plan_merge.ensures.plan in
    let crowded : IsCrowded a.pool a.index a.moment = (let h = c.requires.crowded in rw (← c.self.view_is) at h) in
    record {
      tied = (tied_replanned a.pool c.plan_merge.new.pool None a.index a.marks c.self.invariant.tied
          c.plan_merge.ensures.pool h.1).0;
      past = (crowded_replanned a.pool c.plan_merge.new.pool None a.index a.marks a.moment c.self.invariant.tied
          c.plan_merge.ensures.pool h.1 crowded).past;
    }

pub clear_victim-requires-clause-crowded : goal.clear_victim-requires-clause-crowded
clear_victim-requires-clause-crowded c =
    let a = c.self.inside in
    let h = c.if-plan_merge.ensures.plan in
    let crowded : IsCrowded a.pool a.index a.moment = (let h = c.requires.crowded in rw (← c.self.view_is) at h) in
    crowded_replanned a.pool c.plan_merge.new.pool None a.index a.marks a.moment c.self.invariant.tied
    c.plan_merge.ensures.pool h.1 crowded

pub returns-else-plan_merge-clause-made : goal.returns-else-plan_merge-clause-made
returns-else-plan_merge-clause-made c =
    let a = c.self.inside in
    let h = c.if-plan_merge.ensures.plan in
    let crowded : IsCrowded a.pool a.index a.moment = (let h = c.requires.crowded in rw (← c.self.view_is) at h) in
    rw (← c.self.view_is)
    (made_replanned a.pool c.plan_merge.new.pool None a.index a.marks a.moment c.clear_victim.new.self.pool
    c.clear_victim.new.self.index c.self.invariant.tied c.plan_merge.ensures.pool h.1 crowded c.clear_victim.ensures.made)

pub returns-else-plan_merge-clause-evicted : goal.returns-else-plan_merge-clause-evicted
returns-else-plan_merge-clause-evicted c =
    let a = c.self.inside in
    let h = c.if-plan_merge.ensures.plan in
    rw (← c.self.view_is)
    (evicted_replanned (live_marks a.marks a.moment) a.pool c.plan_merge.new.pool None a.index a.marks a.moment c.clear_victim.new.self.pool
    c.clear_victim.new.self.index c.self.invariant.tied c.plan_merge.ensures.pool h.1 (c.clear_victim.ensures.evicted
    (none_replanned a.pool c.plan_merge.new.pool None h.1 h.0)))
