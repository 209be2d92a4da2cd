use Rattle.std.proofs.Common.{◌≡◌, ◌∷◌, true, false, sym, ap, subst, ◌∙◌, Some, inl, inr, rules}
use Rattle.std.proofs.lemmas.List.Elements.{All-head}
use Rattle.proto.specs.Cache.{has_arrived}
use Rattle.segments.specs.Pools.{Standing, item_in, place_deadline}
use Rattle.segments.specs.Walks.{standing_at}
use Rattle.segments.specs.Shown.{item_of}
use Rattle.segcache.specs.Shown.{current}
use Rattle.segcache.proofs.LeftPlaces.{IsArriving, arriving_first, arriving_passed, arriving_more, has_arrived_left, deadline_shown}
use Rattle.segcache.proofs.LiveSegments.{none_arrives}
use Rattle.segcache.specs.OwnDeadlines.{may_expire}
use Rattle.segcache.proofs.segment_map.SegmentMap.unindex_arrived.Goals as goal

pub returns-then-not-may_expire-clause-left : goal.returns-then-not-may_expire-clause-left
returns-then-not-may_expire-clause-left c =
    let a = c.self.inside in
    let t = a.moment in
    let never : c.may_expire.result ≡ false = search rules in
    rw (← c.self.view_is)
    (none_arrives a.pool t c.args.segment a.index c.self.invariant.past.dated
    (ap (λ d. may_expire a.pool.exact d t) (sym c.deadline-deadline.ensures)
    ∙ ap (λ b. may_expire b c.deadline-deadline.result t) (sym c.is_exact.ensures) ∙ sym c.may_expire.ensures ∙ never))

pub loop-place-init : goal.loop-place-init
loop-place-init c =
    let a = c.self.inside in
    record {
      arriving = arriving_first a.pool a.moment c.args.segment a.index a.marks _ c.self.invariant.tied c.walk-walk.ensures.left;
      deadline = c.walk-walk.ensures.deadline;
    }

pub unindex-requires-clause-there : goal.unindex-requires-clause-there
unindex-requires-clause-there c =
    let a = c.self.inside in
    let index = c.loop-place.self-inside.1.1.0 in
    let marks = c.loop-place.self-inside.1.1.1.0 in
    let i = item_of c.in-Some.item in
    let old = current a.pool a.index in
    let h : IsArriving a.pool a.moment c.args.segment old index marks (standing_at c.in-Some.place i ∷ c.next.new.self.left) =
    subst (IsArriving a.pool a.moment c.args.segment old index marks) c.in-Some.ensures.left.0 c.loop-place.invariant.arriving in
    let here = All-head (λ (x : Standing). (x.place.segment ≡ c.args.segment) × (item_in a.pool x.place ≡ Some x.item))
    (standing_at c.in-Some.place i) c.next.new.self.left h.standing in
    h.tied.marked c.in-Some.place i here.1 (sym c.is_marked.ensures ∙ c.if-is_marked.true)

pub loop-place-preserved-then-has_arrived : goal.loop-place-preserved-then-has_arrived
loop-place-preserved-then-has_arrived c =
    let a = c.self.inside in
    let index = c.loop-place.self-inside.1.1.0 in
    let marks = c.loop-place.self-inside.1.1.1.0 in
    let i = item_of c.in-Some.item in
    let s = standing_at c.in-Some.place i in
    let left = c.next.new.self.left in
    let old = current a.pool a.index in
    let h : IsArriving a.pool a.moment c.args.segment old index marks (s ∷ left) =
    subst (IsArriving a.pool a.moment c.args.segment old index marks) c.in-Some.ensures.left.0 c.loop-place.invariant.arriving in
    let here = All-head (λ (x : Standing). (x.place.segment ≡ c.args.segment) × (item_in a.pool x.place ≡ Some x.item))
    s left h.standing in
    let date : c.in-Some.item.deadline ≡ place_deadline a.pool c.in-Some.place =
    c.in-Some.ensures.left.1 ∙ deadline_shown a.pool c.args.segment s left c.loop-place.walk.deadline h.standing
    c.loop-place.invariant.deadline in
    let arrived : has_arrived (place_deadline a.pool c.in-Some.place) a.moment ≡ true =
    ap (λ d. has_arrived d a.moment) (sym date) ∙ sym c.has_arrived.ensures ∙ c.if-has_arrived.true in
    record {
      arriving = arriving_more a.pool a.moment c.args.segment old index c.unindex.new.index marks c.unindex.new.marks s left h
          (h.tied.marked c.in-Some.place i here.1 (sym c.is_marked.ensures ∙ c.if-is_marked.true)) arrived
          c.unindex.ensures.tied c.unindex.ensures.left;
      deadline = c.next.ensures.deadline ∙ c.loop-place.invariant.deadline;
    }

pub loop-place-preserved-else-has_arrived : goal.loop-place-preserved-else-has_arrived
loop-place-preserved-else-has_arrived c =
    let a = c.self.inside in
    let index = c.loop-place.self-inside.1.1.0 in
    let marks = c.loop-place.self-inside.1.1.1.0 in
    let i = item_of c.in-Some.item in
    let s = standing_at c.in-Some.place i in
    let left = c.next.new.self.left in
    let old = current a.pool a.index in
    let h : IsArriving a.pool a.moment c.args.segment old index marks (s ∷ left) =
    subst (IsArriving a.pool a.moment c.args.segment old index marks) c.in-Some.ensures.left.0 c.loop-place.invariant.arriving in
    let date : c.in-Some.item.deadline ≡ place_deadline a.pool c.in-Some.place =
    c.in-Some.ensures.left.1 ∙ deadline_shown a.pool c.args.segment s left c.loop-place.walk.deadline h.standing
    c.loop-place.invariant.deadline in
    let waits : has_arrived (place_deadline a.pool c.in-Some.place) a.moment ≡ false =
    ap (λ d. has_arrived d a.moment) (sym date) ∙ sym c.has_arrived.ensures ∙ c.if-has_arrived.false in
    record {
      arriving = arriving_passed a.pool a.moment c.args.segment old index marks s left h (inr waits);
      deadline = c.next.ensures.deadline ∙ c.loop-place.invariant.deadline;
    }

pub loop-place-preserved : goal.loop-place-preserved
loop-place-preserved c =
    let a = c.self.inside in
    let index = c.loop-place.self-inside.1.1.0 in
    let marks = c.loop-place.self-inside.1.1.1.0 in
    let i = item_of c.in-Some.item in
    let s = standing_at c.in-Some.place i in
    let left = c.next.new.self.left in
    let old = current a.pool a.index in
    let h : IsArriving a.pool a.moment c.args.segment old index marks (s ∷ left) =
    subst (IsArriving a.pool a.moment c.args.segment old index marks) c.in-Some.ensures.left.0 c.loop-place.invariant.arriving in
    record {
      arriving = arriving_passed a.pool a.moment c.args.segment old index marks s left h
          (inl (sym c.is_marked.ensures ∙ c.if-is_marked.false));
      deadline = c.next.ensures.deadline ∙ c.loop-place.invariant.deadline;
    }

pub returns-clause-left : goal.returns-clause-left
returns-clause-left c =
    let a = c.self.inside in
    rw (← c.self.view_is)
    (has_arrived_left a.pool a.moment c.args.segment (current a.pool a.index) c.loop-place.self-inside.1.1.0
    c.loop-place.self-inside.1.1.1.0 c.loop-place.walk.left c.loop-place.invariant.arriving c.in_default.ensures.left)
