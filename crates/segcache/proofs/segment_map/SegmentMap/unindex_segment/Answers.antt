use Rattle.std.proofs.Common.{◌≡◌, ◌∷◌, sym, subst, ◌∙◌, Some}
use Rattle.std.proofs.lemmas.List.Elements.{All-head}
use Rattle.segments.specs.Pools.{Standing, item_in}
use Rattle.segments.specs.Walks.{standing_at}
use Rattle.segments.specs.Shown.{item_of}
use Rattle.segcache.specs.Shown.{current}
use Rattle.segcache.proofs.LeftPlaces.{IsLeaving, leaving_first, leaving_passed, leaving_more, has_left}
use Rattle.segcache.proofs.segment_map.SegmentMap.unindex_segment.Goals as goal

pub loop-place-init : goal.loop-place-init
loop-place-init c =
    let a = c.self.inside in
    leaving_first a.pool c.args.segment a.index a.marks _ c.self.invariant.tied c.walk-walk.ensures.left

pub unindex-requires-clause-there : goal.unindex-requires-clause-there
unindex-requires-clause-there c =
    let a = c.self.inside in
    let index = c.loop-place.self-inside.1.1.0 in
    let marks = c.loop-place.self-inside.1.1.1.0 in
    let i = item_of c.in-Some.item in
    let old = current a.pool a.index in
    let h : IsLeaving a.pool c.args.segment old index marks (standing_at c.in-Some.place i ∷ c.next.new.self.left) =
    subst (IsLeaving a.pool c.args.segment old index marks) c.in-Some.ensures.left.0 c.loop-place.invariant in
    let here = All-head (λ (x : Standing). (x.place.segment ≡ c.args.segment) × (item_in a.pool x.place ≡ Some x.item))
    (standing_at c.in-Some.place i) c.next.new.self.left h.standing in
    h.tied.marked c.in-Some.place i here.1 (sym c.is_marked.ensures ∙ c.if-is_marked.true)

pub loop-place-preserved-then-is_marked : goal.loop-place-preserved-then-is_marked
loop-place-preserved-then-is_marked c =
    let a = c.self.inside in
    let index = c.loop-place.self-inside.1.1.0 in
    let marks = c.loop-place.self-inside.1.1.1.0 in
    let i = item_of c.in-Some.item in
    let old = current a.pool a.index in
    let h : IsLeaving a.pool c.args.segment old index marks (standing_at c.in-Some.place i ∷ c.next.new.self.left) =
    subst (IsLeaving a.pool c.args.segment old index marks) c.in-Some.ensures.left.0 c.loop-place.invariant in
    let here = All-head (λ (x : Standing). (x.place.segment ≡ c.args.segment) × (item_in a.pool x.place ≡ Some x.item))
    (standing_at c.in-Some.place i) c.next.new.self.left h.standing in
    leaving_more a.pool c.args.segment old index c.unindex.new.index marks c.unindex.new.marks
    (standing_at c.in-Some.place i) c.next.new.self.left h
    (h.tied.marked c.in-Some.place i here.1 (sym c.is_marked.ensures ∙ c.if-is_marked.true)) c.unindex.ensures.tied
    c.unindex.ensures.left

pub loop-place-preserved : goal.loop-place-preserved
loop-place-preserved c =
    let a = c.self.inside in
    let index = c.loop-place.self-inside.1.1.0 in
    let marks = c.loop-place.self-inside.1.1.1.0 in
    let i = item_of c.in-Some.item in
    let old = current a.pool a.index in
    let h : IsLeaving a.pool c.args.segment old index marks (standing_at c.in-Some.place i ∷ c.next.new.self.left) =
    subst (IsLeaving a.pool c.args.segment old index marks) c.in-Some.ensures.left.0 c.loop-place.invariant in
    leaving_passed a.pool c.args.segment old index marks (standing_at c.in-Some.place i) c.next.new.self.left h
    (sym c.is_marked.ensures ∙ c.if-is_marked.false)

pub returns-clause-left : goal.returns-clause-left
returns-clause-left c =
    let a = c.self.inside in
    rw (← c.self.view_is)
    (has_left a.pool c.args.segment (current a.pool a.index) c.loop-place.self-inside.1.1.0
    c.loop-place.self-inside.1.1.1.0 c.loop-place.walk.left c.loop-place.invariant c.in_default.ensures.left)
