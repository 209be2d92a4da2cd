use Rattle.std.proofs.Common.{◌≡◌, ◌∙◌, Some, sym, ap}
use Rattle.std.specs.FinMap as finite
use Rattle.segcache.specs.Shown.{current, shown_entries}
use Rattle.segcache.specs.State.{MapState}
use Rattle.segcache.specs.Writes.{touch_leaves_by}
use Rattle.segcache.proofs.TiedParts.{current_some}
use Rattle.segcache.proofs.LeftEntries.{keeps_may, keeps_left, deadline_there}
use Rattle.segcache.proofs.segment_map.SegmentMapLiveMap.may_stay.Goals as goal
use Rattle.segcache.specs.State.{IsSegmentedMap}

pub item-given-requires : goal.item-given-requires
item-given-requires c =
    let a = c.self.inside in
    let stands : finite.get (current a.pool a.index) c.args._key.now ≡ Some c.args.place =
    (let h = c.requires.stands in rw (← c.self.view_is) at h) in
    current_some a.pool a.index c.args._key.now c.args.place stands

pub returns-clause-decides : goal.returns-clause-decides
returns-clause-decides c e there =
    let a = c.self.inside in
    let key = c.args._key.now in
    let m : MapState = record { pool = a.pool; index = a.index; marks = a.marks; moment = a.moment } in
    let stands : finite.get (current a.pool a.index) key ≡ Some c.args.place =
    (let h = c.requires.stands in rw (← c.self.view_is) at h) in
    let found : finite.get (shown_entries a.pool a.index a.moment) key ≡ Some e = rw (← c.self.view_is) at there in
    let is : c.item-given.result.deadline ≡ e.deadline =
    c.item-given.ensures.deadline ∙ deadline_there m key c.args.place e stands found in
    rw (← c.self.view_is) (c.touch_leaves_by.ensures ∙ ap (touch_leaves_by c.is_exact.result a.moment c.args.deadline) is
    ∙ ap (λ b. touch_leaves_by b a.moment c.args.deadline e.deadline) c.is_exact.ensures)

pub returns-clause-may_stay : goal.returns-clause-may_stay
returns-clause-may_stay c holds e there =
    keeps_may c.args.self.now.pool.exact c.args.self.now.moment c.args.deadline e.deadline c.requires.waits
    (sym (returns-clause-decides c e there) ∙ holds)

pub returns-clause-kept : goal.returns-clause-kept
returns-clause-kept c holds e there =
    let kept : IsSegmentedMap c.args.self.now = rw (← c.self.view_is) c.self.invariant in
    keeps_left c.args.self.now c.args._key.now e c.args.deadline there (returns-clause-may_stay c holds e there)
