use Rattle.std.proofs.Common.{◌≡◌, Some, ap, ◌∙◌}
use Rattle.std.specs.Prelude.{IsSome}
use Rattle.std.specs.FinMap as finite
use Rattle.segcache.specs.Shown.{current, shown_entries}
use Rattle.segcache.proofs.ShownItems.{shown_at}
use Rattle.segcache.proofs.TiedParts.{current_some}
use Rattle.segcache.proofs.segment_map.SegmentMapLiveMap.entry_at.Goals as goal

pub entry_at-requires : goal.entry_at-requires
entry_at-requires c =
    let a = c.self.inside in
    let stands : finite.get (current a.pool a.index) c.args._key.now ≡ Some c.args.place =
    (let h = c.requires.stands in rw (← c.self.view_is) at h) in
    current_some a.pool a.index c.args._key.now c.args.place stands

pub returns : goal.returns
returns c =
    let a = c.self.inside in
    let stands : finite.get (current a.pool a.index) c.args._key.now ≡ Some c.args.place =
    (let h = c.requires.stands in rw (← c.self.view_is) at h) in
    let there : IsSome (finite.get (shown_entries a.pool a.index a.moment) c.args._key.now) =
    (let h = c.requires.there in rw (← c.self.view_is) at h) in
    rw (← c.self.view_is)
    (ap Some c.entry_at.ensures.entry
    ∙ shown_at a.pool (current a.pool a.index) a.moment c.args._key.now c.args.place stands there)
