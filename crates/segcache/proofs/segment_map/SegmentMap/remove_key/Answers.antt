use Rattle.std.proofs.Common.{◌≡◌, ◌∙◌, sym, None}
use Rattle.std.specs.FinMap as finite
use Rattle.segcache.specs.Shown.{current}
use Rattle.segcache.proofs.TiedParts.{removed_none}
use Rattle.segcache.proofs.segment_map.SegmentMap.remove_key.Goals as goal

pub returns-in_default-clause-left : goal.returns-in_default-clause-left
returns-in_default-clause-left c =
    let a = c.self.inside in
    let none : None ≡ finite.get (current a.pool a.index) c.args.key.now =
    sym c.in_default.is ∙ c.place_found.ensures.place in
    rw (← c.self.view_is) (removed_none (current a.pool a.index) c.args.key.now (sym none))
