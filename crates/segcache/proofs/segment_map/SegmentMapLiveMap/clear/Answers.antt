use Rattle.std.proofs.Common.{ap, ◌∙◌}
use Rattle.index.specs.Table.{Places}
use Rattle.segcache.specs.Shown.{live_entries}
use Rattle.segcache.proofs.ShownItems.{shown_empty}
use Rattle.segcache.proofs.segment_map.SegmentMapLiveMap.clear.Goals as goal

pub returns-clause-entries : goal.returns-clause-entries
returns-clause-entries c =
    let new = c.remove_all.new.self in
    ap (λ (m : Places). live_entries new.pool m new.moment) c.remove_all.ensures.left
    ∙ shown_empty new.pool new.moment
