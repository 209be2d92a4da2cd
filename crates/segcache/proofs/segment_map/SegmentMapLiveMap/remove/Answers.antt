use Rattle.segcache.proofs.LeftPlaces.{shown_left_at}
use Rattle.segcache.proofs.segment_map.SegmentMapLiveMap.remove.Goals as goal

pub returns-clause-entries : goal.returns-clause-entries
returns-clause-entries c =
    shown_left_at c.args.self.now c.remove_key.new.self c.args.key.now c.remove_key.ensures.same.pool
    c.remove_key.ensures.moment c.remove_key.ensures.left
