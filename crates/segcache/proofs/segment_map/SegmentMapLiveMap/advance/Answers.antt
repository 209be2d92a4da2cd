use Rattle.segcache.specs.Shown.{current}
use Rattle.segcache.proofs.ShownItems.{shown_later}
use Rattle.segcache.proofs.OpeningMoments.{past_later}
use Rattle.segcache.proofs.segment_map.SegmentMapLiveMap.advance.Goals as goal

pub returns-clause-entries : goal.returns-clause-entries
returns-clause-entries c =
    let a = c.self.inside in
    let le = c.requires.not_before in
    rw (← c.self.view_is) (shown_later a.pool (current a.pool a.index) a.moment c.args.now
    (rw (← c.self.view_is) at le))

pub invariant_of-self : goal.invariant_of-self
invariant_of-self c =
    let a = c.self.inside in
    let le = c.requires.not_before in
    record {
      tied = c.self.invariant.tied;
      past = past_later a.pool a.moment c.args.now c.self.invariant.past
          (rw (← c.self.view_is) at le) c.requires.in_range;
    }
