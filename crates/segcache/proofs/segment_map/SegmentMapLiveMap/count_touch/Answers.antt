use Rattle.std.proofs.Common.{◌≡◌, Some, ap}
use Rattle.std.specs.FinMap as finite
use Rattle.segments.specs.Pools.{PoolState}
use Rattle.segcache.specs.State.{MapState}
use Rattle.segcache.specs.Shown.{current}
use Rattle.segcache.proofs.KeptEntries.{keeps_touched}
use Rattle.segcache.proofs.TiedParts.{current_within, tied_hit}
use Rattle.segcache.proofs.OpeningMoments.{past_hit}
use Rattle.segcache.proofs.ShownItems.{shown_hit}
use Rattle.segcache.proofs.segment_map.SegmentMapLiveMap.count_touch.Goals as goal

pub count_hit-requires : goal.count_hit-requires
count_hit-requires c =
    let a = c.self.inside in
    let there : finite.get (current a.pool a.index) c.args._key.now ≡ Some c.args.place =
    (let h = c.requires in rw (← c.self.view_is) at h) in
    current_within a.pool a.index a.marks c.args._key.now c.args.place c.self.invariant.tied.known there

pub invariant_of-self : goal.invariant_of-self
invariant_of-self c =
    let a = c.self.inside in
    record {
      tied = (tied_hit a.pool c.count_hit.new.self a.index a.marks c.args.place.segment c.self.invariant.tied
          c.count_hit.ensures.pool c.count_hit.ensures.counted).0;
      past = past_hit a.pool c.count_hit.new.self a.moment c.args.place.segment c.count_hit.ensures.counted
          c.self.invariant.past;
    }

pub returns-clause-counted : goal.returns-clause-counted
returns-clause-counted c =
    let a = c.self.inside in
    record {
      place = c.args.place;
      stands = c.requires;
      new_is = rw (← c.self.view_is) (ap
          (λ (q : PoolState). record { pool = q; index = a.index; marks = a.marks; moment = a.moment })
          c.count_hit.ensures.counted);
    }

pub returns-clause-entries : goal.returns-clause-entries
returns-clause-entries c =
    let a = c.self.inside in
    let same = (tied_hit a.pool c.count_hit.new.self a.index a.marks c.args.place.segment c.self.invariant.tied
    c.count_hit.ensures.pool c.count_hit.ensures.counted).1 in
    rw (← c.self.view_is) (shown_hit a.pool c.count_hit.new.self a.index a.moment c.args.place.segment
    c.count_hit.ensures.counted same)

pub returns-clause-kept : goal.returns-clause-kept
returns-clause-kept c =
    let a = c.self.inside in
    let new : MapState = record { pool = c.count_hit.new.self; index = a.index; marks = a.marks; moment = a.moment } in
    rw (← c.self.view_is)
    (keeps_touched (record { pool = a.pool; index = a.index; marks = a.marks; moment = a.moment }) new c.args.place.segment
    c.count_hit.ensures.counted)
