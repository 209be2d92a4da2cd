use Rattle.std.proofs.Common.{sym, subst, rules}
use Rattle.segments.specs.Shown.{item_of}
use Rattle.segments.proofs.Places.{appended}
use Rattle.segments.proofs.MarkedPlaces.{knows_longer, item_within}
use Rattle.index.proofs.PlacesInLayout.{appended_in_layout}
use Rattle.segcache.specs.Invariants.{IsTied}
use Rattle.segcache.proofs.TiedParts.{some_item, tied_put, source_within}
use Rattle.segcache.proofs.AppendedItems.{AsksAppend, put_deadline}
use Rattle.segcache.proofs.AppendNeeds.{appended_here, appended_room, appended_index, appended_current, had_current}
use Rattle.segcache.proofs.segment_map.SegmentMap.append.Goals as goal
use Rattle.index.proofs.PoolKeys.{item_key, key_added}
use Rattle.index.proofs.FoundEntries.{found_kept}
use Rattle.segments.specs.Pools.{key_at}
use Rattle.segcache.specs.Writes.{FindsKey}
use Rattle.segcache.specs.State.{MapState}

pub insert-source-requires-clause-index : goal.insert-source-requires-clause-index
insert-source-requires-clause-index c =
    let a = c.self.inside in
    let i = item_of c.args.item in
    let added = appended a.pool c.args.bucket a.moment i c.append.new.self c.in_ok-place.place
    c.self.invariant.tied.known.pool
    c.in_ok-place.ensures.appended in
    (appended_current a.pool c.append.new.self c.args.bucket a.moment i c.in_ok-place.place a.index
    c.self.invariant.tied.indexed added).index

pub insert-source-requires-clause-found : goal.insert-source-requires-clause-found
insert-source-requires-clause-found c =
    let a = c.self.inside in
    let key = c.args.item.key.now in
    let added = key_added a.pool c.append.new.self c.args.bucket a.moment (item_of c.args.item) c.in_ok-place.place
    c.self.invariant.tied.known.pool c.in_ok-place.ensures.appended in
    found_kept (key_at a.pool) (key_at c.append.new.self) a.index key c.args.found c.self.invariant.tied.indexed added.kept
    (subst (λ (s : MapState). FindsKey s key c.args.found) (sym c.self.view_is) c.requires.found)

pub insert-source-requires-clause-key : goal.insert-source-requires-clause-key
insert-source-requires-clause-key c =
    let a = c.self.inside in
    let i = item_of c.args.item in
    let added = appended a.pool c.args.bucket a.moment i c.append.new.self c.in_ok-place.place
    c.self.invariant.tied.known.pool
    c.in_ok-place.ensures.appended in
    item_key c.append.new.self c.in_ok-place.place i
    (appended_here a.pool c.append.new.self c.args.bucket a.moment i c.in_ok-place.place added)

pub insert-source-requires-clause-place : goal.insert-source-requires-clause-place
insert-source-requires-clause-place c =
    let a = c.self.inside in
    let i = item_of c.args.item in
    let added = appended a.pool c.args.bucket a.moment i c.append.new.self c.in_ok-place.place
    c.self.invariant.tied.known.pool
    c.in_ok-place.ensures.appended in
    appended_in_layout a.pool c.append.new.self c.args.bucket a.moment i c.in_ok-place.place
    a.index.layout c.append.ensures.pool added
    c.self.invariant.tied.layout

pub insert-source-requires-clause-room : goal.insert-source-requires-clause-room
insert-source-requires-clause-room c =
    let a = c.self.inside in
    let i = item_of c.args.item in
    let added = appended a.pool c.args.bucket a.moment i c.append.new.self c.in_ok-place.place
    c.self.invariant.tied.known.pool
    c.in_ok-place.ensures.appended in
    appended_room a.pool c.append.new.self c.args.bucket a.moment i c.in_ok-place.place a.index
    a.marks c.self.invariant.tied c.append.ensures.pool added

pub mark_instead-requires-clause-source : goal.mark_instead-requires-clause-source
mark_instead-requires-clause-source c =
    let a = c.self.inside in
    let i = item_of c.args.item in
    let added = appended a.pool c.args.bucket a.moment i c.append.new.self c.in_ok-place.place
    c.self.invariant.tied.known.pool
    c.in_ok-place.ensures.appended in
    source_within a.pool a.index a.marks c.args.item.key.now c.insert-source.result
    c.self.invariant.tied
    (had_current a.pool c.append.new.self c.args.bucket a.moment i c.in_ok-place.place a.index
    c.insert-source.result
    c.self.invariant.tied.indexed added c.insert-source.ensures.had)

pub mark_instead-requires-clause-place : goal.mark_instead-requires-clause-place
mark_instead-requires-clause-place c =
    let a = c.self.inside in
    let i = item_of c.args.item in
    let added = appended a.pool c.args.bucket a.moment i c.append.new.self c.in_ok-place.place
    c.self.invariant.tied.known.pool
    c.in_ok-place.ensures.appended in
    item_within a.marks c.append.new.self c.in_ok-place.place
    (knows_longer a.marks a.pool c.args.bucket a.moment i c.append.new.self c.in_ok-place.place
    c.self.invariant.tied.known c.append.ensures.pool added)
    (some_item c.append.new.self c.in_ok-place.place i
    (appended_here a.pool c.append.new.self c.args.bucket a.moment i c.in_ok-place.place added))

pub invariant_of-self-2 : goal.invariant_of-self-2
invariant_of-self-2 c =
    let a = c.self.inside in
    let i = item_of c.args.item in
    let m0 : MapState = record { pool = a.pool; index = a.index; marks = a.marks; moment = a.moment } in
    let asks : AsksAppend m0 i c.args.item.deadline c.args.bucket =
    subst (λ (s : MapState). AsksAppend s i c.args.item.deadline c.args.bucket) (sym c.self.view_is) (search rules) in
    let p = a.pool in
    let after = c.append.new.self in
    let added = appended p c.args.bucket a.moment i after c.in_ok-place.place c.self.invariant.tied.known.pool
    c.in_ok-place.ensures.appended in
    let m = appended_index p after c.args.bucket a.moment i c.in_ok-place.place a.index c.insert-source.new.self
    c.self.invariant.tied.indexed added
    c.insert-source.ensures.map in
    let had = had_current p after c.args.bucket a.moment i c.in_ok-place.place a.index c.insert-source.result
    c.self.invariant.tied.indexed added
    c.insert-source.ensures.had in
    record {
      tied = subst (IsTied after c.insert-source.new.self) (sym c.mark_instead.ensures)
          (tied_put p after c.args.bucket a.moment i c.in_ok-place.place a.index c.insert-source.new.self
          a.marks c.insert-source.result
          c.self.invariant.tied c.append.ensures.pool added had m c.insert-source.ensures.size);
      past = (put_deadline p after c.args.bucket a.moment i c.args.item.deadline c.in_ok-place.place
          c.self.invariant.past c.self.invariant.tied.known.pool c.in_ok-place.ensures.appended asks.own asks.waits
          asks.of_bucket).past;
    }

pub returns-clause-appended : goal.returns-clause-appended
returns-clause-appended c =
    let a = c.self.inside in
    let i = item_of c.args.item in
    let p = a.pool in
    let after = c.append.new.self in
    let added = appended p c.args.bucket a.moment i after c.in_ok-place.place c.self.invariant.tied.known.pool
    c.in_ok-place.ensures.appended in
    let m = appended_index p after c.args.bucket a.moment i c.in_ok-place.place a.index c.insert-source.new.self
    c.self.invariant.tied.indexed added
    c.insert-source.ensures.map in
    rw (← c.self.view_is) (c.in_ok-place.ensures.appended, m.places_are)
