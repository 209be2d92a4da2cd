use Rattle.std.proofs.Common.{◌≡◌, Some, refl, sym, ap, subst, ◌∙◌}
use Rattle.std.specs.FinMap as finite
use Rattle.index.specs.Table.{Places}
use Rattle.segments.specs.Pools.{PoolState}
use Rattle.segcache.specs.Invariants.{IsPast}
use Rattle.segcache.specs.State.{MapState}
use Rattle.segments.specs.Items.{read_again}
use Rattle.segments.proofs.ItemChanges.{keeps_read}
use Rattle.segcache.proofs.KeptEntries.{keeps_changed}
use Rattle.segcache.specs.Shown.{current, live_entries}
use Rattle.segcache.proofs.ShownItems.{shown_same, touched_entry}
use Rattle.segcache.proofs.TiedParts.{tied_changed, current_some}
use Rattle.segcache.proofs.OpeningMoments.{past_changed}
use Rattle.segcache.proofs.segment_map.SegmentMapLiveMap.count_read.Goals as goal
use Rattle.segments.specs.Pools.{item_in}

pub count_read-requires : goal.count_read-requires
count_read-requires c =
    let a = c.self.inside in
    let there : finite.get (current a.pool a.index) c.args._key.now ≡ Some c.args.place =
    (let h = c.requires in rw (← c.self.view_is) at h) in
    current_some a.pool a.index c.args._key.now c.args.place there

pub invariant_of-self : goal.invariant_of-self
invariant_of-self c =
    let a = c.self.inside in
    let there : finite.get (current a.pool a.index) c.args._key.now ≡ Some c.args.place =
    (let h = c.requires in rw (← c.self.view_is) at h) in
    let some = current_some a.pool a.index c.args._key.now c.args.place there in
    record {
      tied = (tied_changed read_again a.pool c.count_read.new.self a.index a.marks c.args.place c.self.invariant.tied
          (record { sized = keeps_read _ some; key = λ i _. refl }) c.count_read.ensures.pool c.count_read.ensures.counted).0;
      past = subst (λ (q : PoolState). IsPast q a.moment) (sym c.count_read.ensures.counted)
          (past_changed read_again a.pool a.moment c.args.place c.self.invariant.past
          (keeps_read (item_in a.pool c.args.place) some)
          (λ i here. c.self.invariant.past.dated c.args.place i here));
    }

pub returns-clause-entries : goal.returns-clause-entries
returns-clause-entries c =
    let a = c.self.inside in
    let there : finite.get (current a.pool a.index) c.args._key.now ≡ Some c.args.place =
    (let h = c.requires in rw (← c.self.view_is) at h) in
    let some = current_some a.pool a.index c.args._key.now c.args.place there in
    let same = (tied_changed read_again a.pool c.count_read.new.self a.index a.marks c.args.place c.self.invariant.tied
    (record { sized = keeps_read _ some; key = λ i _. refl }) c.count_read.ensures.pool c.count_read.ensures.counted).1 in
    rw (← c.self.view_is)
    (ap (λ (m : Places). live_entries c.count_read.new.self m a.moment) same
    ∙ ap (λ (q : PoolState). live_entries q (current a.pool a.index) a.moment) c.count_read.ensures.counted
    ∙ shown_same a.pool _ (current a.pool a.index) a.moment (λ q r h. touched_entry a.pool c.args.place r some))

pub returns-clause-counted : goal.returns-clause-counted
returns-clause-counted c =
    let a = c.self.inside in
    record {
      place = c.args.place;
      stands = c.requires;
      new_is = rw (← c.self.view_is) (ap
          (λ (q : PoolState). record { pool = q; index = a.index; marks = a.marks; moment = a.moment })
          c.count_read.ensures.counted);
    }

pub returns-clause-kept : goal.returns-clause-kept
returns-clause-kept c =
    let a = c.self.inside in
    let there : finite.get (current a.pool a.index) c.args._key.now ≡ Some c.args.place =
    (let h = c.requires in rw (← c.self.view_is) at h) in
    let some = current_some a.pool a.index c.args._key.now c.args.place there in
    let new : MapState = record { pool = c.count_read.new.self; index = a.index; marks = a.marks; moment = a.moment } in
    rw (← c.self.view_is)
    (λ items keeps.
    keeps_changed read_again (record { pool = a.pool; index = a.index; marks = a.marks; moment = a.moment }) new c.args.place
    (keeps_read _ some) c.count_read.ensures.counted items (λ i none. none) keeps)

pub returns-clause-stands : goal.returns-clause-stands
returns-clause-stands c =
    let a = c.self.inside in
    let there : finite.get (current a.pool a.index) c.args._key.now ≡ Some c.args.place =
    (let h = c.requires in rw (← c.self.view_is) at h) in
    let some = current_some a.pool a.index c.args._key.now c.args.place there in
    let same = (tied_changed read_again a.pool c.count_read.new.self a.index a.marks c.args.place c.self.invariant.tied
    (record { sized = keeps_read _ some; key = λ i _. refl }) c.count_read.ensures.pool c.count_read.ensures.counted).1 in
    rw (← c.self.view_is) (λ key place h. ap (λ (m : Places). finite.get m key) same ∙ h)
