-- What a segmented map keeps of what was stored, where an entry is written, and where items leave
-- or are read.
use Rattle.std.proofs.Common.{◌≡◌, ℕ, ◌≤◌, Bool, true, false, cond, List, [], Option, Some, None, refl, sym, ap, subst, ◌∙◌, inl, inr}
use Rattle.std.proofs.Common.{arith, le-leb}
use Rattle.std.specs.Prelude.{◌==◌, option_map}
use Rattle.std.specs.Option.{option_map_or}
use Rattle.std.specs.FinMap as finite
use Rattle.std.proofs.lemmas.Bool.{cases_Bool, eq-eqb}
use Rattle.std.proofs.lemmas.Option.{none-some}
use Rattle.proto.specs.Sizes.{Sizes, item_limit}
use Rattle.proto.specs.Buckets.{bucket_of, time_to_live, MayLive}
use Rattle.proto.proofs.StepLemmas.{get-stored}
use Rattle.proto.specs.Cache.{Entry, Entries}
use Rattle.proto.specs.Steps as steps
use Rattle.proto.specs.Stored.{StoredItem, written}
use Rattle.proto.proofs.CacheLemmas.{entry_size, is_live, if_live}
use Rattle.engine.specs.Keeping.{StaysKept, AddsNoDeadline, KeepsEntry}
use Rattle.segments.specs.declared.place.Place.{Place}
use Rattle.segments.specs.Items.{Item, IsStorable}
use Rattle.segments.specs.Pools.{PoolState, IsPool, Used, Liveness, item_in, place_deadline, deadline_in, segment_at, lasting}
use Rattle.proto.specs.declared.eviction.Eviction.{Eviction}
use Rattle.segments.specs.Changes.{with_change, with_eviction, with_segment_hit, new_pool}
use Rattle.segments.specs.Filling.{IsFilled, held_size}
use Rattle.segments.proofs.ItemChanges.{KeepsSize, some_kept}
use Rattle.segments.proofs.Places.{appended, changed_segment}
use Rattle.segments.proofs.FilledLemmas.{filled_changed}
use Rattle.index.specs.Table.{Places}
use Rattle.segcache.specs.Shown.{current, shown_entries, live_entries, entry_at, kept_entry, dead_entry}
use Rattle.segcache.specs.State.{MapState}
use Rattle.segcache.specs.Invariants.{IsPast}
use Rattle.segcache.specs.LiveItems.{live_others}
use Rattle.segcache.specs.Writes.{StandsAt, unread, goes_over, WritesAnew}
use Rattle.segcache.specs.ForgottenKeys.{PlacesItem, keys_forgotten}
use Rattle.segcache.specs.Keeping.{AllLast, NoneDated, KeepsStored}
use Rattle.segcache.specs.ItemBuckets.{bucket_for}
use Rattle.segcache.proofs.AppendedItems.{bucket_of_none}
use Rattle.segments.specs.Places.{same_place}
use Rattle.segments.proofs.MovedPlaces.{same_place_is}
use Rattle.segments.proofs.Places.{changed_item}
use Rattle.segments.specs.Pools.{items_of}
use Rattle.segments.specs.Items.{item_at}
use Rattle.std.proofs.Common.{get_or, replicate}
use Rattle.segcache.proofs.ShownItems.{get-live_in, entry_is}
use Rattle.segcache.proofs.OpeningMoments.{was_opened}
use Rattle.segcache.proofs.AppendNeeds.{appended_here}
use Rattle.segcache.proofs.WritesWithRoom.{kept_with, holds_little, written_more, all_last, last_appended}
use Rattle.segments.proofs.MarkedPlaces.{nothing_at}
use Rattle.segments.specs.Pools.{bucket_deadline, shared_at}
use Rattle.segments.specs.Items.{deadline_if_there, item_deadline, own_or_shared}
use Rattle.segcache.proofs.OwnDeadlines.{dated_never, none_of_its_own}
use Rattle.segcache.specs.OwnDeadlines.{own_deadline_by}
use Rattle.engine.specs.Deadlines.{is_storable_deadline}
use Rattle.segcache.specs.Writes.{unread_by}

-- ---- no entry has a deadline where all segments are of the bucket of what has none

-- a segment of the bucket of what has no deadline has none, nor has a free one
pub undated_segment : (o : Option Used) → ((u : Used) → o ≡ Some u → u.bucket ≡ lasting) → deadline_in o ≡ None
undated_segment None all = refl
undated_segment (Some u) all = let z = eq-eqb u.bucket lasting (all u refl) in rw z refl

-- an item without a deadline of its own whose segment has none has none
undated_by : (shared : Option ℕ) (o : Option Item) → shared ≡ None
    → ((i : Item) → o ≡ Some i → i.own_deadline ≡ 0) → deadline_if_there shared o ≡ None
undated_by shared None none each = refl
undated_by shared (Some i) none each = ap (item_deadline i) none ∙ dated_never i (each i refl)

-- where all segments are of that bucket, and no item has one of its own, no place has a deadline
pub undated_place : (p : PoolState) (r : Place) → NoneDated p → AllLast p → place_deadline p r ≡ None
undated_place p r dated all =
    undated_by (shared_at p r) (item_in p r) (undated_segment (segment_at p r.segment) (all r.segment)) (dated r)

-- the deadline of an entry, none where there is no entry
abbrev asked_at : Option Entry → Option ℕ
asked_at o = option_map_or (λ (e : Entry). e.deadline) o None

-- what is shown of a place without a deadline has none either; where no item stands there, nothing
-- is shown
undated_item : (t : ℕ) (d : Option ℕ) (o : Option Item) → d ≡ None
    → asked_at (if_live t (Some (option_map_or (kept_entry d) o dead_entry))) ≡ None
undated_item t d None none = let z = le-leb 0 t (omega arith) in rw z refl
undated_item t d (Some i) none = by_test (is_live (kept_entry d i) t)
  where
    by_test : (b : Bool) → asked_at (cond b (Some (kept_entry d i)) None) ≡ None
    by_test true = none
    by_test false = refl

-- where all segments are of that bucket, what is shown of a place, if there is one, has no deadline
undated_entry : (p : PoolState) (t : ℕ) (o : Option Place) → NoneDated p → AllLast p
    → asked_at (if_live t (option_map (entry_at p) o)) ≡ None
unfolding entry_at
undated_entry p t None dated all = refl
undated_entry p t (Some r) dated all =
    undated_item t (place_deadline p r) (item_in p r) (undated_place p r dated all)

-- where all segments are of that bucket, no key is shown with a deadline
undated_shown : (p : PoolState) (m : Places) (t : ℕ) (key : List ℕ) → NoneDated p → AllLast p
    → steps.deadline_at (live_entries p m t) key ≡ None
undated_shown p m t key dated all = ap asked_at (get-live_in p m t key) ∙ undated_entry p t (finite.get m key) dated all

-- so an entry that is written has none either
pub adds_none : (p : PoolState) (m : Places) (t : ℕ) (key : List ℕ) (e : Entry) → NoneDated p → AllLast p
    → AddsNoDeadline (live_entries p m t) key e → e.deadline ≡ None
adds_none p m t key e dated all (inl none) = none
adds_none p m t key e dated all (inr same) = same ∙ undated_shown p m t key dated all

-- ---- one write

-- the entry of an item that was appended, in a pool without deadlines
entry_there : (after : PoolState) (place : Place) (b : Bool) (key : List ℕ) (e : Entry)
    → item_in after place ≡ Some (unread_by b key e) → place_deadline after place ≡ None → e.deadline ≡ None
    → entry_at after place ≡ e
entry_there after place b key e here undated none =
    entry_is after place (unread_by b key e) here
    ∙ ap (λ (d : Option ℕ). kept_entry d (unread_by b key e)) (undated ∙ sym none)

-- An entry that is written where little is stored, and nothing with a deadline, is kept with what
-- was.
pub keeps_entry : (lives : Liveness) (old new : MapState) (key : List ℕ) (e : Entry) → IsPool old.pool
    → IsPast old.pool old.moment
    → IsStorable (item_limit old.pool.sizes) (unread old key e)
    → new.moment ≡ old.moment
    → PlacesItem lives old.pool old.index (bucket_for old.pool old.moment e.deadline) old.moment
    (unread old key e) new.pool new.index
    → KeepsEntry (λ (m : MapState). m.pool.sizes) (λ (m : MapState). shown_entries m.pool m.index m.moment)
    (λ (m : MapState). m.moment) KeepsStored old key e new
keeps_entry lives old new key e pool past storable moment placed items keeps adds within =
    let p = old.pool in
    let left = old.index in
    let t = old.moment in
    let none : e.deadline ≡ None = adds_none p (current p old.index) t key e keeps.none_dated keeps.all_last adds in
    let bucket : bucket_of (time_to_live e.deadline t) ≡ lasting =
    ap (λ (d : Option ℕ). bucket_of (time_to_live d t)) none in
    let one : StoredItem = record { size = entry_size key e; bucket = bucket_of (time_to_live e.deadline t) } in
    let i = unread old key e in
    let little = holds_little p t items one pool keeps.all_last keeps.undated bucket keeps.held within in
    let there : bucket_for p t e.deadline ≡ lasting = ap (bucket_for p t) none ∙ bucket_of_none p t in
    let x : PlacesItem lives p left lasting t i new.pool new.index =
    subst (λ (b : ℕ). PlacesItem lives p left b t i new.pool new.index) there placed in
    let kept = kept_with lives p left lasting t i new.pool new.index pool past storable keeps.filled little x in
    let all = last_appended p t i new.pool x.place pool past kept.added keeps.all_last in
    let put = appended p lasting t i new.pool x.place pool kept.added in
    let here = appended_here p new.pool lasting t i x.place put in
    let plain : i.own_deadline ≡ 0 = ap (own_deadline_by old.pool.exact) none ∙ none_of_its_own old.pool.exact in
    let undated : place_deadline new.pool x.place ≡ None =
    put.deadline ∙ ap (λ (n : ℕ). own_or_shared n (bucket_deadline lasting put.opened)) plain in
    let is = entry_there new.pool x.place old.pool.exact key e here undated none in
    let held = kept.held in
    let more = written_more items one in
    let was = keeps.held in (
      ap (λ (u : ℕ). shown_entries new.pool new.index u) moment ∙ kept.entries
          ∙ ap (finite.insert (shown_entries p left t) key) is,
      record {
        filled = kept.filled;
        all_last = all;
        none_dated = λ r j is.
            elim (cases_Bool (same_place r x.place)) [
              | inl y ↦
                  let one : Some j ≡ Some i = sym is ∙ put.items r ∙ rw y refl in
                  let same : j ≡ i = cc in
                  ap (λ (k : Item). k.own_deadline) same ∙ plain
              | inr n ↦ keeps.none_dated r j (sym (put.items r ∙ rw n refl) ∙ is)
            ];
        undated = all_last items one keeps.undated bucket;
        held = omega arith;
      },
    )

-- what two maps have at one key, put into them to the same end, is the same
same_put : (all m n : Entries) (key : List ℕ) (a b : Entry) → all ≡ finite.insert m key a
    → all ≡ finite.insert n key b → a ≡ b
same_put all m n key a b one other =
    let first : finite.get all key ≡ Some a = ap (λ (x : Entries). finite.get x key) one ∙ get-stored m key a in
    let second : finite.get all key ≡ Some b = ap (λ (x : Entries). finite.get x key) other ∙ get-stored n key b in
    let same : Some a ≡ Some b = sym first ∙ second in
    cc

-- An item that was placed is that of the entry, with the deadline that is shown.
pub writes_anew : (old new : MapState) (key : List ℕ) (e : Entry)
    → ((place : Place) → StandsAt old key place → goes_over old e.deadline (unread old key e) place ≡ false)
    → IsStorable (item_limit old.pool.sizes) (unread old key e)
    → PlacesItem (live_others key old.marks old.moment) old.pool old.index
    (bucket_for old.pool old.moment e.deadline) old.moment (unread old key e) new.pool new.index
    → (deadline : Option ℕ) → MayLive old.moment e.deadline deadline
    → (old.pool.exact ≡ true → is_storable_deadline e.deadline ≡ true → deadline ≡ e.deadline) → (kept : Entries)
    → shown_entries new.pool new.index old.moment ≡ finite.insert kept key (kept_entry deadline (unread old key e))
    → WritesAnew old key e new
writes_anew old new key e anew storable placed deadline may exact kept entries =
    let lives = live_others key old.marks old.moment in
    let bucket = bucket_for old.pool old.moment e.deadline in
    let keys = keys_forgotten lives old.pool bucket old.moment
    (unread old key e) placed.written.roomy placed.written.room in
    record {
      anew = anew;
      storable = storable;
      placed = placed;
      deadline = deadline;
      may_live = may;
      exact = exact;
      stands = same_put (shown_entries new.pool new.index old.moment)
          (steps.without_keys (shown_entries old.pool old.index old.moment) keys) kept key
          (entry_at new.pool placed.place)
          (kept_entry deadline (unread old key e)) placed.entries entries;
    }

-- ---- what else happens to a map

-- a change of an item that keeps its size keeps what was kept, if it gives no item a deadline of
-- its own
pub keeps_changed : (change : Item → Item) (old new : MapState) (place : Place) → KeepsSize change (item_in old.pool place)
    → new.pool ≡ with_change change old.pool place
    → (items : List StoredItem) → ((i : Item) → i.own_deadline ≡ 0 → (change i).own_deadline ≡ 0)
    → KeepsStored old items → KeepsStored new items
keeps_changed change old new place k is items plain keeps =
    let p = old.pool in
    let some = some_kept change (item_in p place) k in
    let filled = filled_changed change p place k keeps.filled in
    let held = filled.1 in
    let was = keeps.held in
    let size : held_size new.pool ≡ held_size (with_change change p place) = ap held_size is in
    record {
      filled = subst IsFilled (sym is) filled.0;
      all_last = λ n u e.
          (let at = changed_segment change p place n some in
          let now : segment_at (with_change change p place) n ≡ Some u =
          ap (λ (q : PoolState). segment_at q n) (sym is) ∙ e in
          elim (cases_Bool (n == place.segment)) [
            | inl y ↦
                let r = was_opened change (segment_at p place.segment) place.offset u (sym (at ∙ rw y refl) ∙ now) in
                r.3 ∙ keeps.all_last place.segment r.0 r.1
            | inr f ↦ keeps.all_last n u (sym (at ∙ rw f refl) ∙ now)
          ]);
      none_dated = λ r j e.
          (let at = changed_item change p place r k in
          let now : item_in (with_change change p place) r ≡ Some j = ap (λ (q : PoolState). item_in q r) (sym is) ∙ e in
          elim (cases_Bool (same_place r place)) [
            | inl y ↦
                let was : item_in p r ≡ Some k.item = ap (item_in p) (same_place_is r place y) ∙ k.is in
                let changed : option_map change (item_in p r) ≡ Some (change k.item) = ap (option_map change) was in
                let one : Some j ≡ Some (change k.item) = sym now ∙ at ∙ rw y changed in
                let same : j ≡ change k.item = cc in
                ap (λ (i : Item). i.own_deadline) same ∙ plain k.item (keeps.none_dated place k.item k.is)
            | inr n ↦ keeps.none_dated r j (sym (at ∙ rw n refl) ∙ now)
          ]);
      undated = keeps.undated;
      held = omega arith;
    }

-- where only a hit of a segment is counted, all is kept
pub keeps_touched : (old new : MapState) (n : ℕ) → new.pool ≡ with_segment_hit old.pool n → StaysKept KeepsStored old new
keeps_touched old new n is items keeps =
    record {
      filled = subst IsFilled (sym is) keeps.filled;
      all_last = subst AllLast (sym is) keeps.all_last;
      none_dated = subst NoneDated (sym is) keeps.none_dated;
      undated = keeps.undated;
      held = subst (λ (q : PoolState). held_size q ≤ written items) (sym is) keeps.held;
    }

-- where the pool stays, all is kept
pub keeps_same : (old new : MapState) → new.pool ≡ old.pool → StaysKept KeepsStored old new
keeps_same old new is items keeps =
    record {
      filled = subst IsFilled (sym is) keeps.filled;
      all_last = subst AllLast (sym is) keeps.all_last;
      none_dated = subst NoneDated (sym is) keeps.none_dated;
      undated = keeps.undated;
      held = subst (λ (q : PoolState). held_size q ≤ written items) (sym is) keeps.held;
    }

-- an empty pool keeps nothing
pub keeps_none : (m : MapState) (sizes : Sizes) (eviction : Eviction) (exact : Bool)
    → m.pool ≡ with_eviction (new_pool sizes) eviction exact → KeepsStored m []
unfolding new_pool
keeps_none m sizes eviction exact is =
    subst (λ (q : PoolState). KeepsStored (record m { pool = q }) []) (sym is)
    (record {
      filled = tt;
      all_last = λ n u e. absurd (none-some u (sym (nothing_at None sizes.segments n) ∙ e));
      none_dated = λ r i e.
          (let none : item_at (items_of (get_or (replicate sizes.segments None) r.segment None)) r.offset ≡ None =
          ap (λ (o : Option Used). item_at (items_of o) r.offset) (nothing_at None sizes.segments r.segment) in
          absurd (none-some i (sym none ∙ e)));
      undated = tt;
      held = omega arith;
    })
