-- What an item leaves that is put over the one of its key, of the same size.
use Rattle.std.proofs.Common.{◌≡◌, ℕ, ◌<◌, ◌^◌, true, false, List, Option, Some, None}
use Rattle.std.proofs.Common.{refl, sym, ap, subst, ◌∙◌, inl, inr, arith}
use Rattle.std.specs.Prelude.{bytes_eq, option_map, IsSome}
use Rattle.std.specs.FinMap as finite
use Rattle.std.proofs.lemmas.Bool.{cases_Bool, false≢true}
use Rattle.std.proofs.lemmas.Slice.Eq.{bytes_eq-Decides}
use Rattle.proto.specs.Sizes.{item_limit}
use Rattle.proto.specs.Cache.{Entry, has_arrived}
use Rattle.proto.specs.Buckets.{bucket_of, time_to_live}
use Rattle.proto.specs.Stored.{StoredItem}
use Rattle.proto.proofs.CacheLemmas.{entry_size, is_live, same_entries, get-insert, if_live}
use Rattle.engine.specs.Keeping.{KeepsEntry}
use Rattle.segments.specs.declared.place.Place.{Place}
use Rattle.segments.specs.Items.{Item, IsStorable, fits_over}
use Rattle.segments.specs.Pools.{PoolState, IsPool, item_in, place_deadline, lasting}
use Rattle.segments.specs.Changes.{with_item_at}
use Rattle.segments.specs.Places.{same_place}
use Rattle.segments.proofs.ItemChanges.{KeepsSize, keeps_over}
use Rattle.segments.proofs.Places.{item_storable}
use Rattle.segments.proofs.MovedPlaces.{same_place_is, same_place_itself}
use Rattle.index.specs.Table.{Table, Places}
use Rattle.segcache.specs.Shown.{current, shown_entries, live_entries, entry_at, kept_entry}
use Rattle.segcache.specs.State.{MapState, IsSegmentedMap}
use Rattle.segcache.specs.Invariants.{IsPast}
use Rattle.segcache.specs.Keeping.{KeepsStored}
use Rattle.segcache.specs.Writes.{StandsAt, ChangesInPlace, with_value}
use Rattle.engine.specs.Written.{IsWritten, IsChanged, MayBeWritten}
use Rattle.engine.proofs.EngineLemmas.{written_exactly}
use Rattle.segcache.proofs.ShownItems.{get-live_in, shown_at, same_maps, live_entry, entry_is, changed_entry}
use Rattle.segcache.proofs.TiedParts.{KeepsKey, current_item, tied_changed}
use Rattle.segcache.proofs.OpeningMoments.{past_changed}
use Rattle.segcache.proofs.WriteParts.{may_store}
use Rattle.segcache.proofs.KeptEntries.{adds_none, keeps_changed}
use Rattle.segcache.proofs.WritesWithRoom.{written_more, all_last}
use Rattle.segments.specs.Items.{deadline_if_there, item_deadline}
use Rattle.segments.specs.Pools.{shared_at}
use Rattle.segcache.specs.Writes.{unread_by}
use Rattle.segcache.proofs.OwnDeadlines.{own_small}

-- ---- what is shown

-- an item that is put over another one is shown where it stands
pub over_entry : (p : PoolState) (place : Place) (new : Item) → KeepsSize (λ _. new) (item_in p place)
    → entry_at (with_item_at p place new) place ≡ kept_entry (item_deadline new (shared_at p place)) new
over_entry p place new k =
    let itself = same_place_itself place in
    let is = k.is in
    changed_entry (λ _. new) p place place k ∙ rw (itself, is) refl

-- and elsewhere is shown what was
pub other_entry : (p : PoolState) (place r : Place) (new : Item) → KeepsSize (λ _. new) (item_in p place)
    → same_place r place ≡ false → entry_at (with_item_at p place new) r ≡ entry_at p r
unfolding entry_at
other_entry p place r new k n = changed_entry (λ _. new) p place r k ∙ rw n refl

-- places of different keys differ
pub apart : (p : PoolState) (index : Table) (key q : List ℕ) (place r : Place)
    → finite.get (current p index) key ≡ Some place → finite.get (current p index) q ≡ Some r
    → bytes_eq q key ≡ false → same_place r place ≡ false
apart p index key q place r there here n =
    elim (cases_Bool (same_place r place)) [
      | inr f ↦ f
      | inl y ↦
          let a = current_item p index key place there in
          let b = current_item p index q r here in
          let both : Some a.0 ≡ Some b.0 = sym a.1 ∙ ap (item_in p) (sym (same_place_is r place y)) ∙ b.1 in
          let is : a.0 ≡ b.0 = cc in
          let same : q ≡ key = sym b.2 ∙ ap (λ (i : Item). i.key) (sym is) ∙ a.2 in
          absurd (false≢true (sym n ∙ (bytes_eq-Decides q key).1 same))
    ]

-- a key whose place shows another entry now, where all others show what they did
pub shown_over : (p after : PoolState) (m : Places) (t : ℕ) (key : List ℕ) (place : Place) (e : Entry)
    → finite.get m key ≡ Some place → entry_at after place ≡ e → is_live e t ≡ true
    → ((q : List ℕ) (r : Place) → bytes_eq q key ≡ false → finite.get m q ≡ Some r → entry_at after r ≡ entry_at p r)
    → live_entries after m t ≡ finite.insert (live_entries p m t) key e
shown_over p after m t key place e there is waits h =
    same_entries _ _ (λ q. elim (cases_Bool (bytes_eq q key)) [
      | inl y ↦
          let same : q ≡ key = (bytes_eq-Decides q key).0 y in
          let here : finite.get m q ≡ Some place = ap (finite.get m) same ∙ there in
          let put : finite.get (finite.insert (live_entries p m t) key e) q ≡ Some e =
          get-insert (live_entries p m t) key e q ∙ rw y refl in
          get-live_in after m t q ∙ ap (λ (o : Option Place). if_live t (option_map (entry_at after) o)) here
          ∙ ap (λ (x : Entry). if_live t (Some x)) is ∙ live_entry t e waits ∙ sym put
      | inr n ↦
          let put : finite.get (finite.insert (live_entries p m t) key e) q ≡ finite.get (live_entries p m t) q =
          get-insert (live_entries p m t) key e q ∙ rw n refl in
          get-live_in after m t q ∙ ap (if_live t) (same_maps p after (finite.get m q) (λ r g. h q r n g))
          ∙ sym (get-live_in p m t q) ∙ sym put
    ])

-- ---- the key's item

-- what is known of an item that may be put over the one of its key
record IsOver (old : MapState) (key : List ℕ) (e : Entry) (place : Place) : Type 0 where
  pub item : Item
  pub is_at : item_in old.pool place ≡ Some item
  pub key_is : item.key ≡ key
  pub flags : item.flags ≡ e.flags
  pub deadline : place_deadline old.pool place ≡ e.deadline
  pub storable : IsStorable (item_limit old.pool.sizes) item

over : (old : MapState) (key : List ℕ) (e : Entry) (place : Place) → IsSegmentedMap old → StandsAt old key place
    → IsChanged (finite.get (shown_entries old.pool old.index old.moment) key) e → IsOver old key e place
over old key e place kept there changed =
    let p = old.pool in
    let x = current_item p old.index key place there in
    let some : IsSome (finite.get (shown_entries p old.index old.moment) key) = subst IsSome (sym changed.was) refl in
    let both : Some (entry_at p place) ≡ Some (record e { value = changed.value; cas = changed.cas }) =
    shown_at p (current p old.index) old.moment key place there some ∙ changed.was in
    let shown : entry_at p place ≡ record e { value = changed.value; cas = changed.cas } = cc in
    let is : kept_entry (place_deadline p place) x.0 ≡ record e { value = changed.value; cas = changed.cas } =
    sym (entry_is p place x.0 x.1) ∙ shown in
    record {
      item = x.0;
      is_at = x.1;
      key_is = x.2;
      flags = ap (λ (y : Entry). y.flags) is;
      deadline = ap (λ (y : Entry). y.deadline) is;
      storable = item_storable p place x.0 kept.tied.known.pool x.1;
    }

-- an item that may be stored may be so with the read count of another one
pub with_reads : (limit : ℕ) (i j : Item) → IsStorable limit i → IsStorable limit j
    → IsStorable limit (record i { reads = j.reads })
with_reads limit i j s r =
    record {
      cas = s.cas;
      flags = s.flags;
      some_key = s.some_key;
      short_key = s.short_key;
      reads = r.reads;
      small = s.small;
      own_deadline = s.own_deadline;
    }

-- an entry whose deadline hasn't come is live
pub waiting : (e : Entry) (t : ℕ) → has_arrived e.deadline t ≡ false → is_live e t ≡ true
waiting e t h = rw h refl

-- an item put over the one of its key leaves size and key
pub over_keeps : (p : PoolState) (place : Place) (new i : Item) → item_in p place ≡ Some i → i.key ≡ new.key
    → fits_over new (item_in p place) ≡ true → KeepsKey (λ _. new) p place
over_keeps p place new i at same fits =
    record {
      sized = keeps_over new (item_in p place) fits;
      key = λ j e. (let both : Some i ≡ Some j = sym at ∙ e in let is : i ≡ j = cc in
          sym same ∙ ap (λ (x : Item). x.key) is);
    }

-- the item put over the one of its key changes the entry in place
changes_in_place : (old : MapState) (pool : PoolState) (key : List ℕ) (e : Entry) (place : Place)
    (o : IsOver old key e place)
    → IsSegmentedMap old → StandsAt old key place → has_arrived e.deadline old.moment ≡ false
    → fits_over (with_value e o.item) (item_in old.pool place) ≡ true
    → pool ≡ with_item_at old.pool place (with_value e o.item) → IsPool pool
    → ChangesInPlace old key e (record old { pool = pool })
changes_in_place old pool key e place o kept there waits h is whole =
    let p = old.pool in
    let i = with_value e o.item in
    let k = over_keeps p place i o.item o.is_at refl h in
    let t = tied_changed (λ _. i) p pool old.index old.marks place kept.tied k whole is in
    let dated : item_deadline i (shared_at p place) ≡ e.deadline =
    sym (ap (deadline_if_there (shared_at p place)) o.is_at) ∙ o.deadline in
    let here : entry_at pool place ≡ e =
    ap (λ (q : PoolState). entry_at q place) is ∙ over_entry p place i k.sized
    ∙ (λ n. record { value = e.value; flags = o.flags n; deadline = dated n; cas = e.cas }) in
    record {
      place = place;
      stands = there;
      item = o.item;
      is_at = o.is_at;
      flags = o.flags;
      deadline = o.deadline;
      waits = waits;
      fits = subst (λ (x : Option Item). fits_over i x ≡ true) o.is_at h;
      new_is = ap (λ (q : PoolState). record old { pool = q }) is;
      entries = ap (λ (m : Places). live_entries pool m old.moment) t.1
          ∙ shown_over p pool (current p old.index) old.moment key place e there here (waiting e old.moment waits)
          (λ q r n g. ap (λ (x : PoolState). entry_at x r) is
          ∙ other_entry p place r i k.sized (apart p old.index key q place r there g n));
    }

-- the change leaves the item's size
pub sized_over : (old new : MapState) (key : List ℕ) (e : Entry) → (w : ChangesInPlace old key e new)
    → KeepsSize (λ _. with_value e w.item) (item_in old.pool w.place)
sized_over old new key e w = keeps_over (with_value e w.item) (item_in old.pool w.place)
    (subst (λ (o : Option Item). fits_over (with_value e w.item) o ≡ true) (sym w.is_at) w.fits)

-- and keeps what was stored
keeps_over_key : (old new : MapState) (key : List ℕ) (e : Entry) → ChangesInPlace old key e new
    → KeepsEntry (λ (m : MapState). m.pool.sizes) (λ (m : MapState). shown_entries m.pool m.index m.moment)
    (λ (m : MapState). m.moment) KeepsStored old key e new
keeps_over_key old new key e w items keeps adds within =
    let p = old.pool in
    let t = old.moment in
    let k = keeps_changed (λ _. with_value e w.item) old new w.place (sized_over old new key e w)
    (ap (λ (m : MapState). m.pool) w.new_is) items (λ i was. keeps.none_dated w.place w.item w.is_at) keeps in
    let moment : new.moment ≡ t = ap (λ (m : MapState). m.moment) w.new_is in
    let none : e.deadline ≡ None = adds_none p (current p old.index) t key e keeps.none_dated keeps.all_last adds in
    let bucket : bucket_of (time_to_live e.deadline t) ≡ lasting =
    ap (λ (d : Option ℕ). bucket_of (time_to_live d t)) none in
    let one : StoredItem = record { size = entry_size key e; bucket = bucket_of (time_to_live e.deadline t) } in
    let more = written_more items one in
    let held = k.held in (
      ap (λ (u : ℕ). shown_entries new.pool new.index u) moment ∙ w.entries,
      record {
        filled = k.filled;
        all_last = k.all_last;
        none_dated = k.none_dated;
        undated = all_last items one keeps.undated bucket;
        held = omega arith;
      },
    )

-- ---- the call `rewrite`

-- what it requires of a map and the entry of a key, which stands at a place
pub record AsksRewrite (m : MapState) (key : List ℕ) (e : Entry) (place : Place) : Type 0 where
  pub stands : StandsAt m key place
  pub changed : IsChanged (finite.get (shown_entries m.pool m.index m.moment) key) e
  pub waits : has_arrived e.deadline m.moment ≡ false
  pub fits : MayBeWritten m.pool.sizes (shown_entries m.pool m.index m.moment) key e.value

-- the item that it puts over the one that was read at the place
abbrev pub item_over : List ℕ → Entry → Item → Item
item_over key e found = record (unread_by false key e) { reads = found.reads; own_deadline = found.own_deadline }

-- a segment can hold it
pub storable_over : (m : MapState) (key : List ℕ) (e : Entry) (place : Place) (found : Item) → AsksRewrite m key e place
    → IsSegmentedMap m → Some found ≡ item_in m.pool place → e.cas < 2 ^ 64 → e.flags < 2 ^ 32
    → IsStorable (item_limit m.pool.sizes) (item_over key e found)
storable_over m key e place found asks kept at cas flags =
    let was = item_storable m.pool place found kept.tied.known.pool (sym at) in
    let new = may_store m.pool m.index m.marks m.moment (unread_by false key e) kept.tied asks.fits cas flags refl
    (own_small false e.deadline) in
    record {
      cas = new.cas;
      flags = new.flags;
      some_key = new.some_key;
      short_key = new.short_key;
      reads = was.reads;
      small = new.small;
      own_deadline = was.own_deadline;
    }

-- what it leaves where the item fits
pub record IsRewritten (old new : MapState) (key : List ℕ) (e : Entry) : Type 0 where
  pub kept : IsSegmentedMap new
  pub changed : ChangesInPlace old key e new
  pub written : IsWritten old.pool.sizes old.moment (shown_entries old.pool old.index old.moment) key e
      (shown_entries new.pool new.index new.moment)
  pub keeps : KeepsEntry (λ (m : MapState). m.pool.sizes) (λ (m : MapState). shown_entries m.pool m.index m.moment)
      (λ (m : MapState). m.moment) KeepsStored old key e new

pub rewritten : (m : MapState) (key : List ℕ) (e : Entry) (place : Place) (found : Item) (pool : PoolState)
    → AsksRewrite m key e place → IsSegmentedMap m → Some found ≡ item_in m.pool place
    → fits_over (item_over key e found) (item_in m.pool place) ≡ true
    → pool ≡ with_item_at m.pool place (item_over key e found) → IsPool pool
    → IsRewritten m (record m { pool = pool }) key e
rewritten m key e place found pool asks kept at fits is whole =
    let o = over m key e place kept asks.stands asks.changed in
    let both : Some found ≡ Some o.item = at ∙ o.is_at in
    let found_is : found ≡ o.item = cc in
    let same : item_over key e found ≡ with_value e o.item =
    ap (item_over key e) found_is
    ∙ (λ n. record {
      cas = e.cas;
      flags = sym o.flags n;
      key = sym o.key_is n;
      value = e.value;
      reads = o.item.reads;
      own_deadline = o.item.own_deadline;
    }) in
    let w = changes_in_place m pool key e place o kept asks.stands asks.waits
    (subst (λ (i : Item). fits_over i (item_in m.pool place) ≡ true) same fits)
    (is ∙ ap (with_item_at m.pool place) same) whole in
    let new : MapState = record m { pool = pool } in
    let i = with_value e o.item in
    let k = over_keeps m.pool place i o.item o.is_at refl (subst (λ (j : Item). fits_over j (item_in m.pool place) ≡ true) same fits) in
    let pool_is : pool ≡ with_item_at m.pool place i = is ∙ ap (with_item_at m.pool place) same in
    record {
      kept = record {
        tied = (tied_changed (λ _. i) m.pool pool m.index m.marks place kept.tied k whole pool_is).0;
        past = subst (λ (q : PoolState). IsPast q m.moment) (sym pool_is)
            (past_changed (λ _. i) m.pool m.moment place kept.past k.sized
            (λ j here. kept.past.dated place o.item o.is_at));
      };
      changed = w;
      written = written_exactly m.pool.sizes m.moment (shown_entries m.pool m.index m.moment) key e
          (shown_entries pool m.index m.moment) asks.waits w.entries;
      keeps = keeps_over_key m new key e w;
    }
