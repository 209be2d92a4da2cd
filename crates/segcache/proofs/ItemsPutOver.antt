-- What an item leaves that goes over the one of its key.
use Rattle.std.proofs.Common.{◌≡◌, ℕ, true, List, [], Option, Some, None, refl, sym, ap, subst, ◌∙◌, inl, arith}
use Rattle.std.specs.Prelude.{◌&&◌}
use Rattle.std.specs.FinMap as finite
use Rattle.std.proofs.lemmas.Bool.{and_parts}
use Rattle.proto.specs.Buckets.{bucket_of, time_to_live, MayLive}
use Rattle.proto.specs.Cache.{Entry}
use Rattle.proto.specs.Sizes.{item_limit}
use Rattle.proto.specs.Stored.{StoredItem}
use Rattle.proto.proofs.CacheLemmas.{entry_size, without-nil}
use Rattle.engine.specs.Keeping.{KeepsEntry}
use Rattle.engine.specs.Written.{IsWritten}
use Rattle.segments.specs.declared.place.Place.{Place}
use Rattle.segments.specs.Items.{Item, IsStorable, fits_over}
use Rattle.segments.specs.Pools.{PoolState, IsPool, item_in, lasting}
use Rattle.segments.specs.Changes.{with_item_at}
use Rattle.segments.specs.Rules.{goes_over_by, shares_one_chain}
use Rattle.segments.proofs.ItemChanges.{KeepsSize, keeps_over}
use Rattle.index.specs.Table.{Places}
use Rattle.segcache.specs.Shown.{current, shown_entries, live_entries, entry_at, kept_entry}
use Rattle.segcache.specs.State.{MapState, IsSegmentedMap}
use Rattle.segcache.specs.Invariants.{IsPast}
use Rattle.segcache.specs.Keeping.{KeepsStored}
use Rattle.segcache.specs.Writes.{StandsAt, GoesOver, unread, goes_over}
use Rattle.segcache.proofs.TiedParts.{current_item, tied_changed}
use Rattle.segcache.proofs.OpeningMoments.{past_changed}
use Rattle.segcache.proofs.AppendedItems.{may_wait}
use Rattle.segcache.proofs.ChangedItems.{over_entry, other_entry, apart, shown_over, waiting, over_keeps}
use Rattle.segcache.proofs.KeptEntries.{adds_none, keeps_changed}
use Rattle.segcache.proofs.WritesWithRoom.{written_more, all_last}
use Rattle.segcache.proofs.OwnDeadlines.{MayStand, own_dated, stands, none_of_its_own}
use Rattle.segments.specs.Items.{item_deadline, own_or_shared}
use Rattle.segcache.specs.Writes.{may_share_segment}
use Rattle.segments.specs.Pools.{segment_at, shared_at}
use Rattle.segcache.proofs.KeptEntries.{undated_segment}
use Rattle.segcache.specs.OwnDeadlines.{own_deadline_by}

-- an item that goes over another one may stand in its segment, and takes as many bytes
pub goes_parts : (m : MapState) (asked : Option ℕ) (i : Item) (place : Place) → goes_over m asked i place ≡ true
    → MayStand m.pool.exact m.moment asked (shared_at m.pool place) × (fits_over i (item_in m.pool place) ≡ true)
goes_parts m asked i place h =
    let one_chain = shares_one_chain m.pool.eviction m.pool.exact in
    let gives = may_share_segment m.pool.exact one_chain m.moment asked (shared_at m.pool place) in
    let a = and_parts (goes_over_by m.pool.eviction m.pool.exact && gives) (fits_over i (item_in m.pool place)) h in
    let b = and_parts (goes_over_by m.pool.eviction m.pool.exact) gives a.0 in
    (stands m.pool.exact one_chain m.moment asked (shared_at m.pool place) b.1, a.1)

-- what `put_over` requires of a map
pub record AsksOver (m : MapState) (i : Item) (asked : Option ℕ) (place : Place) : Type 0 where
  pub stands : StandsAt m i.key place
  pub storable : IsStorable (item_limit m.pool.sizes) i
  pub goes : goes_over m asked i place ≡ true
  pub own : i.own_deadline ≡ own_deadline_by m.pool.exact asked

-- what it leaves
pub record IsPutOver (old new : MapState) (i : Item) (asked : Option ℕ) : Type 0 where
  pub kept : IsSegmentedMap new
  pub over : GoesOver old i asked new

pub puts_over : (m : MapState) (i : Item) (asked : Option ℕ) (place : Place) (found : Item) (pool : PoolState)
    → IsSegmentedMap m → StandsAt m i.key place → goes_over m asked i place ≡ true
    → i.own_deadline ≡ own_deadline_by m.pool.exact asked → Some found ≡ item_in m.pool place
    → pool ≡ with_item_at m.pool place (record i { reads = found.reads }) → IsPool pool
    → IsPutOver m (record m { pool = pool }) i asked
puts_over m i asked place found pool kept there goes own at is whole =
    let p = m.pool in
    let t = m.moment in
    let new : Item = record i { reads = found.reads } in
    let parts = goes_parts m asked i place goes in
    let x = current_item p m.index i.key place there in
    let k = over_keeps p place new x.0 x.1 x.2 parts.1 in
    let tied = tied_changed (λ _. new) p pool m.index m.marks place kept.tied k whole is in
    let s = parts.0 in
    let shared = shared_at p place in
    let date : item_deadline i shared ≡ own_or_shared (own_deadline_by p.exact asked) shared = ap (λ (n : ℕ). own_or_shared n shared) own in
    let may : MayLive t asked (item_deadline i shared) = subst (MayLive t asked) (sym date) s.may_live in
    let dated = own_dated p.exact asked shared i own s.precedes.before in
    let e = kept_entry (item_deadline i shared) i in
    let here : entry_at pool place ≡ e = ap (λ (q : PoolState). entry_at q place) is ∙ over_entry p place new k.sized in
    record {
      kept = record {
        tied = tied.0;
        past = subst (λ (q : PoolState). IsPast q t) (sym is)
            (past_changed (λ _. new) p t place kept.past k.sized (λ j here. dated));
      };
      over = record {
        place = place;
        stands = there;
        goes = goes;
        found = found;
        is_at = sym at;
        may_live = may;
        exact = λ e near. date ∙ s.exactly e near;
        new_is = ap (λ (q : PoolState). record m { pool = q }) is;
        entries = ap (λ (s : Places). live_entries pool s t) tied.1
            ∙ shown_over p pool (current p m.index) t i.key place e there here
            (waiting e t (may_wait t asked (item_deadline i shared) may))
            (λ q r n g. ap (λ (y : PoolState). entry_at y r) is
            ∙ other_entry p place r new k.sized (apart p m.index i.key q place r there g n));
      };
    }

-- it leaves the item's size
pub sized_below : (old new : MapState) (i : Item) (asked : Option ℕ) → (w : GoesOver old i asked new)
    → KeepsSize (λ _. record i { reads = w.found.reads }) (item_in old.pool w.place)
sized_below old new i asked w = keeps_over (record i { reads = w.found.reads }) (item_in old.pool w.place)
    (goes_parts old asked i w.place w.goes).1

-- the entry is written with a deadline that it may get
pub over_written : (old new : MapState) (key : List ℕ) (e : Entry) → GoesOver old (unread old key e) e.deadline new
    → IsWritten old.pool.sizes old.moment (shown_entries old.pool old.index old.moment) key e
    (shown_entries new.pool new.index new.moment)
over_written old new key e w =
    let shown = shown_entries old.pool old.index old.moment in
    let d = item_deadline (unread old key e) (shared_at old.pool w.place) in
    record {
      deadline = d;
      may_live = w.may_live;
      forgotten = [];
      may_forget = inl refl;
      entries = ap (λ (m : MapState). shown_entries new.pool new.index m.moment) w.new_is ∙ w.entries
          ∙ sym (without-nil (finite.insert shown key (record e { deadline = d })));
    }

-- and what was stored is kept
pub keeps_below : (old new : MapState) (key : List ℕ) (e : Entry)
    → GoesOver old (unread old key e) e.deadline new
    → KeepsEntry (λ (m : MapState). m.pool.sizes) (λ (m : MapState). shown_entries m.pool m.index m.moment)
    (λ (m : MapState). m.moment) KeepsStored old key e new
keeps_below old new key e w items keeps adds within =
    let p = old.pool in
    let t = old.moment in
    let none : e.deadline ≡ None = adds_none p (current p old.index) t key e keeps.none_dated keeps.all_last adds in
    let plain : (unread old key e).own_deadline ≡ 0 = ap (own_deadline_by p.exact) none ∙ none_of_its_own p.exact in
    let k = keeps_changed (λ _. record (unread old key e) { reads = w.found.reads }) old new w.place
    (sized_below old new (unread old key e) e.deadline w) (ap (λ (m : MapState). m.pool) w.new_is)
    items (λ i was. plain) keeps in
    let there : item_deadline (unread old key e) (shared_at p w.place) ≡ None =
    ap (λ (n : ℕ). own_or_shared n (shared_at p w.place)) plain
    ∙ undated_segment (segment_at p w.place.segment) (keeps.all_last w.place.segment) in
    let same : record e { deadline = item_deadline (unread old key e) (shared_at p w.place) } ≡ e =
    ap (λ (d : Option ℕ). record e { deadline = d }) (there ∙ sym none) in
    let bucket : bucket_of (time_to_live e.deadline t) ≡ lasting =
    ap (λ (d : Option ℕ). bucket_of (time_to_live d t)) none in
    let one : StoredItem = record { size = entry_size key e; bucket = bucket_of (time_to_live e.deadline t) } in
    let more = written_more items one in
    let held = k.held in (
      ap (λ (m : MapState). shown_entries new.pool new.index m.moment) w.new_is ∙ w.entries
          ∙ ap (finite.insert (shown_entries p old.index t) key) same,
      record {
        filled = k.filled;
        all_last = k.all_last;
        none_dated = k.none_dated;
        undated = all_last items one keeps.undated bucket;
        held = omega arith;
      },
    )
