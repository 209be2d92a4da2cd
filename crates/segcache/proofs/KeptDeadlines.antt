-- That a store whose items have deadlines of their own keeps them to the second.
use Rattle.std.proofs.Common.{◌≡◌, ◌≢◌, ◌<◌, ◌^◌, ℕ, true, List, [], ◌∷◌, Option, Some, None, refl, sym, ap, subst, ◌∙◌, inl, inr}
use Rattle.std.specs.Prelude.{◌&&◌, ◌⊎◌}
use Rattle.std.specs.FinMap as finite
use Rattle.std.proofs.lemmas.Option.{none-some}
use Rattle.std.proofs.lemmas.Bool.{lt-ltb}
use Rattle.proto.specs.declared.message.Request.{Request}
use Rattle.proto.specs.declared.message.Reply.{Reply}
use Rattle.proto.specs.declared.message.Reply.TheVariants.{NoMemory}
use Rattle.proto.specs.Cache.{Entry, Entries}
use Rattle.proto.specs.Commands.{Outcome}
use Rattle.proto.proofs.StepLemmas.{get-stored}
use Rattle.engine.specs.declared.commands.Engine.{Engine}
use Rattle.engine.specs.Outcomes.{outcome_at}
use Rattle.engine.specs.Engines.{Way, way_of}
use Rattle.engine.specs.Counting.{CountsEach, keys_of}
use Rattle.segments.specs.declared.place.Place.{Place}
use Rattle.segments.specs.declared.merge.Choice.{Choice}
use Rattle.segments.specs.Items.{Item, item_deadline}
use Rattle.segments.specs.Pools.{PoolState, Liveness, shared_at}
use Rattle.segments.specs.Changes.{IsAddedToTail, IsAddedToFree}
use Rattle.segments.specs.Merges.{Evicts, merged_into, merged_segments, kept_items}
use Rattle.segcache.specs.Allocation.{MakesRoom}
use Rattle.segcache.specs.Allocation.MakesRoom.{has_room, gives_back, evicts}
use Rattle.segcache.specs.LiveItems.{live_others}
use Rattle.segcache.specs.declared.segment_map.SegmentMap.{SegmentMap}
use Rattle.segcache.specs.Shown.{shown_entries}
use Rattle.segcache.specs.State.{MapState}
use Rattle.engine.specs.Deadlines.{is_storable_deadline, StoresAsAsked, KeepsDeadlines}
use Rattle.segcache.specs.Writes.{WritesToSegments, StaysDated, unread, is_same}
use Rattle.segcache.specs.Writes.{IsReadAgain}
use Rattle.segcache.specs.Requests.{LeavesSegments, HandlesSegments}
use Rattle.segcache.specs.Requests.LeavesSegments.{writes, changes, dates, reads, stays, refuses}
use Rattle.segcache.specs.StoreState.{sizes_in, segmented_cache}
use Rattle.segcache.proofs.LeftEntries.{same_is}

-- what is there at the moment t, at a key that was put into a map
there : (after : MapState) (t : ℕ) (m : Entries) (key : List ℕ) (e : Entry)
    → shown_entries after.pool after.index t ≡ finite.insert m key e
    → finite.get (shown_entries after.pool after.index t) key ≡ Some e
there after t m key e is = ap (λ (n : Entries). finite.get n key) is ∙ get-stored m key e

-- an entry that was written
written_there : (found after : MapState) (key : List ℕ) (e : Entry) → found.pool.exact ≡ true → is_storable_deadline e.deadline ≡ true
    → WritesToSegments found key e after
    → finite.get (shown_entries after.pool after.index found.moment) key ≡ Some e
written_there found after key e exact near (inl w) =
    let d = item_deadline (unread found key e) (shared_at found.pool w.place) in
    there after found.moment (shown_entries found.pool found.index found.moment) key (record e { deadline = d }) w.entries
    ∙ ap (λ (x : Option ℕ). Some (record e { deadline = x })) (w.exact exact near)
written_there found after key e exact near (inr w) =
    there after found.moment _ key _ w.placed.entries ∙ ap Some w.stands
    ∙ ap (λ (x : Option ℕ). Some (record e { deadline = x })) (w.exact exact near)

-- an entry that was left
left_there : (found after : MapState) (key : List ℕ) (e : Entry) (reply : Reply) → found.pool.exact ≡ true
    → is_storable_deadline e.deadline ≡ true → StaysDated found key e reply after
    → finite.get (shown_entries after.pool after.index found.moment) key ≡ Some e
left_there found after key e reply exact near w =
    let both : (found.pool.exact && is_storable_deadline e.deadline) ≡ true = rw (exact, near) refl in
    let kept : is_same e.deadline w.deadline ≡ true = rw both at w.stays in
    ap (λ (m : Entries). finite.get m key) w.entries ∙ w.there
    ∙ ap (λ (x : Option ℕ). Some (record e { deadline = x })) (sym (same_is e.deadline w.deadline kept))

-- what is stored under the key is what is stored there
same_stored : (m entries : Entries) (stored : Option (List ℕ)) (key k : List ℕ) (e entry : Entry) → stored ≡ Some key
    → stored ≡ Some k → entries ≡ finite.insert m k entry → finite.get entries key ≡ Some e → (k ≡ key) × (entry ≡ e)
same_stored m entries stored key k e entry one other asked is =
    let keys : Some k ≡ Some key = sym other ∙ one in
    let same : k ≡ key = cc in
    let both : Some entry ≡ Some e =
    sym (get-stored m k entry) ∙ sym (ap (λ (n : Entries). finite.get n k) asked) ∙ ap (finite.get entries) same ∙ is in
    let entries_same : entry ≡ e = cc in
    (same, entries_same)

by_entry : (found after : MapState) (done : Outcome) (key k : List ℕ) (e entry : Entry) → done.stored ≡ Some key
    → finite.get done.entries key ≡ Some e → is_storable_deadline e.deadline ≡ true → done.stored ≡ Some k
    → done.entries ≡ finite.insert (shown_entries found.pool found.index found.moment) k entry
    → (is_storable_deadline entry.deadline ≡ true → finite.get (shown_entries after.pool after.index found.moment) k ≡ Some entry)
    → finite.get (shown_entries after.pool after.index found.moment) key ≡ Some e
by_entry found after done key k e entry stored is near was asked each =
    let shown : Entries = shown_entries after.pool after.index found.moment in
    let one = same_stored (shown_entries found.pool found.index found.moment) done.entries done.stored key k e entry
    stored was asked is in
    let here = each (subst (λ (x : Entry). is_storable_deadline x.deadline ≡ true) (sym one.1) near) in
    ap (finite.get shown) (sym one.0) ∙ here ∙ ap Some one.1

-- what an outcome stores is there
stored_there : (way : Way) (found after : MapState) (done : Outcome) (reply : Reply) (key : List ℕ) (e : Entry)
    → found.pool.exact ≡ true → done.stored ≡ Some key → reply ≢ NoMemory
    → finite.get done.entries key ≡ Some e → is_storable_deadline e.deadline ≡ true → LeavesSegments way found done after reply
    → finite.get (shown_entries after.pool after.index found.moment) key ≡ Some e
stored_there way found after done _ key e exact stored other is near (writes k entry was w asked h) =
    by_entry found after done key k e entry stored is near was asked (λ n. written_there found after k entry exact n h)
stored_there way found after done _ key e exact stored other is near (changes k entry was w asked (inl h)) =
    by_entry found after done key k e entry stored is near was asked
    (λ n. there after found.moment (shown_entries found.pool found.index found.moment) k entry h.entries)
stored_there way found after done _ key e exact stored other is near (changes k entry was w asked (inr h)) =
    by_entry found after done key k e entry stored is near was asked (λ n. written_there found after k entry exact n h.1)
stored_there way found after done _ key e exact stored other is near (dates k entry was w asked (inl h)) =
    by_entry found after done key k e entry stored is near was asked
    (λ n. left_there found after k entry done.reply exact n h)
stored_there way found after done _ key e exact stored other is near (dates k entry was w asked (inr h)) =
    by_entry found after done key k e entry stored is near was asked (λ n. written_there found after k entry exact n h.writes)
stored_there way found after done _ key e exact stored other is near (reads hits none shows counts) =
    absurd (none-some key (sym none ∙ stored))
stored_there way found after done _ key e exact stored other is near (stays none hitless same) =
    absurd (none-some key (sym none ∙ stored))
stored_there way found after done _ key e exact stored other is near (refuses same) = absurd (other refl)

-- a deadline below 2^48 can be kept, and so can none
storable : (asked : Option ℕ) → ((deadline : ℕ) → asked ≡ Some deadline → deadline < 2 ^ 48)
    → is_storable_deadline asked ≡ true
storable None low = refl
storable (Some deadline) low = lt-ltb deadline (2 ^ 48) (low deadline refl)

-- by what a request does to the segments, what it stores is there as it asks to be
stores_as_asked : (before : Engine SegmentMap) (t : ℕ) (q : Request) (reply : Reply) (after : Engine SegmentMap)
    → after.map.moment ≡ t → HandlesSegments before t q reply after → before.map.pool.exact ≡ true
    → StoresAsAsked (sizes_in before) (segmented_cache before) t q reply (segmented_cache after)
stores_as_asked before t q reply after moment h exact other key e stored is low =
    let found = h.found in
    let done = outcome_at (sizes_in before) (segmented_cache before) t q in
    let at = stored_there (way_of q before.in_place) found after.map done reply key e
    (ap (λ (p : PoolState). p.exact) h.is_found.pool ∙ exact) stored other is (storable e.deadline low) h.leaves in
    subst (λ (u : ℕ). finite.get (shown_entries after.map.pool after.map.index u) key ≡ Some e)
    (h.is_found.moment ∙ sym moment) at

-- ---- and that it goes on doing so

merged_exact : (p : PoolState) (c : Choice) (numbers : List ℕ) (items : List Item) → (merged_into p c numbers items).exact ≡ p.exact
merged_exact p c [] items = refl
merged_exact p c (n ∷ numbers) items = refl

evicted_exact : (lives : Liveness) (p after : PoolState) → Evicts lives p after → after.exact ≡ p.exact
evicted_exact lives p after (inl m) =
    ap (λ (q : PoolState). q.exact) m.after_is ∙ merged_exact p m.choice (merged_segments p m.choice) (kept_items p.eviction m.judged)
evicted_exact lives p after (inr c) = ap (λ (q : PoolState). q.exact) c.after_is

roomy_exact : (lives : Liveness) (p : PoolState) (bucket t : ℕ) (i : Item) (roomy : PoolState)
    → MakesRoom lives p bucket t i roomy → roomy.exact ≡ p.exact
roomy_exact lives p bucket t i _ (has_room room) = refl
roomy_exact lives p bucket t i _ (gives_back after full dead given) = given.exact
roomy_exact lives p bucket t i _ (evicts after full none evicted) = evicted_exact lives p after evicted

added_exact : (p : PoolState) (bucket t : ℕ) (i : Item) (after : PoolState) (place : Place)
    → IsAddedToTail p bucket t i after place ⊎ IsAddedToFree p bucket t i after place → after.exact ≡ p.exact
added_exact p bucket t i after place (inl a) = ap (λ (q : PoolState). q.exact) a.after_is
added_exact p bucket t i after place (inr a) = ap (λ (q : PoolState). q.exact) a.after_is

written_exact : (found after : MapState) (key : List ℕ) (e : Entry) → WritesToSegments found key e after
    → after.pool.exact ≡ found.pool.exact
written_exact found after key e (inl w) = ap (λ (m : MapState). m.pool.exact) w.new_is
written_exact found after key e (inr w) =
    let a = w.placed.written in
    added_exact a.roomy _ found.moment (unread found key e) after.pool w.placed.place a.added
    ∙ roomy_exact (live_others key found.marks found.moment) found.pool _ found.moment (unread found key e) a.roomy a.room

read_exact : (keys : List (List ℕ)) (found after : MapState) → CountsEach IsReadAgain found keys after
    → after.pool.exact ≡ found.pool.exact
read_exact [] found after is = ap (λ (m : MapState). m.pool.exact) is
read_exact (key ∷ keys) found after (next, read, more) =
    read_exact keys next after more ∙ ap (λ (m : MapState). m.pool.exact) read.new_is

left_exact : (way : Way) (found after : MapState) (done : Outcome) (reply : Reply) → LeavesSegments way found done after reply
    → after.pool.exact ≡ found.pool.exact
left_exact way found after done _ (writes k entry was w asked h) = written_exact found after k entry h
left_exact way found after done _ (changes k entry was w asked (inl h)) = ap (λ (m : MapState). m.pool.exact) h.new_is
left_exact way found after done _ (changes k entry was w asked (inr h)) = written_exact found after k entry h.1
left_exact way found after done _ (dates k entry was w asked (inl h)) = ap (λ (m : MapState). m.pool.exact) h.touched.new_is
left_exact way found after done _ (dates k entry was w asked (inr h)) = written_exact found after k entry h.writes
left_exact way found after done _ (reads hits none shows counts) = read_exact (keys_of hits) found after counts
left_exact way found after done _ (stays none hitless same) = ap (λ (p : PoolState). p.exact) same
left_exact way found after done _ (refuses same) = ap (λ (p : PoolState). p.exact) same

-- by what a request does to the segments, deadlines are kept as before
pub keeps_deadlines : (before : Engine SegmentMap) (t : ℕ) (q : Request) (reply : Reply) (after : Engine SegmentMap)
    → after.map.moment ≡ t → HandlesSegments before t q reply after
    → KeepsDeadlines sizes_in segmented_cache (λ (engine : Engine SegmentMap). engine.map.pool.exact) before t q reply after
keeps_deadlines before t q reply after moment h = (
  left_exact (way_of q before.in_place) h.found after.map _ reply h.leaves ∙ ap (λ (p : PoolState). p.exact) h.is_found.pool,
  stores_as_asked before t q reply after moment h,
)
