-- Requests for which nothing is forgotten, by what they do to the segments.
use Rattle.std.proofs.Common.{◌≡◌, ℕ, ◌+◌, ◌≤◌, List, [], ◌∷◌, Option, Some, None, refl, sym, ap, subst, ◌∙◌, inl, inr}
use Rattle.std.proofs.Common.{arith}
use Rattle.std.specs.Prelude.{◌⊎◌, if◌then◌else◌}
use Rattle.std.specs.FinMap as finite
use Rattle.proto.specs.declared.message.Request.{Request}
use Rattle.proto.specs.declared.message.Reply.{Reply}
use Rattle.proto.specs.declared.message.Reply.TheVariants.{NoMemory}
use Rattle.proto.specs.Sizes.{item_limit}
use Rattle.proto.specs.Buckets.{bucket_of, time_to_live}
use Rattle.proto.specs.Cache.{Entry, Entries}
use Rattle.proto.specs.Commands.{Outcome}
use Rattle.proto.specs.Steps.{Step, IsDated, without_keys}
use Rattle.proto.specs.Stored.{StoredItem, stored_item_of, item_stored, is_no_memory, written}
use Rattle.proto.proofs.Options.{none_is_some}
use Rattle.proto.proofs.CacheLemmas.{entry_size, without-nil}
use Rattle.proto.proofs.StepLemmas.{get-stored, dated-insert, dated-exactly, live_dated, insert-same}
use Rattle.proto.proofs.Outcomes.{answers_act}
use Rattle.engine.specs.declared.commands.Engine.{Engine}
use Rattle.engine.specs.Counting.{CountsEach, keys_of}
use Rattle.engine.specs.Keeping.{ForgetsNone}
use Rattle.engine.specs.Outcomes.{outcome_at}
use Rattle.engine.specs.Engines.{Way, way_of}
use Rattle.engine.proofs.KeepingLemmas.{answered_item}
use Rattle.segments.specs.Items.{Item}
use Rattle.segments.specs.Pools.{PoolState, item_in}
use Rattle.segments.specs.Changes.{with_read, with_item_at}
use Rattle.segments.specs.Items.{read_again}
use Rattle.segments.specs.Filling.{IsFilled, HoldsLittle, held_size}
use Rattle.segments.proofs.ItemChanges.{keeps_read}
use Rattle.segments.proofs.FilledLemmas.{filled_changed}
use Rattle.segcache.specs.declared.segment_map.SegmentMap.{SegmentMap}
use Rattle.segcache.specs.Shown.{shown_entries}
use Rattle.segcache.specs.State.{MapState, IsSegmentedMap}
use Rattle.segcache.specs.StoreState.{sizes_in, segmented_cache}
use Rattle.segcache.specs.LiveItems.{live_others}
use Rattle.segcache.specs.Writes.{WritesToSegments, WritesAnew, GoesOver, ChangesInPlace, StaysDated, IsReadAgain, unread, with_value}
use Rattle.segcache.specs.Requests.{LeavesSegments, HandlesSegments}
use Rattle.segcache.specs.Requests.LeavesSegments.{writes, changes, dates, reads, stays, refuses}
use Rattle.segcache.specs.StayingFilled.{HasRoomFor, StaysFilled}
use Rattle.segcache.specs.ItemBuckets.{bucket_for}
use Rattle.segcache.proofs.TiedParts.{current_some}
use Rattle.segcache.proofs.ChangedItems.{sized_over}
use Rattle.segcache.proofs.ItemsPutOver.{sized_below}
use Rattle.segcache.proofs.WritesWithRoom.{kept_with}
use Rattle.segments.specs.Items.{item_deadline}
use Rattle.segments.specs.Pools.{shared_at}

-- reads leave segments filled, and holding what they held
counted_filled : (keys : List (List ℕ)) (old new : MapState) → CountsEach IsReadAgain old keys new → IsFilled old.pool
    → IsFilled new.pool × (held_size new.pool ≡ held_size old.pool)
counted_filled [] old new is filled =
    let same : new.pool ≡ old.pool = ap (λ (m : MapState). m.pool) is in
    (subst IsFilled (sym same) filled, ap held_size same)
counted_filled (key ∷ keys) old new h filled =
    let next = h.0 in
    let r = h.1 in
    let same : next.pool ≡ with_read old.pool r.place = ap (λ (m : MapState). m.pool) r.new_is in
    let some = current_some old.pool old.index key r.place r.stands in
    let one = filled_changed read_again old.pool r.place (keeps_read (item_in old.pool r.place) some) filled in
    let rest = counted_filled keys next new h.2 (subst IsFilled (sym same) one.0) in
    (rest.0, rest.1 ∙ ap held_size same ∙ one.1)

-- What is left where nothing was forgotten for a stored item, and segments stayed filled.
record IsLeftFilled (t : ℕ) (found : MapState) (done : Outcome) (reply : Reply) (after : MapState)
    (items : List StoredItem) : Type 0 where
  dated : (done.stored ≡ None) ⊎ ((reply ≡ NoMemory)
      ⊎ IsDated t done.reply done.entries done.stored (shown_entries after.pool after.index t))
  filled : IsFilled after.pool
  held : held_size after.pool ≤ held_size found.pool + written items

-- the items that an outcome stores by its reply
abbrev items_by : ℕ → Outcome → Reply → List StoredItem
items_by t done reply = if is_no_memory reply then [] else item_stored t done done.stored

-- where segments are filled, and so little is held that a stored item has room, nothing is
-- forgotten, and segments stay filled
abbrev LeavesFilled : ℕ → MapState → Outcome → Reply → MapState → Type 0
LeavesFilled t found done reply after =
    IsFilled found.pool → HasRoomFor found.pool t done reply
    → IsLeftFilled t found done reply after (items_by t done reply)

-- an item that was written anew where little is held
anew_filled : (found after : MapState) (done : Outcome) (key : List ℕ) (e : Entry) → IsSegmentedMap found
    → (done.reply ≡ NoMemory → ⊥)
    → done.stored ≡ Some key
    → done.entries ≡ finite.insert (shown_entries found.pool found.index found.moment) key e
    → WritesAnew found key e after
    → LeavesFilled found.moment found done done.reply after
anew_filled found after done key e kept other stored asked w filled little =
    let p = found.pool in
    let t = found.moment in
    let one : StoredItem = record { size = entry_size key e; bucket = bucket_of (time_to_live e.deadline t) } in
    let there : finite.get done.entries key ≡ Some e =
    ap (λ (m : Entries). finite.get m key) asked ∙ get-stored (shown_entries p found.index t) key e in
    let items : items_by t done done.reply ≡ one ∷ [] = answered_item done.reply (item_stored t done done.stored) other
    ∙ ap (λ (o : Option (List ℕ)). item_stored t done o) stored ∙ ap (stored_item_of t key) there in
    let few : HoldsLittle p (bucket_for p t e.deadline) t = little key e stored other there in
    let k = kept_with (live_others key found.marks t) p found.index (bucket_for p t e.deadline) t
    (unread found key e) after.pool after.index kept.tied.known.pool kept.past w.storable filled few w.placed in
    let now : shown_entries after.pool after.index t
    ≡ finite.insert (shown_entries p found.index t) key (record e { deadline = w.deadline }) =
    k.entries ∙ ap (finite.insert (shown_entries p found.index t) key) w.stands in
    let exact : IsDated t done.reply (finite.insert (shown_entries p found.index t) key e) (Some key)
    (finite.insert (shown_entries p found.index t) key (record e { deadline = w.deadline })) =
    dated-insert t done.reply (shown_entries p found.index t) key e w.deadline
    (live_dated t e.deadline w.deadline done.reply w.may_live) in
    let held = k.held in
    let size : written (items_by t done done.reply) ≡ entry_size key e + 0 = ap written items ∙ omega arith in
    record {
      dated = inr (inr (subst (λ (o : Option (List ℕ)). IsDated t done.reply done.entries o
          (shown_entries after.pool after.index t)) (sym stored)
          (subst (λ (m : Entries). IsDated t done.reply m (Some key) (shown_entries after.pool after.index t)) (sym asked)
          (subst (λ (m : Entries). IsDated t done.reply (finite.insert (shown_entries p found.index t) key e) (Some key) m)
          (sym now) exact))));
      filled = k.filled;
      held = omega arith;
    }

-- an item that went over the one of its key
over_filled : (found after : MapState) (done : Outcome) (key : List ℕ) (e : Entry)
    → done.stored ≡ Some key
    → done.entries ≡ finite.insert (shown_entries found.pool found.index found.moment) key e
    → GoesOver found (unread found key e) e.deadline after → (items : List StoredItem) → IsFilled found.pool
    → IsLeftFilled found.moment found done done.reply after items
over_filled found after done key e stored asked w items filled =
    let p = found.pool in
    let t = found.moment in
    let shown = shown_entries p found.index t in
    let d = item_deadline (unread found key e) (shared_at p w.place) in
    let left : Entry = record e { deadline = d } in
    let i : Item = record (unread found key e) { reads = w.found.reads } in
    let same : after.pool ≡ with_item_at p w.place i = ap (λ (m : MapState). m.pool) w.new_is in
    let f = filled_changed (λ _. i) p w.place (sized_below found after (unread found key e) e.deadline w) filled in
    let exact : IsDated t done.reply (finite.insert shown key e) (Some key) (finite.insert shown key left) =
    dated-insert t done.reply shown key e d (live_dated t e.deadline d done.reply w.may_live) in
    let held : held_size after.pool ≡ held_size p = ap held_size same ∙ f.1 in
    record {
      dated = inr (inr (subst (λ (o : Option (List ℕ)). IsDated t done.reply done.entries o
          (shown_entries after.pool after.index t)) (sym stored)
          (subst (λ (m : Entries). IsDated t done.reply m (Some key) (shown_entries after.pool after.index t)) (sym asked)
          (subst (λ (m : Entries). IsDated t done.reply (finite.insert shown key e) (Some key) m) (sym w.entries) exact))));
      filled = subst IsFilled (sym same) f.0;
      held = omega arith;
    }

-- an item that was written
written_filled : (found after : MapState) (done : Outcome) (key : List ℕ) (e : Entry) → IsSegmentedMap found
    → (done.reply ≡ NoMemory → ⊥)
    → done.stored ≡ Some key
    → done.entries ≡ finite.insert (shown_entries found.pool found.index found.moment) key e
    → WritesToSegments found key e after
    → LeavesFilled found.moment found done done.reply after
written_filled found after done key e kept other stored asked (inl w) =
    λ filled little. over_filled found after done key e stored asked w (items_by found.moment done done.reply) filled
written_filled found after done key e kept other stored asked (inr w) =
    anew_filled found after done key e kept other stored asked w

-- an item that was changed where it stands
changed_filled : (found after : MapState) (done : Outcome) (key : List ℕ) (e : Entry)
    → done.stored ≡ Some key
    → done.entries ≡ finite.insert (shown_entries found.pool found.index found.moment) key e
    → ChangesInPlace found key e after → (items : List StoredItem) → IsFilled found.pool
    → IsLeftFilled found.moment found done done.reply after items
changed_filled found after done key e stored asked w items filled =
    let p = found.pool in
    let t = found.moment in
    let same : after.pool ≡ with_item_at p w.place (with_value e w.item) = ap (λ (m : MapState). m.pool) w.new_is in
    let f = filled_changed (λ _. with_value e w.item) p w.place (sized_over found after key e w) filled in
    let exact : IsDated t done.reply (finite.insert (shown_entries p found.index t) key e) (Some key)
    (finite.insert (shown_entries p found.index t) key e) =
    dated-exactly t done.reply (shown_entries p found.index t) key e w.waits in
    let held : held_size after.pool ≡ held_size p = ap held_size same ∙ f.1 in
    record {
      dated = inr (inr (subst (λ (o : Option (List ℕ)). IsDated t done.reply done.entries o
          (shown_entries after.pool after.index t)) (sym stored)
          (subst (λ (m : Entries). IsDated t done.reply m (Some key) (shown_entries after.pool after.index t)) (sym asked)
          (subst (λ (m : Entries). IsDated t done.reply (finite.insert (shown_entries p found.index t) key e) (Some key) m)
          (sym w.entries) exact))));
      filled = subst IsFilled (sym same) f.0;
      held = omega arith;
    }

-- an entry that was left where only its deadline was to change
dated_filled : (found after : MapState) (done : Outcome) (key : List ℕ) (e : Entry)
    → done.stored ≡ Some key
    → done.entries ≡ finite.insert (shown_entries found.pool found.index found.moment) key e
    → StaysDated found key e done.reply after → (items : List StoredItem) → IsFilled found.pool
    → IsLeftFilled found.moment found done done.reply after items
dated_filled found after done key e stored asked w items filled =
    let p = found.pool in
    let t = found.moment in
    let shown = shown_entries p found.index t in
    let left : Entry = record e { deadline = w.deadline } in
    let exact : IsDated t done.reply (finite.insert shown key e) (Some key) (finite.insert shown key left) =
    dated-insert t done.reply shown key e w.deadline w.may_stay in
    let now : shown_entries after.pool after.index t ≡ finite.insert shown key left =
    w.entries ∙ sym (insert-same shown key left w.there) in
    let held : held_size after.pool ≡ held_size p = ap (λ (m : MapState). held_size m.pool) w.touched.new_is in
    record {
      dated = inr (inr (subst (λ (o : Option (List ℕ)). IsDated t done.reply done.entries o
          (shown_entries after.pool after.index t)) (sym stored)
          (subst (λ (m : Entries). IsDated t done.reply m (Some key) (shown_entries after.pool after.index t)) (sym asked)
          (subst (λ (m : Entries). IsDated t done.reply (finite.insert shown key e) (Some key) m) (sym now) exact))));
      filled = subst (λ (m : MapState). IsFilled m.pool) (sym w.touched.new_is) filled;
      held = omega arith;
    }

-- where the pool stays, segments stay filled
same_filled : (t : ℕ) (found after : MapState) (done : Outcome) (reply : Reply) (items : List StoredItem)
    → (done.stored ≡ None) ⊎ (reply ≡ NoMemory)
    → IsFilled after.pool → held_size after.pool ≡ held_size found.pool → IsLeftFilled t found done reply after items
same_filled t found after done reply items (inl none) filled held =
    record { dated = inl none; filled = filled; held = omega arith }
same_filled t found after done reply items (inr refused) filled held =
    record { dated = inr (inl refused); filled = filled; held = omega arith }

-- each outcome leaves segments filled where little is held, be it that an item is written, reads
-- are counted, the pool stays, or memory is refused
leaves_filled : (way : Way) (found after : MapState) (done : Outcome) (reply : Reply) → IsSegmentedMap found
    → (done.reply ≡ NoMemory → ⊥)
    → LeavesSegments way found done after reply
    → LeavesFilled found.moment found done reply after
leaves_filled way found after done _ kept other (writes key e stored is asked w) =
    written_filled found after done key e kept other stored asked w
leaves_filled way found after done _ kept other (changes key e stored is asked (inl w)) =
    λ filled little. changed_filled found after done key e stored asked w (items_by found.moment done done.reply) filled
leaves_filled way found after done _ kept other (changes key e stored is asked (inr w)) =
    written_filled found after done key e kept other stored asked w.1
leaves_filled way found after done _ kept other (dates key e stored is asked (inl w)) =
    λ filled little. dated_filled found after done key e stored asked w (items_by found.moment done done.reply) filled
leaves_filled way found after done _ kept other (dates key e stored is asked (inr w)) =
    written_filled found after done key e kept other stored asked w.writes
leaves_filled way found after done _ kept other (reads hits none is counts) =
    λ filled little.
    (let c = counted_filled (keys_of hits) found after counts filled in
    same_filled found.moment found after done done.reply (items_by found.moment done done.reply) (inl none) c.0 c.1)
leaves_filled way found after done _ kept other (stays none hitless same) =
    λ filled little.
    same_filled found.moment found after done done.reply (items_by found.moment done done.reply) (inl none)
    (subst IsFilled (sym same) filled) (ap held_size same)
leaves_filled way found after done _ kept other (refuses same) =
    λ filled little.
    same_filled found.moment found after done NoMemory (items_by found.moment done NoMemory) (inr refl)
    (subst IsFilled (sym same) filled) (ap held_size same)

-- a request that stores nothing forgets nothing
unstored : (before after : Engine SegmentMap) (t : ℕ) (q : Request) (reply : Reply)
    → Step (sizes_in before) t (segmented_cache before) q reply (segmented_cache after)
    → (outcome_at (sizes_in before) (segmented_cache before) t q).stored ≡ None
    → ForgetsNone (sizes_in before) (segmented_cache before) t q reply (segmented_cache after)
unstored before after t q reply (inr r) none = inl r.reply_is
unstored before after t q reply (inl x) none =
    let done = outcome_at (sizes_in before) (segmented_cache before) t q in
    let dated : x.dated ≡ done.entries =
    subst (λ (o : Option (List ℕ)). IsDated t done.reply done.entries o x.dated) none x.is_dated in
    let nothing : x.forgotten ≡ [] = elim x.may_forget [
      | inl is ↦ is
      | inr h ↦ absurd (none_is_some h.0 (sym none ∙ h.1))
    ] in
    let same : (segmented_cache after).entries ≡ done.entries =
    x.entries ∙ ap (without_keys x.dated) nothing ∙ without-nil x.dated ∙ dated in
    inr (subst (λ (o : Option (List ℕ)). IsDated t done.reply done.entries o (segmented_cache after).entries) (sym none) same)

-- by what a request does to the segments it forgets nothing where they hold little
pub stays_filled : (before : Engine SegmentMap) (t : ℕ) (q : Request) (reply : Reply) (after : Engine SegmentMap)
    → Step (sizes_in before) t (segmented_cache before) q reply (segmented_cache after) → after.map.moment ≡ t
    → HandlesSegments before t q reply after
    → StaysFilled before t q reply after
stays_filled before t q reply after step moment h filled little =
    let done = outcome_at (sizes_in before) (segmented_cache before) t q in
    let found = h.found in
    let pool = h.is_found.pool in
    let other = answers_act (item_limit (sizes_in before)) (segmented_cache before) t q in
    let leaves : LeavesFilled t found done reply after.map =
    subst (λ (u : ℕ). LeavesFilled u found done reply after.map) h.is_found.moment
    (leaves_filled (way_of q before.in_place) found after.map done reply h.is_found.kept other h.leaves) in
    let left = leaves (subst IsFilled (sym pool) filled)
    (subst (λ (p : PoolState). HasRoomFor p t done reply) (sym pool) little) in
    let held = left.held in
    let was : held_size found.pool ≡ held_size before.map.pool = ap held_size pool in (
      elim left.dated [
        | inl none ↦ unstored before after t q reply step none
        | inr dated ↦ elim dated [
          | inl refused ↦ inl refused
          | inr is ↦ inr (subst (λ (u : ℕ). IsDated t done.reply done.entries done.stored
              (shown_entries after.map.pool after.map.index u)) (sym moment) is)
        ]
      ],
      left.filled,
      omega arith,
    )
