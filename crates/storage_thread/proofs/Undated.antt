-- While no request sets a deadline, no entry has one, and nor has an item that is stored.
use Rattle.std.proofs.Common.{◌≡◌, ℕ, ◌-◌, ◌*◌, ◌≤◌, Bool, true, false, cond, List, [], ◌∷◌, ◌++◌, length}
use Rattle.std.proofs.Common.{Option, Some, None, refl, sym, ap, subst, ◌∙◌, arith, le_trans, eq-eqb, inl, inr}
use Rattle.std.specs.Prelude.{◌⊎◌, MatchOption, if◌then◌else◌, ◌==◌}
use Rattle.std.specs.List.{AllByRecursion}
use Rattle.std.specs.Option.{option_map_or}
use Rattle.std.specs.FinMap as finite
use Rattle.std.proofs.lemmas.Nat.{mul-le}
use Rattle.proto.specs.declared.history.Answered.{Answered}
use Rattle.proto.specs.declared.message.Request.{Request}
use Rattle.proto.specs.declared.message.Reply.{Reply}
use Rattle.proto.specs.declared.message.Reply.TheVariants.{NoMemory}
use Rattle.proto.specs.Sizes.{Sizes, item_limit, item_size}
use Rattle.proto.specs.Cache.{Entry, Entries, no_entries, Cache, empty_cache, has_arrived, live, found_at}
use Rattle.proto.specs.Commands.{Outcome, SetsNoDeadline}
use Rattle.proto.specs.Buckets.{time_to_live, bucket_of}
use Rattle.proto.specs.Steps.{size_at, deadline_at, MayBeDated, IsDated, Step}
use Rattle.proto.specs.History.{Chain}
use Rattle.proto.specs.Stored.{StoredItem, stored_item_of, item_stored, is_no_memory, written, spread}
use Rattle.proto.proofs.CacheLemmas.{is_live, if_live, get-no_entries, get-live, contains_bytes, get-without}
use Rattle.proto.proofs.StepLemmas.{none_dated, insert-same}
use Rattle.proto.proofs.Outcomes.{deadline_in, none_act}
use Rattle.engine.specs.Outcomes.{outcome_at}
use Rattle.engine.specs.Keeping.{IsWithinBound, stored_in, ForgetsNone}
use Rattle.engine.specs.Reaching.{last_cache}
use Rattle.engine.proofs.CarryingLemmas.{one_step}

-- ---- entries

-- none of the entries has a deadline
abbrev pub NoneDated : Entries → Type 0
NoneDated entries = (key : List ℕ) → deadline_at entries key ≡ None

-- there are none
pub undated_empty : NoneDated no_entries
undated_empty key = ap deadline_in (get-no_entries key)

-- an entry that is live or not
live_undated : (t : ℕ) (o : Option Entry) → deadline_in o ≡ None → deadline_in (if_live t o) ≡ None
live_undated t None none = refl
live_undated t (Some e) none = by_test (is_live e t)
  where
    by_test : (b : Bool) → deadline_in (cond b (Some e) None) ≡ None
    by_test true = none
    by_test false = refl

-- what a request finds
undated_found : (before : Cache) (t : ℕ) → NoneDated before.entries → NoneDated (found_at before t).entries
undated_found before t none = by_pending (has_arrived before.pending t)
  where
    by_pending : (b : Bool)
        → NoneDated (if b then empty_cache before.last_cas else record before { entries = live before.entries t }).entries
    by_pending true = undated_empty
    by_pending false =
        λ key. ap deadline_in (get-live before.entries t key) ∙ live_undated t (finite.get before.entries key) (none key)

-- what a request that sets no deadline does
pub undated_outcome : (sizes : Sizes) (before : Cache) (t : ℕ) (q : Request) → SetsNoDeadline q
    → NoneDated before.entries → NoneDated (outcome_at sizes before t q).entries
undated_outcome sizes before t q sets none key =
    elim (none_act (item_limit sizes) before t q sets key) [
      | inl undated ↦ undated
      | inr same ↦ same ∙ undated_found before t none key
    ]

-- entries without deadlines stay as they were asked for
pub same_dated : (t : ℕ) (answered : Reply) (asked : Entries) (stored : Option (List ℕ)) (dated : Entries) → NoneDated asked
    → IsDated t answered asked stored dated → dated ≡ asked
same_dated t answered asked None dated none is = is
same_dated t answered asked (Some key) dated none is = by_entry (finite.get asked key) refl (none key) is
  where
    by_entry : (o : Option Entry) → finite.get asked key ≡ o → deadline_in o ≡ None
        → MatchOption o (dated ≡ asked) (λ e. (deadline : Option ℕ) × MayBeDated t e.deadline deadline answered
        × (dated ≡ finite.insert asked key (record e { deadline = deadline })))
        → dated ≡ asked
    by_entry None there none same = same
    by_entry (Some e) there none given =
        let same : given.0 ≡ e.deadline = none_dated t e.deadline given.0 answered none given.1 ∙ sym none in
        given.2 ∙ ap (λ (d : Option ℕ). finite.insert asked key (record e { deadline = d })) same
        ∙ insert-same asked key e there

-- an entry that is left out or not
out_undated : (b : Bool) (o : Option Entry) → deadline_in o ≡ None → deadline_in (cond b None o) ≡ None
out_undated true o none = refl
out_undated false o none = none

-- a step
pub undated_step : (sizes : Sizes) (before : Cache) (t : ℕ) (q : Request) (reply : Reply) (after : Cache)
    → Step sizes t before q reply after → SetsNoDeadline q → NoneDated before.entries → NoneDated after.entries
undated_step sizes before t q reply after step sets none =
    elim step [
      | inl x ↦
          let asked = undated_outcome sizes before t q sets none in
          let done = outcome_at sizes before t q in
          let same : x.dated ≡ done.entries = same_dated t done.reply done.entries done.stored x.dated asked x.is_dated in
          let dated : NoneDated x.dated = subst NoneDated (sym same) asked in
          subst NoneDated (sym x.entries) (λ key. ap deadline_in (get-without x.dated x.forgotten key)
          ∙ out_undated (contains_bytes x.forgotten key) (finite.get x.dated key) (dated key))
      | inr x ↦ subst NoneDated (ap (λ (c : Cache). c.entries) (sym x.stays)) (undated_found before t none)
    ]

-- a chain of steps
pub undated_chain : (sizes : Sizes) (before : Cache) (h : List Answered) (caches : List Cache)
    → Chain (Step sizes) before h caches → AllByRecursion (λ (e : Answered). SetsNoDeadline e.request) h
    → NoneDated before.entries → NoneDated (last_cache before caches).entries
undated_chain sizes before [] [] chain sets none = none
undated_chain sizes before [] (x ∷ caches) chain sets none = absurd chain
undated_chain sizes before (e ∷ h) [] chain sets none = absurd chain
undated_chain sizes before (e ∷ h) (x ∷ caches) chain sets none =
    undated_chain sizes x h caches chain.3 sets.1
    (undated_step sizes before e.moment e.request chain.0 x
    (one_step sizes before e.moment e.request chain.0 x sets.0 chain.2) sets.0 none)

-- what is left is all that was asked for
pub all_left : (sizes : Sizes) (before : Cache) (t : ℕ) (q : Request) (reply : Reply) (after : Cache)
    → NoneDated (outcome_at sizes before t q).entries → ForgetsNone sizes before t q reply after
    → (reply ≡ NoMemory) ⊎ (after.entries ≡ (outcome_at sizes before t q).entries)
all_left sizes before t q reply after none left =
    let done = outcome_at sizes before t q in
    elim left [
      | inl refused ↦ inl refused
      | inr is ↦ inr (same_dated t done.reply done.entries done.stored after.entries none is)
    ]

-- ---- items

-- none of the items has a deadline
abbrev pub AreUndated : List StoredItem → Type 0
AreUndated items = AllByRecursion (λ (i : StoredItem). i.bucket ≡ bucket_of None) items

-- some items, and more
pub undated_append : (items more : List StoredItem) → AreUndated items → AreUndated more → AreUndated (items ++ more)
undated_append [] more all rest = rest
undated_append (i ∷ items) more all rest = (all.0, undated_append items more all.1 rest)

-- the item that keeps an entry without a deadline
undated_item : (t : ℕ) (key : List ℕ) (o : Option Entry) → deadline_in o ≡ None → AreUndated (stored_item_of t key o)
undated_item t key None none = tt
undated_item t key (Some e) none = (ap (λ (d : Option ℕ). bucket_of (time_to_live d t)) none, tt)

-- the item under the key that was stored
undated_stored : (t : ℕ) (done : Outcome) (stored : Option (List ℕ)) → NoneDated done.entries
    → AreUndated (item_stored t done stored)
undated_stored t done None none = tt
undated_stored t done (Some key) none = undated_item t key (finite.get done.entries key) (none key)

-- the item that a request stores
pub undated_in : (sizes : Sizes) (before : Cache) (t : ℕ) (q : Request) (reply : Reply)
    → NoneDated (outcome_at sizes before t q).entries → AreUndated (stored_in sizes before t q reply)
undated_in sizes before t q reply none =
    let done = outcome_at sizes before t q in
    unless (is_no_memory reply) (item_stored t done done.stored) (undated_stored t done done.stored none)
  where
    unless : (b : Bool) (items : List StoredItem) → AreUndated items → AreUndated (if b then [] else items)
    unless true items all = tt
    unless false items all = all

-- the size of the item that keeps an entry
item_bytes : (t : ℕ) (key : List ℕ) (o : Option Entry)
    → written (stored_item_of t key o)
    ≡ option_map_or (λ (e : Entry). item_size (length key) (length e.value)) o 0
item_bytes t key None = refl
item_bytes t key (Some e) = omega arith

-- the size of the item under the key that was stored
stored_at : (t : ℕ) (done : Outcome) (stored : Option (List ℕ))
    → written (item_stored t done stored) ≡ option_map_or (size_at done.entries) stored 0
stored_at t done None = refl
stored_at t done (Some key) = item_bytes t key (finite.get done.entries key)

-- the size of the item that a reply leaves stored
abbrev pub stored_size : Outcome → Reply → ℕ
stored_size done reply = if is_no_memory reply then 0 else option_map_or (size_at done.entries) done.stored 0

by_reply : (t : ℕ) (done : Outcome) (reply : Reply)
    → written (if is_no_memory reply then [] else item_stored t done done.stored) ≡ stored_size done reply
by_reply t done NoMemory = refl
by_reply t done _ = stored_at t done done.stored

-- the size of the item that a request stores
pub written_in : (sizes : Sizes) (before : Cache) (t : ℕ) (q : Request) (reply : Reply)
    → written (stored_in sizes before t q reply) ≡ stored_size (outcome_at sizes before t q) reply
written_in sizes before t q reply = by_reply t (outcome_at sizes before t q) reply

-- items without deadlines are in one bucket
one_bucket : (items : List StoredItem) → AreUndated items → spread items ≤ 1
one_bucket [] all = omega arith
one_bucket (i ∷ []) all = omega arith
one_bucket (i ∷ j ∷ items) all =
    let same : (j.bucket == i.bucket) ≡ true = eq-eqb j.bucket i.bucket (all.1.0 ∙ sym all.0) in
    let rest : spread (j ∷ items) ≤ 1 = one_bucket (j ∷ items) all.1 in
    rw same rest

-- so few bytes of them are within the bound
pub within_bound : (sizes : Sizes) (items : List StoredItem) → AreUndated items
    → written items ≤ (sizes.segments - 1) * (sizes.segment_size - item_limit sizes)
    → IsWithinBound sizes items
within_bound sizes items all few =
    let room = sizes.segment_size - item_limit sizes in
    let one = one_bucket items all in
    le_trans few (mul-le (sizes.segments - 1) room (sizes.segments - spread items) room (omega (arith, one)) (omega arith))
