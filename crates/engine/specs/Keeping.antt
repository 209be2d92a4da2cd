-- While little is stored, and nothing with a deadline, nothing is forgotten.
use Rattle.std.specs.Prelude.{◌≡◌, ℕ, ◌-◌, ◌*◌, ◌≤◌, ◌⊎◌, List, [], ◌++◌, if◌then◌else◌, Some, None}
use Rattle.std.specs.FinMap as map
use Rattle.proto.specs.declared.message.Request.{Request}
use Rattle.proto.specs.declared.message.Reply.{Reply}
use Rattle.proto.specs.declared.message.Reply.TheVariants.{NoMemory}
use Rattle.proto.specs.Sizes.{Sizes, item_limit}
use Rattle.proto.specs.Cache.{Entry, Entries, Cache}
use Rattle.proto.specs.Steps.{IsDated, deadline_at}
use Rattle.proto.specs.Commands.{SetsNoDeadline}
use Rattle.proto.specs.Stored.{StoredItem, stored_item_of, item_stored, is_no_memory, written, spread}
use Rattle.engine.specs.Outcomes.{outcome_at}

-- Few enough bytes that all segments but one for each bucket hold them, where each of these has no
-- room left for a largest item.
abbrev pub IsWithinBound : Sizes → List StoredItem → Type 0
IsWithinBound sizes items = written items ≤ (sizes.segments - spread items) * (sizes.segment_size - item_limit sizes)

-- what was kept is kept
abbrev pub StaysKept : {M : Type 0} → (M → List StoredItem → Type 0) → M → M → Type 0
StaysKept keeps old new = (items : List StoredItem) → keeps old items → keeps new items

-- the entry has no deadline, or the one of the entry that is in its place
abbrev pub AddsNoDeadline : Entries → List ℕ → Entry → Type 0
AddsNoDeadline old key entry = (entry.deadline ≡ None) ⊎ (entry.deadline ≡ deadline_at old key)

-- Where items were kept, and are within the bound together with the entry that is written, it is
-- kept with them, and nothing is forgotten.
abbrev pub KeepsEntry : {M : Type 0} → (M → Sizes) → (M → Entries) → (M → ℕ) → (M → List StoredItem → Type 0) → M
    → List ℕ → Entry → M → Type 0
KeepsEntry sizes entries moment keeps old key entry new =
    (items : List StoredItem) → keeps old items → AddsNoDeadline (entries old) key entry
    → (let all = items ++ stored_item_of (moment old) key (Some entry) in
    IsWithinBound (sizes old) all → (entries new ≡ map.insert (entries old) key entry) × keeps new all)

-- the item that the request stores, as a list of one: none where memory was refused
abbrev pub stored_in : Sizes → Cache → ℕ → Request → Reply → List StoredItem
stored_in sizes before t q reply =
    let done = outcome_at sizes before t q in
    if is_no_memory reply then [] else item_stored t done done.stored

-- the request's outcome is left, but for the deadline that its entry may get, or memory was refused
abbrev pub ForgetsNone : Sizes → Cache → ℕ → Request → Reply → Cache → Type 0
ForgetsNone sizes before t q reply after =
    let done = outcome_at sizes before t q in
    (reply ≡ NoMemory) ⊎ IsDated t done.reply done.entries done.stored after.entries

-- Where items were kept, the request sets no deadline, and they are within the bound together with
-- the item that it stores, nothing is forgotten, and that item is kept with them.
abbrev pub KeepsAll : {E : Type 0} → (E → Sizes) → (E → Cache) → (E → List StoredItem → Type 0) → E → ℕ → Request
    → Reply → E → Type 0
KeepsAll sizes cache keeps old t q reply new =
    (items : List StoredItem) → keeps old items → SetsNoDeadline q
    → (let all = items ++ stored_in (sizes old) (cache old) t q reply in
    IsWithinBound (sizes old) all → ForgetsNone (sizes old) (cache old) t q reply (cache new) × keeps new all)
