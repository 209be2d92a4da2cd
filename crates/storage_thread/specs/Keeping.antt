-- Histories in which nothing is forgotten, since little is stored.
use Rattle.std.specs.Prelude.{◌≡◌, ℕ, ◌+◌, ◌-◌, ◌*◌, ◌≤◌, ◌≢◌, List, ◌∷◌, All, None, if◌then◌else◌}
use Rattle.std.specs.List.{AllByRecursion}
use Rattle.std.specs.Option.{option_map_or}
use Rattle.proto.specs.declared.history.Answered.{Answered}
use Rattle.proto.specs.declared.message.Request.{Request}
use Rattle.proto.specs.declared.message.Reply.{Reply}
use Rattle.proto.specs.declared.message.Reply.TheVariants.{NoMemory}
use Rattle.proto.specs.Sizes.{Sizes, item_limit}
use Rattle.proto.specs.Cache.{Cache, empty_cache}
use Rattle.proto.specs.Buckets.{bucket_of}
use Rattle.proto.specs.Commands.{Outcome, SetsNoDeadline}
use Rattle.proto.specs.Steps.{size_at, Step}
use Rattle.proto.specs.History.{Chain}
use Rattle.proto.specs.Stored.{StoredItem, is_no_memory, written}
use Rattle.exchange.specs.Beginnings.{StartsWith}
use Rattle.engine.specs.Outcomes.{outcome_at}
use Rattle.engine.specs.Reaching.{last_cache}

-- the sizes of the items that requests store, in sum; one that is refused memory stores none
abbrev pub stored_bytes : Sizes → Cache → List Answered → List Cache → ℕ
stored_bytes sizes before (e ∷ history) (after ∷ caches) =
    let done = outcome_at sizes before e.moment e.request in
    (if is_no_memory e.reply then 0 else option_map_or (size_at done.entries) done.stored 0)
    + stored_bytes sizes after history caches
stored_bytes _ _ _ _ = 0

-- In some chain of the history, each step that isn't refused memory leaves of its outcome what
-- `Leaves` says.
abbrev pub MayLeave : (Outcome → Cache → Type 0) → Sizes → List Answered → Type 0
MayLeave Leaves sizes history = (caches : List Cache)
    × Chain (λ t before q reply after. Step sizes t before q reply after
    × (reply ≢ NoMemory → Leaves (outcome_at sizes before t q) after)) (empty_cache 0) history caches

-- a step that forgets nothing
abbrev pub IsFullStep : Sizes → ℕ → Cache → Request → Reply → Cache → Type 0
IsFullStep sizes t before q reply after =
    Step sizes t before q reply after × (reply ≢ NoMemory → after.entries ≡ (outcome_at sizes before t q).entries)

-- Of each beginning of the history: if no request sets a deadline, and each chain stores no more
-- than all segments but one hold, each less the size of a largest item, then some chain forgets
-- nothing.
abbrev pub MayAlwaysForgetNothing : Sizes → List Answered → Type 0
MayAlwaysForgetNothing sizes history =
    let start = empty_cache 0 in
    (beginning : List Answered) → StartsWith history beginning → All (λ e. SetsNoDeadline e.request) beginning
    → ((caches : List Cache) → Chain (Step sizes) start beginning caches
    → stored_bytes sizes start beginning caches ≤ (sizes.segments - 1) * (sizes.segment_size - item_limit sizes))
    → MayLeave (λ done after. after.entries ≡ done.entries) sizes beginning

-- Where no request set a deadline, and what was stored is within the bound, nothing was forgotten
-- so far, and a store keeps items of as many bytes, none of which has a deadline.
abbrev pub KeepsSoFar : Sizes → List Answered → List Cache → (List StoredItem → Type 0) → Type 0
KeepsSoFar sizes history caches keeps =
    let start = empty_cache 0 in
    let bytes = stored_bytes sizes start history caches in
    All (λ e. SetsNoDeadline e.request) history
    → bytes ≤ (sizes.segments - 1) * (sizes.segment_size - item_limit sizes)
    → (items : List StoredItem) × keeps items × (written items ≡ bytes)
    × AllByRecursion (λ i. i.bucket ≡ bucket_of None) items × Chain (IsFullStep sizes) start history caches

-- A chain of steps leads through the history to this cache, and forgot nothing so far; nor need one
-- of a beginning have.
pub record LeadsKeeping (sizes : Sizes) (history : List Answered) (cache : Cache)
    (keeps : List StoredItem → Type 0) : Type 0 where
  pub caches : List Cache
  pub chain : Chain (Step sizes) (empty_cache 0) history caches
  pub cache_is : last_cache (empty_cache 0) caches ≡ cache
  pub kept : KeepsSoFar sizes history caches keeps
  pub always : MayAlwaysForgetNothing sizes history
