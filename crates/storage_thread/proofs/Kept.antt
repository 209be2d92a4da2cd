-- A history that goes on without forgetting anything.
use Rattle.std.proofs.Common.{◌≡◌, ◌+◌, ◌-◌, ◌*◌, ◌≤◌, All, List, [], ◌∷◌, ◌++◌, refl, sym, ap, subst, ◌∙◌, inl, inr, arith}
use Rattle.std.specs.Prelude.{◌⊎◌}
use Rattle.std.specs.List.{AllByRecursion}
use Rattle.std.proofs.lemmas.List.Elements.{All-from_recursion, recursion_from_All}
use Rattle.std.proofs.lemmas.List.Sums.{sum_by-append}
use Rattle.proto.specs.declared.history.Answered.{Answered}
use Rattle.proto.specs.declared.message.Reply.TheVariants.{NoMemory}
use Rattle.proto.specs.Sizes.{Sizes, item_limit}
use Rattle.proto.specs.Cache.{Cache, empty_cache}
use Rattle.proto.specs.History.{Chain}
use Rattle.proto.specs.Steps.{Step, IsExecuted, IsDated, without_keys}
use Rattle.proto.specs.Commands.{Outcome, SetsNoDeadline}
use Rattle.proto.proofs.CacheLemmas.{without-nil}
use Rattle.std.proofs.lemmas.Option.{none-some}
use Rattle.proto.specs.Stored.{StoredItem, is_no_memory, written}
use Rattle.std.proofs.Common.{ℕ, ◌≢◌, Bool, true, false, Option, None}
use Rattle.std.specs.Prelude.{if◌then◌else◌}
use Rattle.proto.specs.declared.message.Request.{Request}
use Rattle.proto.specs.declared.message.Request.TheVariants.{Stats}
use Rattle.proto.specs.declared.message.Reply.{Reply}
use Rattle.proto.proofs.HistoryLemmas.{IsRefusedRead}
use Rattle.proto.proofs.Outcomes.{IsGet}
use Rattle.engine.specs.Outcomes.{outcome_at}
use Rattle.engine.specs.Keeping.{IsWithinBound, stored_in, ForgetsNone}
use Rattle.engine.specs.Reaching.{last_cache}
use Rattle.storage_thread.specs.Keeping.{stored_bytes, IsFullStep, KeepsSoFar, LeadsKeeping}
use Rattle.storage_thread.specs.Keeping.{MayAlwaysForgetNothing, MayLeave}
use Rattle.exchange.specs.Beginnings.{StartsWith}
use Rattle.engine.proofs.ReachingLemmas.{IsDoneBy, IsStepOf, chain_more, last_more}
use Rattle.engine.proofs.CarryingLemmas.{carried_alone, one_step, touched_undated}
use Rattle.storage_thread.proofs.Undated.{NoneDated, undated_empty, undated_outcome, undated_chain, all_left}
use Rattle.storage_thread.proofs.Undated.{undated_append, undated_in, stored_size, written_in, within_bound}

-- ---- a longer history

-- what it stores
bytes_more : (sizes : Sizes) (before : Cache) (h : List Answered) (caches : List Cache) (e : Answered) (after : Cache)
    → Chain (Step sizes) before h caches
    → stored_bytes sizes before (h ++ e ∷ []) (caches ++ after ∷ [])
    ≡ stored_bytes sizes before h caches
    + stored_size (outcome_at sizes (last_cache before caches) e.moment e.request) e.reply
bytes_more sizes before [] [] e after c = omega arith
bytes_more sizes before [] (x ∷ caches) e after c = absurd c
bytes_more sizes before (b ∷ h) [] e after c = absurd c
bytes_more sizes before (b ∷ h) (x ∷ caches) e after c =
    let more = bytes_more sizes x h caches e after c.3 in
    omega (arith, more)

-- a step that stores nothing leaves what it found
stores_none : (sizes : Sizes) (t : ℕ) (done : Outcome) (reply : Reply) (after : Cache) → done.stored ≡ None
    → IsExecuted sizes t done reply after → after.entries ≡ done.entries
stores_none sizes t done reply after none x =
    let none_forgotten : x.forgotten ≡ [] = elim x.may_forget [ inl is ↦ is | inr s ↦ absurd (none-some s.0 (sym none ∙ s.1)) ] in
    x.entries ∙ ap (without_keys x.dated) none_forgotten ∙ without-nil x.dated
    ∙ subst (λ (s : Option (List ℕ)). IsDated t done.reply done.entries s x.dated) none x.is_dated

-- so does one for a `stats`, which isn't refused memory
stats_step : (sizes : Sizes) (t : ℕ) (before : Cache) (q : Request) (reply : Reply) (after : Cache) → q ≡ Stats
    → Step sizes t before q reply after → reply ≢ NoMemory → after.entries ≡ (outcome_at sizes before t q).entries
stats_step sizes t before q reply after is step other =
    let done = outcome_at sizes before t q in
    let none : done.stored ≡ None = subst (λ (r : Request). (outcome_at sizes before t r).stored ≡ None) (sym is) refl in
    elim step [ inl x ↦ stores_none sizes t done reply after none x | inr x ↦ absurd (other x.reply_is) ]

-- the step of a request that sets no deadline, which forgets nothing, as its entry says
full_step : (sizes : Sizes) (before : Cache) (e : Answered) (after : Cache) → SetsNoDeadline e.request
    → IsStepOf sizes before e after
    → (e.reply ≡ NoMemory) ⊎ (after.entries ≡ (outcome_at sizes before e.moment e.request).entries)
    → IsDoneBy (IsFullStep sizes) before e after
full_step sizes before e after sets (reply, told, carried) left =
    let step = one_step sizes before e.moment e.request reply after sets carried in
    let full : reply ≢ NoMemory → after.entries ≡ (outcome_at sizes before e.moment e.request).entries =
    λ other. elim left [
      | inl refused ↦ elim told [
        | inl same ↦ absurd (other (same ∙ refused))
        | inr is ↦ stats_step sizes e.moment before e.request reply after is step other
      ]
      | inr is ↦ is
    ] in (
      reply,
      told,
      carried_alone (IsFullStep sizes e.moment) before e.request reply after (step, full) (touched_undated e.request reply sets),
    )

-- no request sets a deadline
abbrev SetNone : List Answered → Type 0
SetNone h = AllByRecursion (λ (e : Answered). SetsNoDeadline e.request) h

-- nor does one of a part
unset_front : (h : List Answered) (e : Answered) → SetNone (h ++ e ∷ []) → SetNone h
unset_front [] e all = tt
unset_front (b ∷ h) e all = (all.0, unset_front h e all.1)

-- nor does the last one
unset_last : (h : List Answered) (e : Answered) → SetNone (h ++ e ∷ []) → SetsNoDeadline e.request
unset_last [] e all = all.0
unset_last (b ∷ h) e all = unset_last h e all.1

-- ---- a store that keeps what is stored

-- what a request keeps, from this cache on
abbrev pub KeepsStep : Sizes → Cache → Answered → Cache → (List StoredItem → Type 0) → (List StoredItem → Type 0)
    → Type 0
KeepsStep sizes before e after old new =
    (items : List StoredItem) → old items → SetsNoDeadline e.request
    → IsWithinBound sizes (items ++ stored_in sizes before e.moment e.request e.reply)
    → ForgetsNone sizes before e.moment e.request e.reply after
    × new (items ++ stored_in sizes before e.moment e.request e.reply)

-- a `stats` stores nothing, whatever it is answered
none_stored : (sizes : Sizes) (before : Cache) (t : ℕ) (reply : Reply) → stored_in sizes before t Stats reply ≡ []
none_stored sizes before t reply = either (is_no_memory reply)
  where
    either : (b : Bool) → ◌≡◌ {A = List StoredItem} (if b then [] else []) []
    either true = refl
    either false = refl

-- and keeps what it keeps whatever it is answered, if it wasn't refused first
keeps_stats : (sizes : Sizes) (before : Cache) (t : ℕ) (first reply : Reply) (after : Cache) → first ≢ NoMemory
    → ForgetsNone sizes before t Stats first after → ForgetsNone sizes before t Stats reply after
keeps_stats sizes before t first reply after other none =
    elim none [ inl refused ↦ absurd (other refused) | inr is ↦ inr is ]

-- an entry that is refused memory, by the reply of its store, shows hits or is a `stats`
pub refused_told : (e : Answered) (first : Reply) → (first ≡ e.reply) ⊎ (e.request ≡ Stats)
    → (first ≡ NoMemory → IsGet e.request) → IsRefusedRead e
refused_told e first told read none = elim told [ inl same ↦ inl (read (same ∙ none)) | inr is ↦ inr is ]

-- what an entry keeps, by the reply of its store
pub keeps_told : (sizes : Sizes) (before : Cache) (e : Answered) (first : Reply) (after : Cache)
    (old new : List StoredItem → Type 0)
    → (first ≡ e.reply) ⊎ (e.request ≡ Stats) → (e.request ≡ Stats → first ≢ NoMemory)
    → KeepsStep sizes before (record e { reply = first }) after old new → KeepsStep sizes before e after old new
keeps_told sizes before e first after old new (inl same) other keeps items kept sets within =
    let now : KeepsStep sizes before e after old new =
    subst (λ (r : Reply). KeepsStep sizes before (record e { reply = r }) after old new) same keeps in
    now items kept sets within
keeps_told sizes before e first after old new (inr stats) other keeps items kept sets within =
    let none : stored_in sizes before e.moment e.request e.reply ≡ [] =
    rw stats (none_stored sizes before e.moment e.reply) in
    let none_first : stored_in sizes before e.moment e.request first ≡ [] =
    rw stats (none_stored sizes before e.moment first) in
    let same : stored_in sizes before e.moment e.request e.reply ≡ stored_in sizes before e.moment e.request first =
    none ∙ sym none_first in
    let now = keeps items kept sets
    (subst (λ (l : List StoredItem). IsWithinBound sizes (items ++ l)) same within) in (
      subst (λ (q : Request). ForgetsNone sizes before e.moment q e.reply after) (sym stats)
          (keeps_stats sizes before e.moment first e.reply after (other stats)
          (subst (λ (q : Request). ForgetsNone sizes before e.moment q first after) stats now.0)),
      subst (λ (l : List StoredItem). new (items ++ l)) (sym same) now.1,
    )

-- one more step
keeps_more : (sizes : Sizes) (h : List Answered) (caches : List Cache) (e : Answered) (after : Cache)
    (old new : List StoredItem → Type 0)
    → Chain (Step sizes) (empty_cache 0) h caches → KeepsSoFar sizes h caches old
    → IsStepOf sizes (last_cache (empty_cache 0) caches) e after
    → KeepsStep sizes (last_cache (empty_cache 0) caches) e after old new
    → KeepsSoFar sizes (h ++ e ∷ []) (caches ++ after ∷ []) new
keeps_more sizes h caches e after old new chain so_far done step undated within =
    let start = empty_cache 0 in
    let before = last_cache start caches in
    let sets : SetNone (h ++ e ∷ []) =
    recursion_from_All (λ (x : Answered). SetsNoDeadline x.request) (h ++ e ∷ []) undated in
    let first = unset_front h e sets in
    let last = unset_last h e sets in
    let none : NoneDated (outcome_at sizes before e.moment e.request).entries =
    undated_outcome sizes before e.moment e.request last (undated_chain sizes start h caches chain first undated_empty) in
    let bytes = bytes_more sizes start h caches e after chain in
    let was = so_far (All-from_recursion (λ (x : Answered). SetsNoDeadline x.request) h first) (omega (arith, bytes, within)) in
    let more : List StoredItem = stored_in sizes before e.moment e.request e.reply in
    let size = written_in sizes before e.moment e.request e.reply in
    let all : written (was.0 ++ more) ≡ written was.0 + written more =
    sum_by-append (λ (i : StoredItem). i.size) was.0 more in
    let same : written (was.0 ++ more) ≡ stored_bytes sizes start (h ++ e ∷ []) (caches ++ after ∷ []) =
    let so_many = was.2 in omega (arith, all, size, so_many, bytes) in
    let items = undated_append was.0 more was.3 (undated_in sizes before e.moment e.request e.reply none) in
    let now = step was.0 was.1 last (within_bound sizes (was.0 ++ more) items (omega (arith, same, within))) in (
      was.0 ++ more,
      now.1,
      same,
      items,
      chain_more (IsFullStep sizes) start h caches e after was.4
          (full_step sizes before e after last done (all_left sizes before e.moment e.request e.reply after none now.0)),
    )

-- ---- beginnings

-- the list behind its first item, and that item
abbrev tail_of : List Answered → List Answered
tail_of [] = []
tail_of (x ∷ l) = l

abbrev head_or : Answered → List Answered → Answered
head_or d [] = d
head_or d (x ∷ l) = x

none_front : (l m : List Answered) → [] ≡ l ++ m → l ≡ []
none_front [] m h = refl
none_front (x ∷ l) m h = absurd cc

-- what begins a list with one item more is that list, or begins the list without it
split_last : (h b r : List Answered) (e : Answered) → h ++ e ∷ [] ≡ b ++ r → (b ≡ h ++ e ∷ []) ⊎ StartsWith h b
split_last h [] r e s = inr (h, refl)
split_last [] (x ∷ b) r e s =
    let none = none_front b r (ap tail_of s) in
    inl ((λ i. x ∷ none i) ∙ ap (λ (y : Answered). y ∷ []) (sym (ap (head_or e) s)))
split_last (y ∷ h) (x ∷ b) r e s = on (split_last h b r e (ap tail_of s))
  where
    first : y ≡ x
    first = ap (head_or y) s

    on : (b ≡ h ++ e ∷ []) ⊎ StartsWith h b → (x ∷ b ≡ y ∷ h ++ e ∷ []) ⊎ StartsWith (y ∷ h) (x ∷ b)
    on (inl t) = inl (λ i. sym first i ∷ t i)
    on (inr (m, t)) = inr (m, λ i. first i ∷ t i)

-- what `MayAlwaysForgetNothing` says of one beginning
abbrev MayForgetNothing : Sizes → List Answered → Type 0
MayForgetNothing sizes h =
    let start = empty_cache 0 in
    All (λ e. SetsNoDeadline e.request) h
    → ((caches : List Cache) → Chain (Step sizes) start h caches
    → stored_bytes sizes start h caches ≤ (sizes.segments - 1) * (sizes.segment_size - item_limit sizes))
    → MayLeave (λ done after. after.entries ≡ done.entries) sizes h

always_more : (sizes : Sizes) (h : List Answered) (e : Answered) → MayAlwaysForgetNothing sizes h
    → MayForgetNothing sizes (h ++ e ∷ []) → MayAlwaysForgetNothing sizes (h ++ e ∷ [])
always_more sizes h e was now b (r, is) = pick (split_last h b r e is)
  where
    pick : (b ≡ h ++ e ∷ []) ⊎ StartsWith h b → MayForgetNothing sizes b
    pick (inl t) = subst (λ (z : List Answered). MayForgetNothing sizes z) (sym t) now
    pick (inr first) = was b first

always_first : (sizes : Sizes) → MayAlwaysForgetNothing sizes []
always_first sizes b (r, is) =
    subst (λ (z : List Answered). MayForgetNothing sizes z) (sym (none_front b r is)) (λ undated within. ([], tt))

-- before the first request
pub leads_first : (sizes : Sizes) (h : List Answered) (cache : Cache) (keeps : List StoredItem → Type 0) → h ≡ []
    → cache ≡ empty_cache 0 → keeps []
    → LeadsKeeping sizes h cache keeps
leads_first sizes h cache keeps none is start =
    subst (λ (z : List Answered × Cache). LeadsKeeping sizes z.0 z.1 keeps) (λ i. (sym none i, sym is i))
    record { caches = []; chain = tt; cache_is = refl; kept = λ undated within. ([], start, refl, tt, tt); always = always_first sizes }

-- one more request
pub leads_more : (sizes : Sizes) (h : List Answered) (c after : Cache) (e : Answered)
    (old new : List StoredItem → Type 0)
    → LeadsKeeping sizes h c old → IsStepOf sizes c e after → KeepsStep sizes c e after old new
    → LeadsKeeping sizes (h ++ e ∷ []) after new
leads_more sizes h c after e old new l s step =
    let caches = l.caches ++ after ∷ [] in
    let done = subst (λ (z : Cache). IsStepOf sizes z e after) (sym l.cache_is) s in
    let chain = chain_more (Step sizes) (empty_cache 0) h l.caches e after l.chain done in
    let kept = keeps_more sizes h l.caches e after old new l.chain l.kept done
    (subst (λ (z : Cache). KeepsStep sizes z e after old new) (sym l.cache_is) step) in record {
      caches = caches;
      chain = chain;
      cache_is = last_more (empty_cache 0) l.caches after;
      kept = kept;
      always = always_more sizes h e l.always (λ undated within. (caches, (kept undated (within caches chain)).4));
    }
