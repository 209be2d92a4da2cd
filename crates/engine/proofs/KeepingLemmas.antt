-- While little is stored, and nothing with a deadline, an engine forgets nothing that its map
-- keeps.
use Rattle.std.proofs.Common.{◌≡◌, ℕ, List, [], ◌++◌, Option, Some, None, refl, sym, ap, subst, ◌∙◌, inl, inr, append-nil}
use Rattle.std.specs.Prelude.{if◌then◌else◌}
use Rattle.std.specs.FinMap as map
use Rattle.proto.specs.declared.message.Request.{Request}
use Rattle.proto.specs.declared.message.Reply.{Reply}
use Rattle.proto.specs.declared.message.Reply.TheVariants.{NoMemory}
use Rattle.proto.specs.Sizes.{Sizes, item_limit}
use Rattle.proto.specs.Cache.{Entries, Cache}
use Rattle.proto.specs.Commands.{Outcome}
use Rattle.proto.specs.Steps.{IsDated, deadline_at}
use Rattle.proto.specs.Stored.{StoredItem, stored_item_of, item_stored, is_no_memory}
use Rattle.proto.proofs.StepLemmas.{get-stored, deadline_at-insert, dated-exactly}
use Rattle.proto.proofs.Outcomes.{answers_act, AddsNone, none_act}
use Rattle.engine.specs.declared.commands.Engine.{Engine}
use Rattle.engine.specs.Members.{MapOf}
use Rattle.engine.specs.Outcomes.{outcome_at}
use Rattle.engine.specs.Keeping.{IsWithinBound, AddsNoDeadline, stored_in, KeepsAll}
use Rattle.engine.specs.Engines.{Way, way_of, cache_in, Changes, IsStored, IsHandled}

-- a request that is out of memory stores no item, and any other the outcome's
pub answered_item : (reply : Reply) (items : List StoredItem) → (reply ≡ NoMemory → ⊥)
    → (if is_no_memory reply then [] else items) ≡ items
answered_item NoMemory items other = absurd (other refl)
answered_item _ items other = refl

-- what a map leaves of what was asked for, where items are kept
record IsKept {M P S : Type 0} (m : MapOf M P S) (t : ℕ) (reply : Reply) (asked : Entries) (stored : Option (List ℕ))
    (items : List StoredItem) (new : M) : Type 0 where
  dated : IsDated t reply asked stored (m.entries new)
  keeps : m.keeps new items

-- a stored entry is kept with the others
kept_entry : {M P S : Type 0} (m : MapOf M P S) (way : Way) (old : M) (key : List ℕ) (done : Outcome) (new : M)
    (items : List StoredItem)
    → IsStored m way old key done.entries done.reply new → m.keeps old items → AddsNone (m.entries old) done.entries
    → IsWithinBound (m.sizes old) (items ++ item_stored (m.moment old) done (Some key))
    → IsKept m (m.moment old) done.reply done.entries (Some key) (items ++ item_stored (m.moment old) done (Some key)) new
kept_entry m way old key done new items s keeps none within =
    let e = s.entry in
    let there : map.get done.entries key ≡ Some e =
    ap (λ (asked : Entries). map.get asked key) s.asked_is ∙ get-stored (m.entries old) key e in
    let item : item_stored (m.moment old) done (Some key) ≡ stored_item_of (m.moment old) key (Some e) =
    ap (stored_item_of (m.moment old) key) there in
    let all : items ++ item_stored (m.moment old) done (Some key)
    ≡ items ++ stored_item_of (m.moment old) key (Some e) = ap
    (λ (more : List StoredItem). items ++ more) item in
    let deadline : deadline_at done.entries key ≡ e.deadline =
    ap (λ (asked : Entries). deadline_at asked key) s.asked_is
    ∙ deadline_at-insert (m.entries old) key e in
    let adds : AddsNoDeadline (m.entries old) key e = elim (none key) [
      | inl undated ↦ inl (sym deadline ∙ undated)
      | inr same ↦ inr (sym deadline ∙ same)
    ] in
    let kept = s.kept items keeps adds (subst (IsWithinBound (m.sizes old)) all within) in
    let exact : IsDated (m.moment old) done.reply (map.insert (m.entries old) key e) (Some key)
    (map.insert (m.entries old) key e) = dated-exactly (m.moment old) done.reply (m.entries old) key e s.waits in
    record {
      dated = subst (λ (asked : Entries). IsDated (m.moment old) done.reply asked (Some key) (m.entries new)) (sym s.asked_is)
          (subst (λ (left : Entries). IsDated (m.moment old) done.reply (map.insert (m.entries old) key e) (Some key) left)
          (sym kept.0) exact);
      keeps = subst (m.keeps new) (sym all) kept.1;
    }

-- what was asked for is kept, whether an item was stored or not
kept_change : {M P S : Type 0} (m : MapOf M P S) (way : Way) (old : M) (stored : Option (List ℕ)) (done : Outcome) (new : M)
    (items : List StoredItem)
    → Changes m way old done stored new → m.keeps old items → AddsNone (m.entries old) done.entries
    → IsWithinBound (m.sizes old) (items ++ item_stored (m.moment old) done stored)
    → IsKept m (m.moment old) done.reply done.entries stored (items ++ item_stored (m.moment old) done stored) new
kept_change m way old None done new items is keeps none within =
    record { dated = is.entries; keeps = subst (m.keeps new) (sym (append-nil items)) (is.kept items keeps) }
kept_change m way old (Some key) done new items is keeps none within =
    kept_entry m way old key done new items is keeps none within

-- an engine keeps what its map keeps
pub kept_from_handled : {M P S : Type 0} (m : MapOf M P S) (old : Engine M) (t : ℕ) (q : Request) (reply : Reply)
    (new : Engine M)
    → IsHandled m old t q reply new
    → KeepsAll (λ (engine : Engine M). m.sizes engine.map) (cache_in m.entries)
    (λ (engine : Engine M) items. m.keeps engine.map items) old t q reply new
kept_from_handled m old t q reply new h items keeps sets within =
    let sizes = m.sizes old.map in
    let before = cache_in m.entries old in
    let done = outcome_at sizes (cache_in m.entries old) t q in
    let found_keeps : m.keeps h.found.map items = h.kept items keeps in
    elim h.leaves.gives [
      | inl d ↦
          let other : reply ≡ NoMemory → ⊥ = λ is. answers_act (item_limit sizes) before t q (sym d.reply_is ∙ is) in
          let item : stored_in sizes (cache_in m.entries old) t q reply ≡ item_stored t done done.stored =
          answered_item reply
          (item_stored t done done.stored) other in
          let all : items ++ stored_in sizes (cache_in m.entries old) t q reply
          ≡ items ++ item_stored t done done.stored = ap
          (λ (more : List StoredItem). items ++ more) item in
          let none : AddsNone (m.entries h.found.map) done.entries =
          subst (λ (c : Cache). AddsNone c.entries done.entries) (sym h.found_is)
          (none_act (item_limit sizes) before t q sets) in
          let bound : IsWithinBound (m.sizes h.found.map)
          (items ++ item_stored (m.moment h.found.map) done done.stored) =
          subst (λ (s : Sizes). IsWithinBound s (items ++ item_stored (m.moment h.found.map) done done.stored))
          (sym h.sizes_same)
          (subst (λ (at : ℕ). IsWithinBound sizes (items ++ item_stored at done done.stored)) (sym h.moment_is)
          (subst (IsWithinBound sizes) all within)) in
          let kept = kept_change m (way_of q h.found.in_place) h.found.map done.stored done new.map items d.changes found_keeps none bound in (
            inr (subst (λ (at : ℕ). IsDated at done.reply done.entries done.stored (m.entries new.map)) h.moment_is kept.dated),
            subst (m.keeps new.map) (sym all)
                (subst (λ (at : ℕ). m.keeps new.map (items ++ item_stored at done done.stored)) h.moment_is kept.keeps),
          )
      | inr d ↦
          let none : stored_in sizes (cache_in m.entries old) t q reply ≡ [] = ap
          (λ (r : Reply). if is_no_memory r then [] else item_stored t done done.stored) d.reply_is in (
            inl d.reply_is,
            subst (λ (more : List StoredItem). m.keeps new.map (items ++ more)) (sym none)
                (subst (m.keeps new.map) (sym (append-nil items)) (d.kept items found_keeps)),
          )
    ]
