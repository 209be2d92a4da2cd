-- What an engine makes of a request is a step, and `NoMemory` is answered only out of memory.
use Rattle.std.proofs.Common.{◌≡◌, ◌≢◌, ℕ, Bool, true, false, true≢false, List, [], ◌∷◌, Option, Some, None, refl, sym, subst, ◌∙◌}
use Rattle.std.proofs.Common.{inl, inr}
use Rattle.std.specs.Prelude.{◌⊎◌, ◌||◌, ◌&&◌, is_some, IsSome}
use Rattle.std.specs.FinMap as map
use Rattle.proto.specs.declared.hits.Hit.{Hit}
use Rattle.proto.specs.declared.message.Request.{Request}
use Rattle.proto.specs.declared.message.Reply.{Reply}
use Rattle.proto.specs.declared.message.Reply.TheVariants.{Values, NoMemory}
use Rattle.proto.specs.Sizes.{Sizes, item_limit}
use Rattle.proto.specs.Cache.{Entry, Entries, Cache, found_at}
use Rattle.proto.specs.Commands.{Outcome, act}
use Rattle.proto.specs.Steps.{Step, MayEvict, IsDated, IsRefused, has_hits, without_keys}
use Rattle.proto.proofs.CacheLemmas.{without-nil, remove-insert}
use Rattle.proto.proofs.StepLemmas.{dated-insert, live_dated, insert-same}
use Rattle.proto.proofs.DeadlineLemmas.{may_be_exact}
use Rattle.proto.proofs.Outcomes.{answers_act}
use Rattle.proto.specs.Cache.{has_arrived}
use Rattle.engine.specs.declared.commands.Engine.{Engine}
use Rattle.engine.specs.Written.{IsWritten}
use Rattle.engine.specs.Members.{MapOf}
use Rattle.engine.specs.Keeping.{StaysKept}
use Rattle.engine.specs.Outcomes.{outcome_at, needs_memory}
use Rattle.engine.specs.Engines.{Way, way_of, cache_in, Changes, IsDenied, Leaves, LeavesExecuted, IsHandled}

-- ---- a write that forgets nothing and gives exactly the deadline asked for

-- a map that writes the entry as it is writes as it may
pub written_exactly : (sizes : Sizes) (t : ℕ) (old : Entries) (key : List ℕ) (e : Entry) (new : Entries)
    → has_arrived e.deadline t ≡ false → new ≡ map.insert old key e → IsWritten sizes t old key e new
written_exactly sizes t old key e new waits is =
    record {
      deadline = e.deadline;
      may_live = may_be_exact t e.deadline waits;
      forgotten = [];
      may_forget = inl refl;
      entries = is ∙ sym (without-nil (map.insert old key e));
    }

-- ---- first to the moment, and then the request

-- an engine that went on to the moment, and did what the outcome says, has handled the request
pub handled_by : {M P S : Type 0} (m : MapOf M P S) (old found : Engine M) (t : ℕ) (q : Request) (reply : Reply)
    (new : Engine M)
    → cache_in m.entries found ≡ found_at (cache_in m.entries old) t → m.sizes found.map ≡ m.sizes old.map
    → m.moment found.map ≡ t → found.in_place ≡ old.in_place → found.dialect ≡ old.dialect
    → m.alike old.map found.map → StaysKept m.keeps old.map found.map
    → LeavesExecuted m found q reply new
    → IsHandled m old t q reply new
handled_by m old found t q reply new cache same at option dialect alike kept leaves =
    let same_outcome : act (item_limit (m.sizes found.map)) (cache_in m.entries found) (m.moment found.map) q
    ≡ outcome_at (m.sizes old.map)
    (cache_in m.entries old) t q =
    λ i. act (item_limit (same i)) (cache i) (at i) q in
    record {
      found = found;
      found_is = cache;
      sizes_same = same;
      moment_is = at;
      in_place_same = option;
      dialect_same = dialect;
      alike = alike;
      kept = kept;
      leaves = subst (λ (done : Outcome). Leaves m (way_of q found.in_place) found new done reply) same_outcome leaves;
    }

-- ---- what a step asks of the entries

-- the entries are those asked for, but that the stored one has a deadline that it may get, and some
-- may have been forgotten
record IsReached (sizes : Sizes) (t : ℕ) (reply : Reply) (asked : Entries) (stored : Option (List ℕ)) (new : Entries) : Type 0 where
  dated : Entries
  is_dated : IsDated t reply asked stored dated
  forgotten : List (List ℕ)
  may_forget : (forgotten ≡ []) ⊎ ((key : List ℕ) × (stored ≡ Some key) × MayEvict sizes (map.remove dated key) forgotten)
  entries : new ≡ without_keys dated forgotten

-- what a write forgets is forgotten beside the entry that it leaves
forgets_beside : (sizes : Sizes) (old : Entries) (key : List ℕ) (e : Entry) (forgotten : List (List ℕ))
    → (forgotten ≡ []) ⊎ MayEvict sizes (map.remove old key) forgotten
    → (forgotten ≡ [])
    ⊎ ((k : List ℕ) × (Some key ≡ Some k) × MayEvict sizes (map.remove (map.insert old key e) k) forgotten)
forgets_beside sizes old key e forgotten (inl none) = inl none
forgets_beside sizes old key e forgotten (inr h) =
    inr (key, refl, subst (λ (others : Entries). MayEvict sizes others forgotten) (sym (remove-insert old key e)) h)

-- what an engine's map becomes is what a step may leave
reached : {M P S : Type 0} (m : MapOf M P S) (way : Way) (old : M) (done : Outcome) (stored : Option (List ℕ)) (new : M)
    → Changes m way old done stored new → IsReached (m.sizes old) (m.moment old) done.reply done.entries stored (m.entries new)
reached m way old done None new is =
    record {
      dated = done.entries;
      is_dated = refl;
      forgotten = [];
      may_forget = inl refl;
      entries = is.entries ∙ sym (without-nil done.entries);
    }
reached m way old done (Some key) new s =
    elim s.written [
      | inl w ↦
          let left : Entry = record s.entry { deadline = w.deadline } in
          let dated : Entries = map.insert (m.entries old) key left in
          let is_dated : IsDated (m.moment old) done.reply (map.insert (m.entries old) key s.entry) (Some key) dated =
          dated-insert (m.moment old) done.reply (m.entries old) key s.entry w.deadline
          (live_dated (m.moment old) s.entry.deadline w.deadline done.reply w.may_live) in
          record {
            dated = dated;
            is_dated = subst (λ (asks : Entries). IsDated (m.moment old) done.reply asks (Some key) dated) (sym s.asked_is) is_dated;
            forgotten = w.forgotten;
            may_forget = forgets_beside (m.sizes old) (m.entries old) key left w.forgotten w.may_forget;
            entries = w.entries;
          }
      | inr w ↦
          let left : Entry = record s.entry { deadline = w.deadline } in
          let dated : Entries = map.insert (m.entries old) key left in
          let is_dated : IsDated (m.moment old) done.reply (map.insert (m.entries old) key s.entry) (Some key) dated =
          dated-insert (m.moment old) done.reply (m.entries old) key s.entry w.deadline w.may_stay in
          record {
            dated = dated;
            is_dated = subst (λ (asks : Entries). IsDated (m.moment old) done.reply asks (Some key) dated) (sym s.asked_is) is_dated;
            forgotten = [];
            may_forget = inl refl;
            entries = w.entries ∙ sym (insert-same (m.entries old) key left w.there) ∙ sym (without-nil dated);
          }
    ]

-- the same for equal sizes and moments
moved : (s u : Sizes) (t v : ℕ) (r : Reply) (asked : Entries) (stored : Option (List ℕ)) (new : Entries) → s ≡ u → t ≡ v
    → IsReached s t r asked stored new → IsReached u v r asked stored new
moved s u t v r asked stored new su tv h =
    subst (λ (x : Sizes). IsReached x v r asked stored new) su
    (subst (λ (x : ℕ). IsReached s x r asked stored new) tv h)

-- a request that may be refused stores an item or has hits
asks_memory : (b stored hits : Bool) → ((b && stored) || hits) ≡ true → (stored || hits) ≡ true
asks_memory true stored hits e = e
asks_memory false true hits e = refl
asks_memory false false hits e = e

-- what asks for memory stores an item or shows a hit
wants_memory : (stored : Option (List ℕ)) (answered : Reply) → (is_some stored || has_hits answered) ≡ true
    → IsSome stored ⊎ ((h : Hit) × (hits : List Hit) × (answered ≡ Values (h ∷ hits)))
wants_memory (Some key) answered e = inl refl
wants_memory None (Values (h ∷ hits)) e = inr (h, hits, refl)
wants_memory None _ e = absurd (true≢false (sym e))

-- where memory was refused, the cache stays
denied_same : {M P S : Type 0} (m : MapOf M P S) (old new : Engine M) (done : Outcome) (reply : Reply)
    → IsDenied m old new done reply → cache_in m.entries new ≡ cache_in m.entries old
denied_same m old new done reply d = λ i. record {
  entries = d.entries_same i;
  last_cas = d.last_cas i;
  pending = d.pending i;
}

-- what was found stays, seen as a refusal of the cache
pub denied : {M P S : Type 0} (m : MapOf M P S) (old new : Engine M) (found : Cache) (done : Outcome) (reply : Reply)
    → cache_in m.entries old ≡ found → IsDenied m old new done reply
    → IsRefused found done reply (cache_in m.entries new)
denied m old new found done reply is d =
    record {
      reply_is = d.reply_is;
      stays = denied_same m old new done reply d ∙ is;
      cause = wants_memory done.stored done.reply
          (asks_memory m.may_refuse (is_some done.stored) (has_hits done.reply) d.cause);
    }

-- a request that was handled is a step
pub step_from_handled : {M P S : Type 0} (m : MapOf M P S) (old : Engine M) (t : ℕ) (q : Request) (reply : Reply)
    (new : Engine M)
    → IsHandled m old t q reply new
    → Step (m.sizes old.map) t (cache_in m.entries old) q reply (cache_in m.entries new)
step_from_handled m old t q reply new h =
    let done = outcome_at (m.sizes old.map) (cache_in m.entries old) t q in
    elim h.leaves.gives [
      | inl d ↦
          let r = moved (m.sizes h.found.map) (m.sizes old.map) (m.moment h.found.map) t done.reply done.entries done.stored
          (m.entries new.map) h.sizes_same h.moment_is
          (reached m (way_of q h.found.in_place) h.found.map done done.stored new.map d.changes) in
          inl (record {
            reply_is = d.reply_is;
            last_cas = d.last_cas;
            pending = d.pending;
            dated = r.dated;
            is_dated = r.is_dated;
            forgotten = r.forgotten;
            may_forget = r.may_forget;
            entries = r.entries;
          })
      | inr d ↦ inr (denied m h.found new (found_at (cache_in m.entries old) t) done reply h.found_is d)
    ]

-- where `NoMemory` is answered, the cache that was found stays
pub refused_stays : {M P S : Type 0} (m : MapOf M P S) (old : Engine M) (t : ℕ) (q : Request) (reply : Reply)
    (new : Engine M)
    → IsHandled m old t q reply new
    → reply ≡ NoMemory → cache_in m.entries new ≡ found_at (cache_in m.entries old) t
refused_stays m old t q reply new h is =
    elim h.leaves.gives [
      | inl d ↦ absurd (answers_act (item_limit (m.sizes old.map)) (cache_in m.entries old) t q
          (sym d.reply_is ∙ is))
      | inr d ↦
          let done = outcome_at (m.sizes old.map) (cache_in m.entries old) t q in
          denied_same m h.found new done reply d ∙ h.found_is
    ]

-- what needs no memory isn't refused any
pub none_refused : {M P S : Type 0} (m : MapOf M P S) (old : Engine M) (t : ℕ) (q : Request) (reply : Reply)
    (new : Engine M)
    → IsHandled m old t q reply new
    → needs_memory m.may_refuse (outcome_at (m.sizes old.map) (cache_in m.entries old) t q) ≡ false → reply ≢ NoMemory
none_refused m old t q reply new h free is =
    elim h.leaves.gives [
      | inl d ↦ answers_act (item_limit (m.sizes old.map)) (cache_in m.entries old) t q
          (sym d.reply_is ∙ is)
      | inr d ↦ let both = sym free ∙ d.cause in cc
    ]
