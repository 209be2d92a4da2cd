-- What each request leaves: it stores no entry or one, and its reply isn't out of memory. All that
-- is said of each outcome follows from that, so a new command is a case of `by_act` alone.
use Rattle.std.proofs.Common.{◌≡◌, ◌≢◌, ℕ, ℤ, ◌+◌, ◌-◌, ◌%◌, ◌^◌, Bool, true, false, cond, List, [], ◌++◌, Option, Some, None}
use Rattle.std.proofs.Common.{refl, sym, ap, subst, ◌∙◌, inl, inr}
use Rattle.std.specs.Prelude.{◌⊎◌, bytes_eq, decimal, if◌then◌else◌, ◌==◌, pos}
use Rattle.std.specs.Option.{option_map_or}
use Rattle.std.specs.Str.Parse.{digits_value}
use Rattle.std.specs.FinMap as map
use Rattle.std.proofs.lemmas.Slice.Eq.{bytes_eq-Decides}
use Rattle.proto.specs.declared.message.Put.{Put}
use Rattle.proto.specs.declared.message.Request.{Request}
use Rattle.proto.specs.declared.message.Request.TheVariants.{Get, GetAndTouch, Set, SetTooLarge, Add, Replace, Cas, Append, Prepend, Delete, Incr, Decr, Touch, FlushAll, Stats}
use Rattle.proto.specs.declared.message.Reply.{Reply}
use Rattle.proto.specs.declared.message.Reply.TheVariants.{NoMemory}
use Rattle.proto.specs.declared.message.Reply.TheVariants as reply
use Rattle.proto.specs.Sizes.{item_limit}
use Rattle.proto.specs.Cache.{Entry, Entries, no_entries, Cache, has_arrived, found_at, deadline_of}
use Rattle.proto.specs.Commands.{Outcome, shows_hits, SetsNoDeadline, leaving, write, put, is_too_large, is_number, change, join, touch, act}
use Rattle.proto.specs.Steps.{IsDated, deadline_at, has_hits}
use Rattle.proto.specs.Laws.{PlainSteps}
use Rattle.proto.proofs.CacheLemmas.{get-insert, get-remove, get-no_entries, without-nil}
use Rattle.proto.proofs.StepLemmas.{dated-exactly, found_waits}

-- ---- what there is to say of an outcome

-- the entries stay, or one is taken out, or all
record StoresNone (old : Entries) (done : Outcome) : Type 0 where
  entries : (done.entries ≡ old) ⊎ (((key : List ℕ) × (done.entries ≡ map.remove old key)) ⊎ (done.entries ≡ no_entries))
  stored : done.stored ≡ None

-- One is stored, whose deadline is to come. Where the request sets none, it has no deadline or the
-- one of the entry before it.
record StoresOne (t : ℕ) (old : Entries) (q : Request) (done : Outcome) : Type 0 where
  key : List ℕ
  entry : Entry
  entries : done.entries ≡ map.insert old key entry
  stored : done.stored ≡ Some key
  waits : has_arrived entry.deadline t ≡ false
  kept : SetsNoDeadline q → (entry.deadline ≡ None) ⊎ (entry.deadline ≡ deadline_at old key)

-- a request that shows hits
abbrev pub IsGet : Request → Type 0
IsGet q = shows_hits q ≡ true

-- the reply isn't out of memory, and shows no hits if the request isn't one that does
record IsAnswer (q : Request) (answered : Reply) : Type 0 where
  some : answered ≢ NoMemory
  hits : IsGet q ⊎ (has_hits answered ≡ false)

record Leaves (t : ℕ) (cache : Cache) (q : Request) (done : Outcome) : Type 0 where
  stores : StoresNone cache.entries done ⊎ StoresOne t cache.entries q done
  answers : IsAnswer q done.reply

-- ---- the outcomes of commands

-- another reply
plainly : (q : Request) (answered : Reply) → answered ≢ NoMemory → has_hits answered ≡ false → IsAnswer q answered
plainly q answered some none = record { some = some; hits = inr none }

-- either way of a test
by_test : (t : ℕ) (cache : Cache) (q : Request) (b : Bool) (x y : Outcome) → (b ≡ true → Leaves t cache q x)
    → (b ≡ false → Leaves t cache q y) → Leaves t cache q (if b then x else y)
by_test t cache q true x y on off = on refl
by_test t cache q false x y on off = off refl

-- the cache stays
by_none : (t : ℕ) (cache : Cache) (q : Request) (answered : Reply) → IsAnswer q answered
    → Leaves t cache q (leaving cache answered)
by_none t cache q answered answers = record {
  stores = inl (record { entries = inl refl; stored = refl });
  answers = answers;
}

-- an entry is taken out
by_removal : (t : ℕ) (cache : Cache) (q : Request) (key : List ℕ) (answered : Reply) → IsAnswer q answered
    → Leaves t cache q (leaving (record cache { entries = map.remove cache.entries key }) answered)
by_removal t cache q key answered answers = record {
  stores = inl (record { entries = inr (inl (key, refl)); stored = refl });
  answers = answers;
}

-- an entry is written
by_write : (t : ℕ) (cache : Cache) (q : Request) (key : List ℕ) (entry : ℕ → Entry) (answered : Reply) → IsAnswer q answered
    → ((cas : ℕ) → has_arrived (entry cas).deadline t ≡ false)
    → ((cas : ℕ) → SetsNoDeadline q → ((entry cas).deadline ≡ None) ⊎ ((entry cas).deadline ≡ deadline_at cache.entries key))
    → Leaves t cache q (write cache key entry answered)
by_write t cache q key entry answered answers waits kept =
    let cas = cache.last_cas + 1 in
    by_test t cache q (cache.last_cas == 2 ^ 64 - 1) _ _ (λ _. by_none t cache q reply.NoCas (plainly q reply.NoCas (λ e. cc) refl))
    (λ _. record {
      stores = inr (record {
        key = key;
        entry = entry cas;
        entries = refl;
        stored = refl;
        waits = waits cas;
        kept = kept cas;
      });
      answers = answers;
    })

-- a put
by_put : (t : ℕ) (cache : Cache) (q : Request) (p : Put) → (SetsNoDeadline q → p.exptime ≡ pos 0) → Leaves t cache q (put cache t p)
by_put t cache q p sets =
    let stored = plainly q reply.Stored (λ e. cc) refl in
    by_test t cache q (has_arrived (deadline_of p.exptime t) t) _ _ (λ _. by_removal t cache q p.key reply.Stored stored) (λ waits.
    by_write t cache q p.key (λ cas. record {
      value = p.value;
      flags = p.flags;
      deadline = deadline_of p.exptime t;
      cas = cas;
    }) reply.Stored stored (λ cas. waits) (λ cas none. inl (ap (λ e. deadline_of e t) (sets none))))

-- a put that isn't too large
by_size : (t : ℕ) (cache : Cache) (q : Request) (limit : ℕ) (p : Put) (done : Outcome) → Leaves t cache q done
    → Leaves t cache q (if is_too_large limit p then leaving cache reply.TooLarge else done)
by_size t cache q limit p done leaves =
    by_test t cache q (is_too_large limit p) _ _
    (λ _. by_none t cache q reply.TooLarge (plainly q reply.TooLarge (λ e. cc) refl)) (λ _. leaves)

-- a put under a cas number
by_cas : (t : ℕ) (cache : Cache) (q : Request) (o : Option Entry) (p : Put) (unique : ℕ)
    → (SetsNoDeadline q → p.exptime ≡ pos 0)
    → Leaves t cache q (option_map_or (λ (e : Entry). if e.cas == unique then put cache t p else leaving cache reply.Exists) o
    (leaving cache reply.NotFound))
by_cas t cache q None p unique sets = by_none t cache q reply.NotFound (plainly q reply.NotFound (λ e. cc) refl)
by_cas t cache q (Some e) p unique sets =
    by_test t cache q (e.cas == unique) _ _ (λ _. by_put t cache q p sets)
    (λ _. by_none t cache q reply.Exists (plainly q reply.Exists (λ e. cc) refl))

-- an entry that is there, to be changed
abbrev Waits : ℕ → Option Entry → Type 0
Waits t o = (e : Entry) → o ≡ Some e → has_arrived e.deadline t ≡ false

-- its deadline stays
same_deadline : (old : Entries) (key : List ℕ) (o : Option Entry) (e : Entry) → map.get old key ≡ o → o ≡ Some e
    → e.deadline ≡ deadline_at old key
same_deadline old key o e there is = let same : map.get old key ≡ Some e = there ∙ is in rw same refl

-- incr and decr
by_change : (t : ℕ) (cache : Cache) (q : Request) (new : ℕ → ℕ) (o : Option Entry) (key : List ℕ)
    → map.get cache.entries key ≡ o → Waits t o → Leaves t cache q (change new o cache key)
by_change t cache q new None key there waits = by_none t cache q reply.NotFound (plainly q reply.NotFound (λ e. cc) refl)
by_change t cache q new (Some e) key there waits =
    let n = new (digits_value 10 e.value) in
    by_test t cache q (is_number e.value) _ _ (λ _. by_write t cache q key (λ cas. record {
      value = decimal n;
      flags = e.flags;
      deadline = e.deadline;
      cas = cas;
    }) (reply.Number n) (plainly q (reply.Number n) (λ e. cc) refl) (λ cas. waits e refl)
    (λ cas none. inr (same_deadline cache.entries key (Some e) e there refl)))
    (λ _. by_none t cache q reply.NotNumber (plainly q reply.NotNumber (λ e. cc) refl))

-- append and prepend
by_join : (t : ℕ) (cache : Cache) (q : Request) (joined : List ℕ → List ℕ) (o : Option Entry) (limit : ℕ) (p : Put)
    → map.get cache.entries p.key ≡ o → Waits t o → Leaves t cache q (join joined o limit cache p)
by_join t cache q joined None limit p there waits =
    by_none t cache q reply.NotStored (plainly q reply.NotStored (λ e. cc) refl)
by_join t cache q joined (Some e) limit p there waits =
    by_size t cache q limit (record p { value = joined e.value }) _ (by_write t cache q p.key (λ cas. record {
      value = joined e.value;
      flags = e.flags;
      deadline = e.deadline;
      cas = cas;
    }) reply.Stored (plainly q reply.Stored (λ e. cc) refl) (λ cas. waits e refl)
    (λ cas none. inr (same_deadline cache.entries p.key (Some e) e there refl)))

-- touch
by_touch : (t : ℕ) (cache : Cache) (q : Request) (o : Option Entry) (key : List ℕ) (exptime : ℤ)
    → (SetsNoDeadline q → exptime ≡ pos 0) → Leaves t cache q (touch o cache t key exptime)
by_touch t cache q None key exptime sets = by_none t cache q reply.NotFound (plainly q reply.NotFound (λ e. cc) refl)
by_touch t cache q (Some e) key exptime sets =
    let touched = plainly q reply.Touched (λ e. cc) refl in
    by_test t cache q (has_arrived (deadline_of exptime t) t) _ _ (λ _. by_removal t cache q key reply.Touched touched) (λ waits.
    record {
      stores = inr (record {
        key = key;
        entry = record e { deadline = deadline_of exptime t };
        entries = refl;
        stored = refl;
        waits = waits;
        kept = λ none. inl (ap (λ e. deadline_of e t) (sets none));
      });
      answers = touched;
    })

-- each request
by_act : (limit : ℕ) (cache : Cache) (t : ℕ) (q : Request) → ((key : List ℕ) → Waits t (map.get cache.entries key))
    → Leaves t cache q (act limit cache t q)
by_act limit cache t (Get keys with_cas) waits =
    by_none t cache _ _ (record { some = λ e. cc; hits = inl refl })
by_act limit cache t (GetAndTouch keys with_cas exptime) waits =
    by_none t cache _ _ (record { some = λ e. cc; hits = inl refl })
by_act limit cache t (Set p) waits = by_size t cache _ limit p _ (by_put t cache _ p (λ none. none))
by_act limit cache t (SetTooLarge key) waits =
    by_removal t cache _ key reply.TooLarge (plainly _ reply.TooLarge (λ e. cc) refl)
by_act limit cache t (Add p) waits =
    by_size t cache _ limit p _ (by_test t cache _ (map.contains_key cache.entries p.key) _ _
    (λ _. by_none t cache _ reply.NotStored (plainly _ reply.NotStored (λ e. cc) refl))
    (λ _. by_put t cache _ p (λ none. none)))
by_act limit cache t (Replace p) waits =
    by_size t cache _ limit p _ (by_test t cache _ (map.contains_key cache.entries p.key) _ _
    (λ _. by_put t cache _ p (λ none. none))
    (λ _. by_none t cache _ reply.NotStored (plainly _ reply.NotStored (λ e. cc) refl)))
by_act limit cache t (Cas p unique) waits =
    by_size t cache _ limit p _ (by_cas t cache _ (map.get cache.entries p.key) p unique (λ none. none))
by_act limit cache t (Delete key) waits =
    by_test t cache _ (map.contains_key cache.entries key) _ _
    (λ _. by_removal t cache _ key reply.Deleted (plainly _ reply.Deleted (λ e. cc) refl))
    (λ _. by_none t cache _ reply.NotFound (plainly _ reply.NotFound (λ e. cc) refl))
by_act limit cache t (Incr key amount) waits =
    by_change t cache _ (λ n. (n + amount) % 2 ^ 64) (map.get cache.entries key) key refl (waits key)
by_act limit cache t (Decr key amount) waits =
    by_change t cache _ (λ n. n - amount) (map.get cache.entries key) key refl (waits key)
by_act limit cache t (Append p) waits =
    by_join t cache _ (λ value. value ++ p.value) (map.get cache.entries p.key) limit p refl (waits p.key)
by_act limit cache t (Prepend p) waits =
    by_join t cache _ (λ value. p.value ++ value) (map.get cache.entries p.key) limit p refl (waits p.key)
by_act limit cache t (Touch asked) waits =
    by_touch t cache _ (map.get cache.entries asked.key) asked.key asked.exptime (λ none. none)
by_act limit cache t (FlushAll delay) waits =
    let flushed = plainly (FlushAll delay) reply.Flushed (λ e. cc) refl in
    by_test t cache _ (delay == 0) _ _
    (λ _. record { stores = inl (record { entries = inr (inr refl); stored = refl }); answers = flushed })
    (λ _. record { stores = inl (record { entries = inl refl; stored = refl }); answers = flushed })
by_act limit cache t Stats waits = by_none t cache _ reply.NotFound (plainly _ reply.NotFound (λ e. cc) refl)

-- what each request leaves of what it finds
by_request : (limit : ℕ) (before : Cache) (t : ℕ) (q : Request)
    → Leaves t (found_at before t) q (act limit (found_at before t) t q)
by_request limit before t q = by_act limit (found_at before t) t q (found_waits before t)

-- ---- its reply

-- no outcome is out of memory
pub answers_act : (limit : ℕ) (before : Cache) (t : ℕ) (q : Request) → (act limit (found_at before t) t q).reply ≢ NoMemory
answers_act limit before t q = (by_request limit before t q).answers.some

-- only a request that shows hits does
pub shown_act : (limit : ℕ) (before : Cache) (t : ℕ) (q : Request)
    → IsGet q ⊎ (has_hits (act limit (found_at before t) t q).reply ≡ false)
shown_act limit before t q = (by_request limit before t q).answers.hits

-- ---- the deadlines that it leaves

-- the deadline of an entry, if there is one
abbrev pub deadline_in : Option Entry → Option ℕ
deadline_in o = option_map_or (λ (e : Entry). e.deadline) o None

-- an entry at a key has no deadline, or the one of the entry in its place
abbrev pub AddsNoneAt : Entries → Entries → List ℕ → Type 0
AddsNoneAt old new key = (deadline_at new key ≡ None) ⊎ (deadline_at new key ≡ deadline_at old key)

-- each of them
abbrev pub AddsNone : Entries → Entries → Type 0
AddsNone old new = (key : List ℕ) → AddsNoneAt old new key

-- an entry that has no deadline, or the one of the entry in its place
none_insert : (old : Entries) (key : List ℕ) (e : Entry)
    → (e.deadline ≡ None) ⊎ (e.deadline ≡ deadline_at old key)
    → AddsNone old (map.insert old key e)
none_insert old key e undated q = by_key (bytes_eq q key) refl (get-insert old key e q)
  where
    by_key : (b : Bool) → bytes_eq q key ≡ b → map.get (map.insert old key e) q ≡ cond b (Some e) (map.get old q)
        → AddsNoneAt old (map.insert old key e) q
    by_key true same there =
        let is : deadline_at (map.insert old key e) q ≡ e.deadline = ap deadline_in there in
        let at : deadline_at old key ≡ deadline_at old q =
        ap (λ (k : List ℕ). deadline_at old k) (sym ((bytes_eq-Decides q key).0 same)) in
        elim undated [
          | inl none ↦ inl (is ∙ none)
          | inr kept ↦ inr (is ∙ kept ∙ at)
        ]
    by_key false other there = inr (ap deadline_in there)

-- an entry is taken out
none_remove : (old : Entries) (key : List ℕ) → AddsNone old (map.remove old key)
none_remove old key q = by_key (bytes_eq q key) (get-remove old key q)
  where
    by_key : (b : Bool) → map.get (map.remove old key) q ≡ cond b None (map.get old q)
        → AddsNoneAt old (map.remove old key) q
    by_key true there = inl (ap deadline_in there)
    by_key false there = inr (ap deadline_in there)

-- A request that sets no deadline leaves entries that have none, or the one of the entry in their
-- place.
pub none_act : (limit : ℕ) (before : Cache) (t : ℕ) (q : Request) → SetsNoDeadline q
    → AddsNone (found_at before t).entries (act limit (found_at before t) t q).entries
none_act limit before t q sets =
    let old = (found_at before t).entries in
    elim (by_request limit before t q).stores [
      | inl s ↦ elim s.entries [
        | inl same ↦ subst (AddsNone old) (sym same) (λ key. inr refl)
        | inr gone ↦ elim gone [
          | inl one ↦ subst (AddsNone old) (sym one.1) (none_remove old one.0)
          | inr all ↦ subst (AddsNone old) (sym all) (λ key. inl (ap deadline_in (get-no_entries key)))
        ]
      ]
      | inr s ↦ subst (AddsNone old) (sym s.entries) (none_insert old s.key s.entry (s.kept sets))
    ]

-- the entry that it stores may have the deadline that it asks for
dated_act : (limit : ℕ) (before : Cache) (t : ℕ) (q : Request)
    → let done = act limit (found_at before t) t q in IsDated t done.reply done.entries done.stored done.entries
dated_act limit before t q =
    let done = act limit (found_at before t) t q in
    let leaves = λ (stored : Option (List ℕ)). IsDated t done.reply done.entries stored done.entries in
    elim (by_request limit before t q).stores [
      | inl s ↦ subst leaves (sym s.stored) refl
      | inr s ↦
          subst leaves (sym s.stored) (subst (λ (m : Entries). IsDated t done.reply m (Some s.key) m) (sym s.entries)
          (dated-exactly t done.reply (found_at before t).entries s.key s.entry s.waits))
    ]

-- a plain map is a cache
pub plain_steps : PlainSteps
plain_steps sizes before t q =
    let done = act (item_limit sizes) (found_at before t) t q in
    inl (record {
      reply_is = refl;
      last_cas = refl;
      pending = refl;
      dated = done.entries;
      is_dated = dated_act (item_limit sizes) before t q;
      forgotten = [];
      may_forget = inl refl;
      entries = sym (without-nil done.entries);
    })
