-- How long an entry is there that was set.
use Rattle.std.proofs.Common.{◌≡◌, ℕ, ◌+◌, ◌-◌, ◌*◌, ◌^◌, ◌<◌, ◌≤◌, min, Bool, true, false, List, [], Option, Some, None, refl, sym, ap, subst, ◌∙◌, inl, inr}
use Rattle.std.proofs.Common.{arith, le-leb}
use Rattle.std.specs.Prelude.{◌⊎◌, ◌==◌, if◌then◌else◌}
use Rattle.std.specs.FinMap as map
use Rattle.std.proofs.lemmas.Bool.{lt-leb}
use Rattle.proto.specs.declared.message.Put.{Put}
use Rattle.proto.specs.declared.message.Request.TheVariants.{Set}
use Rattle.proto.specs.declared.message.Reply.{Reply}
use Rattle.proto.specs.declared.message.Reply.TheVariants.{Stored, TooLarge, NoCas}
use Rattle.proto.specs.Sizes.{Sizes, item_limit}
use Rattle.proto.specs.Cache.{Entry, Entries, Cache, empty_cache, has_arrived, live, found_at, deadline_of}
use Rattle.proto.specs.Commands.{Outcome, leaving, put, write, is_too_large, act}
use Rattle.proto.specs.Steps.{Step, IsDated, MayEvict, without_keys}
use Rattle.proto.specs.Buckets.{life_width, MayLive}
use Rattle.proto.specs.Lives.{HasPut, LivesItsTime, LivesForGood}
use Rattle.proto.proofs.Options.{some_is}
use Rattle.proto.proofs.CacheLemmas.{contains_bytes, get-live, get-without, if_live, not_forgotten}
use Rattle.proto.proofs.StepLemmas.{get-stored, dated_live, insert-dated}

-- ---- what a set leaves

-- an outcome that stored the entry of a put
record Sets (done : Outcome) (t : ℕ) (p : Put) : Type 0 where
  entry : Entry
  old : Entries
  stored : done.stored ≡ Some p.key
  entries : done.entries ≡ map.insert old p.key entry
  value : entry.value ≡ p.value
  flags : entry.flags ≡ p.flags
  deadline : entry.deadline ≡ deadline_of p.exptime t

-- the entry of a put with a cas number
abbrev entry_put : ℕ → Put → ℕ → Entry
entry_put t p cas = record { value = p.value; flags = p.flags; deadline = deadline_of p.exptime t; cas = cas }

-- what a put leaves whose deadline hasn't come: by whether no cas number is left
abbrev numbered : Cache → ℕ → Put → Bool → Outcome
numbered cache t p none_left =
    if none_left then leaving cache NoCas
    else record {
      entries = map.insert cache.entries p.key (entry_put t p (cache.last_cas + 1));
      last_cas = cache.last_cas + 1;
      pending = cache.pending;
      reply = Stored;
      stored = Some p.key;
    }

-- what a put leaves: by whether its deadline has come
abbrev dated : Cache → ℕ → Put → Bool → Outcome
dated cache t p come = if come then leaving (record cache { entries = map.remove cache.entries p.key }) Stored
    else write cache p.key (entry_put t p) Stored

-- a put that wants a cas number, and is answered as stored, has stored its entry
sets_numbered : (cache : Cache) (t : ℕ) (p : Put) (b : Bool) → (numbered cache t p b).reply ≡ Stored
    → Sets (numbered cache t p b) t p
sets_numbered cache t p true is = absurd (cc is)
sets_numbered cache t p false is =
    record {
      entry = entry_put t p (cache.last_cas + 1);
      old = cache.entries;
      stored = refl;
      entries = refl;
      value = refl;
      flags = refl;
      deadline = refl;
    }

-- a put whose deadline hasn't come, and that is answered as stored, has stored its entry
sets_waiting : (cache : Cache) (t : ℕ) (p : Put) (b : Bool) → b ≡ false → (dated cache t p b).reply ≡ Stored
    → Sets (dated cache t p b) t p
sets_waiting cache t p true waits is = absurd (cc waits)
sets_waiting cache t p false waits is = sets_numbered cache t p (cache.last_cas == 2 ^ 64 - 1) is

-- a set stores its entry: its item isn't too large, its deadline hasn't come, and a cas number is
-- left
sets_fitting : (cache : Cache) (t : ℕ) (p : Put) (b : Bool) → has_arrived (deadline_of p.exptime t) t ≡ false
    → (if b then leaving cache TooLarge else put cache t p).reply ≡ Stored
    → Sets (if b then leaving cache TooLarge else put cache t p) t p
sets_fitting cache t p true waits is = absurd (cc is)
sets_fitting cache t p false waits is = sets_waiting cache t p (has_arrived (deadline_of p.exptime t) t) waits is

-- What a set leaves at its key: the entry, with a deadline that it may get.
record SetLeaves (t : ℕ) (p : Put) (after : Cache) : Type 0 where
  entry : Entry
  there : map.get after.entries p.key ≡ Some entry
  value : entry.value ≡ p.value
  flags : entry.flags ≡ p.flags
  may : MayLive t (deadline_of p.exptime t) entry.deadline

-- a key that is stored isn't among those that are forgotten
others_forgotten : (sizes : Sizes) (new : Entries) (stored : Option (List ℕ)) (key : List ℕ) (forgotten : List (List ℕ))
    → stored ≡ Some key
    → (forgotten ≡ []) ⊎ ((k : List ℕ) × (stored ≡ Some k) × MayEvict sizes (map.remove new k) forgotten)
    → contains_bytes forgotten key ≡ false
others_forgotten sizes new stored key forgotten is (inl none) = not_forgotten sizes new key forgotten (inl none)
others_forgotten sizes new stored key forgotten is (inr h) =
    let same : h.0 ≡ key = some_is h.0 key (sym h.1 ∙ is) in
    not_forgotten sizes new key forgotten
    (inr (subst (λ (k : List ℕ). MayEvict sizes (map.remove new k) forgotten) same h.2))

-- a set whose deadline hasn't come, and that is answered as stored, leaves its entry at its key
set_leaves : (sizes : Sizes) (before after : Cache) (t : ℕ) (p : Put)
    → has_arrived (deadline_of p.exptime t) t ≡ false → Step sizes t before (Set p) Stored after → SetLeaves t p after
set_leaves sizes before after t p waits (inr x) = let e = x.reply_is in absurd (cc e)
set_leaves sizes before after t p waits (inl x) =
    let found = found_at before t in
    let done = act (item_limit sizes) found t (Set p) in
    let s : Sets done t p = sets_fitting found t p (is_too_large (item_limit sizes) p) waits (sym x.reply_is) in
    let d : IsDated t done.reply done.entries (Some p.key) x.dated =
    subst (λ (o : Option (List ℕ)). IsDated t done.reply done.entries o x.dated) s.stored x.is_dated in
    let r : IsDated t Stored done.entries (Some p.key) x.dated =
    subst (λ (r : Reply). IsDated t r done.entries (Some p.key) x.dated) (sym x.reply_is) d in
    let left = insert-dated t Stored s.old p.key s.entry x.dated
    (subst (λ (m : Entries). IsDated t Stored m (Some p.key) x.dated) s.entries r) in
    let e : Entry = record s.entry { deadline = left.0 } in
    let other = others_forgotten sizes x.dated done.stored p.key x.forgotten s.stored x.may_forget in
    let there : map.get (without_keys x.dated x.forgotten) p.key ≡ Some e =
    get-without x.dated x.forgotten p.key
    ∙ rw other (ap (λ (m : Entries). map.get m p.key) left.2 ∙ get-stored s.old p.key e) in
    record {
      entry = e;
      there = ap (λ (m : Entries). map.get m p.key) x.entries ∙ there;
      value = s.value;
      flags = s.flags;
      may = subst (λ (a : Option ℕ). MayLive t a left.0) s.deadline (dated_live t s.entry.deadline left.0 left.1);
    }

-- ---- what is found of it

-- where no flush has come, a request finds at a key what was left there, if it is live by then
found_later : (after : Cache) (u : ℕ) (key : List ℕ) → has_arrived after.pending u ≡ false
    → map.get (found_at after u).entries key ≡ if_live u (map.get after.entries key)
found_later after u key waits = by_test (has_arrived after.pending u) waits
  where
    found : Bool → Cache
    found b = if b then empty_cache after.last_cas
        else record { entries = live after.entries u; last_cas = after.last_cas; pending = after.pending }

    by_test : (b : Bool) → b ≡ false → map.get (found b).entries key ≡ if_live u (map.get after.entries key)
    by_test true is = absurd (cc is)
    by_test false is = get-live after.entries u key

-- where neither a flush nor the deadline of what a set left has come, what was put is found
finds : (t u : ℕ) (p : Put) (after : Cache) (s : SetLeaves t p after) → has_arrived after.pending u ≡ false
    → has_arrived s.entry.deadline u ≡ false → HasPut (found_at after u).entries p
finds t u p after s pending waits =
    let there : if_live u (map.get after.entries p.key) ≡ Some s.entry = ap (if_live u) s.there ∙ rw waits refl in
    record { entry = s.entry; there = found_later after u p.key pending ∙ there; value = s.value; flags = s.flags }

-- where no flush has come, but the deadline of what a set left has, nothing is found at its key
misses : (t u : ℕ) (p : Put) (after : Cache) (s : SetLeaves t p after) → has_arrived after.pending u ≡ false
    → has_arrived s.entry.deadline u ≡ true → map.get (found_at after u).entries p.key ≡ None
misses t u p after s pending gone =
    let none : if_live u (map.get after.entries p.key) ≡ None = ap (if_live u) s.there ∙ rw gone refl in
    found_later after u p.key pending ∙ none

-- a deadline that stands for the end of a life
record IsEnd (t life : ℕ) (given : Option ℕ) : Type 0 where
  deadline : ℕ
  given_is : given ≡ Some deadline
  later : t < deadline
  not_after : deadline ≤ t + life
  long_enough : t + min life 8388608 < deadline + 2 * life_width life

-- a deadline that is long enough, said of a life
enough_for : (t life deadline width : ℕ) → min (t + life) (t + 8388608) < deadline + 2 * width
    → t + min life 8388608 < deadline + 2 * width
enough_for t life deadline width enough = omega arith

-- what an entry may get that asks for a life of some seconds is a deadline that stands for the end
-- of this life
ends : (t life : ℕ) (given : Option ℕ) → 1 ≤ life → MayLive t (Some (t + life)) given → IsEnd t life given
ends t life None some may = absurd may
ends t life (Some d) some may =
    let is : t + life - t ≡ life = omega arith in
    record {
      deadline = d;
      given_is = refl;
      later = may.0;
      not_after = may.1;
      long_enough = enough_for t life d (life_width life)
          (subst (λ (x : ℕ). min (t + life) (t + 8388608) < d + 2 * life_width x) is may.2);
    }

-- a deadline hasn't come at a moment before it
waits_until : (given : Option ℕ) (d u : ℕ) → given ≡ Some d → u < d → has_arrived given u ≡ false
waits_until given d u is h = ap (λ (o : Option ℕ). has_arrived o u) is ∙ lt-leb d u h

-- a deadline has come at its moment and at each later one
gone_from : (given : Option ℕ) (d u : ℕ) → given ≡ Some d → d ≤ u → has_arrived given u ≡ true
gone_from given d u is h = ap (λ (o : Option ℕ). has_arrived o u) is ∙ le-leb d u h

-- what was set to live for some seconds is there at first, and until at most two widths of its
-- bucket before they are over; once they are over it isn't; no flush may have come, and a life
-- above the longest counts as the longest
pub lives_its_time : LivesItsTime
lives_its_time sizes before after t life u p some asked step pending =
    let waits : has_arrived (deadline_of p.exptime t) t ≡ false =
    waits_until (deadline_of p.exptime t) (t + life) t asked (omega arith) in
    let s = set_leaves sizes before after t p waits step in
    let end = ends t life s.entry.deadline some (subst (λ (a : Option ℕ). MayLive t a s.entry.deadline) asked s.may) in
    let later = end.later in
    let bound = end.not_after in
    let long = end.long_enough in (
      λ at. finds t u p after s pending (waits_until s.entry.deadline end.deadline u end.given_is (omega arith)),
      λ before. finds t u p after s pending (waits_until s.entry.deadline end.deadline u end.given_is (omega arith)),
      λ over. misses t u p after s pending (gone_from s.entry.deadline end.deadline u end.given_is (omega arith)),
    )

-- an entry that asks for no deadline gets none
no_end : (t : ℕ) (given : Option ℕ) → MayLive t None given → given ≡ None
no_end t None may = refl
no_end t (Some d) may = absurd may

-- what was set with no deadline is there at each moment, where no flush has come
pub lives_for_good : LivesForGood
lives_for_good sizes before after t u p is step pending =
    let asked : deadline_of p.exptime t ≡ None = ap (λ e. deadline_of e t) is in
    let s = set_leaves sizes before after t p (ap (λ (o : Option ℕ). has_arrived o t) asked) step in
    let none = no_end t s.entry.deadline (subst (λ (a : Option ℕ). MayLive t a s.entry.deadline) asked s.may) in
    finds t u p after s pending (ap (λ (o : Option ℕ). has_arrived o u) none)
