-- What making room forgets, whatever the pool's plan is, and by tests of items that say the same.
use Rattle.std.proofs.Common.{◌≡◌, ℕ, ◌<◌, ◌≤◌, Bool, true, false, List, [], ◌∷◌, length, map, Option, Some, None, refl, sym, ap, subst}
use Rattle.std.proofs.Common.{◌∙◌, inl, inr, arith}
use Rattle.std.specs.Prelude.{◌⊎◌, ⊤, All, cond, IsSome, filter, not, ◌&&◌, is_some, count_by, bytes_eq, if◌then◌else◌}
use Rattle.std.specs.FinMap as finite
use Rattle.std.proofs.lemmas.Bool.{cases_Bool, false≢true, leb-true, and_parts, or_left, or_right}
use Rattle.std.proofs.lemmas.List.{ext_get_or, length-take}
use Rattle.std.proofs.lemmas.List.Sums.{sum_by-cons}
use Rattle.std.proofs.lemmas.Slice.Eq.{bytes_eq-Decides}
use Rattle.std.proofs.lemmas.Option.{none-some}
use Rattle.proto.specs.Cache.{Entry, Entries, has_arrived}
use Rattle.proto.specs.Steps.{without_keys}
use Rattle.proto.proofs.CacheLemmas.{contains_bytes, without-nil, same_entries, get-insert, get-remove, get-without}
use Rattle.segments.specs.declared.place.Place.{Place}
use Rattle.segments.specs.declared.merge.Choice.{Choice}
use Rattle.segments.specs.Items.{Item}
use Rattle.segments.specs.Pools.{PoolState, IsPool, Plan, Used, Liveness, segment_at, item_in, place_deadline, has_live}
use Rattle.segments.specs.Changes.{HasNoRoom, IsGivenBack, IsAddedToTail, IsAddedToFree, dead_segments}
use Rattle.proto.specs.declared.eviction.Eviction.{Eviction}
use Rattle.proto.specs.declared.eviction.Eviction.TheVariants.{Oldest, LeastRead}
use Rattle.segments.specs.Merges.{Evicts, NoneQualifies, merged_into, merged_segments}
use Rattle.segments.specs.Rules.{most_merged, IsVictimBy}
use Rattle.segments.specs.Chains.{front}
use Rattle.segments.proofs.FrontLemmas.{most_two}
use Rattle.segments.specs.Places.{AgreeIn}
use Rattle.segments.proofs.AgreeingTests.{AgreeAt, same_live_items, same_live_standing, same_live_at, same_has_live}
use Rattle.segments.proofs.AgreeingTests.{same_dead, same_given, same_dead_by, same_given_by}
use Rattle.segments.specs.Marks.{Marks, is_marked, lives_by}
use Rattle.index.specs.Table.{Table, Places}
use Rattle.segcache.specs.Shown.{current, shown_entries, live_entries, entry_at}
use Rattle.segcache.specs.Invariants.{IsTied}
use Rattle.segcache.specs.State.{MapState, IsSegmentedMap}
use Rattle.segcache.specs.Removals.{HaveExpiredLeft}
use Rattle.segcache.specs.LiveItems.{live_marks, live_others, is_dead}
use Rattle.segments.specs.Items.{item_deadline}
use Rattle.segments.specs.Pools.{Standing, standing, deadline_in}
use Rattle.std.specs.List.{list_any}
use Rattle.std.proofs.lemmas.List.Elements.{All-head, All-tail}
use Rattle.segcache.specs.Allocation.{MakesRoom}
use Rattle.segcache.specs.Allocation.MakesRoom.{has_room, gives_back, evicts}
use Rattle.segcache.specs.ForgottenKeys.{IsEvicted, HasMadeRoom, PlacesItem, keys_evicted, keys_forgotten}
use Rattle.segcache.proofs.TiedParts.{removed_at, removed_other}
use Rattle.segcache.proofs.GivenBack.{all_alive}
use Rattle.segcache.proofs.MergePlans.{with_plan, shown_replanned}
use Rattle.segcache.specs.Room.{IsCrowded}
use Rattle.segments.specs.Changes.{IsPoolFull}
use Rattle.segcache.proofs.RoomMade.{IsSwept, swept_crowded, alive_given}
use Rattle.segcache.proofs.ShownItems.{shown_remove}

-- Something was evicted, with these keys.
pub record EvictsKeys (lives : Liveness) (p after : PoolState) (keys : List (List ℕ)) : Type 0 where
  pub evicted : Evicts lives p after
  pub keys_are : keys ≡ keys_evicted lives p after evicted

-- ---- whatever the plan is

-- what a merge of one or more segments makes of a pool doesn't depend on the pool's plan
pub merged_replanned : (p : PoolState) (o : Option Plan) (b : Choice) (numbers : List ℕ) (items : List Item)
    → 1 ≤ length numbers
    → merged_into (with_plan p o) b numbers items ≡ merged_into p b numbers items
merged_replanned p o b [] items some = absurd (omega (arith, some))
merged_replanned p o b (n ∷ numbers) items some = refl

-- what can be merged doesn't depend on the plan
pub none_replanned : (p mid : PoolState) (o : Option Plan) → mid ≡ with_plan p o → NoneQualifies p → NoneQualifies mid
none_replanned p mid o is h = subst NoneQualifies (sym is) h

-- nor does the segment that is evicted
victim_replanned : (e : Eviction) (p : PoolState) (o : Option Plan) (n : ℕ) → IsVictimBy e (with_plan p o) n
    → IsVictimBy e p n
victim_replanned Oldest p o n v = v
victim_replanned LeastRead p o n v = v

-- what is evicted of a pool is evicted of it with another plan
pub keys_replanned : (lives : Liveness) (p : PoolState) (o : Option Plan) (after : PoolState) (keys : List (List ℕ))
    → EvictsKeys lives (with_plan p o) after keys → EvictsKeys lives p after keys
keys_replanned lives p o after keys h = by h.evicted h.keys_are
  where
    by : (e : Evicts lives (with_plan p o) after) → keys ≡ keys_evicted lives (with_plan p o) after e
        → EvictsKeys lives p after keys
    by (inl m) are =
        let long = leb-true 2 (length (front p m.choice)) m.next.qualifying in
        let four = length-take (most_merged p.eviction m.choice.bucket) (front p m.choice) in
        let two = most_two p.eviction m.choice.bucket in
        record {
          evicted = inl (record {
            choice = m.choice;
            next = record { in_range = m.next.in_range; qualifying = m.next.qualifying; next = m.next.next };
            judged = m.judged;
            is_judged = record { all_live = m.is_judged.all_live; each = m.is_judged.each };
            after_is = m.after_is ∙ merged_replanned p o m.choice (merged_segments p m.choice) _
                (omega (arith, long, four, two));
          });
          keys_are = are;
        }
    by (inr c) are =
        record {
          evicted = inr
              (record {
                none_qualifies = c.none_qualifies;
                segment = c.segment;
                is_victim = victim_replanned p.eviction p o c.segment c.is_victim;
                after_is = c.after_is;
              });
          keys_are = are;
        }

-- ---- whatever test says what is live

-- tests that say the same of each item evict the same
pub keys_agree : (one other : Liveness) (p after : PoolState) (keys : List (List ℕ)) → AgreeIn p one other
    → EvictsKeys one p after keys → EvictsKeys other p after keys
keys_agree one other p after keys a h = by h.evicted h.keys_are
  where
    by : (e : Evicts one p after) → keys ≡ keys_evicted one p after e → EvictsKeys other p after keys
    by (inl m) are =
        record {
          evicted = inl (record {
            choice = m.choice;
            next = m.next;
            judged = m.judged;
            is_judged = record {
              all_live = m.is_judged.all_live ∙ same_live_items p one other _ a;
              each = m.is_judged.each;
            };
            after_is = m.after_is;
          });
          keys_are = are;
        }
    by (inr c) are = record {
      evicted = inr c;
      keys_are = are ∙ ap (map (λ s. s.item.key)) (same_live_standing p one other c.segment a);
    }

-- Room was made, with these keys.
pub record MakesKeys (lives : Liveness) (p : PoolState) (bucket t : ℕ) (i : Item) (after : PoolState)
    (keys : List (List ℕ)) : Type 0 where
  pub room : MakesRoom lives p bucket t i after
  pub keys_are : keys ≡ keys_forgotten lives p bucket t i after room

-- tests that say the same of each item make the same room
pub makes_agree : (one other : Liveness) (p : PoolState) (bucket t : ℕ) (i : Item) (after : PoolState)
    → AgreeIn p one other
    → (m : MakesRoom one p bucket t i after)
    → MakesKeys other p bucket t i after (keys_forgotten one p bucket t i after m)
makes_agree one other p bucket t i _ a (has_room room) = record { room = has_room room; keys_are = refl }
makes_agree one other p bucket t i _ a (gives_back after full dead given) =
    record {
      room = gives_back after full (subst (λ n. 0 < n) (same_dead p one other a) dead)
          (same_given p after one other a given);
      keys_are = refl;
    }
makes_agree one other p bucket t i _ a (evicts after full none evicted) =
    let k = keys_agree one other p after (keys_evicted one p after evicted) a
    (record { evicted = evicted; keys_are = refl }) in
    record { room = evicts after full (sym (same_dead p one other a) ∙ none) k.evicted; keys_are = k.keys_are }

-- ---- where nothing is given back

-- a list in which no number fails a test has only numbers that pass it
all_kept : (f : ℕ → Bool) (xs : List ℕ) → count_by (λ m. not (f m)) xs ≡ 0 → filter f xs ≡ xs
all_kept f [] e = refl
all_kept f (x ∷ xs) e =
    let count = sum_by-cons (λ (m : ℕ). if not (f m) then 1 else 0) x xs in
    elim (cases_Bool (f x)) [
      | inl y ↦
          let zero_here : ◌≡◌ {A = ℕ} (if not (f x) then 1 else 0) 0 = rw y refl in
          rw y (ap (λ ys. x ∷ ys) (all_kept f xs (omega (arith, e, count, zero_here))))
      | inr z ↦
          let one_here : ◌≡◌ {A = ℕ} (if not (f x) then 1 else 0) 1 = rw z refl in
          absurd (omega (arith, e, count, one_here))
    ]

-- a segment that is kept where a test holds, which it does unless the segment is free, is as it was
same_segment : (b : Bool) (o : Option Used) → (IsSome o → b ≡ true) → (if b then o else None) ≡ o
same_segment true o h = refl
same_segment false None h = refl
same_segment false (Some u) h = absurd (false≢true (h refl))

-- a pool of which nothing was given back has another plan, and is else as it was
pub none_given : (lives : Liveness) (p after : PoolState) → IsPool p → IsGivenBack lives p after
    → dead_segments lives p ≡ 0 → after ≡ with_plan p None
none_given lives p after pool g none =
    let segments : after.segments ≡ p.segments =
    ext_get_or None after.segments p.segments g.count
    (λ n lt. g.segments n ∙ same_segment (has_live lives p n) (segment_at p n)
    (λ some. all_alive lives p n pool none some)) in
    let order : after.order ≡ p.order = g.order ∙ all_kept (has_live lives p) p.order none in
    λ i. record {
      sizes = g.sizes i;
      segments = segments i;
      order = order i;
      cursor = g.cursor i;
      plan = g.plan i;
      eviction = g.eviction i;
      hits = g.hits i;
      exact = g.exact i;
    }

-- ---- the items that are live at a moment

-- where two tests can't both hold, their conjunction is false
both_false : (a b : Bool) → (a ≡ true → b ≡ true → ⊥) → a && b ≡ false
both_false true true h = absurd (h refl refl)
both_false true false h = refl
both_false false b h = refl

-- where each of two tests holds, their conjunction does
both_true : (a b : Bool) → a ≡ true → b ≡ true → a && b ≡ true
both_true true true h k = refl
both_true true false h k = k
both_true false b h k = h

-- a test whose denial holds is false
not_true : (b : Bool) → not b ≡ true → b ≡ false
not_true true h = sym h
not_true false h = refl

-- the denial of a test that is false holds
not_false : (b : Bool) → b ≡ false → not b ≡ true
not_false true h = sym h
not_false false h = refl

-- two conjunctions with one test are the same where each of the others holds with it only if the
-- other does
same_both : (a b c : Bool) → (a ≡ true → c ≡ true → b ≡ true) → (b ≡ true → c ≡ true → a ≡ true) → a && c ≡ b && c
same_both true true c h k = refl
same_both false false c h k = refl
same_both true false true h k = sym (h refl refl)
same_both true false false h k = refl
same_both false true true h k = k refl refl
same_both false true false h k = refl

-- where only expired items have left, the same ones are live at the moment
pub expired_agree : (p : PoolState) (index found : Table) (marks others : Marks) (t : ℕ) (among : ℕ → Bool)
    → IsTied p index marks → IsTied p found others
    → HaveExpiredLeft p t among (current p index) (current p found)
    → AgreeIn p (live_marks others t) (live_marks marks t)
expired_agree p index found marks others t among tied left h =
    record {
      each = λ place i e.
          same_both (is_marked others place) (is_marked marks place) (not (has_arrived (place_deadline p place) t))
          (λ now waits. tied.held i.key place (h.before i.key place (left.marked place i e now)))
          (λ was waits. left.held i.key place (h.others i.key place (tied.marked place i e was) (λ of_them. not_true _ waits)));
    }

-- and in a segment of which they have left, those are the marked ones
pub expired_agree_at : (p : PoolState) (n : ℕ) (index found : Table) (marks others : Marks) (t : ℕ) (among : ℕ → Bool)
    → IsTied p index marks → IsTied p found others
    → HaveExpiredLeft p t among (current p index) (current p found) → among n ≡ true
    → AgreeAt p n (live_marks marks t) (lives_by others)
expired_agree_at p n index found marks others t among tied left h is_so =
    record {
      each = λ place i same e. elim (cases_Bool (is_marked others place)) [
        | inl y ↦
            let now = left.marked place i e y in
            both_true (is_marked marks place) (not (has_arrived (place_deadline p place) t))
            (tied.held i.key place (h.before i.key place now))
            (not_false _ (h.waiting i.key place now (ap among same ∙ is_so))) ∙ sym y
        | inr f ↦
            both_false (is_marked marks place) (not (has_arrived (place_deadline p place) t))
            (λ was waits. false≢true (sym f
            ∙ left.held i.key place (h.others i.key place (tied.marked place i e was) (λ of_them. not_true _ waits)))) ∙ sym f
      ];
    }

-- where one test holds of each item of which another does, it finds one where the other does
any_more : (f g : Standing → Bool) (P : Standing → Type 0) (xs : List Standing) → All P xs
    → ((s : Standing) → P s → f s ≡ true → g s ≡ true) → list_any f xs ≡ true → list_any g xs ≡ true
any_more f g P [] all h e = e
any_more f g P (x ∷ xs) all h e =
    elim (cases_Bool (f x)) [
      | inl y ↦ or_left (g x) (list_any g xs) (h x (All-head P x xs all) y)
      | inr n ↦
          let later : list_any f xs ≡ true = rw n at e in
          or_right (g x) (list_any g xs) (any_more f g P xs (All-tail P x xs all) h later)
    ]

-- once the items of dead segments have left, exactly the other segments have marked items
pub dead_left : (p : PoolState) (index found : Table) (marks others : Marks) (t n : ℕ) → IsTied p index marks
    → IsTied p found others → HaveExpiredLeft p t (is_dead marks p t) (current p index) (current p found)
    → has_live (lives_by others) p n ≡ has_live (live_marks marks t) p n
dead_left p index found marks others t n tied left h =
    let agree = expired_agree p index found marks others t (is_dead marks p t) tied left h in
    let shared = deadline_in (segment_at p n) in
    elim (cases_Bool (has_live (live_marks marks t) p n)) [
      | inl y ↦
          let now : has_live (live_marks others t) p n ≡ true =
          same_has_live p (live_marks others t) (live_marks marks t) n agree ∙ y in
          any_more (λ s. live_marks others t s.place s.item (item_deadline s.item shared)) (λ s. is_marked others s.place)
          (λ s. ⊤) (standing p n) (λ k d lt. tt)
          (λ s here lives. (and_parts (is_marked others s.place) (not (has_arrived (item_deadline s.item shared) t)) lives).0)
          now ∙ sym y
      | inr f ↦
          sym (same_live_at p (live_marks marks t) (lives_by others) n
          (expired_agree_at p n index found marks others t (is_dead marks p t) tied left h (not_false _ f)))
    ]

-- once the item of a key has left, the marked ones are those of other keys
without_key : (p : PoolState) (index found : Table) (marks others : Marks) (key : List ℕ) (place : Place) (i : Item)
    → IsTied p index marks → IsTied p found others
    → current p found ≡ finite.remove (current p index) key → item_in p place ≡ Some i
    → is_marked others place ≡ is_marked marks place && not (bytes_eq i.key key)
without_key p index found marks others key place i tied left is e =
    elim (cases_Bool (is_marked others place)) [
      | inl y ↦
          let now = left.marked place i e y in
          let was = removed_at (current p index) key i.key place
          (ap (λ (m : Places). finite.get m i.key) (sym is) ∙ now) in
          y ∙ sym (both_true (is_marked marks place) (not (bytes_eq i.key key)) (tied.held i.key place was.1)
          (not_false _ (other (bytes_eq i.key key) refl was.0)))
      | inr n ↦
          n ∙ sym (both_false (is_marked marks place) (not (bytes_eq i.key key))
          (λ was apart. false≢true (sym n ∙ left.held i.key place
          (ap (λ (m : Places). finite.get m i.key) is
          ∙ removed_other (current p index) key i.key place
          (λ same. false≢true (sym (not_true _ apart) ∙ (bytes_eq-Decides i.key key).1 same))
          (tied.marked place i e was)))))
    ]
  where
    other : (b : Bool) → bytes_eq i.key key ≡ b → (i.key ≡ key → ⊥) → b ≡ false
    other true eq ne = absurd (ne ((bytes_eq-Decides i.key key).0 eq))
    other false eq ne = refl

-- of three tests that must all hold the last two can change places
swapped : (a b c : Bool) → (a && b) && c ≡ (a && c) && b
swapped true true true = refl
swapped true true false = refl
swapped true false true = refl
swapped true false false = refl
swapped false b c = refl

-- so these are live at a moment
pub others_agree : (p : PoolState) (index found : Table) (marks others : Marks) (key : List ℕ) (t : ℕ)
    → IsTied p index marks → IsTied p found others
    → current p found ≡ finite.remove (current p index) key → AgreeIn p (live_marks others t) (live_others key marks t)
others_agree p index found marks others key t tied left is =
    record {
      each = λ place i e. ap (λ b. b && not (has_arrived (place_deadline p place) t))
          (without_key p index found marks others key place i tied left is e)
          ∙ swapped (is_marked marks place) (not (bytes_eq i.key key)) (not (has_arrived (place_deadline p place) t));
    }

-- ---- room that was made

-- where the items of dead segments have left, and no segment was given back, as many entries are
-- shown as there are segments
pub crowded_given : (p : PoolState) (index found : Table) (marks others : Marks) (t : ℕ) (after : PoolState)
    → IsTied p index marks → IsTied p found others
    → HaveExpiredLeft p t (is_dead marks p t) (current p index) (current p found) → IsPoolFull p
    → IsGivenBack (lives_by others) p after → dead_segments (lives_by others) p ≡ 0
    → IsSwept p index t after found others → IsCrowded after found t
crowded_given p index found marks others t after tied left gone full given none s =
    let agree = expired_agree p index found marks others t (is_dead marks p t) tied left gone in
    let alive : (n : ℕ) → has_live (lives_by others) p n ≡ has_live (live_marks others t) p n =
    λ n. dead_left p index found marks others t n tied left gone
    ∙ sym (same_has_live p (live_marks others t) (live_marks marks t) n agree) in
    swept_crowded p index t after found others s
    (alive_given (live_marks others t) p after tied.known.pool full
    (same_given_by p after (lives_by others) (live_marks others t) alive given)
    (sym (same_dead_by p (lives_by others) (live_marks others t) alive) ∙ none))

-- what was evicted of a pool with another plan
pub evicted_replanned : (lives : Liveness) (p mid : PoolState) (o : Option Plan) (index : Table) (marks : Marks) (t : ℕ)
    (after : PoolState) (found : Table) → IsTied p index marks
    → IsPool mid → mid ≡ with_plan p o → IsEvicted lives mid index t after found
    → IsEvicted lives p index t after found
evicted_replanned lives p mid o index marks t after found tied pool is e =
    let keys = keys_evicted lives mid after e.evicted in
    let k = keys_replanned lives p o after keys
    (subst (λ (q : PoolState). EvictsKeys lives q after keys) is
    (record { evicted = e.evicted; keys_are = refl })) in
    record {
      evicted = k.evicted;
      entries = e.entries ∙ ap (λ (es : Entries). without_keys es keys)
          (shown_replanned p mid o index marks t tied pool is)
          ∙ ap (without_keys (shown_entries p index t)) k.keys_are;
    }

-- what had no live item was given back
pub room_given : (p : PoolState) (index : Table) (one other : Liveness) (bucket t : ℕ) (i : Item) (after : PoolState)
    (found : Table) (marks : Marks) → ((n : ℕ) → has_live one p n ≡ has_live other p n)
    → HasNoRoom p bucket t i → 0 < dead_segments one p → IsGivenBack one p after → IsSwept p index t after found marks
    → HasMadeRoom other p index bucket t i after found
room_given p index one other bucket t i after found marks alive full dead given s =
    record {
      room = gives_back after full (subst (λ n. 0 < n) (same_dead_by p one other alive) dead)
          (same_given_by p after one other alive given);
      entries = s.entries ∙ sym (without-nil (shown_entries p index t));
    }

-- or, where there was none, something was evicted
pub room_evicted : (p : PoolState) (index : Table) (one later other : Liveness) (bucket t : ℕ) (i : Item)
    (mid : PoolState) (between : Table) (marks : Marks)
    (after : PoolState) (found : Table) → IsPool p → ((n : ℕ) → has_live one p n ≡ has_live other p n)
    → AgreeIn p later other
    → HasNoRoom p bucket t i → dead_segments one p ≡ 0 → IsGivenBack one p mid → IsSwept p index t mid between marks
    → IsEvicted later mid between t after found
    → HasMadeRoom other p index bucket t i after found
room_evicted p index one later other bucket t i mid between marks after found pool alive a full none given s e =
    let keys = keys_evicted later mid after e.evicted in
    let is = none_given one p mid pool given none in
    let k = keys_agree later other p after keys a
    (keys_replanned later p None after keys
    (subst (λ (q : PoolState). EvictsKeys later q after keys) is (record { evicted = e.evicted; keys_are = refl }))) in
    record {
      room = evicts after full (sym (same_dead_by p one other alive) ∙ none) k.evicted;
      entries = e.entries ∙ ap (λ (es : Entries). without_keys es keys) s.entries
          ∙ ap (without_keys (shown_entries p index t)) k.keys_are;
    }

-- where an item was appended, there was room for it
pub room_was : (p : PoolState) (bucket t : ℕ) (i : Item) (after : PoolState) (place : Place)
    → IsAddedToTail p bucket t i after place ⊎ IsAddedToFree p bucket t i after place
    → HasNoRoom p bucket t i → ⊥
room_was p bucket t i after place (inl a) h = none-some place.segment (sym h.no_tail ∙ a.tail)
room_was p bucket t i after place (inr a) h =
    false≢true (sym (ap is_some a.free) ∙ h.none_free place.segment a.in_range)

-- and none was made
pub room_there : (lives : Liveness) (p : PoolState) (index : Table) (bucket t : ℕ) (i : Item)
    → (HasNoRoom p bucket t i → ⊥)
    → HasMadeRoom lives p index bucket t i p index
room_there lives p index bucket t i there =
    record { room = has_room there; entries = sym (without-nil (shown_entries p index t)) }

-- ---- a key that is written

-- a key that is put in need not be taken out before
put_over : (e : Entries) (keys : List (List ℕ)) (key : List ℕ) (w : Entry)
    → finite.insert (without_keys (finite.remove e key) keys) key w ≡ finite.insert (without_keys e keys) key w
put_over e keys key w =
    same_entries _ _ (λ q. get-insert (without_keys (finite.remove e key) keys) key w q
    ∙ elim (cases_Bool (bytes_eq q key)) [
      | inl y ↦ rw y (sym (get-insert (without_keys e keys) key w q ∙ rw y refl))
      | inr n ↦
          let stays : finite.get (finite.remove e key) q ≡ finite.get e q = get-remove e key q ∙ rw n refl in
          rw n (get-without (finite.remove e key) keys q ∙ ap (cond (contains_bytes keys q) None) stays
          ∙ sym (get-insert (without_keys e keys) key w q ∙ rw n (get-without e keys q)))
    ])

-- an item was placed once the one of its key had left
pub placed_over : (p : PoolState) (index between : Table) (marks others : Marks) (bucket t : ℕ) (i : Item)
    (after : PoolState)
    (found : Table) → IsTied p index marks
    → IsTied p between others → current p between ≡ finite.remove (current p index) i.key
    → PlacesItem (live_marks others t) p between bucket t i after found
    → PlacesItem (live_others i.key marks t) p index bucket t i after found
placed_over p index between marks others bucket t i after found tied left is h =
    let one = live_marks others t in
    let keys = keys_forgotten one p bucket t i h.written.roomy h.written.room in
    let k = makes_agree one (live_others i.key marks t) p bucket t i h.written.roomy
    (others_agree p index between marks others i.key t tied left is) h.written.room in
    let shows : shown_entries p between t ≡ finite.remove (shown_entries p index t) i.key =
    ap (λ (m : Places). live_entries p m t) is ∙ shown_remove p (current p index) t i.key in
    record {
      place = h.place;
      stands = h.stands;
      written = record { roomy = h.written.roomy; room = k.room; added = h.written.added };
      entries = h.entries ∙ ap (λ (e : Entries). finite.insert (without_keys e keys) i.key
          (entry_at after h.place)) shows
          ∙ put_over (shown_entries p index t) keys i.key (entry_at after h.place)
          ∙ ap (λ (ks : List (List ℕ)). finite.insert (without_keys (shown_entries p index t) ks) i.key
          (entry_at after h.place)) k.keys_are;
    }

-- so it was placed where the one of its key had left
pub placed_left : (old left : MapState) (bucket : ℕ) (i : Item) (after : PoolState) (found : Table)
    → IsSegmentedMap old → IsSegmentedMap left → left.pool ≡ old.pool → left.moment ≡ old.moment
    → current left.pool left.index ≡ finite.remove (current old.pool old.index) i.key
    → PlacesItem (live_marks left.marks left.moment) left.pool left.index bucket left.moment i after found
    → PlacesItem (live_others i.key old.marks old.moment) old.pool old.index bucket old.moment i after found
placed_left old left bucket i after found was kept pool moment is placed =
    let p = old.pool in
    let t = old.moment in
    let there : current p left.index ≡ finite.remove (current p old.index) i.key =
    subst (λ (q : PoolState). current q left.index ≡ finite.remove (current p old.index) i.key) pool is in
    let tied : IsTied p left.index left.marks =
    subst (λ (q : PoolState). IsTied q left.index left.marks) pool kept.tied in
    let h : PlacesItem (live_marks left.marks t) p left.index bucket t i after found =
    subst (λ (u : ℕ). PlacesItem (live_marks left.marks u) p left.index bucket u i after found) moment
    (subst (λ (q : PoolState). PlacesItem (live_marks left.marks left.moment) q left.index bucket left.moment i after
    found) pool placed) in
    placed_over p old.index left.index old.marks left.marks bucket t i after found was.tied tied there h
