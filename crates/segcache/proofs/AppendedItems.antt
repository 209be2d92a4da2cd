-- An item put into a segment: with what deadline, and what is shown then.
use Rattle.std.proofs.Common.{◌≡◌, ℕ, ◌+◌, ◌-◌, ◌<◌, ◌≤◌, true, false, ◌∷◌, [], Option, Some, None, refl, sym, ap, subst}
use Rattle.std.proofs.Common.{◌∙◌, inl, inr, arith, le_trans}
use Rattle.std.specs.Prelude.{IsSome, ◌⊎◌, ◌==◌, ◌&&◌, nat_lt, nat_le, max, if◌then◌else◌, not}
use Rattle.std.specs.Option.{option_map_or}
use Rattle.std.specs.FinMap as finite
use Rattle.std.specs.Result.{MatchResult, is_err}
use Rattle.std.proofs.Common.{Result, Ok, Err}
use Rattle.std.proofs.lemmas.Bool.{cases_Bool, eq-eqb, ne_eqb, false≢true, or_parts, leb-false, lt-leb, ltb-true, eqb-true, le-leb, not-true, and_parts}
use Rattle.std.proofs.lemmas.Option.{option_and_then_some, cond_some, none-some}
use Rattle.std.proofs.lemmas.Slice.Eq.{bytes_eq-Decides}
use Rattle.proto.specs.Cache.{Entry, Entries, has_arrived}
use Rattle.proto.specs.Buckets.{MayLive, bucket_of, time_to_live, shared_deadline, width_of, lower_end}
use Rattle.proto.proofs.DeadlineLemmas.{may_be_shared, lies_in_bucket}
use Rattle.segments.specs.declared.place.Place.{Place}
use Rattle.segments.specs.Items.{Item, size_of_item}
use Rattle.segments.specs.Pools.{PoolState, IsPool, Used, Liveness, item_in, place_deadline, deadline_in}
use Rattle.segments.specs.Pools.{bucket_deadline, segment_at, tail, is_sealed, lasting}
use Rattle.segments.specs.Rules.{opening_moment, shares_one_chain}
use Rattle.segments.specs.Changes.{IsAddedToTail, IsAddedToFree, open_tail, if_takes, takes, with_item, has_own, may_join}
use Rattle.segments.proofs.Places.{appended, set_at, takes_open}
use Rattle.segments.proofs.OpeningLemmas.{opening_le, opening_open, open_joins}
use Rattle.proto.specs.declared.eviction.Eviction.{Eviction}
use Rattle.proto.specs.declared.eviction.Eviction.TheVariants.{Oldest, LeastRead}
use Rattle.segments.proofs.LinkLemmas.{some_within, last_passes, in_chain}
use Rattle.segments.proofs.InTimeLemmas.{in_time_appended}
use Rattle.segments.specs.Marks.{Marks}
use Rattle.index.specs.Table.{Table, Places}
use Rattle.segcache.specs.Shown.{current, shown_entries, live_entries, entry_at, kept_entry}
use Rattle.segcache.specs.Invariants.{IsTied, IsPast}
use Rattle.proto.proofs.CacheLemmas.{without-nil}
use Rattle.segcache.specs.Room.{IsPut, IsPutOver, IsPutBeside, AreKept}
use Rattle.segcache.proofs.WriteParts.{insert_removed}
use Rattle.segcache.proofs.OpeningMoments.{in_time_past}
use Rattle.segcache.specs.ForgottenKeys.{HasMadeRoom, PlacesItem}
use Rattle.index.proofs.SlotsAsMap.{get-insert}
use Rattle.segcache.specs.State.{MapState}
use Rattle.segcache.proofs.ShownItems.{shown_insert, shown_remove, entry_is}
use Rattle.segcache.proofs.TiedParts.{current_item}
use Rattle.segcache.proofs.AppendNeeds.{appended_here, appended_other}
use Rattle.std.proofs.Common.{Bool}
use Rattle.segcache.specs.Invariants.{IsDatedIn}
use Rattle.segments.specs.Items.{deadline_if_there, item_deadline, own_or_shared}
use Rattle.segcache.proofs.OwnDeadlines.{MayStand, stands_appended, stands_alone, own_dated, arrived_expires}
use Rattle.segcache.specs.OwnDeadlines.{own_deadline_by}
use Rattle.segcache.specs.ItemBuckets.{bucket_for}
use Rattle.engine.specs.Deadlines.{is_storable_deadline}
use Rattle.segments.specs.Places.{same_place}
use Rattle.segments.proofs.MovedPlaces.{same_place_is}
use Rattle.segments.specs.Pools.{shared_at}

-- the item went to a segment of its bucket that it may join at the moment t and that could be
-- opened by then; the others stay
pub record IsIn (p : PoolState) (bucket t : ℕ) (i : Item) (after : PoolState) (place : Place) : Type 0 where
  pub used : Used
  pub is_at : segment_at after place.segment ≡ Some used
  pub of_bucket : used.bucket ≡ bucket
  pub was : used.opened ≤ opening_moment p.eviction bucket t
  pub rule : after.eviction ≡ p.eviction
  pub dates : after.exact ≡ p.exact
  pub takes : may_join (has_own i) bucket used.opened t ≡ true
  pub others : (n : ℕ) → (n == place.segment) ≡ false → segment_at after n ≡ segment_at p n

-- the open tail for an item of a size is the last segment of the bucket's chain, and takes an item
-- of that size
tail_number : (p : PoolState) (bucket t : ℕ) (own : Bool) (size n : ℕ) → open_tail p bucket t own size ≡ Some n → (tail p bucket ≡ Some n)
    × (option_map_or (takes p.sizes t own size) (segment_at p n) false ≡ true)
tail_number p bucket t own size n e =
    option_and_then_some (if_takes p t own size) (tail p bucket) n e
    (λ m is_tail passes.
    let c = cond_some (option_map_or (takes p.sizes t own size) (segment_at p m) false) m n passes in
    (is_tail ∙ ap Some c.1, subst (λ k. option_map_or (takes p.sizes t own size) (segment_at p k) false ≡ true) c.1 c.0))

-- an appended item is in a segment of its bucket that it may join at the moment and that was opened
-- by then; the others stay
pub in_segment : (p : PoolState) (bucket t : ℕ) (i : Item) (after : PoolState) (place : Place) → IsPool p → IsPast p t
    → IsAddedToTail p bucket t i after place ⊎ IsAddedToFree p bucket t i after place → IsIn p bucket t i after place
in_segment p bucket t i after place pool past (inl a) =
    let u : Used = with_item i a.segment in
    let lt = some_within p.segments place.segment a.segment a.is_tail in
    let at : (m : ℕ)
    → segment_at after m ≡ (if m == place.segment then Some u else segment_at p m) = λ m. ap
    (λ (r : PoolState). segment_at r m) a.after_is ∙ set_at p.segments place.segment (Some u) m lt in
    let number = tail_number p bucket t (has_own i) (size_of_item i) place.segment a.tail in
    let c = in_chain p.segments bucket place.segment (last_passes _ p.order place.segment number.0) in
    let same : a.segment.bucket ≡ bucket = ap (λ (o : Option Used). option_map_or (λ (s : Used). s.bucket) o 0)
    (sym a.is_tail ∙ c.is_at) ∙ c.of_bucket in
    record {
      used = u;
      is_at = at place.segment ∙ (let z = eq-eqb place.segment place.segment refl in rw z refl);
      of_bucket = same;
      was = subst (λ (b : ℕ). a.segment.opened ≤ opening_moment p.eviction b t) same
          (past.opened place.segment a.segment a.is_tail);
      rule = ap (λ (r : PoolState). r.eviction) a.after_is;
      dates = ap (λ (r : PoolState). r.exact) a.after_is;
      takes = subst (λ b. may_join (has_own i) b a.segment.opened t ≡ true) same
          (takes_open p t (has_own i) (size_of_item i) (segment_at p place.segment) a.segment a.is_tail number.1);
      others = λ n e. at n ∙ rw e refl;
    }
in_segment p bucket t i after place pool past (inr a) =
    let o = opening_moment p.eviction bucket t in
    let u : Used = record { bucket = bucket; opened = o; items = i ∷ [] } in
    let range = a.in_range in
    let count = pool.count in
    let at : (m : ℕ) → segment_at after m ≡ (if m == place.segment then Some u else segment_at p m) =
    λ m. ap (λ (r : PoolState). segment_at r m) a.after_is
    ∙ set_at p.segments place.segment (Some u) m (omega (arith, range, count)) in
    record {
      used = u;
      is_at = at place.segment ∙ (let z = eq-eqb place.segment place.segment refl in rw z refl);
      of_bucket = refl;
      was = omega arith;
      rule = ap (λ (r : PoolState). r.eviction) a.after_is;
      dates = ap (λ (r : PoolState). r.exact) a.after_is;
      takes = open_joins (has_own i) _ (opening_open p.eviction bucket t);
      others = λ n e. at n ∙ rw e refl;
    }

-- where an item is appended, segments still stand in order, and none was opened after the moment
pub past_put : (p : PoolState) (bucket t : ℕ) (i : Item) (after : PoolState) (place : Place) → IsPool p → IsPast p t
    → IsAddedToTail p bucket t i after place ⊎ IsAddedToFree p bucket t i after place
    → IsIn p bucket t i after place → IsDatedIn p.exact (shared_at after place) i → IsPast after t
past_put p bucket t i after place pool past added x own =
    let a = appended p bucket t i after place pool added in
    record {
      within = past.within;
      opened = λ n u e.
          elim (cases_Bool (n == place.segment)) [
            | inl y ↦
                let same : n ≡ place.segment = eqb-true n place.segment y in
                let one : Some u ≡ Some x.used = sym e ∙ ap (segment_at after) same ∙ x.is_at in
                let is : u ≡ x.used = cc in
                let by : x.used.opened ≤ opening_moment after.eviction x.used.bucket t =
                subst (λ (k : Eviction). x.used.opened ≤ opening_moment k x.used.bucket t) (sym x.rule)
                (subst (λ (b : ℕ). x.used.opened ≤ opening_moment p.eviction b t) (sym x.of_bucket) x.was) in
                subst (λ (v : Used). v.opened ≤ opening_moment after.eviction v.bucket t) (sym is) by
            | inr f ↦ subst (λ (k : Eviction). u.opened ≤ opening_moment k u.bucket t) (sym x.rule)
                (past.opened n u (sym (x.others n f) ∙ e))
          ];
      in_order = (in_time_appended p bucket t i after place pool added (in_time_past p t pool past)).order;
      dated = λ r j e.
          elim (cases_Bool (same_place r place)) [
            | inl y ↦
                let there : r ≡ place = same_place_is r place y in
                let one : Some j ≡ Some i = sym e ∙ a.items r ∙ rw y refl in
                let is : j ≡ i = cc in
                subst (λ (b : Bool). IsDatedIn b (shared_at after r) j) (sym x.dates)
                (subst (λ (q : Place). IsDatedIn p.exact (shared_at after q) j) (sym there)
                (subst (IsDatedIn p.exact (shared_at after place)) (sym is) own))
            | inr n ↦
                let was : item_in p r ≡ Some j = sym (a.items r ∙ rw n refl) ∙ e in
                let some : IsSome (item_in p r) = subst IsSome (sym was) refl in
                subst (λ (b : Bool). IsDatedIn b (shared_at after r) j) (sym x.dates)
                (subst (λ (d : Option ℕ). IsDatedIn p.exact d j) (sym (a.shared r some)) (past.dated r j was))
          ];
    }

-- no time to live has the bucket of what has no deadline
bucket_below : (ttl : ℕ) → bucket_of (Some ttl) < 1024
bucket_below ttl =
    elim (cases_Bool (nat_lt ttl 2048)) [
      | inl a ↦ (let l = ltb-true ttl 2048 a in rw a (omega (arith, l)))
      | inr a ↦ elim (cases_Bool (nat_lt ttl 32768)) [
        | inl b ↦ (let l = ltb-true ttl 32768 b in rw (a, b) (omega (arith, l)))
        | inr b ↦ elim (cases_Bool (nat_lt ttl 524288)) [
          | inl d ↦ (let l = ltb-true ttl 524288 d in rw (a, b, d) (omega (arith, l)))
          | inr d ↦ elim (cases_Bool (nat_lt ttl 8388608)) [
            | inl e ↦ (let l = ltb-true ttl 8388608 e in rw (a, b, d, e) (omega (arith, l)))
            | inr e ↦ rw (a, b, d, e) (omega arith)
          ]
        ]
      ]
    ]

-- the deadline of the segment may stand for the one asked for
pub deadline_may : (t bucket opened : ℕ) (asked : Option ℕ) → has_arrived asked t ≡ false
    → bucket ≡ bucket_of (time_to_live asked t) → opened ≤ t → is_sealed bucket opened t ≡ false
    → MayLive t asked (bucket_deadline bucket opened)
deadline_may t bucket opened None waits is was unclosed =
    let e : bucket_deadline bucket opened ≡ None = ap (λ b. bucket_deadline b opened) is in
    subst (MayLive t None) (sym e) tt
deadline_may t bucket opened (Some asked) waits is was unclosed =
    let below : bucket_of (time_to_live (Some asked) t) < 1024 = bucket_below (max 1 (asked - t)) in
    let f : (bucket == lasting) ≡ false = ne_eqb bucket lasting (omega (arith, below, is)) in
    let later : t < asked = leb-false asked t waits in
    let parts = or_parts (nat_le (shared_deadline bucket opened) t) (nat_le (opened + width_of bucket) t)
    (rw f at unclosed) in
    let a = leb-false (shared_deadline bucket opened) t parts.0 in
    let b = leb-false (opened + width_of bucket) t parts.1 in
    let e : bucket_deadline bucket opened ≡ Some (shared_deadline bucket opened) = rw f refl in
    subst (MayLive t (Some asked)) (sym e) (may_be_shared t asked opened bucket later is was b a)

-- a segment that was opened by then has a deadline that comes no later
no_later : (t asked opened low : ℕ) → t < asked → opened ≤ t → low ≤ asked - t → opened + max 1 low ≤ asked
no_later t asked opened low later was from = omega arith

-- so where it is one of the bucket of the time to live that is asked for
shared_before : (t bucket opened : ℕ) (asked : Option ℕ) → has_arrived asked t ≡ false
    → bucket ≡ bucket_of (time_to_live asked t) → opened ≤ t → (d : ℕ) → asked ≡ Some d
    → has_arrived (bucket_deadline bucket opened) d ≡ true
shared_before t bucket opened None waits is was d e = absurd (none-some d e)
shared_before t bucket opened (Some asked) waits is was d e =
    let below : bucket_of (time_to_live (Some asked) t) < 1024 = bucket_below (max 1 (asked - t)) in
    let f : (bucket == lasting) ≡ false = ne_eqb bucket lasting (omega (arith, below, is)) in
    let later : t < asked = leb-false asked t waits in
    let life : asked - t ≡ max 1 (asked - t) = omega (arith, later) in
    let own : bucket_of (Some (asked - t)) ≡ bucket = ap (λ n. bucket_of (Some n)) life ∙ sym is in
    let from : lower_end bucket ≤ asked - t = subst (λ b. lower_end b ≤ asked - t) own (lies_in_bucket (asked - t)).from in
    let early = le-leb (shared_deadline bucket opened) asked (no_later t asked opened (lower_end bucket) later was from) in
    let same : asked ≡ d = cc in
    subst (λ n. has_arrived (bucket_deadline bucket opened) n ≡ true) same (rw f early)

-- all stand in one chain only where items have deadlines of their own
one_chain_exact : (e : Eviction) (exact : Bool) → shares_one_chain e exact ≡ true → exact ≡ true
one_chain_exact Oldest exact h = absurd (false≢true h)
one_chain_exact LeastRead exact h = h

-- what an item gets that is appended where it may join: it has its own deadline, or the segment's
-- may be given
appended_gets : (p : PoolState) (t bucket opened : ℕ) (i : Item) (asked : Option ℕ) → has_arrived asked t ≡ false
    → bucket ≡ bucket_for p t asked → opened ≤ t → i.own_deadline ≡ own_deadline_by p.exact asked
    → may_join (has_own i) bucket opened t ≡ true → MayStand p.exact t asked (bucket_deadline bucket opened)
appended_gets p t bucket opened i asked waits of_bucket was own joins =
    let one_chain = shares_one_chain p.eviction p.exact in
    elim (cases_Bool (one_chain && is_storable_deadline asked)) [
      | inl y ↦
          let a = and_parts one_chain (is_storable_deadline asked) y in
          let last : bucket ≡ lasting = rw y at of_bucket in
          let none : bucket_deadline bucket opened ≡ None = ap (λ b. bucket_deadline b opened) last in
          subst (MayStand p.exact t asked) (sym none)
          (stands_alone p.exact t asked (one_chain_exact p.eviction p.exact a.0) a.1 waits)
      | inr n ↦
          let of_life : bucket ≡ bucket_of (time_to_live asked t) = rw n at of_bucket in
          stands_appended p.exact t asked (bucket_deadline bucket opened) waits
          (λ d e. arrived_expires (bucket_deadline bucket opened) d (shared_before t bucket opened asked waits of_life was d e))
          (λ none. (let z = eq-eqb i.own_deadline 0 (own ∙ none) in
          let open_now : not (is_sealed bucket opened t) ≡ true = rw z at joins in
          deadline_may t bucket opened asked waits of_life was (not-true (is_sealed bucket opened t) open_now)))
    ]

-- a pool by the same rule puts an item into the same bucket
pub same_bucket : (p q : PoolState) (t : ℕ) (asked : Option ℕ) → q.eviction ≡ p.eviction → q.exact ≡ p.exact
    → bucket_for q t asked ≡ bucket_for p t asked
same_bucket p q t asked rule exact =
    ap (λ (e : Eviction). if shares_one_chain e q.exact && is_storable_deadline asked then lasting
    else bucket_of (time_to_live asked t)) rule
    ∙ ap (λ (x : Bool). if shares_one_chain p.eviction x && is_storable_deadline asked then lasting
    else bucket_of (time_to_live asked t)) exact

-- what has no deadline goes to the bucket of that
pub bucket_of_none : (p : PoolState) (t : ℕ) → bucket_for p t None ≡ lasting
bucket_of_none p t = by (shares_one_chain p.eviction p.exact)
  where
    by : (b : Bool) → (if b && true then lasting else bucket_of (time_to_live None t)) ≡ lasting
    by true = refl
    by false = refl

-- a deadline that an entry may get at a moment hasn't come at that moment
pub may_wait : (t : ℕ) (asked given : Option ℕ) → MayLive t asked given → has_arrived given t ≡ false
may_wait t None None h = refl
may_wait t None (Some d) h = absurd h
may_wait t (Some a) None h = refl
may_wait t (Some a) (Some d) h = lt-leb d t h.0

-- an appended item is shown with the entry of its place, and the others as they were
pub put_shown : (p after : PoolState) (index found : Table) (marks : Marks) (bucket t : ℕ) (i : Item) (place : Place)
    → IsTied p index marks
    → IsAddedToTail p bucket t i after place ⊎ IsAddedToFree p bucket t i after place
    → current after found ≡ finite.insert (current p index) i.key place
    → has_arrived (entry_at after place).deadline t ≡ false
    → shown_entries after found t ≡ finite.insert (shown_entries p index t) i.key (entry_at after place)
put_shown p after index found marks bucket t i place tied added is waits =
    let a = appended p bucket t i after place tied.known.pool added in
    ap (λ (m : Places). live_entries after m t) is
    ∙ shown_insert p after (current p index) t i.key place (entry_at after place) refl (ap not waits)
    (λ q r e. (let y = current_item p index q r e in
    let some : IsSome (item_in p r) = subst IsSome (sym y.1) refl in
    entry_is after r y.0 (appended_other p after bucket t i y.0 place r a y.1)
    ∙ ap (λ (d : Option ℕ). kept_entry d y.0) (a.deadlines r some) ∙ sym (entry_is p r y.0 y.1)))

-- what `append` requires of a map, an item and the deadline that it asks for
pub record AsksAppend (m : MapState) (i : Item) (asked : Option ℕ) (bucket : ℕ) : Type 0 where
  pub own : i.own_deadline ≡ own_deadline_by m.pool.exact asked
  pub waits : has_arrived asked m.moment ≡ false
  pub of_bucket : bucket ≡ bucket_for m.pool m.moment asked

-- what an appended item gets
pub record IsDated (p : PoolState) (t : ℕ) (i : Item) (asked : Option ℕ) (after : PoolState) (place : Place) : Type 0 where
  pub deadline : Option ℕ
  pub may_live : MayLive t asked deadline
  pub exactly : p.exact ≡ true → is_storable_deadline asked ≡ true → deadline ≡ asked
  pub entry_is : entry_at after place ≡ kept_entry deadline i
  pub past : IsPast after t
  pub exact_is : after.exact ≡ p.exact

pub put_deadline : (p after : PoolState) (bucket t : ℕ) (i : Item) (asked : Option ℕ)
    (place : Place) → IsPast p t → IsPool p
    → IsAddedToTail p bucket t i after place ⊎ IsAddedToFree p bucket t i after place
    → i.own_deadline ≡ own_deadline_by p.exact asked → has_arrived asked t ≡ false → bucket ≡ bucket_for p t asked
    → IsDated p t i asked after place
put_deadline p after bucket t i asked place past pool added own waits of_bucket =
    let a = appended p bucket t i after place pool added in
    let x = in_segment p bucket t i after place pool past added in
    let was = le_trans x.was (opening_le p.eviction bucket t) in
    let shared : Option ℕ = bucket_deadline bucket x.used.opened in
    let gets : MayStand p.exact t asked shared = appended_gets p t bucket x.used.opened i asked waits of_bucket was own x.takes in
    let there : shared_at after place ≡ shared =
    ap deadline_in x.is_at ∙ ap (λ b. bucket_deadline b x.used.opened) x.of_bucket in
    let here = appended_here p after bucket t i place a in
    let deadline : place_deadline after place ≡ own_or_shared (own_deadline_by p.exact asked) shared =
    ap (deadline_if_there (shared_at after place)) here ∙ ap (λ (d : Option ℕ). item_deadline i d) there
    ∙ ap (λ (n : ℕ). own_or_shared n shared) own in
    record {
      deadline = own_or_shared (own_deadline_by p.exact asked) shared;
      may_live = gets.may_live;
      exactly = gets.exactly;
      entry_is = entry_is after place i here ∙ ap (λ (d : Option ℕ). kept_entry d i) deadline;
      past = past_put p bucket t i after place pool past added x
          (subst (λ (d : Option ℕ). IsDatedIn p.exact d i) (sym there)
          (own_dated p.exact asked shared i own gets.precedes.before));
      exact_is = x.dates;
    }

-- An item was appended to a pool that kept what it had to.
pub put_made : (p : PoolState) (index : Table) (mid : PoolState) (between : Table) (marks : Marks) (bucket t : ℕ)
    (i : Item)
    (asked : Option ℕ) (after : PoolState) (found : Table) (place : Place)
    → mid.sizes ≡ p.sizes → mid.exact ≡ p.exact
    → AreKept p.sizes (shown_entries p index t) (shown_entries mid between t) → IsPast mid t
    → IsTied mid between marks
    → IsAddedToTail mid bucket t i after place ⊎ IsAddedToFree mid bucket t i after place
    → current after found ≡ finite.insert (current mid between) i.key place
    → i.own_deadline ≡ own_deadline_by p.exact asked
    → has_arrived asked t ≡ false → bucket ≡ bucket_for mid t asked → IsPut p index t i asked after found
put_made p index mid between marks bucket t i asked after found place sizes exact kept past tied added is own waits of_bucket =
    let a = appended mid bucket t i after place tied.known.pool added in
    let d = put_deadline mid after bucket t i asked place past tied.known.pool added
    (own ∙ ap (λ (b : Bool). own_deadline_by b asked) (sym exact)) waits of_bucket in
    let waiting : has_arrived (entry_at after place).deadline t ≡ false =
    ap (λ (e : Entry). has_arrived e.deadline t) d.entry_is ∙ may_wait t asked d.deadline d.may_live in
    record {
      sizes = a.sizes ∙ sizes;
      exact_is = d.exact_is ∙ exact;
      past = d.past;
      deadline = d.deadline;
      may_live = d.may_live;
      exactly = λ e near. d.exactly (exact ∙ e) near;
      kept = shown_entries mid between t;
      are_kept = kept;
      entries = put_shown mid after between found marks bucket t i place tied added is waiting
          ∙ ap (finite.insert (shown_entries mid between t) i.key) d.entry_is;
    }

-- Room was made for an item, and it was appended there.
pub put_placed : (lives : Liveness) (p : PoolState) (index : Table) (mid : PoolState) (between : Table) (marks : Marks)
    (bucket t : ℕ) (i : Item) (asked : Option ℕ)
    (after : PoolState) (found : Table) (place : Place)
    → HasMadeRoom lives p index bucket t i mid between → IsPast mid t → IsTied mid between marks
    → IsAddedToTail mid bucket t i after place ⊎ IsAddedToFree mid bucket t i after place
    → current after found ≡ finite.insert (current mid between) i.key place
    → i.own_deadline ≡ own_deadline_by mid.exact asked
    → has_arrived asked t ≡ false → bucket ≡ bucket_for mid t asked
    → PlacesItem lives p index bucket t i after found
put_placed lives p index mid between marks bucket t i asked after found place made past tied added is own waits of_bucket =
    let d = put_deadline mid after bucket t i asked place past tied.known.pool added own waits of_bucket in
    let waiting : has_arrived (entry_at after place).deadline t ≡ false =
    ap (λ (e : Entry). has_arrived e.deadline t) d.entry_is ∙ may_wait t asked d.deadline d.may_live in
    record {
      place = place;
      stands = ap (λ (m : Places). finite.get m i.key) is ∙ get-insert (current mid between) i.key place i.key
          ∙ (let z = (bytes_eq-Decides i.key i.key).1 refl in rw z refl);
      written = record { roomy = mid; room = made.room; added = added };
      entries = put_shown mid after between found marks bucket t i place tied added is waiting
          ∙ ap (λ (e : Entries). finite.insert e i.key (entry_at after place)) made.entries;
    }

-- An item was appended in place of its key's.
pub put_over : (p : PoolState) (index : Table) (marks : Marks) (bucket t : ℕ) (i : Item) (asked : Option ℕ)
    (after : PoolState) (found : Table) (place : Place)
    → IsPast p t → IsTied p index marks
    → IsAddedToTail p bucket t i after place ⊎ IsAddedToFree p bucket t i after place
    → current after found ≡ finite.insert (current p index) i.key place
    → i.own_deadline ≡ own_deadline_by p.exact asked
    → has_arrived asked t ≡ false → bucket ≡ bucket_for p t asked → IsPutOver p index t i asked after found
put_over p index marks bucket t i asked after found place past tied added is own waits of_bucket =
    let a = appended p bucket t i after place tied.known.pool added in
    let d = put_deadline p after bucket t i asked place past tied.known.pool added own waits of_bucket in
    let waiting : has_arrived (entry_at after place).deadline t ≡ false =
    ap (λ (e : Entry). has_arrived e.deadline t) d.entry_is ∙ may_wait t asked d.deadline d.may_live in
    let others : Entries = finite.remove (shown_entries p index t) i.key in
    record {
      sizes = a.sizes;
      exact_is = d.exact_is;
      past = d.past;
      deadline = d.deadline;
      may_live = d.may_live;
      exactly = d.exactly;
      kept = others;
      are_kept = record { forgotten = []; evicted = inl refl; entries = sym (without-nil others) };
      entries = put_shown p after index found marks bucket t i place tied added is waiting
          ∙ ap (finite.insert (shown_entries p index t) i.key) d.entry_is
          ∙ sym (insert_removed (shown_entries p index t) i.key (kept_entry d.deadline i));
    }

-- what an append says of its result, where that is known to be one or the other
pub was_refused : {A B : Type 0} (r : Result A B) (P : A → Type 0) (Q : Type 0) → MatchResult r P (λ _. Q)
    → is_err r ≡ true → Q
was_refused (Ok x) P Q h e = absurd (false≢true e)
was_refused (Err x) P Q h e = h

-- a result that isn't an error is a value, of which holds what is said of values
pub was_done : {A B : Type 0} (r : Result A B) (P : A → Type 0) (Q : Type 0) → MatchResult r P (λ _. Q)
    → is_err r ≡ false → (x : A) × P x
was_done (Ok x) P Q h e = (x, h)
was_done (Err x) P Q h e = absurd (false≢true (sym e))

-- a result that can't be an error is a value, of which holds what is said of values
pub never_refused : {A B : Type 0} (r : Result A B) (P : A → Type 0) (Q : Type 0) → MatchResult r P (λ _. Q) → (Q → ⊥)
    → (x : A) × P x
never_refused (Ok x) P Q h n = (x, h)
never_refused (Err x) P Q h n = absurd (n h)

-- an item that was put where the one of its key had left was put over it
pub put_left : (old left : MapState) (i : Item) (asked : Option ℕ) (after : PoolState) (found : Table)
    → left.pool ≡ old.pool → left.moment ≡ old.moment
    → current left.pool left.index ≡ finite.remove (current old.pool old.index) i.key
    → IsPut left.pool left.index left.moment i asked after found
    → IsPutOver old.pool old.index old.moment i asked after found
put_left old left i asked after found pool moment is put =
    let p = old.pool in
    let t = old.moment in
    let there : current p left.index ≡ finite.remove (current p old.index) i.key =
    subst (λ (q : PoolState). current q left.index ≡ finite.remove (current p old.index) i.key) pool is in
    let h : IsPut p left.index t i asked after found =
    subst (λ (u : ℕ). IsPut p left.index u i asked after found) moment
    (subst (λ (q : PoolState). IsPut q left.index left.moment i asked after found) pool put) in
    let shows : shown_entries p left.index t ≡ finite.remove (shown_entries p old.index t) i.key =
    ap (λ (m : Places). live_entries p m t) there ∙ shown_remove p (current p old.index) t i.key in
    subst (λ (others : Entries). IsPutBeside others p.sizes p.exact t i asked after found) shows h
