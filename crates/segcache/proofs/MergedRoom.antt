-- What a merge forgets, and that it makes room.
use Rattle.std.proofs.Common.{◌≡◌, ℕ, ◌+◌, ◌*◌, ◌≤◌, Bool, true, false, List, [], ◌∷◌, length, map, Option, Some, None, refl, sym}
use Rattle.std.proofs.Common.{ap, subst, ◌∙◌, inl, inr, arith}
use Rattle.std.specs.Prelude.{IsTrue, IfSome, All, ◌||◌, not, is_some, filter, sum_by, option_map, option_and_then, ◌==◌, if◌then◌else◌}
use Rattle.std.specs.List.{list_any}
use Rattle.std.specs.FinMap as finite
use Rattle.std.proofs.Math.Nat.{mul-le-mul_left}
use Rattle.std.proofs.lemmas.Bool.{cases_Bool, false≢true, eq-eqb, or_left, or_right}
use Rattle.std.proofs.lemmas.Option.{none-some}
use Rattle.std.proofs.lemmas.List.{length-take}
use Rattle.std.proofs.lemmas.List.Sums.{sum_by-cons, sum_by-append}
use Rattle.std.proofs.lemmas.List.Elements.{All-nil, All-append, All-filter}
use Rattle.segments.specs.declared.place.Place.{Place}
use Rattle.segments.specs.declared.place.Move.{Move}
use Rattle.segments.specs.Items.{Item, with_reads_halved}
use Rattle.segments.specs.Changes.{with_items}
use Rattle.proto.specs.Counts.{times}
use Rattle.segments.specs.Pools.{PoolState, Plan, IsPool, Used, Standing, segment_at, item_in, place_deadline, standing, live_standing}
use Rattle.segments.specs.Rules.{opening_moment}
use Rattle.segments.specs.Places.{same_place, moved_by}
use Rattle.segments.specs.Merges.{merged_segments, merged_into, live_items, contains_number, carried_out, carried_items}
use Rattle.segments.specs.Chains.{qualifies, front}
use Rattle.segments.specs.Rules.{most_merged}
use Rattle.segments.proofs.MovedPlaces.{moved_other, moved_live, live_source, sources_live, same_place_is, merged_front, merged_in_chain, merged_segment}
use Rattle.segments.specs.Filling.{IsInTimeOrder}
use Rattle.segments.proofs.InTimeLemmas.{order_of_merged}
use Rattle.segments.proofs.FrontLemmas.{most_four}
use Rattle.segments.specs.Marks.{Marks, is_marked, lives_by}
use Rattle.index.specs.Table.{Table}
use Rattle.segcache.specs.Shown.{current, entry_at, kept_entry}
use Rattle.segcache.specs.Invariants.{IsTied, IsPast}
use Rattle.segcache.specs.Room.{IsCrowded, IsRoomMade}
use Rattle.segcache.proofs.ShownItems.{entry_is}
use Rattle.segcache.proofs.OpeningMoments.{earlier}
use Rattle.proto.specs.declared.eviction.Eviction.{Eviction}
use Rattle.segcache.proofs.TiedParts.{current_item}
use Rattle.segcache.proofs.LeftPlaces.{is_left, standing_all}
use Rattle.segcache.proofs.EvictedKeys.{IsCurrent, Waits, HaveStayed, size_in, segment_sizes, evicted_kept, current_among, all_wait}
use Rattle.proto.specs.Cache.{has_arrived}
use Rattle.segcache.proofs.MergedMarks.{IsMergeRelocated}
use Rattle.std.proofs.lemmas.List.Elements.{All-cons, All-head, All-tail}
use Rattle.segments.proofs.CarryLemmas.{All-item_at}
use Rattle.segcache.specs.Invariants.{AreDated, IsDatedIn}
use Rattle.segments.specs.declared.merge.Choice.{Choice}
use Rattle.std.specs.List.{cons_option}
use Rattle.segments.proofs.MovedPlaces.{contains_if, merged_deadline}
use Rattle.segments.specs.Pools.{deadline_in, items_of, shared_at}
use Rattle.std.proofs.Common.{get_or}
use Rattle.segments.specs.Items.{item_at}

-- ---- when segments were opened

-- a segment with other items has its moment and its bucket
filled_opened : (items : List Item) (o : Option Used) (u : Used) → option_map (with_items items) o ≡ Some u
    → (s : Used) × (o ≡ Some s) × (u.opened ≡ s.opened) × (u.bucket ≡ s.bucket)
filled_opened items None u e = absurd (none-some u e)
filled_opened items (Some s) u e = (
  s,
  refl,
  (let f : with_items items s ≡ u = cc in sym (ap (λ (x : Used). x.opened) f)),
  (let f : with_items items s ≡ u = cc in sym (ap (λ (x : Used). x.bucket) f)),
)

-- a segment that stays, or becomes another one with other items, unless it is freed, was opened by
-- a moment by which both were
opened_by : (rule : Eviction) (c e : Bool) (items : List Item) (f o : Option Used) (t : ℕ) (u : Used)
    → (if c then None else (if e then option_map (with_items items) f else o)) ≡ Some u
    → ((s : Used) → f ≡ Some s → s.opened ≤ opening_moment rule s.bucket t)
    → ((s : Used) → o ≡ Some s → s.opened ≤ opening_moment rule s.bucket t) → u.opened ≤ opening_moment rule u.bucket t
opened_by rule true e items f o t u h a b = absurd (none-some u h)
opened_by rule false true items f o t u h a b = let r = filled_opened items f u h in
    earlier rule t r.0 u r.2 r.3 (a r.0 r.1)
opened_by rule false false items f o t u h a b = b u h

-- what one move keeps in front of items that are dated as they may be is so too
moved_dated : (ev : Eviction) (exact : Bool) (d : Option ℕ) (b : Bool) (o : Option Item) (rest : List Item)
    → ((i : Item) → o ≡ Some i → IsDatedIn exact d i) → All (IsDatedIn exact d) rest
    → All (IsDatedIn exact d) (cons_option (if b then option_map (with_reads_halved ev) o else None) rest)
moved_dated ev exact d true None rest each all = all
moved_dated ev exact d true (Some i) rest each all = All-cons (IsDatedIn exact d) (with_reads_halved ev i) rest (each i refl) all
moved_dated ev exact d false o rest each all = all

-- what moves keep that start in segments with one deadline
carried_dated : (p : PoolState) (d : Option ℕ) (moves : List Move) → AreDated p
    → All (λ m. deadline_in (segment_at p m.source.segment) ≡ d) moves
    → All (IsDatedIn p.exact d) (carried_items p moves)
carried_dated p d [] dated all = All-nil (IsDatedIn p.exact d)
carried_dated p d (m ∷ moves) dated all =
    let P : Move → Type 0 = λ x. deadline_in (segment_at p x.source.segment) ≡ d in
    moved_dated p.eviction p.exact d (is_some m.target) (item_in p m.source) (carried_items p moves)
    (λ i e. subst (λ (x : Option ℕ). IsDatedIn p.exact x i) (All-head P m moves all) (dated m.source i e))
    (carried_dated p d moves dated (All-tail P m moves all))

-- an item of a segment that stays, or got others that are dated as they may be there, is dated so
dated_by_cases : (p after : PoolState) (first : ℕ) (items : List Item) (others : List ℕ) (r : Place) (j : Item)
    (u : Used) → segment_at p first ≡ Some u
    → segment_at after r.segment ≡ (if contains_number others r.segment then None
    else (if r.segment == first then option_map (with_items items) (segment_at p first) else segment_at p r.segment))
    → item_in after r ≡ Some j → All (IsDatedIn p.exact (deadline_in (segment_at p first))) items
    → (item_in p r ≡ Some j → IsDatedIn p.exact (shared_at p r) j) → IsDatedIn p.exact (shared_at after r) j
dated_by_cases p after first items others r j u is_first at e all was =
    elim (cases_Bool (contains_number others r.segment)) [
      | inl y ↦
          let free : segment_at after r.segment ≡ None = at ∙ rw y refl in
          absurd (none-some j (sym (ap (λ (o : Option Used). item_at (items_of o) r.offset) free) ∙ e))
      | inr n ↦
          elim (cases_Bool (r.segment == first)) [
            | inl y ↦
                let now : segment_at after r.segment ≡ Some (with_items items u) =
                at ∙ rw (n, y) (ap (option_map (with_items items)) is_first) in
                let there : item_at items r.offset ≡ Some j =
                sym (ap (λ (o : Option Used). item_at (items_of o) r.offset) now) ∙ e in
                let shared : shared_at after r ≡ deadline_in (segment_at p first) =
                ap deadline_in now ∙ sym (ap deadline_in is_first) in
                subst (λ (x : Option ℕ). IsDatedIn p.exact x j) (sym shared)
                (All-item_at (IsDatedIn p.exact (deadline_in (segment_at p first))) items r.offset j all there)
            | inr f ↦
                let same : segment_at after r.segment ≡ segment_at p r.segment = at ∙ rw (n, f) refl in
                let there : item_in p r ≡ Some j =
                sym (ap (λ (o : Option Used). item_at (items_of o) r.offset) same) ∙ e in
                subst (λ (x : Option ℕ). IsDatedIn p.exact x j) (sym (ap deadline_in same)) (was there)
          ]
    ]

-- a merge leaves whether items have deadlines of their own
into_exact : (p : PoolState) (c : Choice) (numbers : List ℕ) (items : List Item)
    → (merged_into p c numbers items).exact ≡ p.exact
into_exact p c [] items = refl
into_exact p c (n ∷ numbers) items = refl

-- and its rule
into_rule : (p : PoolState) (c : Choice) (numbers : List ℕ) (items : List Item)
    → (merged_into p c numbers items).eviction ≡ p.eviction
into_rule p c [] items = refl
into_rule p c (n ∷ numbers) items = refl

-- no segment gets another moment
past_merged : (p : PoolState) (plan : Plan) (after : PoolState) (t : ℕ) → IsPool p → IsTrue (qualifies p plan.choice)
    → All (λ m. contains_number (merged_segments p plan.choice) m.source.segment ≡ true) plan.moves
    → after ≡ carried_out p plan → IsPast p t
    → IsPast after t
past_merged p plan after t pool qualifying sources is past =
    let f = merged_front p plan.choice qualifying in
    let first = f.0 in
    let others : List ℕ = f.1.0 ∷ f.1.1.0 in
    let whole : merged_segments p plan.choice ≡ first ∷ others = f.1.1.1.whole in
    let items = carried_items p plan.moves in
    let z = eq-eqb first first refl in
    let some : 1 ≤ times first (merged_segments p plan.choice) =
    (let e : times first (merged_segments p plan.choice) ≡ 1 + times first others = ap (times first) whole
    ∙ rw z refl in omega (arith, e)) in
    let used = merged_in_chain p plan.choice first some in
    let now : after ≡ merged_into p plan.choice (first ∷ others) items =
    is ∙ ap (λ (xs : List ℕ). merged_into p plan.choice xs items) whole in
    let rule : after.eviction ≡ p.eviction = ap (λ (r : PoolState). r.eviction) now in
    let dates : after.exact ≡ p.exact = ap (λ (r : PoolState). r.exact) now in
    let at : (n : ℕ) → segment_at after n ≡ (if contains_number others n then None
    else (if n == first then option_map (with_items items) (segment_at p first) else segment_at p n)) =
    λ n. ap (λ (r : PoolState). segment_at r n) now ∙ merged_segment p plan.choice first others items n used.within in
    let d : Option ℕ = deadline_in (segment_at p first) in
    let all : All (IsDatedIn p.exact d) items =
    carried_dated p d plan.moves past.dated
    (λ k m lt. merged_deadline p plan.choice (get_or plan.moves k m).source.segment first
    (contains_if (merged_segments p plan.choice) (get_or plan.moves k m).source.segment (sources k m lt)) some) in
    record {
      within = past.within;
      opened = λ n u e.
          subst (λ (k : Eviction). u.opened ≤ opening_moment k u.bucket t) (sym rule)
          (opened_by p.eviction (contains_number others n) (n == first) items (segment_at p first) (segment_at p n) t u
          (sym (ap (λ (r : PoolState). segment_at r n) now
          ∙ merged_segment p plan.choice first others items n used.within) ∙ e) (past.opened first)
          (past.opened n));
      in_order = subst IsInTimeOrder (sym is)
          (order_of_merged p plan.choice items pool qualifying past.in_order);
      dated = λ r j e.
          subst (λ (b : Bool). IsDatedIn b (shared_at after r) j) (sym dates)
          (dated_by_cases p after first items others r j used.segment used.is_at (at r.segment) e all (past.dated r j));
    }

-- ---- the items that are forgotten

-- those that moves put nowhere
abbrev pub lost : List Move → List Standing → List Standing
lost moves ss = filter (λ (s : Standing). not (is_some (moved_by moves s.place))) ss

-- an option that has no place is empty
none_of : (o : Option Place) → is_some o ≡ false → o ≡ None
none_of None h = refl
none_of (Some r) h = absurd (false≢true (sym h))

-- the place of a lost item goes nowhere
lost_none : (moves : List Move) (ss : List Standing) (r : Place) → is_left (lost moves ss) r ≡ true
    → moved_by moves r ≡ None
lost_none moves [] r h = absurd (false≢true h)
lost_none moves (s ∷ ss) r h =
    elim (cases_Bool (is_some (moved_by moves s.place))) [
      | inl y ↦ (let later : is_left (lost moves ss) r ≡ true = rw y at h in lost_none moves ss r later)
      | inr n ↦
          let here : is_left (s ∷ lost moves ss) r ≡ true = rw n at h in
          elim (cases_Bool (same_place s.place r)) [
            | inl z ↦ ap (moved_by moves) (sym (same_place_is s.place r z)) ∙ none_of (moved_by moves s.place) n
            | inr f ↦ (let later : is_left (lost moves ss) r ≡ true = rw f at here in lost_none moves ss r later)
          ]
    ]

-- and one of these places that goes nowhere is that of a lost item
is_lost : (moves : List Move) (ss : List Standing) (r : Place) → is_left ss r ≡ true → moved_by moves r ≡ None
    → is_left (lost moves ss) r ≡ true
is_lost moves [] r h e = h
is_lost moves (s ∷ ss) r h e =
    elim (cases_Bool (same_place s.place r)) [
      | inl y ↦
          let none : is_some (moved_by moves s.place) ≡ false =
          ap (λ (x : Place). is_some (moved_by moves x)) (same_place_is s.place r y) ∙ ap is_some e in
          rw (none, y) refl
      | inr n ↦
          let rest = is_lost moves ss r (let later : is_left ss r ≡ true = rw n at h in later) e in
          elim (cases_Bool (is_some (moved_by moves s.place))) [
            | inl z ↦ rw z rest
            | inr z ↦ rw (z, n) rest
          ]
    ]

-- ---- the live items of merged segments

-- a place is among the places of some things exactly where one of them has that place
any_at : {X : Type 0} (f : X → Place) (r : Place) (xs : List X)
    → list_any (λ (x : Place). same_place x r) (map f xs) ≡ list_any (λ (x : X). same_place (f x) r) xs
any_at f r [] = refl
any_at f r (x ∷ xs) = ap (λ (b : Bool). same_place (f x) r || b) (any_at f r xs)

-- a marked place of a merged segment is that of one of them
merged_left : (p : PoolState) (plan : Plan) (after : PoolState) (index found : Table) (marks : Marks)
    → IsMergeRelocated p plan after index found marks
    → (r : Place) (i : Item)
    → item_in p r ≡ Some i → is_marked marks r ≡ true → contains_number (merged_segments p plan.choice) r.segment ≡ true
    → is_left (live_items (lives_by marks) p (merged_segments p plan.choice)) r ≡ true
merged_left p plan after index found marks w r i e h n =
    sym (any_at (λ (s : Standing). s.place) r (live_items (lives_by marks) p (merged_segments p plan.choice)))
    ∙ ap (list_any (λ (x : Place). same_place x r)) (sym (sources_live (lives_by marks) p plan w.is_plan))
    ∙ any_at (λ (m : Move). m.source) r plan.moves ∙ live_source (lives_by marks) p plan r i w.is_plan e h n

-- they are current
pub live_current : (p : PoolState) (index : Table) (marks : Marks) (numbers : List ℕ) → IsTied p index marks
    → All (IsCurrent p index) (live_items (lives_by marks) p numbers)
live_current p index marks [] tied = All-nil (IsCurrent p index)
live_current p index marks (n ∷ numbers) tied =
    All-append (IsCurrent p index) (live_standing (lives_by marks) p n) (live_items (lives_by marks) p numbers)
    (current_among p index marks (standing p n) tied (λ k d lt. (standing_all p n k d lt).1))
    (live_current p index marks numbers tied)

-- they wait where all current items of their segments do
live_wait : (p : PoolState) (index : Table) (marks : Marks) (t : ℕ) (numbers : List ℕ) → IsTied p index marks
    → ((q : List ℕ) (r : Place) → finite.get (current p index) q ≡ Some r → contains_number numbers r.segment ≡ true
    → has_arrived (place_deadline p r) t ≡ false)
    → All (Waits p t) (live_items (lives_by marks) p numbers)
live_wait p index marks t [] tied wait = All-nil (Waits p t)
live_wait p index marks t (n ∷ numbers) tied wait =
    let ss = live_standing (lives_by marks) p n in
    All-append (Waits p t) ss (live_items (lives_by marks) p numbers)
    (all_wait p index t n ss
    (All-filter (λ (s : Standing). is_marked marks s.place) (λ (s : Standing). s.place.segment ≡ n) (standing p n)
    (λ k d lt. (standing_all p n k d lt).0))
    (current_among p index marks (standing p n) tied (λ k d lt. (standing_all p n k d lt).1))
    (λ q r e same. wait q r e (or_left (n == r.segment) (contains_number numbers r.segment) (eq-eqb n r.segment (sym same)))))
    (live_wait p index marks t numbers tied
    (λ q r e later. wait q r e (or_right (n == r.segment) (contains_number numbers r.segment) later)))

-- some of them are no more than all
part_sizes : (test : Standing → Bool) (ss : List Standing) → sum_by size_in (filter test ss) ≤ sum_by size_in ss
part_sizes test [] = omega arith
part_sizes test (s ∷ ss) =
    let rest = part_sizes test ss in
    let whole = sum_by-cons size_in s ss in
    elim (cases_Bool (test s)) [
      | inl y ↦ (let part = sum_by-cons size_in s (filter test ss) in rw y (omega (arith, rest, whole, part)))
      | inr n ↦ rw n (omega (arith, rest, whole))
    ]

-- and no more than what fits into the segments
live_sizes : (p : PoolState) (marks : Marks) (numbers : List ℕ) → IsPool p
    → sum_by size_in (live_items (lives_by marks) p numbers) ≤ p.sizes.segment_size * length numbers
live_sizes p marks [] k = omega arith
live_sizes p marks (n ∷ numbers) k =
    let split = sum_by-append size_in (live_standing (lives_by marks) p n) (live_items (lives_by marks) p numbers) in
    let part = part_sizes (λ (s : Standing). is_marked marks s.place) (standing p n) in
    let one = segment_sizes p n k in
    let rest = live_sizes p marks numbers k in
    omega (arith, split, part, one, rest)

-- ---- what stays

-- a moved item's entry stays
moved_entry : (p : PoolState) (plan : Plan) (after : PoolState) (index found : Table) (marks : Marks)
    → IsMergeRelocated p plan after index found marks
    → (q : List ℕ) (r s : Place)
    → finite.get (current p index) q ≡ Some r → moved_by plan.moves r ≡ Some s → entry_at after s ≡ entry_at p r
moved_entry p plan after index found marks w q r s e m =
    let x = current_item p index q r e in
    elim (cases_Bool (contains_number (merged_segments p plan.choice) r.segment)) [
      | inl y ↦
          let there : (item_in after s ≡ Some (with_reads_halved p.eviction x.0)) × (place_deadline after s ≡ place_deadline p r) =
          subst (λ (o : Option Place). IfSome o
          (λ place. (item_in after place ≡ Some (with_reads_halved p.eviction x.0))
          × (place_deadline after place ≡ place_deadline p r))) m
          (moved_live (lives_by marks) p plan after r x.0 w.is_plan w.out x.1 (w.tied.held q r e) y) in
          entry_is after s (with_reads_halved p.eviction x.0) there.0 ∙ ap (λ (d : Option ℕ). kept_entry d x.0) there.1
          ∙ sym (entry_is p r x.0 x.1)
      | inr n ↦
          let o = moved_other p plan after r w.out n in
          let one : Some s ≡ Some r = sym m ∙ o.0 in
          let same : s ≡ r = cc in
          ap (entry_at after) same ∙ entry_is after r x.0 (o.1 ∙ x.1) ∙ ap (λ (d : Option ℕ). kept_entry d x.0) o.2
          ∙ sym (entry_is p r x.0 x.1)
    ]

-- each key's entry stays but for the lost ones
pub merged_stayed : (p : PoolState) (plan : Plan) (after : PoolState) (index found : Table) (marks : Marks)
    → IsMergeRelocated p plan after index found marks
    → HaveStayed p (current p index) after (current after found)
    (lost plan.moves (live_items (lives_by marks) p (merged_segments p plan.choice)))
merged_stayed p plan after index found marks w =
    let all = live_items (lives_by marks) p (merged_segments p plan.choice) in
    record {
      none = λ q none. w.relocated.places q ∙ ap (option_and_then (moved_by plan.moves)) none;
      gone = λ q r e yes. w.relocated.places q ∙ ap (option_and_then (moved_by plan.moves)) e
          ∙ lost_none plan.moves all r yes;
      stays = λ q r e apart. by q r e apart (moved_by plan.moves r) refl;
    }
  where
    by : (q : List ℕ) (r : Place) → finite.get (current p index) q ≡ Some r
        → is_left (lost plan.moves (live_items (lives_by marks) p (merged_segments p plan.choice))) r ≡ false
        → (o : Option Place) → moved_by plan.moves r ≡ o
        → (s : Place) × (finite.get (current after found) q ≡ Some s) × (entry_at after s ≡ entry_at p r)
    by q r e apart (Some s) m = (
      s,
      w.relocated.places q ∙ ap (option_and_then (moved_by plan.moves)) e
          ∙ m,
      moved_entry p plan after index found marks w q r s e m,
    )
    by q r e apart None m =
        let x = current_item p index q r e in
        elim (cases_Bool (contains_number (merged_segments p plan.choice) r.segment)) [
          | inl y ↦
              absurd (false≢true (sym apart
              ∙ is_lost plan.moves (live_items (lives_by marks) p (merged_segments p plan.choice)) r
              (merged_left p plan after index found marks w r x.0 x.1 (w.tied.held q r e) y) m))
          | inr n ↦ absurd (none-some r (sym m ∙ (moved_other p plan after r w.out n).0))
        ]

-- room is made
pub merged_made : (p : PoolState) (plan : Plan) (after : PoolState) (index found : Table) (marks : Marks) (t : ℕ)
    → IsMergeRelocated p plan after index found marks
    → ((q : List ℕ) (r : Place) → finite.get (current p index) q ≡ Some r
    → contains_number (merged_segments p plan.choice) r.segment ≡ true → has_arrived (place_deadline p r) t ≡ false)
    → IsCrowded p index t → IsRoomMade p index t after found
merged_made p plan after index found marks t w wait crowded =
    let all = live_items (lives_by marks) p (merged_segments p plan.choice) in
    let ss = lost plan.moves all in
    record {
      sizes = w.out.sizes;
      rule = ap (λ (r : PoolState). r.eviction) w.after_is
          ∙ into_rule p plan.choice (merged_segments p plan.choice) (carried_items p plan.moves);
      exact = ap (λ (r : PoolState). r.exact) w.after_is
          ∙ into_exact p plan.choice (merged_segments p plan.choice) (carried_items p plan.moves);
      past = past_merged p plan after t w.tied.known.pool w.is_plan.next.qualifying w.out.sources w.after_is crowded.past;
      free = w.out.has_free;
      absent = λ q none. w.relocated.places q ∙ ap (option_and_then (moved_by plan.moves)) none;
      kept = evicted_kept p index after found t ss crowded
          (All-filter (λ (s : Standing). not (is_some (moved_by plan.moves s.place))) (Waits p t) all
          (live_wait p index marks t (merged_segments p plan.choice) w.tied wait))
          (All-filter (λ (s : Standing). not (is_some (moved_by plan.moves s.place))) (IsCurrent p index) all
          (live_current p index marks (merged_segments p plan.choice) w.tied))
          (merged_stayed p plan after index found marks w)
          (let part = part_sizes (λ (s : Standing). not (is_some (moved_by plan.moves s.place))) all in
          let whole = live_sizes p marks (merged_segments p plan.choice) w.tied.known.pool in
          let four : length (merged_segments p plan.choice) ≤ 4 =
          (let l = length-take (most_merged p.eviction plan.choice.bucket) (front p plan.choice) in let m = most_four p.eviction plan.choice.bucket in
          omega (arith, l, m)) in
          let most = mul-le-mul_left p.sizes.segment_size four in
          omega (arith, part, whole, most));
    }
