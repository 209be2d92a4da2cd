-- Which places are marked after each call, and what marks know of a pool after each change of it.
use Rattle.std.proofs.Common.{◌≡◌, ℕ, zero, suc, ◌+◌, ◌/◌, ◌<◌, ◌≤◌, Bool, true, false, List, [], ◌∷◌, length}
use Rattle.std.proofs.Common.{get_or, Option, Some, None, refl, sym, ap, subst, ◌∙◌, arith, inl, inr}
use Rattle.std.specs.Prelude.{nat_lt, ◌==◌, ◌&&◌, ◌||◌, if◌then◌else◌, IfSome, IsSome, All, replicate, option_map}
use Rattle.std.specs.List.{list_any}
use Rattle.std.specs.Option.{option_map_or}
use Rattle.std.proofs.Math.ListN.{set}
use Rattle.std.proofs.lemmas.List.{length-set, length-replicate, get_or-set_same, get_or-set_other, get_or_past}
use Rattle.std.proofs.lemmas.List.Elements.{All-set, All-head, All-tail, All-replicate}
use Rattle.std.proofs.lemmas.List.Folds.{list_any_none, list_any_at, Any-from_list_any}
use Rattle.std.proofs.lemmas.Bool.{cases_lt, cases_Bool, cases_eq, eq-eqb, ne_eqb, eqb-true, lt-ltb, le-ltb, false≢true, and_parts, and_from, or_left}
use Rattle.std.proofs.lemmas.Bool.{or_right}
use Rattle.proto.specs.Sizes.{Sizes}
use Rattle.segments.specs.declared.place.Place.{Place}
use Rattle.segments.specs.declared.place.Move.{Move}
use Rattle.segments.specs.Items.{Item, with_reads_halved}
use Rattle.segments.specs.Pools.{PoolState, Plan, IsPool, Standing, Liveness, item_in, items_of, segment_at, standing, has_live, place_deadline, deadline_in}
use Rattle.segments.specs.Changes.{IsGivenBack, without_segment, with_change}
use Rattle.segments.specs.Merges.{IsPlan, carried_out, planned_moves, with_merge_planned, without_plan, contains_number, merged_segments}
use Rattle.segments.specs.Places.{IsAppended, FollowsPlan, same_place}
use Rattle.segments.proofs.Places.{standing_by, live_stays, live_given, mark_within, cleared_item, changed_item}
use Rattle.segments.proofs.ItemChanges.{KeepsSize}
use Rattle.segments.proofs.MovedPlaces.{carried, same_place_is, same_place_itself, live_source, moved_other}
use Rattle.segments.proofs.PlanLemmas.{found_from}
use Rattle.segments.proofs.AgreeingTests.{in_segment}
use Rattle.segments.specs.Marks.{Marks, mark_count, row_of, mark_at, is_mark_of, is_marked, with_mark, without_marks, unmarked_sources}
use Rattle.segments.specs.Marks.{mark_target, marked_targets, carried_marks, no_marks, lives_by, IsWithin, AreMarksSized, has_mark, KnowsPool}
use Rattle.segments.proofs.MarkCounts.{marked_at, marked_some}
use Rattle.proto.proofs.Options.{value_there}
use Rattle.segments.specs.Items.{item_deadline}

-- ---- sizes stay

-- taking the sources' marks leaves the sizes
pub unmarked_sizes : (t : Marks) (moves : List Move) → (unmarked_sources t moves).sizes ≡ t.sizes
unmarked_sizes t [] = refl
unmarked_sizes t (m ∷ moves) = unmarked_sizes (with_mark false t m.source) moves

-- setting a target's mark leaves the sizes
target_sizes : (t : Marks) (o : Option Place) → (mark_target t o).sizes ≡ t.sizes
target_sizes t None = refl
target_sizes t (Some place) = refl

-- setting all targets' marks leaves the sizes
pub marked_sizes : (t : Marks) (moves : List Move) → (marked_targets t moves).sizes ≡ t.sizes
marked_sizes t [] = refl
marked_sizes t (m ∷ moves) = marked_sizes (mark_target t m.target) moves ∙ target_sizes t m.target

-- what stands at a place once another one is written
set_at : {X : Type 0} (xs : List X) (n : ℕ) (x d : X) (m : ℕ) → n < length xs
    → get_or (set xs n x) m d ≡ (if m == n then x else get_or xs m d)
set_at xs n x d m lt =
    elim (cases_eq m n) [
      | inl e ↦ (let t = eq-eqb m n e in rw t (ap (λ k. get_or (set xs n x) k d) e ∙ get_or-set_same xs n x d lt))
      | inr e ↦ (let f = ne_eqb m n e in rw f (get_or-set_other xs n m x d e))
    ]

-- a row is as long as a segment has 32 bytes
row_long : (t : Marks) (n : ℕ) → AreMarksSized t → n < t.sizes.segments
    → length (row_of t n) ≡ t.sizes.segment_size / 32
row_long t n s lt = let c = s.count in s.long n [] (omega arith)

-- writing a mark leaves the rows as long as they were
pub sized_mark : (b : Bool) (t : Marks) (place : Place) → AreMarksSized t → IsWithin t.sizes place
    → AreMarksSized (with_mark b t place)
sized_mark b t place s w =
    let row = row_of t place.segment in
    record {
      count = length-set t.rows place.segment (set row (place.offset / 32) b) ∙ s.count;
      long = All-set (λ r. length r ≡ t.sizes.segment_size / 32) t.rows place.segment (set row (place.offset / 32) b)
          (length-set row (place.offset / 32) b ∙ row_long t place.segment s w.segment) s.long;
    }

-- two tests, one inside the other, are one test of both
both_test : (a c : Bool) (b x : Bool) → (if a then (if c then b else x) else x) ≡ (if a && c then b else x)
both_test true c b x = refl
both_test false c b x = refl

-- a mark behind `mark` or `unmark`
pub mark_after : (b : Bool) (t : Marks) (place : Place) (n k : ℕ) → AreMarksSized t → IsWithin t.sizes place
    → mark_at (with_mark b t place) n k ≡ (if is_mark_of place n k then b else mark_at t n k)
mark_after b t place n k s w =
    let lt = w.segment in
    let c = s.count in
    let row = row_of t place.segment in
    let long = row_long t place.segment s w.segment in
    let within = w.offset in
    let at : row_of (with_mark b t place) n
    ≡ (if n == place.segment then set row (place.offset / 32) b else row_of t n) =
    set_at t.rows place.segment (set row (place.offset / 32) b) [] n (omega arith) in
    elim (cases_eq n place.segment) [
      | inl e ↦
          let z = eq-eqb n place.segment e in
          let now : row_of (with_mark b t place) n ≡ set row (place.offset / 32) b = at ∙ rw z refl in
          ap (λ r. get_or r k false) now ∙ set_at row (place.offset / 32) b false k (omega arith)
          ∙ ap (λ m. if k == place.offset / 32 then b else mark_at t m k) (sym e) ∙ rw z refl
      | inr e ↦
          let z = ne_eqb n place.segment e in
          ap (λ r. get_or r k false) at ∙ rw z refl
    ]

-- ---- the item of a mark

-- an item that has the mark k of the segment n
pub record HasMark (p : PoolState) (n k : ℕ) : Type 0 where
  pub place : Place
  pub segment : place.segment ≡ n
  pub offset : place.offset / 32 ≡ k
  pub stands : IsSome (item_in p place)

-- a mark that is an item's, and the item
pub mark_found : (p : PoolState) (n k : ℕ) → has_mark p n k ≡ true → HasMark p n k
mark_found p n k h =
    let test : Standing → Bool = λ s. s.place.offset / 32 == k in
    let a = Any-from_list_any test (standing p n) h in
    let s = get_or (standing p n) a.0 a.1 in
    record {
      place = s.place;
      segment = in_segment n 0 (items_of (segment_at p n)) a.0 a.1 a.2;
      offset = eqb-true (s.place.offset / 32) k (ap test a.3 ∙ a.4);
      stands = subst IsSome (sym (found_from p n [] (items_of (segment_at p n)) refl a.0 a.1 a.2)) refl;
    }

-- an item, and its mark
pub mark_from : (p : PoolState) (n k : ℕ) → HasMark p n k → has_mark p n k ≡ true
mark_from p n k h =
    let q = h.place in
    let i = value_there (item_in p q) h.stands in
    let w = standing_by q.segment 0 (items_of (segment_at p q.segment)) q.offset i.0 i.1 in
    let d : Standing = record { place = record { segment = q.segment; offset = 0 }; item = i.0 } in
    let zero_plus : 0 + q.offset ≡ q.offset = omega arith in
    let there : get_or (standing p q.segment) w.0 d ≡ record { place = q; item = i.0 } = w.2
    ∙ ap (λ x. record { place = record { segment = q.segment; offset = x }; item = i.0 }) zero_plus in
    let test : Standing → Bool = λ s. s.place.offset / 32 == k in
    ap (λ m. has_mark p m k) (sym h.segment)
    ∙ list_any_at test (standing p q.segment) w.0 d w.1 (ap test there ∙ eq-eqb (q.offset / 32) k h.offset)

-- ---- the count of a segment

-- in a row without marks none is set
none_marked : (row : List Bool) (k : ℕ) → mark_count row ≤ 0 → get_or row k false ≡ false
none_marked row k h =
    elim (cases_Bool (get_or row k false)) [
      | inl t ↦ (let m = marked_at row k t in absurd (omega arith))
      | inr f ↦ f
    ]

-- a segment has marks exactly where it has a live item
pub counts_live : (t : Marks) (p : PoolState) (n : ℕ) → KnowsPool t p
    → nat_lt 0 (mark_count (row_of t n)) ≡ has_live (lives_by t) p n
counts_live t p n known =
    elim (cases_lt 0 (mark_count (row_of t n))) [
      | inl lt ↦
          let s = marked_some (row_of t n) lt in
          let h = mark_found p n s.0 (known.each n s.0 s.1) in
          let i = value_there (item_in p h.place) h.stands in
          let here : is_marked t h.place ≡ true =
          ap (λ m. mark_at t m (h.place.offset / 32)) h.segment ∙ ap (mark_at t n) h.offset ∙ s.1 in
          lt-ltb 0 (mark_count (row_of t n)) lt
          ∙ sym (ap (has_live (lives_by t) p) (sym h.segment) ∙ live_stays (lives_by t) p h.place i.0 i.1 here)
      | inr ge ↦
          le-ltb 0 (mark_count (row_of t n)) ge
          ∙ sym (list_any_none (λ s. lives_by t s.place s.item (item_deadline s.item (deadline_in (segment_at p n)))) (standing p n)
          (λ k d lt. let s = get_or (standing p n) k d in
          ap (λ m. mark_at t m (s.place.offset / 32)) (in_segment n 0 (items_of (segment_at p n)) k d lt)
          ∙ none_marked (row_of t n) (s.place.offset / 32) ge))
    ]

-- ---- marks that are taken away

-- clearing a row leaves the rows as long as they were
sized_without : (t : Marks) (n : ℕ) → AreMarksSized t → n < t.sizes.segments → AreMarksSized (without_marks t n)
sized_without t n s lt =
    let row = row_of t n in
    record {
      count = length-set t.rows n (replicate (length row) false) ∙ s.count;
      long = All-set (λ r. length r ≡ t.sizes.segment_size / 32) t.rows n (replicate (length row) false)
          (length-replicate (length row) false ∙ row_long t n s lt) s.long;
    }

-- what stands in a list of one value
pub nothing_at : {X : Type 0} (x : X) (n k : ℕ) → get_or (replicate n x) k x ≡ x
nothing_at x zero k = refl
nothing_at x (suc n) zero = refl
nothing_at x (suc n) (suc k) = nothing_at x n k

-- what is marked once a row was cleared
pub mark_without : (t : Marks) (n m k : ℕ) → AreMarksSized t → n < t.sizes.segments
    → mark_at (without_marks t n) m k ≡ (if m == n then false else mark_at t m k)
mark_without t n m k s lt =
    let c = s.count in
    let at : row_of (without_marks t n) m ≡ (if m == n then replicate (length (row_of t n)) false else row_of t m) =
    set_at t.rows n (replicate (length (row_of t n)) false) [] m (omega arith) in
    elim (cases_eq m n) [
      | inl e ↦ (let z = eq-eqb m n e in
          ap (λ r. get_or r k false) at ∙ rw z (nothing_at false (length (row_of t n)) k))
      | inr e ↦ (let z = ne_eqb m n e in ap (λ r. get_or r k false) at ∙ rw z refl)
    ]

-- ---- the marks of moves

-- taking the sources' marks leaves the rows as long as they were
pub sized_unmarked : (t : Marks) (moves : List Move) → AreMarksSized t → All (λ m. IsWithin t.sizes m.source) moves
    → AreMarksSized (unmarked_sources t moves)
sized_unmarked t [] s all = s
sized_unmarked t (m ∷ moves) s all =
    sized_unmarked (with_mark false t m.source) moves
    (sized_mark false t m.source s (All-head (λ x. IsWithin t.sizes x.source) m moves all))
    (All-tail (λ x. IsWithin t.sizes x.source) m moves all)

-- setting a target's mark leaves the rows as long as they were
sized_target : (t : Marks) (o : Option Place) → AreMarksSized t → IfSome o (IsWithin t.sizes)
    → AreMarksSized (mark_target t o)
sized_target t None s h = s
sized_target t (Some place) s h = sized_mark true t place s h

-- and so does setting all of them
pub sized_marked : (t : Marks) (moves : List Move) → AreMarksSized t
    → All (λ m. IfSome m.target (IsWithin t.sizes)) moves
    → AreMarksSized (marked_targets t moves)
sized_marked t [] s all = s
sized_marked t (m ∷ moves) s all =
    let here : IfSome m.target (IsWithin t.sizes) = All-head (λ x. IfSome x.target (IsWithin t.sizes)) m moves all in
    let rest = All-tail (λ x. IfSome x.target (IsWithin t.sizes)) m moves all in
    sized_marked (mark_target t m.target) moves (sized_target t m.target s here)
    (subst (λ z. All (λ (x : Move). IfSome x.target (IsWithin z)) moves) (sym (target_sizes t m.target)) rest)

-- two tests that take a mark away are one test of either
gone_by : (a b x : Bool) → (if a then false else (if b then false else x)) ≡ (if b || a then false else x)
gone_by true true x = refl
gone_by true false x = refl
gone_by false true x = refl
gone_by false false x = refl

-- a mark after the first half of `carry`
pub unmarked_at : (t : Marks) (moves : List Move) (n k : ℕ) → AreMarksSized t
    → All (λ m. IsWithin t.sizes m.source) moves
    → mark_at (unmarked_sources t moves) n k
    ≡ (if list_any (λ m. is_mark_of m.source n k) moves then false else mark_at t n k)
unmarked_at t [] n k s all = refl
unmarked_at t (m ∷ moves) n k s all =
    let here = All-head (λ x. IsWithin t.sizes x.source) m moves all in
    unmarked_at (with_mark false t m.source) moves n k (sized_mark false t m.source s here)
    (All-tail (λ x. IsWithin t.sizes x.source) m moves all)
    ∙ ap (λ (x : Bool). if list_any (λ y. is_mark_of y.source n k) moves then false else x)
    (mark_after false t m.source n k s here)
    ∙ gone_by (list_any (λ y. is_mark_of y.source n k) moves) (is_mark_of m.source n k) (mark_at t n k)

-- whether a move's target has the mark k of the segment n
abbrev pub is_target_of : Move → ℕ → ℕ → Bool
is_target_of m n k = option_map_or (λ place. is_mark_of place n k) m.target false

-- what is marked once a target's mark was set
target_at : (t : Marks) (o : Option Place) (n k : ℕ) → AreMarksSized t → IfSome o (IsWithin t.sizes)
    → mark_at (mark_target t o) n k ≡ (if option_map_or (λ place. is_mark_of place n k) o false then true
    else mark_at t n k)
target_at t None n k s h = refl
target_at t (Some place) n k s h = mark_after true t place n k s h

-- two tests that set a mark are one test of either
set_by : (a b x : Bool) → (if a then true else (if b then true else x)) ≡ (if b || a then true else x)
set_by true true x = refl
set_by true false x = refl
set_by false true x = refl
set_by false false x = refl

-- and after the second half
pub marked_targets_at : (t : Marks) (moves : List Move) (n k : ℕ) → AreMarksSized t
    → All (λ m. IfSome m.target (IsWithin t.sizes)) moves
    → mark_at (marked_targets t moves) n k ≡ (if list_any (λ m. is_target_of m n k) moves then true else mark_at t n k)
marked_targets_at t [] n k s all = refl
marked_targets_at t (m ∷ moves) n k s all =
    let here : IfSome m.target (IsWithin t.sizes) = All-head (λ x. IfSome x.target (IsWithin t.sizes)) m moves all in
    let rest = All-tail (λ x. IfSome x.target (IsWithin t.sizes)) m moves all in
    marked_targets_at (mark_target t m.target) moves n k (sized_target t m.target s here)
    (subst (λ z. All (λ (x : Move). IfSome x.target (IsWithin z)) moves) (sym (target_sizes t m.target)) rest)
    ∙ ap (λ (x : Bool). if list_any (λ y. is_target_of y n k) moves then true else x) (target_at t m.target n k s here)
    ∙ set_by (list_any (λ y. is_target_of y n k) moves) (is_target_of m n k) (mark_at t n k)

-- a mark behind `carry`: that of a target, or one that was set before and is no source's
pub carried_at : (t : Marks) (moves : List Move) (n k : ℕ) → AreMarksSized t
    → All (λ m. IsWithin t.sizes m.source) moves
    → All (λ m. IfSome m.target (IsWithin t.sizes)) moves
    → mark_at (carried_marks t moves) n k
    ≡ (if list_any (λ m. is_target_of m n k) moves then true
    else (if list_any (λ m. is_mark_of m.source n k) moves then false else mark_at t n k))
carried_at t moves n k s sources targets =
    let sizes = unmarked_sizes t moves in
    marked_targets_at (unmarked_sources t moves) moves n k (sized_unmarked t moves s sources)
    (subst (λ z. All (λ (x : Move). IfSome x.target (IsWithin z)) moves) (sym sizes) targets)
    ∙ ap (λ (x : Bool). if list_any (λ m. is_target_of m n k) moves then true else x)
    (unmarked_at t moves n k s sources)

-- ---- what marks know of a pool

-- fewer marks know it still
pub knows_fewer : (t u : Marks) (p : PoolState) → KnowsPool t p → u.sizes ≡ t.sizes → AreMarksSized u
    → ((n k : ℕ) → mark_at u n k ≡ true → mark_at t n k ≡ true) → KnowsPool u p
knows_fewer t u p known sizes sized fewer =
    record {
      pool = known.pool;
      sizes = sizes ∙ known.sizes;
      sized = sized;
      each = λ n k h. known.each n k (fewer n k h);
    }

-- and the pool may change where each marked item stays
pub knows_after : (t : Marks) (p after : PoolState) → KnowsPool t p → IsPool after → after.sizes ≡ p.sizes
    → ((q : Place) → is_marked t q ≡ true → IsSome (item_in p q) → IsSome (item_in after q)) → KnowsPool t after
knows_after t p after known k sizes stay =
    record {
      pool = k;
      sizes = known.sizes ∙ sym sizes;
      sized = known.sized;
      each = λ n m h.
          (let x = mark_found p n m (known.each n m h) in
          let here : is_marked t x.place ≡ true =
          ap (λ s. mark_at t s (x.place.offset / 32)) x.segment ∙ ap (mark_at t n) x.offset ∙ h in
          mark_from after n m (record {
            place = x.place;
            segment = x.segment;
            offset = x.offset;
            stands = stay x.place here x.stands;
          }));
    }

-- in a new marks nothing is marked
none_by : (s : Sizes) (n k : ℕ) → mark_at (no_marks s) n k ≡ false
unfolding no_marks
none_by s n k =
    elim (cases_lt n (length (no_marks s).rows)) [
      | inl lt ↦
          ap (λ r. get_or r k false)
          (All-replicate (λ r. r ≡ replicate (s.segment_size / 32) false) s.segments
          (replicate (s.segment_size / 32) false) refl n [] lt)
          ∙ nothing_at false (s.segment_size / 32) k
      | inr ge ↦ ap (λ r. get_or r k false) (get_or_past (no_marks s).rows n [] ge)
    ]

-- the rows of a new marks are as long as they must be
sized_none : (s : Sizes) → AreMarksSized (no_marks s)
unfolding no_marks
sized_none s =
    record {
      count = length-replicate s.segments (replicate (s.segment_size / 32) false);
      long = All-replicate (λ r. length r ≡ s.segment_size / 32) s.segments (replicate (s.segment_size / 32) false)
          (length-replicate (s.segment_size / 32) false);
    }

-- new marks are of the sizes that they are made for
sizes_none : (s : Sizes) → (no_marks s).sizes ≡ s
unfolding no_marks
sizes_none s = refl

-- with no marks each pool is known
pub knows_none : (p : PoolState) → IsPool p → KnowsPool (no_marks p.sizes) p
knows_none p k =
    record {
      pool = k;
      sizes = sizes_none p.sizes;
      sized = sized_none p.sizes;
      each = λ n m h. absurd (false≢true (sym (none_by p.sizes n m) ∙ h));
    }

-- ---- places of items have marks of their own

-- an item's place has a mark
pub within_sizes : (s : Sizes) (p : PoolState) (q : Place) → IsPool p → s ≡ p.sizes → IsSome (item_in p q)
    → IsWithin s q
within_sizes s p q k e h =
    let i = value_there (item_in p q) h in
    let w = mark_within p q i.0 k i.1 in
    subst (λ z. IsWithin z q) (sym e) (record { segment = w.0; offset = w.1 })

-- what the calls on marks require
pub item_within : (t : Marks) (p : PoolState) (q : Place) → KnowsPool t p → IsSome (item_in p q) → IsWithin t.sizes q
item_within t p q known h = within_sizes t.sizes p q known.pool known.sizes h

-- the sources of moves have marks
pub sources_within : (t : Marks) (p : PoolState) (moves : List Move) → KnowsPool t p
    → All (λ m. IsSome (item_in p m.source)) moves
    → All (λ m. IsWithin t.sizes m.source) moves
sources_within t p moves known all k d lt = item_within t p (get_or moves k d).source known (all k d lt)

-- and so has a target at which an item stands
target_within : (s : Sizes) (p after : PoolState) (source : Place) (o : Option Place) → IsPool after → s ≡ after.sizes
    → IsSome (item_in p source)
    → IfSome o (λ place. (item_in after place ≡ option_map (with_reads_halved p.eviction) (item_in p source))
    × (place_deadline after place ≡ place_deadline p source)) → IfSome o (IsWithin s)
target_within s p after source None k e h x = tt
target_within s p after source (Some place) k e h x =
    let i = value_there (item_in p source) h in
    within_sizes s after place k e (subst IsSome (sym (x.0 ∙ ap (option_map (with_reads_halved p.eviction)) i.1)) refl)

-- and all targets of a merge that was carried out
pub targets_within : (t : Marks) (p : PoolState) (plan : Plan) (after : PoolState) → KnowsPool t p → IsPool after
    → FollowsPlan p plan after → All (λ m. IsSome (item_in p m.source)) plan.moves
    → All (λ m. IfSome m.target (IsWithin t.sizes)) plan.moves
targets_within t p plan after known k c all n d lt =
    let m = get_or plan.moves n d in
    target_within t.sizes p after m.source m.target k (known.sizes ∙ sym c.sizes) (all n d lt) (c.moved n d lt)

-- ---- what marks know after the calls

-- the mark of a place says its segment and its part
pub is_of_place : (place : Place) (n k : ℕ) → is_mark_of place n k ≡ true
    → (place.segment ≡ n) × (place.offset / 32 ≡ k)
is_of_place place n k h =
    let parts = and_parts (n == place.segment) (k == place.offset / 32) h in
    (sym (eqb-true n place.segment parts.0), sym (eqb-true k (place.offset / 32) parts.1))

-- an item of the pool is marked
pub knows_mark : (t : Marks) (p : PoolState) (place : Place) → KnowsPool t p → IsSome (item_in p place)
    → KnowsPool (with_mark true t place) p
knows_mark t p place known h =
    let w = item_within t p place known h in
    record {
      pool = known.pool;
      sizes = known.sizes;
      sized = sized_mark true t place known.sized w;
      each = λ n k m.
          elim (cases_Bool (is_mark_of place n k)) [
            | inl y ↦ (let parts = is_of_place place n k y in
                mark_from p n k (record { place = place; segment = parts.0; offset = parts.1; stands = h }))
            | inr f ↦ known.each n k (sym (mark_after true t place n k known.sized w ∙ rw f refl) ∙ m)
          ];
    }

-- what is left of marks was there
fewer_by : (b x : Bool) → (if b then false else x) ≡ true → x ≡ true
fewer_by true x h = absurd (false≢true h)
fewer_by false x h = h

-- marks that know a pool still do with a mark less
pub knows_unmark : (t : Marks) (p : PoolState) (place : Place) → KnowsPool t p → IsWithin t.sizes place
    → KnowsPool (with_mark false t place) p
knows_unmark t p place known w =
    knows_fewer t (with_mark false t place) p known refl (sized_mark false t place known.sized w)
    (λ n k m. fewer_by (is_mark_of place n k) (mark_at t n k) (sym (mark_after false t place n k known.sized w) ∙ m))

-- and with a cleared row
pub knows_without : (t : Marks) (p : PoolState) (n : ℕ) → KnowsPool t p → n < t.sizes.segments
    → KnowsPool (without_marks t n) p
knows_without t p n known lt =
    knows_fewer t (without_marks t n) p known refl (sized_without t n known.sized lt)
    (λ m k x. fewer_by (m == n) (mark_at t m k) (sym (mark_without t n m k known.sized lt) ∙ x))

-- where a pool's segment is cleared, and its marks with it
pub knows_cleared : (t : Marks) (p : PoolState) (n : ℕ) → KnowsPool t p → IsPool (without_segment p n)
    → IsSome (segment_at p n)
    → n < t.sizes.segments → KnowsPool (without_marks t n) (without_segment p n)
knows_cleared t p n known k h lt =
    knows_after (without_marks t n) p (without_segment p n) (knows_without t p n known lt) k refl
    (λ q marked_q some.
    elim (cases_Bool (q.segment == n)) [
      | inl y ↦ absurd (false≢true (sym (mark_without t n q.segment (q.offset / 32) known.sized lt ∙ rw y refl)
          ∙ marked_q))
      | inr f ↦ subst IsSome (sym (cleared_item p n q h ∙ rw f refl)) some
    ])

-- where an item is appended
pub knows_longer : (t : Marks) (p : PoolState) (bucket moment : ℕ) (i : Item) (after : PoolState) (place : Place)
    → KnowsPool t p
    → IsPool after → IsAppended p bucket moment i after place
    → KnowsPool t after
knows_longer t p bucket moment i after place known k a =
    knows_after t p after known k a.sizes
    (λ q _ some.
    elim (cases_Bool (same_place q place)) [
      | inl y ↦ (let here : item_in after q ≡ Some i = a.items q ∙ rw y refl in subst IsSome (sym here) refl)
      | inr f ↦ subst IsSome (sym (a.items q ∙ rw f refl)) some
    ])

-- and its place marked
pub knows_appended : (t : Marks) (p : PoolState) (bucket moment : ℕ) (i : Item) (after : PoolState) (place : Place)
    → KnowsPool t p
    → IsPool after → IsAppended p bucket moment i after place
    → KnowsPool (with_mark true t place) after
knows_appended t p bucket moment i after place known k a =
    let here : item_in after place ≡ Some i = a.items place ∙ (let s = same_place_itself place in rw s refl) in
    knows_mark t after place (knows_longer t p bucket moment i after place known k a) (subst IsSome (sym here) refl)

-- an item that is changed is still there
some_changed : (change : Item → Item) (o : Option Item) → IsSome o → IsSome (option_map change o)
some_changed change None h = h
some_changed change (Some i) h = h

-- where an item is changed, and keeps its size
pub knows_changed : (change : Item → Item) (t : Marks) (p : PoolState) (place : Place) → KnowsPool t p
    → IsPool (with_change change p place) → KeepsSize change (item_in p place) → KnowsPool t (with_change change p place)
knows_changed change t p place known pool k =
    knows_after t p (with_change change p place) known pool refl
    (λ q _ some.
    elim (cases_Bool (same_place q place)) [
      | inl y ↦ subst IsSome (sym (changed_item change p place q k ∙ rw y refl)) (some_changed change (item_in p q) some)
      | inr f ↦ subst IsSome (sym (changed_item change p place q k ∙ rw f refl)) some
    ])

-- where segments with no mark are given back
pub knows_given : (t : Marks) (p after : PoolState) → KnowsPool t p → IsPool after → IsGivenBack (lives_by t) p after
    → KnowsPool t after
knows_given t p after known k g =
    knows_after t p after known k g.sizes
    (λ q marked_q some.
    let i = value_there (item_in p q) some in
    subst IsSome (sym (live_given (lives_by t) p after q i.0 g i.1 marked_q).0) refl)

-- and where a merge was planned
pub knows_planned : (t : Marks) (p : PoolState) (plan : Plan) → KnowsPool t p → IsPool (with_merge_planned p plan)
    → KnowsPool t (with_merge_planned p plan)
knows_planned t p plan known k = knows_after t p (with_merge_planned p plan) known k refl (λ q _ some. some)

-- or none is
pub knows_unplanned : (t : Marks) (p : PoolState) → KnowsPool t p → IsPool (without_plan p)
    → KnowsPool t (without_plan p)
knows_unplanned t p known k = knows_after t p (without_plan p) known k refl (λ q _ some. some)

-- ---- what marks know after a merge

-- where a test finds a move, one passes it
some_target : (t : Move → Bool) (moves : List Move) → list_any t moves ≡ true
    → (k : ℕ) × (k < length moves) × ((d : Move) → t (get_or moves k d) ≡ true)
some_target t [] h = absurd (false≢true h)
some_target t (m ∷ moves) h =
    elim (cases_Bool (t m)) [
      | inl y ↦ (0, omega arith, λ d. y)
      | inr f ↦
          let later : list_any t moves ≡ true = rw f at h in
          let r = some_target t moves later in
          let lt = r.1 in
          (suc r.0, omega arith, r.2)
    ]

-- the mark of a target is that of the item that was moved there
target_stands : (p after : PoolState) (source : Place) (o : Option Place) (n k : ℕ)
    → option_map_or (λ place. is_mark_of place n k) o false ≡ true → IsSome (item_in p source)
    → IfSome o (λ place. (item_in after place ≡ option_map (with_reads_halved p.eviction) (item_in p source))
    × (place_deadline after place ≡ place_deadline p source))
    → HasMark after n k
target_stands p after source None n k h some x = absurd (false≢true h)
target_stands p after source (Some place) n k h some x =
    let parts = is_of_place place n k h in
    let i = value_there (item_in p source) some in
    record {
      place = place;
      segment = parts.0;
      offset = parts.1;
      stands = subst IsSome (sym (x.0 ∙ ap (option_map (with_reads_halved p.eviction)) i.1)) refl;
    }

-- the mark of an item is the mark of each place that is the same
source_mark : (q : Place) (moves : List Move) (n k : ℕ) → q.segment ≡ n → q.offset / 32 ≡ k
    → list_any (λ m. same_place m.source q) moves ≡ true → list_any (λ m. is_mark_of m.source n k) moves ≡ true
source_mark q [] n k a b h = absurd (false≢true h)
source_mark q (m ∷ moves) n k a b h =
    elim (cases_Bool (same_place m.source q)) [
      | inl y ↦
          let e = same_place_is m.source q y in
          let s = eq-eqb n m.source.segment (sym (ap (λ x. x.segment) e ∙ a)) in
          let o = eq-eqb k (m.source.offset / 32) (sym (ap (λ x. x.offset / 32) e ∙ b)) in
          or_left _ _ (and_from (n == m.source.segment) (k == m.source.offset / 32) s o)
      | inr f ↦
          let later : list_any (λ x. same_place x.source q) moves ≡ true = rw f at h in
          or_right (is_mark_of m.source n k) _ (source_mark q moves n k a b later)
    ]

-- a mark that was set neither by a target nor taken was there before
pub kept_mark : (a b x : Bool) → a ≡ false → (if a then true else (if b then false else x)) ≡ true
    → (b ≡ false) × (x ≡ true)
kept_mark true b x e h = absurd (false≢true (sym e))
kept_mark false true x e h = absurd (false≢true h)
kept_mark false false x e h = (refl, h)

-- A merge was planned with these marks, or with a test that says the same of each item, and carried
-- out; the marks were carried along.
pub knows_carried : (t : Marks) (p : PoolState) (plan : Plan) (after : PoolState) → KnowsPool t p → IsPool after
    → IsPlan (lives_by t) p plan → FollowsPlan p plan after
    → All (λ m. IsSome (item_in p m.source)) plan.moves → KnowsPool (carried_marks t plan.moves) after
knows_carried t p plan after known k h c starts =
    let sources = sources_within t p plan.moves known starts in
    let targets = targets_within t p plan after known k c starts in
    let sizes = marked_sizes (unmarked_sources t plan.moves) plan.moves ∙ unmarked_sizes t plan.moves in
    record {
      pool = k;
      sizes = sizes ∙ known.sizes ∙ sym c.sizes;
      sized = sized_marked (unmarked_sources t plan.moves) plan.moves (sized_unmarked t plan.moves known.sized sources)
          (subst (λ z. All (λ (x : Move). IfSome x.target (IsWithin z)) plan.moves)
          (sym (unmarked_sizes t plan.moves)) targets);
      each = λ n m marked_now.
          (let at = sym (carried_at t plan.moves n m known.sized sources targets) ∙ marked_now in
          elim (cases_Bool (list_any (λ x. is_target_of x n m) plan.moves)) [
            | inl y ↦
                let w = some_target (λ x. is_target_of x n m) plan.moves y in
                let d : Move = record { source = record { segment = 0; offset = 0 }; target = None } in
                let move : Move = get_or plan.moves w.0 d in
                mark_from after n m (target_stands p after move.source move.target n m (w.2 d) (starts w.0 d w.1)
                (c.moved w.0 d w.1))
            | inr f ↦
                let old = kept_mark (list_any (λ x. is_target_of x n m) plan.moves)
                (list_any (λ x. is_mark_of x.source n m) plan.moves) (mark_at t n m) f at in
                let x = mark_found p n m (known.each n m old.1) in
                let i = value_there (item_in p x.place) x.stands in
                let is : is_marked t x.place ≡ true =
                ap (λ s. mark_at t s (x.place.offset / 32)) x.segment ∙ ap (mark_at t n) x.offset ∙ old.1 in
                elim (cases_Bool (contains_number (merged_segments p plan.choice) x.place.segment)) [
                  | inl y ↦
                      let s = live_source (lives_by t) p plan x.place i.0 h i.1 is y in
                      absurd (false≢true (sym old.0 ∙ source_mark x.place plan.moves n m x.segment x.offset s))
                  | inr g ↦ mark_from after n m
                      (record {
                        place = x.place;
                        segment = x.segment;
                        offset = x.offset;
                        stands = subst IsSome (sym (moved_other p plan after x.place c g).1) x.stands;
                      })
                ]
          ]);
    }

-- what `carry` requires where a merge is planned, before it is carried out
pub planned_within : (t : Marks) (lives : Liveness) (p : PoolState) (plan : Plan) → KnowsPool t p → IsPlan lives p plan
    → IsPool (carried_out (with_merge_planned p plan) plan) → All (λ m. IsSome (item_in p m.source)) plan.moves
    → All (λ m. IfSome m.target (IsWithin t.sizes)) plan.moves
planned_within t lives p plan known h k starts =
    targets_within t p plan (carried_out (with_merge_planned p plan) plan) known k
    (carried lives p plan (carried_out (with_merge_planned p plan) plan) known.pool h refl) starts

-- ---- the calls of a merge, by what their contracts say: `plan_merge`, `moves`, `carry` and
-- `merge_next`

-- what `plan_merge` says where it answers true
abbrev pub IsPlanned : Marks → PoolState → PoolState → Type 0
IsPlanned t p q = (plan : Plan) × IsPlan (lives_by t) p plan × (q ≡ with_merge_planned p plan)

-- what `carry` requires
pub merge_ready : (t : Marks) (p q : PoolState) (moves : List Move) → KnowsPool t p → IsPlanned t p q
    → moves ≡ planned_moves q.plan → All (λ m. IsSome (item_in q m.source)) moves
    → IfSome q.plan (λ plan. IsPool (carried_out q plan))
    → All (λ m. IsWithin t.sizes m.source) moves × All (λ m. IfSome m.target (IsWithin t.sizes)) moves
merge_ready t p q moves known h e sources k =
    let plan = h.0 in
    let are : moves ≡ plan.moves = e ∙ ap (λ r. planned_moves r.plan) h.2 in
    let starts : All (λ m. IsSome (item_in p m.source)) moves =
    subst (λ r. All (λ (m : Move). IsSome (item_in r m.source)) moves) h.2 sources in
    let behind : IsPool (carried_out (with_merge_planned p plan) plan) =
    subst (λ (r : PoolState). IfSome r.plan (λ x. IsPool (carried_out r x))) h.2 k in
    let targets = planned_within t (lives_by t) p plan known h.1 behind
    (subst (All (λ (m : Move). IsSome (item_in p m.source))) are starts) in (
      sources_within t p moves known starts,
      subst (All (λ (m : Move). IfSome m.target (IsWithin t.sizes))) (sym are) targets,
    )

-- what is known behind `merge_next`
pub merge_done : (t : Marks) (p q after : PoolState) (moves : List Move) → KnowsPool t p → IsPlanned t p q
    → moves ≡ planned_moves q.plan → All (λ m. IsSome (item_in q m.source)) moves
    → IfSome q.plan (λ plan. after ≡ carried_out q plan) → IsPool after
    → KnowsPool (carried_marks t moves) after × (after.sizes ≡ p.sizes)
merge_done t p q after moves known h e sources done k =
    let plan = h.0 in
    let are : moves ≡ plan.moves = e ∙ ap (λ r. planned_moves r.plan) h.2 in
    let starts : All (λ m. IsSome (item_in p m.source)) moves =
    subst (λ r. All (λ (m : Move). IsSome (item_in r m.source)) moves) h.2 sources in
    let is : after ≡ carried_out (with_merge_planned p plan) plan =
    subst (λ (r : PoolState). IfSome r.plan (λ x. after ≡ carried_out r x)) h.2 done in
    let c = carried (lives_by t) p plan after known.pool h.1 is in (
      subst (λ ms. KnowsPool (carried_marks t ms) after) (sym are)
          (knows_carried t p plan after known k h.1 c
          (subst (All (λ (m : Move). IsSome (item_in p m.source))) are starts)),
      c.sizes,
    )
