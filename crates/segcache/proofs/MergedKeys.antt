-- The keys that a merge forgets are those of the items that it doesn't keep; and what a clearing
-- forgets.
use Rattle.std.proofs.Common.{◌≡◌, ℕ, ◌+◌, Bool, true, false, List, [], ◌∷◌, length, map, Some, None, refl, sym, ap, ◌∙◌, subst, inl}
use Rattle.std.proofs.Common.{inr, arith}
use Rattle.std.specs.Prelude.{IsSome, All, filter, not, is_some, if◌then◌else◌}
use Rattle.std.proofs.lemmas.Bool.{cases_Bool, leb-true}
use Rattle.std.proofs.lemmas.List.{length-take}
use Rattle.std.proofs.lemmas.List.Elements.{All-nil, All-cons, All-head, All-tail, All-map, All-filter}
use Rattle.proto.specs.Steps.{without_keys}
use Rattle.segments.specs.declared.place.Place.{Place}
use Rattle.segments.specs.declared.place.Move.{Move}
use Rattle.segments.specs.Items.{size_of_item}
use Rattle.segments.specs.Pools.{PoolState, IsPool, Plan, Liveness, Standing, segment_at, standing, live_standing}
use Rattle.segments.specs.Changes.{without_segment}
use Rattle.segments.specs.Places.{moved_by}
use Rattle.segments.specs.Merges.{IsPlan, IsVictim, Judged, NoneQualifies, moves_into, merged_segments, first_of_list, live_items, carried_items}
use Rattle.segments.specs.Rules.{most_merged}
use Rattle.segments.specs.Chains.{front}
use Rattle.segments.proofs.FrontLemmas.{most_two}
use Rattle.segments.proofs.PlanLemmas.{standing_in, plan_after}
use Rattle.segments.specs.Marks.{Marks, is_marked, lives_by}
use Rattle.index.specs.Table.{Table}
use Rattle.index.specs.Relocating.{AreInTurn}
use Rattle.index.proofs.MoveOrder.{plan_in_turn}
use Rattle.segcache.specs.Shown.{current, shown_entries}
use Rattle.segcache.specs.Invariants.{IsTied}
use Rattle.segcache.specs.Removals.{HasLeft}
use Rattle.segcache.specs.ForgottenKeys.{IsEvicted}
use Rattle.segcache.proofs.LeftPlaces.{standing_all}
use Rattle.segcache.proofs.EvictedKeys.{IsCurrent, key_in, left_entries, current_among, cleared_stayed}
use Rattle.segcache.proofs.MergedMarks.{IsMergeRelocated, moved_at}
use Rattle.segcache.proofs.MergedRoom.{lost, live_current, merged_stayed}
use Rattle.segcache.proofs.ForgottenKeys.{merged_replanned}

-- ---- which judged items go nowhere

-- where a move starts, and whether it goes anywhere
abbrev going : Move → Place × Bool
going m = (m.source, is_some m.target)

-- where a judged item stands, and whether it is kept
abbrev keeping : Judged → Place × Bool
keeping j = (j.place, j.is_kept)

-- with a move in front that goes somewhere exactly where a test holds, a list of moves has its
-- source and the test in front
going_by : (n offset : ℕ) (b : Bool) (source : Place) (xs ys : List Move) (zs : List (Place × Bool)) → map going xs ≡ zs
    → map going ys ≡ zs
    → map going
    (if b then record {
      source = source;
      target = Some (record { segment = n; offset = offset });
    } ∷ xs else record { source = source; target = None } ∷ ys)
    ≡ (source, b) ∷ zs
going_by n offset true source xs ys zs e f = ap (λ ps. (source, true) ∷ ps) e
going_by n offset false source xs ys zs e f = ap (λ ps. (source, false) ∷ ps) f

-- a judged item's move goes somewhere exactly where the item is kept
judged_going : (n offset : ℕ) (js : List Judged) → map going (moves_into n offset js) ≡ map keeping js
judged_going n offset [] = refl
judged_going n offset (j ∷ js) =
    going_by n offset j.is_kept j.place (moves_into n (offset + size_of_item j.item) js) (moves_into n offset js)
    (map keeping js)
    (judged_going n (offset + size_of_item j.item) js) (judged_going n offset js)

-- what holds of all values of a function on a list holds of the value at each element
all_of : {X Y : Type 0} (P : X → Type 0) (f : Y → X) (ys : List Y) → All P (map f ys) → All (λ y. P (f y)) ys
all_of P f [] all = All-nil (λ y. P (f y))
all_of P f (y ∷ ys) all = All-cons (λ x. P (f x)) y ys (All-head P (f y) (map f ys) all)
    (all_of P f ys (All-tail P (f y) (map f ys) all))

-- moves that go somewhere exactly where the judged item of the same turn is kept put an item's
-- place somewhere exactly where it is kept
kept_judged : (moves : List Move) (js : List Judged) → AreInTurn moves → map going moves ≡ map keeping js
    → All (λ j. is_some (moved_by moves j.place) ≡ j.is_kept) js
kept_judged moves js turn e =
    let P : Place × Bool → Type 0 = λ x. is_some (moved_by moves x.0) ≡ x.1 in
    let each : All (λ m. P (going m)) moves = λ k d lt. ap is_some (moved_at moves k d turn lt) in
    all_of P keeping js (subst (All P) e (All-map P going moves each))

-- so the lost ones are those that aren't kept
lost_keys : (moves : List Move) (js : List Judged) → All (λ j. is_some (moved_by moves j.place) ≡ j.is_kept) js
    → map key_in (lost moves (map standing_in js)) ≡ map (λ j. j.item.key) (filter (λ j. not j.is_kept) js)
lost_keys moves [] all = refl
lost_keys moves (j ∷ js) all =
    let here = All-head (λ x. is_some (moved_by moves x.place) ≡ x.is_kept) j js all in
    let rest = lost_keys moves js (All-tail (λ x. is_some (moved_by moves x.place) ≡ x.is_kept) j js all) in
    elim (cases_Bool j.is_kept) [
      | inl y ↦ (let z : is_some (moved_by moves j.place) ≡ true = here ∙ y in rw (z, y) rest)
      | inr n ↦ (let z : is_some (moved_by moves j.place) ≡ false = here ∙ n in
          rw (z, n) (ap (λ ks. j.item.key ∷ ks) rest))
    ]

-- A merge by which the index was relocated evicts, and forgets exactly those keys, also by a test
-- that says the same of the items of the merged segments.
pub merged_evicted : (lives : Liveness) (p : PoolState) (plan : Plan) (after : PoolState) (index found : Table)
    (marks : Marks) (t : ℕ) → IsMergeRelocated p plan after index found marks → (h : IsPlan lives p plan)
    → live_items lives p (merged_segments p plan.choice) ≡ live_items (lives_by marks) p (merged_segments p plan.choice)
    → IsEvicted lives p index t after found
merged_evicted lives p plan after index found marks t w h same =
    let numbers = merged_segments p plan.choice in
    let all = live_items (lives_by marks) p numbers in
    let ss = lost plan.moves all in
    let turn = plan_in_turn lives p plan w.tied.known.pool h in
    let kept = kept_judged plan.moves h.judged turn
    (ap (map going) h.moves_are ∙ judged_going (first_of_list numbers) 0 h.judged) in
    let keys : map key_in ss ≡ map (λ j. j.item.key) (filter (λ j. not j.is_kept) h.judged) =
    ap (λ xs. map key_in (lost plan.moves xs)) (sym (h.is_judged.all_live ∙ same)) ∙ lost_keys plan.moves h.judged kept in
    let long = leb-true 2 (length (front p plan.choice)) h.next.qualifying in
    let four = length-take (most_merged p.eviction plan.choice.bucket) (front p plan.choice) in
    let two = most_two p.eviction plan.choice.bucket in
    record {
      evicted = inl (record {
        choice = plan.choice;
        next = h.next;
        judged = h.judged;
        is_judged = h.is_judged;
        after_is = w.after_is ∙ sym (merged_replanned p (Some plan) plan.choice numbers (carried_items p plan.moves)
            (omega (arith, long, four, two)))
            ∙ plan_after lives p plan h;
      });
      entries = left_entries p index after found t ss
          (All-filter (λ (s : Standing). not (is_some (moved_by plan.moves s.place))) (IsCurrent p index) all
          (live_current p index marks numbers w.tied))
          (merged_stayed p plan after index found marks w)
          ∙ ap (without_keys (shown_entries p index t)) keys;
    }

-- where nothing can be merged, the segment that is evicted is cleared, and exactly its keys are
-- forgotten, also by a test that says the same of its items
pub cleared_evicted : (lives : Liveness) (p after : PoolState) (n : ℕ) (index found : Table) (marks others : Marks)
    (t : ℕ) → live_standing lives p n ≡ live_standing (lives_by marks) p n → IsTied p index marks
    → IsTied p found others → IsPool after → after ≡ without_segment p n
    → IsSome (segment_at p n) → HasLeft n (current p index) (current p found) → IsVictim p n
    → NoneQualifies p
    → IsEvicted lives p index t after found
cleared_evicted lives p after n index found marks others t same tied left pool is some h victim none =
    record {
      evicted = inr (record { none_qualifies = none; segment = n; is_victim = victim; after_is = is });
      entries = left_entries p index after found t
          (filter (λ (s : Standing). is_marked marks s.place) (standing p n))
          (current_among p index marks (standing p n) tied (λ k d lt. (standing_all p n k d lt).1))
          (cleared_stayed p after n index found marks others tied left pool is some h)
          ∙ ap (λ (ss : List Standing). without_keys (shown_entries p index t) (map key_in ss)) (sym same);
    }
