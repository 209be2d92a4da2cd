-- The segments of the merge that is planned, and that merge once expired items have left them.
use Rattle.std.proofs.Common.{◌≡◌, ℕ, ◌+◌, ◌<◌, Bool, true, false, List, [], ◌∷◌, take, length, get_or, Option, Some, None, sym, ap, subst, ◌∙◌}
use Rattle.std.proofs.Common.{arith, refl}
use Rattle.std.specs.Prelude.{◌||◌, ◌==◌, IsSome}
use Rattle.std.specs.Option.{option_map_or}
use Rattle.std.proofs.lemmas.Bool.{eq-eqb}
use Rattle.std.proofs.lemmas.List.{take_more}
use Rattle.std.proofs.lemmas.List.Folds.{list_any-append}
use Rattle.proto.specs.Cache.{Entries}
use Rattle.proto.specs.Steps.{without_keys}
use Rattle.segments.specs.Pools.{PoolState, IsPool, Plan, Liveness, segment_at}
use Rattle.segments.specs.Changes.{without_segment}
use Rattle.segments.specs.Merges.{contains_number, merged_segments, planned_segments, IsVictim, NoneQualifies}
use Rattle.segments.specs.Marks.{Marks, lives_by}
use Rattle.segments.proofs.LinkLemmas.{times_at}
use Rattle.segments.proofs.MovedPlaces.{merged_in_chain}
use Rattle.segments.proofs.AgreeingTests.{same_plan_at, same_items_at, same_standing_at}
use Rattle.index.specs.Table.{Table}
use Rattle.segcache.specs.Shown.{current}
use Rattle.segcache.specs.State.{MapState, IsSegmentedMap}
use Rattle.segcache.specs.Invariants.{IsTied, IsPast}
use Rattle.segcache.specs.LiveItems.{live_marks}
use Rattle.segcache.specs.Removals.{HasLeft, HaveArrivedLeft, HaveExpiredLeft}
use Rattle.segcache.specs.PlannedMerges.{HasPlan}
use Rattle.segcache.specs.Room.{IsCrowded, IsRoomMade}
use Rattle.segcache.specs.ForgottenKeys.{IsEvicted, keys_evicted}
use Rattle.segcache.proofs.LeftPlaces.{left_more, left_none}
use Rattle.segcache.proofs.RoomMade.{swept_left, swept_evicted, crowded_left}
use Rattle.segcache.proofs.EvictedKeys.{cleared_made}
use Rattle.segcache.proofs.MergedMarks.{IsMergeRelocated}
use Rattle.segcache.proofs.MergedRoom.{merged_made}
use Rattle.segcache.proofs.MergedKeys.{merged_evicted, cleared_evicted}
use Rattle.segcache.proofs.ForgottenKeys.{expired_agree_at}

-- they are segments of the pool
within_by : (p : PoolState) (o : Option Plan) (k d : ℕ) → IsPool p
    → k < length (option_map_or (λ (plan : Plan). merged_segments p plan.choice) o [])
    → get_or (option_map_or (λ (plan : Plan). merged_segments p plan.choice) o []) k d < p.sizes.segments
within_by p None k d pool lt = absurd (omega (arith, lt))
within_by p (Some plan) k d pool lt =
    let numbers = merged_segments p plan.choice in
    let x = merged_in_chain p plan.choice (get_or numbers k d) (times_at numbers k d lt) in
    let within = x.within in
    let count = pool.count in
    omega (arith, within, count)

pub planned_within : (p : PoolState) (k d : ℕ) → IsPool p → k < length (planned_segments p)
    → get_or (planned_segments p) k d < p.sizes.segments
planned_within p k d pool lt = within_by p p.plan k d pool lt

-- the first ones with the next one behind them
pub contains_more : (numbers : List ℕ) (k d m : ℕ) → k < length numbers
    → contains_number (take (k + 1) numbers) m ≡ contains_number (take k numbers) m || (get_or numbers k d == m)
contains_more numbers k d m lt =
    ap (λ xs. contains_number xs m) (take_more numbers k d lt)
    ∙ list_any-append (λ n. n == m) (take k numbers) (get_or numbers k d ∷ [])
    ∙ ap (λ b. contains_number (take k numbers) m || b) (one (get_or numbers k d == m))
  where
    one : (b : Bool) → (b || false) ≡ b
    one true = refl
    one false = refl

-- they are those of the plan
pub planned_are : (lives : Liveness) (p : PoolState) (h : HasPlan lives p)
    → planned_segments p ≡ merged_segments p h.plan.choice
planned_are lives p h = ap (λ (o : Option Plan). option_map_or (λ plan. merged_segments p plan.choice) o []) h.planned

-- once the expired items have left them, the plan is that of the marked items
pub plan_left : (p : PoolState) (index found : Table) (marks others : Marks) (t : ℕ) → IsTied p index marks
    → IsTied p found others
    → HaveExpiredLeft p t (contains_number (planned_segments p)) (current p index) (current p found)
    → HasPlan (live_marks marks t) p → HasPlan (lives_by others) p
plan_left p index found marks others t tied left gone h =
    record {
      plan = h.plan;
      planned = h.planned;
      is_plan = same_plan_at p h.plan (live_marks marks t) (lives_by others)
          (λ n is_so. expired_agree_at p n index found marks others t (contains_number (planned_segments p)) tied left gone
          (ap (λ numbers. contains_number numbers n) (planned_are (live_marks marks t) p h) ∙ is_so)) h.is_plan;
    }

-- ---- the merge once the expired items have left

-- What is known of a map whose merge is planned, and of what is left of it once expired items have
-- left the segments that are merged.
pub record AsksMerge (old left : MapState) : Type 0 where
  pub was : IsTied left.pool old.index old.marks
  pub tied : IsTied left.pool left.index left.marks
  pub gone : HaveExpiredLeft left.pool left.moment (contains_number (planned_segments left.pool))
      (current left.pool old.index) (current left.pool left.index)
  pub asked : HasPlan (live_marks old.marks left.moment) left.pool
  pub crowded : IsCrowded left.pool old.index left.moment

pub asks_merge : (old left : MapState) → IsSegmentedMap old → IsSegmentedMap left → left.pool ≡ old.pool
    → left.moment ≡ old.moment
    → HaveExpiredLeft old.pool old.moment (contains_number (planned_segments old.pool)) (current old.pool old.index)
    (current left.pool left.index)
    → HasPlan (live_marks old.marks old.moment) old.pool → IsCrowded old.pool old.index old.moment → AsksMerge old left
asks_merge old left was kept pool moment gone asked crowded =
    let p = left.pool in
    let P : PoolState → ℕ → Type 0 = λ q t.
    HaveExpiredLeft q t (contains_number (planned_segments q)) (current q old.index) (current p left.index) in
    record {
      was = subst (λ (q : PoolState). IsTied q old.index old.marks) (sym pool) was.tied;
      tied = kept.tied;
      gone = subst (λ (t : ℕ). P p t) (sym moment) (subst (λ (q : PoolState). P q old.moment) (sym pool) gone);
      asked = subst (λ (t : ℕ). HasPlan (live_marks old.marks t) p) (sym moment)
          (subst (λ (q : PoolState). HasPlan (live_marks old.marks old.moment) q) (sym pool) asked);
      crowded = subst (λ (t : ℕ). IsCrowded p old.index t) (sym moment)
          (subst (λ (q : PoolState). IsCrowded q old.index old.moment) (sym pool) crowded);
    }

-- the plan is that of the marked items
pub left_plan : (old left : MapState) → AsksMerge old left → HasPlan (lives_by left.marks) left.pool
left_plan old left a = plan_left left.pool old.index left.index old.marks left.marks left.moment a.was a.tied a.gone a.asked

-- room is made
pub merge_made : (old left : MapState) (after : PoolState) (found : Table) → (a : AsksMerge old left)
    → IsMergeRelocated left.pool (left_plan old left a).plan after left.index found left.marks
    → IsRoomMade left.pool old.index left.moment after found
unfolding left_plan plan_left
merge_made old left after found a w =
    let p = left.pool in
    let t = left.moment in
    let some = contains_number (planned_segments p) in
    let s = swept_left p old.index left.index left.marks t some a.crowded.past a.tied a.gone in
    swept_evicted p old.index t p left.index left.marks after found s
    (merged_made p a.asked.plan after left.index found left.marks t w
    (λ q r e is_so. a.gone.waiting q r e
    (ap (λ numbers. contains_number numbers r.segment) (planned_are (live_marks old.marks t) p a.asked) ∙ is_so))
    (crowded_left p old.index t p left.index left.marks s a.crowded))

-- and exactly the keys are forgotten of the items that were live and aren't kept
pub merge_evicted : (old left : MapState) (after : PoolState) (found : Table) → (a : AsksMerge old left)
    → IsMergeRelocated left.pool (left_plan old left a).plan after left.index found left.marks
    → IsEvicted (live_marks old.marks left.moment) left.pool old.index left.moment after found
unfolding left_plan plan_left
merge_evicted old left after found a w =
    let p = left.pool in
    let t = left.moment in
    let lives = live_marks old.marks t in
    let some = contains_number (planned_segments p) in
    let s = swept_left p old.index left.index left.marks t some a.crowded.past a.tied a.gone in
    let e = merged_evicted lives p a.asked.plan after left.index found left.marks t w a.asked.is_plan
    (same_items_at p lives (lives_by left.marks) (merged_segments p a.asked.plan.choice)
    (λ n is_so. expired_agree_at p n old.index left.index old.marks left.marks t some a.was a.tied a.gone
    (ap (λ numbers. contains_number numbers n) (planned_are lives p a.asked) ∙ is_so))) in
    record {
      evicted = e.evicted;
      entries = e.entries ∙ ap (λ (es : Entries). without_keys es (keys_evicted lives p after e.evicted)) s.entries;
    }

-- ---- the segment that is evicted once the expired items have left it

-- What is known of a map, of what is left of it once expired items have left a segment, and once
-- all have.
pub record AsksClear (old left cleared : MapState) (n : ℕ) : Type 0 where
  pub was : IsTied old.pool old.index old.marks
  pub mid : IsTied old.pool left.index left.marks
  pub tied : IsTied old.pool cleared.index cleared.marks
  pub first : HaveExpiredLeft old.pool old.moment (λ m. n == m) (current old.pool old.index) (current old.pool left.index)
  pub gone : HasLeft n (current old.pool left.index) (current old.pool cleared.index)

pub asks_clear : (old left cleared : MapState) (n : ℕ) → IsSegmentedMap old → IsSegmentedMap left → IsSegmentedMap cleared
    → left.pool ≡ old.pool → cleared.pool ≡ left.pool
    → HaveArrivedLeft old.pool old.moment n (current old.pool old.index) (current left.pool left.index)
    → HasLeft n (current left.pool left.index) (current cleared.pool cleared.index) → AsksClear old left cleared n
asks_clear old left cleared n was mid kept pool again first gone =
    let p = old.pool in
    let same : cleared.pool ≡ p = again ∙ pool in
    record {
      was = was.tied;
      mid = subst (λ (q : PoolState). IsTied q left.index left.marks) pool mid.tied;
      tied = subst (λ (q : PoolState). IsTied q cleared.index cleared.marks) same kept.tied;
      first = left_more p old.moment n (λ m. false) (λ m. n == m) (current p old.index) (current p old.index)
          (current p left.index) (left_none p old.moment (λ m. false) (current p old.index) (λ m. refl))
          (subst (λ (q : PoolState). HaveArrivedLeft p old.moment n (current p old.index) (current q left.index)) pool first)
          (λ m. refl);
      gone = subst (λ (q : PoolState). HasLeft n (current p left.index) (current q cleared.index)) same
          (subst (λ (q : PoolState). HasLeft n (current q left.index) (current cleared.pool cleared.index)) pool gone);
    }

-- room is made
pub clear_made : (old left cleared : MapState) (n : ℕ) (after : PoolState) → AsksClear old left cleared n
    → IsPool after → after ≡ without_segment old.pool n → IsSome (segment_at old.pool n)
    → IsCrowded old.pool old.index old.moment → IsRoomMade old.pool old.index old.moment after cleared.index
clear_made old left cleared n after a pool is some crowded =
    let p = old.pool in
    let t = old.moment in
    let s = swept_left p old.index left.index left.marks t (λ m. n == m) crowded.past a.mid a.first in
    swept_evicted p old.index t p left.index left.marks after cleared.index s
    (cleared_made p after n left.index cleared.index left.marks cleared.marks t a.mid a.tied pool is some a.gone
    (λ q r e same. a.first.waiting q r e (eq-eqb n r.segment (sym same)))
    (crowded_left p old.index t p left.index left.marks s crowded))

-- and exactly the keys of its live items are forgotten
pub clear_evicted : (old left cleared : MapState) (n : ℕ) (after : PoolState) → AsksClear old left cleared n
    → IsPool after → after ≡ without_segment old.pool n → IsSome (segment_at old.pool n) → IsVictim old.pool n
    → NoneQualifies old.pool → IsPast old.pool old.moment
    → IsEvicted (live_marks old.marks old.moment) old.pool old.index old.moment after cleared.index
clear_evicted old left cleared n after a pool is some victim none past =
    let p = old.pool in
    let t = old.moment in
    let lives = live_marks old.marks t in
    let s = swept_left p old.index left.index left.marks t (λ m. n == m) past a.mid a.first in
    let e = cleared_evicted lives p after n left.index cleared.index left.marks cleared.marks t
    (same_standing_at p lives (lives_by left.marks) n
    (expired_agree_at p n old.index left.index old.marks left.marks t (λ m. n == m) a.was a.mid a.first (eq-eqb n n refl)))
    a.mid a.tied pool is some a.gone victim none in
    record {
      evicted = e.evicted;
      entries = e.entries ∙ ap (λ (es : Entries). without_keys es (keys_evicted lives p after e.evicted)) s.entries;
    }
