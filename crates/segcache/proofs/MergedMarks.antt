-- What ties pool, index and marks together, after a merge by which the index was relocated and the
-- marks carried.
use Rattle.std.proofs.Common.{◌≡◌, ℕ, zero, suc, ◌*◌, ◌/◌, ◌<◌, ◌≤◌, Bool, true, false, List, [], ◌∷◌, length, get_or, Option}
use Rattle.std.proofs.Common.{Some, None, refl, sym, ap, subst, ◌∙◌, inl, inr, arith}
use Rattle.std.specs.Prelude.{IsSome, IfSome, All, option_map, option_and_then, if◌then◌else◌}
use Rattle.std.specs.List.{list_any}
use Rattle.std.specs.Option.{option_map_or}
use Rattle.std.specs.FinMap as finite
use Rattle.std.proofs.lemmas.Bool.{cases_Bool, false≢true, or_left, or_right, or_parts}
use Rattle.std.proofs.lemmas.Option.{option_and_then_some}
use Rattle.std.proofs.lemmas.List.Folds.{Any-from_list_any}
use Rattle.std.proofs.lemmas.List.Elements.{All-head, All-tail}
use Rattle.proto.specs.Sizes.{Sizes}
use Rattle.segments.specs.declared.place.Place.{Place}
use Rattle.segments.specs.declared.place.Move.{Move}
use Rattle.segments.specs.Items.{Item, with_reads_halved}
use Rattle.segments.specs.Pools.{PoolState, Plan, IsPool, Liveness, item_in, place_deadline}
use Rattle.segments.specs.Places.{same_place, moved_by, FollowsPlan}
use Rattle.segments.specs.Merges.{IsPlan, with_merge_planned, carried_out, planned_moves, merged_segments, contains_number}
use Rattle.segments.proofs.MovedPlaces.{carried, moved_other, live_source, same_place_is, same_place_itself}
use Rattle.segments.specs.Marks.{Marks, is_marked, is_mark_of, mark_at, lives_by, carried_marks}
use Rattle.segments.proofs.MarkedPlaces.{carried_at, is_target_of, mark_found, knows_carried, sources_within, targets_within}
use Rattle.index.specs.Keys.{KeysOf}
use Rattle.segments.specs.Pools.{key_at}
use Rattle.index.specs.Layouts.{IsLayoutOf}
use Rattle.index.specs.Table.{Table, IsSameSize}
use Rattle.index.specs.Relocating.{IsRelocated, CanRelocate, HoldsLive, AreInTurn, keys_after_merge}
use Rattle.index.proofs.RelocatablePlans.{StandsLive, starts_live, plan_relocates}
use Rattle.index.proofs.MoveOrder.{plan_in_turn}
use Rattle.index.proofs.SlotsAsMap.{stands_from_get}
use Rattle.segcache.specs.Shown.{current}
use Rattle.segcache.specs.Invariants.{IsTied}
use Rattle.segcache.specs.PlannedMerges.{HasPlan}
use Rattle.segcache.proofs.TiedParts.{current_item, same_mark, held_place, mark_itself, one_place}
use Rattle.segments.proofs.MarkedPlaces.{kept_mark}

-- ---- a pool with another plan

-- a plan stays one where the pool has it
pub planned_again : (lives : Liveness) (p : PoolState) (plan : Plan) → IsPlan lives p plan
    → IsPlan lives (with_merge_planned p plan) plan
planned_again lives p plan h =
    record {
      next = record { in_range = h.next.in_range; qualifying = h.next.qualifying; next = h.next.next };
      judged = h.judged;
      is_judged = record { all_live = h.is_judged.all_live; each = h.is_judged.each };
      moves_are = h.moves_are;
    }

-- a pool that has a plan is the pool with this plan
pub has_planned : (p : PoolState) (plan : Plan) → p.plan ≡ Some plan → p ≡ with_merge_planned p plan
has_planned p plan e = ap (λ (o : Option Plan). record p { plan = o }) e

-- ---- where moves put places

-- the first of the moves that start at a place is the only one
pub moved_at : (moves : List Move) (k : ℕ) (d : Move) → AreInTurn moves → k < length moves
    → moved_by moves (get_or moves k d).source ≡ (get_or moves k d).target
moved_at [] k d turn lt = absurd (omega (arith, lt))
moved_at (m ∷ moves) zero d turn lt = let s = same_place_itself m.source in rw s refl
moved_at (m ∷ moves) (suc k) d turn lt =
    let rest = moved_at moves k d turn.1 (omega (arith, lt)) in
    elim (cases_Bool (same_place m.source (get_or moves k d).source)) [
      | inl y ↦ absurd ((turn.0 k d (omega (arith, lt))).0 (same_place_is m.source (get_or moves k d).source y))
      | inr n ↦ rw n rest
    ]

-- where no move starts, all stays
pub unmoved : (moves : List Move) (r : Place) → list_any (λ (m : Move). same_place m.source r) moves ≡ false
    → moved_by moves r ≡ Some r
unmoved [] r h = refl
unmoved (m ∷ moves) r h =
    elim (cases_Bool (same_place m.source r)) [
      | inl y ↦ (let e : true ≡ false = rw y at h in absurd (false≢true (sym e)))
      | inr n ↦ (let later : list_any (λ (x : Move). same_place x.source r) moves ≡ false = rw n at h in
          rw n (unmoved moves r later))
    ]

-- ---- the marks of moves

-- and so has a move's target
target_is : (o : Option Place) (r : Place) → o ≡ Some r
    → option_map_or (λ (place : Place). is_mark_of place r.segment (r.offset / 32)) o false ≡ true
target_is o r e = ap (λ (x : Option Place). option_map_or
    (λ (place : Place). is_mark_of place r.segment (r.offset / 32)) x false) e ∙ mark_itself r

-- the place to which a move's start goes has a target's mark
target_marks : (moves : List Move) (r s : Place) → list_any (λ (m : Move). same_place m.source s) moves ≡ true
    → moved_by moves s ≡ Some r
    → list_any (λ (m : Move). is_target_of m r.segment (r.offset / 32)) moves ≡ true
target_marks [] r s h e = absurd (false≢true h)
target_marks (m ∷ moves) r s h e =
    elim (cases_Bool (same_place m.source s)) [
      | inl y ↦ (let t : m.target ≡ Some r = rw y at e in or_left _ _ (target_is m.target r t))
      | inr n ↦
          let later : list_any (λ (x : Move). same_place x.source s) moves ≡ true = rw n at h in
          let there : moved_by moves s ≡ Some r = rw n at e in
          or_right (is_target_of m r.segment (r.offset / 32)) _ (target_marks moves r s later there)
    ]

-- a move that starts at a place has its mark
start_marks : (moves : List Move) (r : Place) → list_any (λ (m : Move). same_place m.source r) moves ≡ true
    → list_any (λ (m : Move). is_mark_of m.source r.segment (r.offset / 32)) moves ≡ true
start_marks [] r h = absurd (false≢true h)
start_marks (m ∷ moves) r h =
    elim (cases_Bool (same_place m.source r)) [
      | inl y ↦ or_left _ _ (ap (λ (x : Place). is_mark_of x r.segment (r.offset / 32)) (same_place_is m.source r y)
          ∙ mark_itself r)
      | inr n ↦
          let later : list_any (λ (x : Move). same_place x.source r) moves ≡ true = rw n at h in
          or_right (is_mark_of m.source r.segment (r.offset / 32)) _ (start_marks moves r later)
    ]

-- and no other move has it
no_start : (lives : Liveness) (p : PoolState) (moves : List Move) (r : Place) (i : Item) → IsPool p
    → item_in p r ≡ Some i
    → All (λ (m : Move). StandsLive lives p m.source) moves
    → list_any (λ (m : Move). same_place m.source r) moves ≡ false
    → list_any (λ (m : Move). is_mark_of m.source r.segment (r.offset / 32)) moves ≡ false
no_start lives p [] r i k e all h = refl
no_start lives p (m ∷ moves) r i k e all h =
    let parts = or_parts (same_place m.source r) (list_any (λ (x : Move). same_place x.source r) moves) h in
    let here = All-head (λ (x : Move). StandsLive lives p x.source) m moves all in
    let rest = no_start lives p moves r i k e
    (All-tail (λ (x : Move). StandsLive lives p x.source) m moves all) parts.1 in
    elim (cases_Bool (is_mark_of m.source r.segment (r.offset / 32))) [
      | inl y ↦ absurd (false≢true (sym parts.0
          ∙ ap (λ (x : Place). same_place x r) (same_mark p m.source r here.item i k here.stands e y)
          ∙ same_place_itself r))
      | inr n ↦ rw n rest
    ]

-- the target that has a mark
target_place : (o : Option Place) (n k : ℕ) → option_map_or (λ (place : Place). is_mark_of place n k) o false ≡ true
    → (x : Place) × (o ≡ Some x) × (is_mark_of x n k ≡ true)
target_place None n k h = absurd (false≢true h)
target_place (Some x) n k h = (x, refl, h)

-- ---- a merge by which the index was relocated and the marks carried

-- What is known where a planned merge was carried out, the index relocated by it and the marks
-- carried.
pub record IsMergeRelocated (p : PoolState) (plan : Plan) (after : PoolState) (index found : Table)
    (marks : Marks) : Type 0 where
  pub tied : IsTied p index marks
  pub is_plan : IsPlan (lives_by marks) p plan
  pub after_is : after ≡ carried_out p plan
  pub out : FollowsPlan p plan after
  pub pool : IsPool after
  pub relocated : IsRelocated (key_at p) (key_at after) (moved_by plan.moves) index found
  pub size : IsSameSize index found

-- each move starts where an item stands
some_starts : (marks : Marks) (p : PoolState) (plan : Plan) → IsPlan (lives_by marks) p plan
    → All (λ (m : Move). IsSome (item_in p m.source)) plan.moves
some_starts marks p plan h k d lt = let s = starts_live (lives_by marks) p plan h k d lt in
    subst IsSome (sym s.stands) refl

-- a mark stays that is no start's
mark_kept : (a b x : Bool) → b ≡ false → x ≡ true → (if a then true else (if b then false else x)) ≡ true
mark_kept true b x e f = refl
mark_kept false true x e f = absurd (false≢true (sym e))
mark_kept false false x e f = f

-- two items that are equal as options are equal
one_item : {a b : Item} → Some a ≡ Some b → a ≡ b
one_item e = cc

-- a mark after the merge
mark_now : (p : PoolState) (plan : Plan) (after : PoolState) (index found : Table) (marks : Marks)
    → IsMergeRelocated p plan after index found marks
    → (r : Place)
    → is_marked (carried_marks marks plan.moves) r
    ≡ (if list_any (λ (m : Move). is_target_of m r.segment (r.offset / 32)) plan.moves then true
    else (if list_any (λ (m : Move). is_mark_of m.source r.segment (r.offset / 32)) plan.moves then false
    else is_marked marks r))
mark_now p plan after index found marks w r =
    let some = some_starts marks p plan w.is_plan in
    carried_at marks plan.moves r.segment (r.offset / 32) w.tied.known.sized
    (sources_within marks p plan.moves w.tied.known some)
    (targets_within marks p plan after w.tied.known w.pool w.out some)

-- a current place after the merge is marked
held_now : (p : PoolState) (plan : Plan) (after : PoolState) (index found : Table) (marks : Marks)
    → IsMergeRelocated p plan after index found marks
    → (q : List ℕ) (s r : Place)
    → finite.get (current p index) q ≡ Some s → moved_by plan.moves s ≡ Some r
    → is_marked (carried_marks marks plan.moves) r ≡ true
held_now p plan after index found marks w q s r e m =
    elim (cases_Bool (list_any (λ (x : Move). same_place x.source s) plan.moves)) [
      | inl y ↦ (let z = target_marks plan.moves r s y m in mark_now p plan after index found marks w r ∙ rw z refl)
      | inr n ↦
          let same : s ≡ r = one_place (sym (unmoved plan.moves s n) ∙ m) in
          let x = current_item p index q s e in
          let free = no_start (lives_by marks) p plan.moves s x.0 w.tied.known.pool x.1
          (starts_live (lives_by marks) p plan w.is_plan) n in
          ap (is_marked (carried_marks marks plan.moves)) (sym same) ∙ mark_now p plan after index found marks w s
          ∙ mark_kept (list_any (λ (x : Move). is_target_of x s.segment (s.offset / 32)) plan.moves)
          (list_any (λ (x : Move). is_mark_of x.source s.segment (s.offset / 32)) plan.moves) (is_marked marks s) free
          (w.tied.held q s e)
    ]

-- an item at a target is current
target_current : (p : PoolState) (plan : Plan) (after : PoolState) (index found : Table) (marks : Marks)
    → IsMergeRelocated p plan after index found marks
    → (r : Place) (i : Item)
    → item_in after r ≡ Some i → list_any (λ (m : Move). is_target_of m r.segment (r.offset / 32)) plan.moves ≡ true
    → finite.get (current after found) i.key ≡ Some r
target_current p plan after index found marks w r i e h =
    let moves = plan.moves in
    let a = Any-from_list_any (λ (m : Move). is_target_of m r.segment (r.offset / 32)) moves h in
    let m = get_or moves a.0 a.1 in
    let x = target_place m.target r.segment (r.offset / 32)
    (ap (λ (y : Move). is_target_of y r.segment (r.offset / 32)) a.3 ∙ a.4) in
    let start = starts_live (lives_by marks) p plan w.is_plan a.0 a.1 a.2 in
    let moved : (item_in after x.0 ≡ option_map (with_reads_halved p.eviction) (item_in p m.source))
    × (place_deadline after x.0 ≡ place_deadline p m.source) =
    subst (λ (o : Option Place). IfSome o
    (λ place. (item_in after place ≡ option_map (with_reads_halved p.eviction) (item_in p m.source))
    × (place_deadline after place ≡ place_deadline p m.source))) x.1
    (w.out.moved a.0 a.1 a.2) in
    let there : item_in after x.0 ≡ Some (with_reads_halved p.eviction start.item) = moved.0
    ∙ ap (option_map (with_reads_halved p.eviction)) start.stands in
    let same = same_mark after x.0 r (with_reads_halved p.eviction start.item) i w.pool there e x.2 in
    let item = one_item (sym there ∙ ap (item_in after) same ∙ e) in
    let key : start.item.key ≡ i.key = ap (λ (y : Item). y.key) item in
    w.relocated.places i.key ∙ ap (option_and_then (moved_by moves))
    (ap (finite.get (current p index)) (sym key) ∙ w.tied.marked m.source start.item start.stands start.live)
    ∙ moved_at moves a.0 a.1 (plan_in_turn (lives_by marks) p plan w.tied.known.pool w.is_plan) a.2 ∙ x.1 ∙ ap Some same

-- and so is one that was marked and isn't where a move starts
other_current : (p : PoolState) (plan : Plan) (after : PoolState) (index found : Table) (marks : Marks)
    → IsMergeRelocated p plan after index found marks
    → (r : Place) (i : Item)
    → item_in after r ≡ Some i → list_any (λ (m : Move). is_mark_of m.source r.segment (r.offset / 32)) plan.moves
    ≡ false → is_marked marks r ≡ true
    → finite.get (current after found) i.key ≡ Some r
other_current p plan after index found marks w r i e free h =
    let moves = plan.moves in
    let x = mark_found p r.segment (r.offset / 32) (w.tied.known.each r.segment (r.offset / 32) h) in
    let j = some_of (item_in p x.place) x.stands in
    let is : is_marked marks x.place ≡ true =
    ap (λ (n : ℕ). mark_at marks n (x.place.offset / 32)) x.segment ∙ ap (mark_at marks r.segment) x.offset ∙ h in
    let apart : list_any (λ (m : Move). is_mark_of m.source x.place.segment (x.place.offset / 32)) moves ≡ false =
    ap (λ (n : ℕ). list_any (λ (m : Move). is_mark_of m.source n (x.place.offset / 32)) moves) x.segment
    ∙ ap (λ (n : ℕ). list_any (λ (m : Move). is_mark_of m.source r.segment n) moves) x.offset ∙ free in
    elim (cases_Bool (contains_number (merged_segments p plan.choice) x.place.segment)) [
      | inl y ↦ absurd (false≢true (sym apart
          ∙ start_marks moves x.place (live_source (lives_by marks) p plan x.place j.0 w.is_plan j.1 is y)))
      | inr n ↦
          let o = moved_other p plan after x.place w.out n in
          let there : item_in after x.place ≡ Some j.0 = o.1 ∙ j.1 in
          let mark : is_mark_of x.place r.segment (r.offset / 32) ≡ true =
          ap (λ (a : ℕ). is_mark_of x.place a (r.offset / 32)) (sym x.segment)
          ∙ ap (is_mark_of x.place x.place.segment) (sym x.offset)
          ∙ mark_itself x.place in
          let same = same_mark after x.place r j.0 i w.pool there e mark in
          let key : j.0.key ≡ i.key = ap (λ (y : Item). y.key) (one_item (sym there ∙ ap (item_in after) same ∙ e)) in
          w.relocated.places i.key ∙ ap (option_and_then (moved_by moves))
          (ap (finite.get (current p index)) (sym key) ∙ w.tied.marked x.place j.0 j.1 is)
          ∙ o.0 ∙ ap Some same
    ]
  where
    some_of : (o : Option Item) → IsSome o → (y : Item) × (o ≡ Some y)
    some_of None h = absurd (false≢true h)
    some_of (Some y) h = (y, refl)

-- all stays tied
pub tied_merged : (p : PoolState) (plan : Plan) (after : PoolState) (index found : Table) (marks : Marks)
    → IsMergeRelocated p plan after index found marks
    → IsTied after found (carried_marks marks plan.moves)
tied_merged p plan after index found marks w =
    record {
      known = knows_carried marks p plan after w.tied.known w.pool w.is_plan w.out (some_starts marks p plan w.is_plan);
      indexed = w.relocated.index;
      held = λ q r h. option_and_then_some (moved_by plan.moves) (finite.get (current p index) q) r
          (sym (w.relocated.places q) ∙ h)
          (λ s e m. held_now p plan after index found marks w q s r e m);
      marked = λ r i e h.
          (let at = sym (mark_now p plan after index found marks w r) ∙ h in
          elim (cases_Bool (list_any (λ (m : Move). is_target_of m r.segment (r.offset / 32)) plan.moves)) [
            | inl y ↦ target_current p plan after index found marks w r i e y
            | inr n ↦
                let was = kept_mark (list_any (λ (m : Move). is_target_of m r.segment (r.offset / 32)) plan.moves)
                (list_any (λ (m : Move). is_mark_of m.source r.segment (r.offset / 32)) plan.moves)
                (is_marked marks r) n at in
                other_current p plan after index found marks w r i e was.0 was.1
          ]);
      roomy = subst (λ (n : ℕ). 2 * (after.sizes.segments * (after.sizes.segment_size / 32)) ≤ n) (sym w.size.count)
          (subst (λ (s : Sizes). 2 * (s.segments * (s.segment_size / 32)) ≤ index.room)
          (sym w.out.sizes) w.tied.roomy);
      layout = subst (IsLayoutOf after.sizes) (sym w.size.layout)
          (subst (λ (s : Sizes). IsLayoutOf s index.layout) (sym w.out.sizes) w.tied.layout);
    }

-- ---- the calls of a merge

-- the index holds the places of the marked items
holds_marked : (p : PoolState) (index : Table) (marks : Marks) → IsTied p index marks
    → HoldsLive (lives_by marks) p index
holds_marked p index marks tied =
    record {
      live = λ r i h e. (let k = held_place (key_at p) index r tied.indexed h in tied.held k.0 r k.1);
      held = λ r i e h. (let s = stands_from_get (key_at p) index.slots i.key r
          (tied.marked r i e h) in record { at = s.at; in_range = s.in_range; used = s.used; place_is = s.place_is });
    }

-- what relocating requires
pub can_relocate : (p : PoolState) (index : Table) (marks : Marks) → IsTied p index marks → HasPlan (lives_by marks) p
    → IfSome p.plan (λ plan. IsPool (carried_out p plan))
    → CanRelocate (key_at p) (keys_after_merge p) index (planned_moves p.plan)
can_relocate p index marks tied h behind =
    let is = has_planned p h.plan h.planned in
    let pool : IsPool (carried_out p h.plan) =
    subst (λ (o : Option Plan). IfSome o (λ plan. IsPool (carried_out p plan))) h.planned behind in
    subst (λ (r : PoolState). CanRelocate (key_at r) (keys_after_merge r) index (planned_moves r.plan)) (sym is)
    (plan_relocates (lives_by marks) p h.plan index tied.known.pool h.is_plan
    (subst (λ (r : PoolState). IsPool (carried_out r h.plan)) is pool) tied.layout tied.indexed
    (holds_marked p index marks tied))

-- what is known after all calls
pub merge_relocated : (p after : PoolState) (index found : Table) (marks : Marks) → IsTied p index marks
    → (h : HasPlan (lives_by marks) p)
    → IfSome p.plan (λ plan. after ≡ carried_out p plan) → IsPool after
    → IsRelocated (key_at p) (keys_after_merge p) (moved_by (planned_moves p.plan)) index found → IsSameSize index found
    → IsMergeRelocated p h.plan after index found marks
merge_relocated p after index found marks tied h merged pool f size =
    let is : after ≡ carried_out p h.plan =
    subst (λ (o : Option Plan). IfSome o (λ plan. after ≡ carried_out p plan)) h.planned merged in
    let keys : keys_after_merge p ≡ key_at after =
    ap (λ (o : Option Plan). option_map_or (λ plan. key_at (carried_out p plan)) o (key_at p)) h.planned
    ∙ ap key_at (sym is) in
    record {
      tied = tied;
      is_plan = h.is_plan;
      after_is = is;
      out = carried (lives_by marks) p h.plan after tied.known.pool h.is_plan
          (is ∙ ap (λ (r : PoolState). carried_out r h.plan) (has_planned p h.plan h.planned));
      pool = pool;
      relocated = subst (λ (k : KeysOf). IsRelocated (key_at p) k (moved_by h.plan.moves) index found) keys
          (subst (λ (moves : List Move). IsRelocated (key_at p) (keys_after_merge p) (moved_by moves) index found)
          (ap planned_moves h.planned) f);
      size = size;
    }
