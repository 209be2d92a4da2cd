-- Items of a segment that leave one after the other, segments whose items leave, and all items at
-- once.
use Rattle.std.proofs.Common.{◌≡◌, ◌≢◌, ℕ, ◌+◌, ◌<◌, ◌≤◌, ◌*◌, ◌/◌, Bool, true, false, List, [], ◌∷◌}
use Rattle.std.proofs.Common.{get_or, Some, refl, sym, ap, subst, ◌∙◌, inl, inr, arith}
use Rattle.std.specs.Prelude.{All, ◌⊎◌, ◌&&◌, ◌||◌, ◌==◌, nat_lt, Option}
use Rattle.std.specs.List.{list_any}
use Rattle.std.specs.FinMap as finite
use Rattle.std.proofs.lemmas.Bool.{cases_Bool, cases_eq, false≢true, and_parts, and_from, or_left, or_right, eq-eqb, eqb-true}
use Rattle.std.proofs.lemmas.Bool.{lt-ltb, ltb-true}
use Rattle.std.proofs.lemmas.Option.{none-some}
use Rattle.std.specs.Ordering.{nat_cmp}
use Rattle.std.specs.Cmp.Lexicographic.{slice_cmp}
use Rattle.std.proofs.lemmas.List.Folds.{list_any_at}
use Rattle.std.proofs.lemmas.List.Elements.{All-head, All-tail}
use Rattle.segments.specs.declared.place.Place.{Place}
use Rattle.segments.specs.Items.{Item, item_deadline, deadline_if_there}
use Rattle.segments.specs.Pools.{PoolState, Standing, item_in, items_of, segment_at, standing, deadline_in, shared_at, place_deadline}
use Rattle.proto.specs.Cache.{has_arrived}
use Rattle.segments.specs.Places.{same_place}
use Rattle.segments.proofs.Places.{standing_by, mark_within}
use Rattle.segments.proofs.MovedPlaces.{same_place_is, same_place_itself}
use Rattle.segments.proofs.AgreeingTests.{in_segment}
use Rattle.segments.proofs.PlanLemmas.{found_from}
use Rattle.segments.specs.Marks.{Marks, KnowsPool, mark_at, is_marked}
use Rattle.index.specs.Layouts.{IsLayoutOf}
use Rattle.segments.specs.Pools.{key_at}
use Rattle.index.specs.Table.{Table, Places, IsMap, IsSameSize}
use Rattle.segcache.specs.Shown.{current, live_entries, shown_entries}
use Rattle.segcache.specs.Invariants.{IsTied}
use Rattle.segcache.specs.Removals.{HasLeft, HaveArrivedLeft, HaveExpiredLeft, AllWaitIn}
use Rattle.segcache.specs.State.{MapState, IsSegmentedMap}
use Rattle.segcache.proofs.ShownItems.{shown_remove}
use Rattle.segcache.proofs.TiedParts.{current_item, removed_at, removed_other}

-- whether a place is among those that are left of a walk
abbrev pub is_left : List Standing → Place → Bool
is_left left r = list_any (λ (s : Standing). same_place s.place r) left

-- Of the keys of a segment those after a point of a walk haven't left yet.
pub record IsLeaving (p : PoolState) (n : ℕ) (old : Places) (index : Table) (t : Marks)
    (left : List Standing) : Type 0 where
  pub tied : IsTied p index t
  pub before : (q : List ℕ) (r : Place) → finite.get (current p index) q ≡ Some r → finite.get old q ≡ Some r
  pub others : (q : List ℕ) (r : Place) → finite.get old q ≡ Some r → r.segment ≢ n
      → finite.get (current p index) q ≡ Some r
  pub rest : (q : List ℕ) (r : Place) → finite.get (current p index) q ≡ Some r → r.segment ≡ n → is_left left r ≡ true
  pub standing : All (λ (s : Standing). (s.place.segment ≡ n) × (item_in p s.place ≡ Some s.item)) left

-- what a walk shows stands there
pub standing_all : (p : PoolState) (n : ℕ)
    → All (λ (s : Standing). (s.place.segment ≡ n) × (item_in p s.place ≡ Some s.item)) (standing p n)
standing_all p n k d lt = (
  in_segment n 0 (items_of (segment_at p n)) k d lt,
  found_from p n [] (items_of (segment_at p n)) refl k d lt,
)

-- an item of a segment is one of those that a walk shows
pub standing_left : (p : PoolState) (r : Place) (i : Item) → item_in p r ≡ Some i
    → is_left (standing p r.segment) r ≡ true
standing_left p r i e =
    let w = standing_by r.segment 0 (items_of (segment_at p r.segment)) r.offset i e in
    let zero_plus : 0 + r.offset ≡ r.offset = omega arith in
    let d : Standing = record { place = record { segment = r.segment; offset = 0 }; item = i } in
    let there : get_or (standing p r.segment) w.0 d ≡ record { place = r; item = i } = w.2
    ∙ ap (λ x. record { place = record { segment = r.segment; offset = x }; item = i }) zero_plus in
    list_any_at (λ (s : Standing). same_place s.place r) (standing p r.segment) w.0 d w.1
    (ap (λ (s : Standing). same_place s.place r) there ∙ same_place_itself r)

-- at the start of a walk through a segment none of its keys has left yet
pub leaving_first : (p : PoolState) (n : ℕ) (index : Table) (t : Marks) (left : List Standing) → IsTied p index t
    → left ≡ standing p n
    → IsLeaving p n (current p index) index t left
leaving_first p n index t left tied is =
    record {
      tied = tied;
      before = λ q r h. h;
      others = λ q r h ne. h;
      rest = λ q r h e.
          (let x = current_item p index q r h in
          ap (λ (ss : List Standing). is_left ss r) (is ∙ ap (standing p) (sym e))
          ∙ standing_left p r x.0 x.1);
      standing = subst (All (λ (s : Standing). (s.place.segment ≡ n) × (item_in p s.place ≡ Some s.item))) (sym is)
          (standing_all p n);
    }

-- the next item isn't current
pub leaving_passed : (p : PoolState) (n : ℕ) (old : Places) (index : Table) (t : Marks) (s : Standing)
    (left : List Standing)
    → IsLeaving p n old index t (s ∷ left)
    → is_marked t s.place ≡ false → IsLeaving p n old index t left
leaving_passed p n old index t s left h free =
    record {
      tied = h.tied;
      before = h.before;
      others = h.others;
      rest = λ q r e same.
          elim (cases_Bool (same_place s.place r)) [
            | inl y ↦ absurd (false≢true (sym free ∙ ap (is_marked t) (same_place_is s.place r y) ∙ h.tied.held q r e))
            | inr f ↦ (let l : is_left (s ∷ left) r ≡ true = h.rest q r e same in rw f at l)
          ];
      standing = All-tail (λ (x : Standing). (x.place.segment ≡ n) × (item_in p x.place ≡ Some x.item)) s left
          h.standing;
    }

-- the next item has left
pub leaving_more : (p : PoolState) (n : ℕ) (old : Places) (index found : Table) (t u : Marks) (s : Standing)
    (left : List Standing)
    → IsLeaving p n old index t (s ∷ left)
    → finite.get (current p index) s.item.key ≡ Some s.place
    → IsTied p found u → current p found ≡ finite.remove (current p index) s.item.key → IsLeaving p n old found u left
leaving_more p n old index found t u s left h there tied is =
    let here = All-head (λ (x : Standing). (x.place.segment ≡ n) × (item_in p x.place ≡ Some x.item)) s left
    h.standing in
    record {
      tied = tied;
      before = λ q r e. h.before q r (removed_at (current p index) s.item.key q r
          (ap (λ (m : Places). finite.get m q) (sym is) ∙ e)).1;
      others = λ q r e ne.
          (let was = h.others q r e ne in
          ap (λ (m : Places). finite.get m q) is ∙ removed_other (current p index) s.item.key q r
          (λ same. ne
          (let one : Some r ≡ Some s.place = sym was ∙ ap (finite.get (current p index)) same ∙ there in
          let e : r ≡ s.place = cc in ap (λ (x : Place). x.segment) e ∙ here.0)) was);
      rest = λ q r e same.
          (let was = removed_at (current p index) s.item.key q r (ap (λ (m : Places). finite.get m q) (sym is) ∙ e) in
          elim (cases_Bool (same_place s.place r)) [
            | inl y ↦
                let x = current_item p index q r was.1 in
                let one : Some x.0 ≡ Some s.item =
                sym x.1 ∙ ap (item_in p) (sym (same_place_is s.place r y)) ∙ here.1 in
                let key : x.0.key ≡ s.item.key = cc in
                absurd (was.0 (sym x.2 ∙ key))
            | inr f ↦ (let l : is_left (s ∷ left) r ≡ true = h.rest q r was.1 same in rw f at l)
          ]);
      standing = All-tail (λ (x : Standing). (x.place.segment ≡ n) × (item_in p x.place ≡ Some x.item)) s left
          h.standing;
    }

-- at the end of the walk exactly the keys with a place in the segment have left
pub has_left : (p : PoolState) (n : ℕ) (old : Places) (index : Table) (t : Marks) (left : List Standing)
    → IsLeaving p n old index t left → left ≡ [] → HasLeft n old (current p index)
has_left p n old index t left h none =
    record {
      before = h.before;
      elsewhere = λ q r e same. false≢true (ap (λ (ss : List Standing). is_left ss r) (sym none) ∙ h.rest q r e same);
      others = h.others;
    }

-- ---- items of a segment whose deadline has come

-- Of the keys of a segment those after a point of a walk haven't left yet whose deadline is at or
-- before the moment t.
pub record IsArriving (p : PoolState) (t n : ℕ) (old : Places) (index : Table) (marks : Marks)
    (left : List Standing) : Type 0 where
  pub tied : IsTied p index marks
  pub before : (q : List ℕ) (r : Place) → finite.get (current p index) q ≡ Some r → finite.get old q ≡ Some r
  pub others : (q : List ℕ) (r : Place) → finite.get old q ≡ Some r
      → (r.segment ≡ n → has_arrived (place_deadline p r) t ≡ false) → finite.get (current p index) q ≡ Some r
  pub rest : (q : List ℕ) (r : Place) → finite.get (current p index) q ≡ Some r → r.segment ≡ n
      → has_arrived (place_deadline p r) t ≡ true → is_left left r ≡ true
  pub standing : All (λ (s : Standing). (s.place.segment ≡ n) × (item_in p s.place ≡ Some s.item)) left

-- at the start of a walk through a segment none of its keys has left yet
pub arriving_first : (p : PoolState) (t n : ℕ) (index : Table) (marks : Marks) (left : List Standing)
    → IsTied p index marks → left ≡ standing p n
    → IsArriving p t n (current p index) index marks left
arriving_first p t n index marks left tied is =
    let h = leaving_first p n index marks left tied is in
    record {
      tied = tied;
      before = h.before;
      others = λ q r e w. e;
      rest = λ q r e same arrived. h.rest q r e same;
      standing = h.standing;
    }

-- the next item isn't current, or its deadline hasn't come
pub arriving_passed : (p : PoolState) (t n : ℕ) (old : Places) (index : Table) (marks : Marks) (s : Standing)
    (left : List Standing) → IsArriving p t n old index marks (s ∷ left)
    → ((is_marked marks s.place ≡ false) ⊎ (has_arrived (place_deadline p s.place) t ≡ false))
    → IsArriving p t n old index marks left
arriving_passed p t n old index marks s left h stays =
    record {
      tied = h.tied;
      before = h.before;
      others = h.others;
      rest = λ q r e same arrived.
          elim (cases_Bool (same_place s.place r)) [
            | inl y ↦
                let is : s.place ≡ r = same_place_is s.place r y in
                elim stays [
                  | inl free ↦ absurd (false≢true (sym free ∙ ap (is_marked marks) is ∙ h.tied.held q r e))
                  | inr waits ↦
                      absurd (false≢true (sym waits ∙ ap (λ x. has_arrived (place_deadline p x) t) is ∙ arrived))
                ]
            | inr f ↦ (let l : is_left (s ∷ left) r ≡ true = h.rest q r e same arrived in rw f at l)
          ];
      standing = All-tail (λ (x : Standing). (x.place.segment ≡ n) × (item_in p x.place ≡ Some x.item)) s left
          h.standing;
    }

-- the next item has left
pub arriving_more : (p : PoolState) (t n : ℕ) (old : Places) (index found : Table) (marks u : Marks) (s : Standing)
    (left : List Standing)
    → IsArriving p t n old index marks (s ∷ left)
    → finite.get (current p index) s.item.key ≡ Some s.place → has_arrived (place_deadline p s.place) t ≡ true
    → IsTied p found u → current p found ≡ finite.remove (current p index) s.item.key
    → IsArriving p t n old found u left
arriving_more p t n old index found marks u s left h there arrived tied is =
    let here = All-head (λ (x : Standing). (x.place.segment ≡ n) × (item_in p x.place ≡ Some x.item)) s left
    h.standing in
    record {
      tied = tied;
      before = λ q r e. h.before q r (removed_at (current p index) s.item.key q r
          (ap (λ (m : Places). finite.get m q) (sym is) ∙ e)).1;
      others = λ q r e w.
          (let was = h.others q r e w in
          ap (λ (m : Places). finite.get m q) is ∙ removed_other (current p index) s.item.key q r
          (λ same.
          let one : Some r ≡ Some s.place = sym was ∙ ap (finite.get (current p index)) same ∙ there in
          let e : r ≡ s.place = cc in
          false≢true (sym (w (ap (λ (x : Place). x.segment) e ∙ here.0))
          ∙ ap (λ x. has_arrived (place_deadline p x) t) e ∙ arrived)) was);
      rest = λ q r e same come.
          (let was = removed_at (current p index) s.item.key q r (ap (λ (m : Places). finite.get m q) (sym is) ∙ e) in
          elim (cases_Bool (same_place s.place r)) [
            | inl y ↦
                let x = current_item p index q r was.1 in
                let one : Some x.0 ≡ Some s.item =
                sym x.1 ∙ ap (item_in p) (sym (same_place_is s.place r y)) ∙ here.1 in
                let key : x.0.key ≡ s.item.key = cc in
                absurd (was.0 (sym x.2 ∙ key))
            | inr f ↦ (let l : is_left (s ∷ left) r ≡ true = h.rest q r was.1 same come in rw f at l)
          ]);
      standing = All-tail (λ (x : Standing). (x.place.segment ≡ n) × (item_in p x.place ≡ Some x.item)) s left
          h.standing;
    }

-- at the end of the walk exactly the keys have left with a place in the segment whose deadline has
-- come
pub has_arrived_left : (p : PoolState) (t n : ℕ) (old : Places) (index : Table) (marks : Marks) (left : List Standing)
    → IsArriving p t n old index marks left → left ≡ [] → HaveArrivedLeft p t n old (current p index)
has_arrived_left p t n old index marks left h none =
    record {
      before = h.before;
      waiting = λ q r e same.
          elim (cases_Bool (has_arrived (place_deadline p r) t)) [
            | inl y ↦
                absurd (false≢true (ap (λ (ss : List Standing). is_left ss r) (sym none) ∙ h.rest q r e same y))
            | inr w ↦ w
          ];
      others = h.others;
    }

-- the deadline of an item that a walk shows is that of its place
pub deadline_shown : (p : PoolState) (n : ℕ) (s : Standing) (left : List Standing) (shared : Option ℕ)
    → All (λ (x : Standing). (x.place.segment ≡ n) × (item_in p x.place ≡ Some x.item)) (s ∷ left)
    → shared ≡ deadline_in (segment_at p n) → item_deadline s.item shared ≡ place_deadline p s.place
deadline_shown p n s left shared all is =
    let here = All-head (λ (x : Standing). (x.place.segment ≡ n) × (item_in p x.place ≡ Some x.item)) s left all in
    ap (item_deadline s.item) (is ∙ ap (λ m. deadline_in (segment_at p m)) (sym here.0))
    ∙ sym (ap (deadline_if_there (shared_at p s.place)) here.1)

-- the deadline of an item that stands in a segment is that of its place
pub deadline_standing : (p : PoolState) (n : ℕ) (s : Standing) → s.place.segment ≡ n → item_in p s.place ≡ Some s.item
    → item_deadline s.item (deadline_in (segment_at p n)) ≡ place_deadline p s.place
deadline_standing p n s same there =
    ap (λ m. item_deadline s.item (deadline_in (segment_at p m))) (sym same)
    ∙ sym (ap (deadline_if_there (shared_at p s.place)) there)

-- ---- segments of which items leave

-- Of the segments among some before a number the keys have left whose deadline is at or before the
-- moment t.
pub record IsExpiring (p : PoolState) (t : ℕ) (among : ℕ → Bool) (old : Places) (index : Table) (marks : Marks)
    (n : ℕ) : Type 0 where
  pub tied : IsTied p index marks
  pub left : HaveExpiredLeft p t (λ m. nat_lt m n && among m) old (current p index)

-- before the first segment no key has left yet
pub expiring_first : (p : PoolState) (t : ℕ) (among : ℕ → Bool) (index : Table) (marks : Marks) → IsTied p index marks
    → IsExpiring p t among (current p index) index marks 0
expiring_first p t among index marks tied = record {
  tied = tied;
  left = record {
    before = λ q r h. h;
    waiting = λ q r h among_it.
        (let lt = ltb-true r.segment 0 (and_parts (nat_lt r.segment 0) (among r.segment) among_it).0 in
        absurd (omega (arith, lt)));
    others = λ q r h w. h;
  };
}

-- what two tests say of the numbers below the next one
below_next : (among : ℕ → Bool) (m n : ℕ) → (nat_lt m (n + 1) && among m) ≡ true
    → ((nat_lt m n && among m) ≡ true) ⊎ ((m ≡ n) × (among n ≡ true))
below_next among m n h =
    let a = and_parts (nat_lt m (n + 1)) (among m) h in
    let lt = ltb-true m (n + 1) a.0 in
    elim (cases_eq m n) [
      | inl same ↦ inr (same, ap among (sym same) ∙ a.1)
      | inr other ↦ inl (and_from (nat_lt m n) (among m) (lt-ltb m n (omega (arith, lt, other))) a.1)
    ]

-- what is below a number is below the next one
sooner : (among : ℕ → Bool) (m n : ℕ) → (nat_lt m n && among m) ≡ true → (nat_lt m (n + 1) && among m) ≡ true
sooner among m n h =
    let a = and_parts (nat_lt m n) (among m) h in
    let lt = ltb-true m n a.0 in
    and_from (nat_lt m (n + 1)) (among m) (lt-ltb m (n + 1) (omega (arith, lt))) a.1

-- no item of the next segment has to leave
pub expiring_passed : (p : PoolState) (t : ℕ) (among : ℕ → Bool) (old : Places) (index : Table) (marks : Marks) (n : ℕ)
    → IsExpiring p t among old index marks n
    → (among n ≡ true → AllWaitIn p t n) → IsExpiring p t among old index marks (n + 1)
expiring_passed p t among old index marks n h waits =
    record {
      tied = h.tied;
      left = record {
        before = h.left.before;
        waiting = λ q r e among_it.
            elim (below_next among r.segment n among_it) [
              | inl earlier ↦ h.left.waiting q r e earlier
              | inr here ↦ (let x = current_item p index q r e in waits here.1 r x.0 x.1 here.0)
            ];
        others = λ q r e w. h.left.others q r e (λ among_it. w (sooner among r.segment n among_it));
      };
    }

-- the keys of the next segment have left whose deadline has come
pub expiring_more : (p : PoolState) (t : ℕ) (among : ℕ → Bool) (old : Places) (index found : Table)
    (marks others : Marks) (n : ℕ)
    → IsExpiring p t among old index marks n
    → IsTied p found others → among n ≡ true
    → HaveArrivedLeft p t n (current p index) (current p found)
    → IsExpiring p t among old found others (n + 1)
expiring_more p t among old index found marks others n h tied is_so left =
    record {
      tied = tied;
      left = record {
        before = λ q r e. h.left.before q r (left.before q r e);
        waiting = λ q r e among_it.
            elim (below_next among r.segment n among_it) [
              | inl earlier ↦ h.left.waiting q r (left.before q r e) earlier
              | inr here ↦ left.waiting q r e here.0
            ];
        others = λ q r e w.
            left.others q r (h.left.others q r e (λ among_it. w (sooner among r.segment n among_it)))
            (λ same. w (and_from (nat_lt r.segment (n + 1)) (among r.segment)
            (lt-ltb r.segment (n + 1) (omega (arith, same))) (ap among same ∙ is_so)));
      };
    }

-- after the last segment exactly the keys of those segments have left whose deadline has come
pub expired_left : (p : PoolState) (t : ℕ) (among : ℕ → Bool) (old : Places) (index : Table) (marks : Marks) (n : ℕ)
    → IsExpiring p t among old index marks n → p.sizes.segments ≤ n → HaveExpiredLeft p t among old (current p index)
expired_left p t among old index marks n h le =
    record {
      before = h.left.before;
      waiting = λ q r e among_it.
          (let x = current_item p index q r e in let lt = (mark_within p r x.0 h.tied.known.pool x.1).0 in
          h.left.waiting q r e
          (and_from (nat_lt r.segment n) (among r.segment) (lt-ltb r.segment n (omega (arith, lt, le))) among_it));
      others = λ q r e w. h.left.others q r e
          (λ among_it. w (and_parts (nat_lt r.segment n) (among r.segment) among_it).1);
    }

-- ---- one list of segments after the other

-- what left of the next of some segments left of all of them
pub left_more : (p : PoolState) (t n : ℕ) (some all : ℕ → Bool) (old mid new : Places)
    → HaveExpiredLeft p t some old mid → HaveArrivedLeft p t n mid new
    → ((m : ℕ) → all m ≡ some m || (n == m)) → HaveExpiredLeft p t all old new
left_more p t n some all old mid new first next is =
    record {
      before = λ q r e. first.before q r (next.before q r e);
      waiting = λ q r e among_it.
          elim (either (some r.segment) (n == r.segment) (sym (is r.segment) ∙ among_it)) [
            | inl earlier ↦ first.waiting q r (next.before q r e) earlier
            | inr here ↦ next.waiting q r e (sym (eqb-true n r.segment here))
          ];
      others = λ q r e w.
          next.others q r (first.others q r e (λ among_it. w (is r.segment ∙ or_left (some r.segment) (n == r.segment) among_it)))
          (λ same. w (is r.segment ∙ or_right (some r.segment) (n == r.segment) (eq-eqb n r.segment (sym same))));
    }
  where
    either : (a b : Bool) → (a || b) ≡ true → (a ≡ true) ⊎ (b ≡ true)
    either true b h = inl refl
    either false b h = inr h

-- none left of none
pub left_none : (p : PoolState) (t : ℕ) (among : ℕ → Bool) (old : Places) → ((n : ℕ) → among n ≡ false)
    → HaveExpiredLeft p t among old old
left_none p t among old none =
    record {
      before = λ q r e. e;
      waiting = λ q r e among_it. absurd (false≢true (sym (none r.segment) ∙ among_it));
      others = λ q r e w. e;
    }

-- where a key has left, what it had is no longer shown
pub shown_left_at : (old new : MapState) (key : List ℕ) → new.pool ≡ old.pool → new.moment ≡ old.moment
    → current new.pool new.index ≡ finite.remove (current old.pool old.index) key
    → shown_entries new.pool new.index new.moment
    ≡ finite.remove (shown_entries old.pool old.index old.moment) key
shown_left_at old new key pool moment left =
    let m = current old.pool old.index in
    ap (λ (n : Places). live_entries new.pool n new.moment) left
    ∙ ap (λ (q : PoolState). live_entries q (finite.remove m key) new.moment) pool
    ∙ ap (λ t. live_entries old.pool (finite.remove m key) t) moment
    ∙ shown_remove old.pool m old.moment key

-- what is kept of a pool, an index and a moment is kept of equal ones
pub kept_same : (p q : PoolState) (x y : Table) (u : Marks) (t w : ℕ) → q ≡ p → y ≡ x → w ≡ t
    → IsSegmentedMap (record { pool = p; index = x; marks = u; moment = t })
    → IsSegmentedMap (record { pool = q; index = y; marks = u; moment = w })
kept_same p q x y u t w pool index moment kept =
    subst (λ (n : ℕ). IsSegmentedMap (record { pool = q; index = y; marks = u; moment = n })) (sym moment)
    (subst (λ (z : Table). IsSegmentedMap (record { pool = q; index = z; marks = u; moment = t })) (sym index)
    (subst (λ (r : PoolState). IsSegmentedMap (record { pool = r; index = x; marks = u; moment = t })) (sym pool) kept))

-- where the index is empty and nothing is marked, the two are still those of the pool
pub tied_none : (p : PoolState) (index found : Table) (marks others : Marks) → IsTied p index marks
    → KnowsPool others p → IsMap (key_at p) found finite.empty → IsSameSize index found
    → ((n k : ℕ) → n < p.sizes.segments → mark_at others n k ≡ false) → IsTied p found others
tied_none p index found marks others tied known m size none =
    record {
      known = known;
      indexed = m.index;
      held = λ q r h. absurd (none-some r
          (sym (ap (λ (n : Places). finite.get n q) m.places_are ∙ finite.get-empty (slice_cmp nat_cmp) q) ∙ h));
      marked = λ r i e h.
          (let w = (mark_within p r i known.pool e).0 in
          absurd (false≢true (sym (none r.segment (r.offset / 32) w) ∙ h)));
      roomy = subst (λ n. 2 * (p.sizes.segments * (p.sizes.segment_size / 32)) ≤ n) (sym size.count) tied.roomy;
      layout = subst (IsLayoutOf p.sizes) (sym size.layout) tied.layout;
    }
