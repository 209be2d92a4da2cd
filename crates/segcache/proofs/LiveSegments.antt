-- Which segments have a live item.
use Rattle.std.proofs.Common.{◌≡◌, ℕ, ◌+◌, Bool, true, false, get_or, Some, refl, sym, ap, subst, ◌∙◌, inl, inr, arith}
use Rattle.std.specs.Prelude.{not}
use Rattle.std.proofs.lemmas.Bool.{cases_Bool, false≢true, and_parts, and_from, not-true}
use Rattle.std.proofs.lemmas.List.Folds.{list_any_at}
use Rattle.proto.specs.Cache.{has_arrived}
use Rattle.segments.specs.declared.place.Place.{Place}
use Rattle.segments.specs.Items.{Item, item_deadline, deadline_if_there}
use Rattle.segments.specs.Pools.{PoolState, Standing, item_in, items_of, segment_at, standing, deadline_in, shared_at, place_deadline, has_live, key_at}
use Rattle.segments.specs.Marks.{Marks, is_marked}
use Rattle.segments.proofs.Places.{standing_by}
use Rattle.index.specs.Table.{Table, HasPlace}
use Rattle.segcache.specs.Invariants.{IsTied, AreDated, IsDatedIn}
use Rattle.segcache.specs.LiveItems.{live_marks, is_dead}
use Rattle.segcache.specs.OwnDeadlines.{may_expire}
use Rattle.segcache.specs.Removals.{AllWaitIn, HaveArrivedLeft}
use Rattle.segcache.specs.Shown.{current}
use Rattle.segcache.proofs.OwnDeadlines.{dated_waits, dated_expired}
use Rattle.segcache.proofs.TiedParts.{current_item, held_place}
use Rattle.segcache.proofs.LeftPlaces.{standing_all, deadline_standing}
use Rattle.segcache.proofs.EvictedKeys.{found_live}

-- where a marked item stands whose deadline hasn't come, its segment has a live one
pub live_there : (p : PoolState) (marks : Marks) (t : ℕ) (r : Place) (i : Item) → item_in p r ≡ Some i
    → is_marked marks r ≡ true → has_arrived (place_deadline p r) t ≡ false
    → has_live (live_marks marks t) p r.segment ≡ true
live_there p marks t r i e marked waits =
    let w = standing_by r.segment 0 (items_of (segment_at p r.segment)) r.offset i e in
    let zero_plus : 0 + r.offset ≡ r.offset = omega arith in
    let d : Standing = record { place = record { segment = r.segment; offset = 0 }; item = i } in
    let s : Standing = record { place = r; item = i } in
    let there : get_or (standing p r.segment) w.0 d ≡ s = w.2
    ∙ ap (λ x. record { place = record { segment = r.segment; offset = x }; item = i }) zero_plus in
    let shared = deadline_in (segment_at p r.segment) in
    let test : Standing → Bool = λ x. live_marks marks t x.place x.item (item_deadline x.item shared) in
    let both : test s ≡ true =
    and_from (is_marked marks r) (not (has_arrived (item_deadline i shared) t)) marked
    (ap (λ x. not (has_arrived x t)) (deadline_standing p r.segment s refl e) ∙ ap not waits) in
    list_any_at test (standing p r.segment) w.0 d w.1 (ap test there ∙ both)

-- what stands at a place of the index
pub record IsHeld (p : PoolState) (marks : Marks) (r : Place) : Type 0 where
  pub item : Item
  pub stands : item_in p r ≡ Some item
  pub marked : is_marked marks r ≡ true

pub place_held : (p : PoolState) (index : Table) (marks : Marks) (r : Place) → IsTied p index marks → HasPlace index r
    → IsHeld p marks r
place_held p index marks r tied h =
    let k = held_place (key_at p) index r tied.indexed h in
    let x = current_item p index k.0 r k.1 in
    record { item = x.0; stands = x.1; marked = tied.held k.0 r k.1 }

-- a place of the index whose deadline hasn't come is that of a live item
pub held_lives : (p : PoolState) (index : Table) (marks : Marks) (t n : ℕ) (r : Place) → IsTied p index marks
    → HasPlace index r → r.segment ≡ n → has_arrived (place_deadline p r) t ≡ false
    → has_live (live_marks marks t) p n ≡ true
held_lives p index marks t n r tied h same waits =
    let x = place_held p index marks r tied h in
    subst (λ m. has_live (live_marks marks t) p m ≡ true) same (live_there p marks t r x.item x.stands x.marked waits)

-- in a segment in which no item may expire all wait
pub none_expires : (p : PoolState) (t n : ℕ) → AreDated p → may_expire p.exact (deadline_in (segment_at p n)) t ≡ false
    → AllWaitIn p t n
none_expires p t n dated never r i e same =
    ap (λ o. has_arrived (deadline_if_there (shared_at p r) o) t) e
    ∙ dated_waits p.exact (shared_at p r) i t (dated r i e)
    (ap (λ m. may_expire p.exact (deadline_in (segment_at p m)) t) same ∙ never)

-- so none of its keys has to leave
pub none_arrives : (p : PoolState) (t n : ℕ) (index : Table) → AreDated p
    → may_expire p.exact (deadline_in (segment_at p n)) t ≡ false
    → HaveArrivedLeft p t n (current p index) (current p index)
none_arrives p t n index dated never =
    record {
      before = λ q r e. e;
      waiting = λ q r e same. (let x = current_item p index q r e in none_expires p t n dated never r x.0 x.1 same);
      others = λ q r e w. e;
    }

-- where items have no deadlines of their own, none of a segment lives in which items may expire
pub all_expired : (p : PoolState) (marks : Marks) (t n : ℕ) → AreDated p → p.exact ≡ false
    → may_expire p.exact (deadline_in (segment_at p n)) t ≡ true → is_dead marks p t n ≡ true
all_expired p marks t n dated plain come =
    elim (cases_Bool (has_live (live_marks marks t) p n)) [
      | inr f ↦ ap not f
      | inl y ↦
          let shared = deadline_in (segment_at p n) in
          let w = found_live (λ s. live_marks marks t s.place s.item (item_deadline s.item shared)) (standing p n) y
          (λ (s : Standing). (s.place.segment ≡ n) × (item_in p s.place ≡ Some s.item)) (standing_all p n) in
          let s = w.0 in
          let both = and_parts (is_marked marks s.place) (not (has_arrived (item_deadline s.item shared) t)) w.1 in
          let dates : IsDatedIn p.exact (shared_at p s.place) s.item = dated s.place s.item w.2.1 in
          let here : IsDatedIn p.exact shared s.item =
          subst (λ m. IsDatedIn p.exact (deadline_in (segment_at p m)) s.item) w.2.0 dates in
          let none : IsDatedIn false shared s.item = subst (λ (b : Bool). IsDatedIn b shared s.item) plain here in
          let arrived = dated_expired shared s.item t none (subst (λ (b : Bool). may_expire b shared t ≡ true) plain come) in
          absurd (false≢true (sym (not-true (has_arrived (item_deadline s.item shared) t) both.1) ∙ arrived))
    ]
