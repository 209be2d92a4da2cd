-- A table of the live items' places can be relocated by the merge that was planned for them.
use Rattle.std.proofs.Common.{◌≡◌, ℕ, Bool, true, List, [], ◌∷◌, get_or, Option, Some, None, refl, sym, ap, subst, ◌∙◌, inl, inr}
use Rattle.std.specs.Prelude.{All, option_map}
use Rattle.std.proofs.lemmas.Bool.{cases_Bool, false≢true}
use Rattle.std.proofs.lemmas.List.Elements.{All-nil, All-append, All-filter, All-map, filter_passes}
use Rattle.segments.specs.declared.place.Place.{Place}
use Rattle.proto.specs.declared.eviction.Eviction.{Eviction}
use Rattle.segments.specs.Items.{Item, with_reads_halved}
use Rattle.segments.specs.Pools.{PoolState, Plan, IsPool, Liveness, Standing, segment_at, items_of, item_in, place_deadline, deadline_in, standing}
use Rattle.segments.specs.Pools.{live_standing}
use Rattle.segments.specs.Places.{FollowsPlan}
use Rattle.segments.specs.Merges.{IsPlan, with_merge_planned, carried_out, merged_segments, live_items, contains_number}
use Rattle.segments.proofs.AgreeingTests.{in_segment}
use Rattle.segments.proofs.PlanLemmas.{found_from}
use Rattle.segments.proofs.MovedPlaces.{carried, moved_other, live_source, sources_live, All-unmap}
use Rattle.segments.specs.Pools.{key_at}
use Rattle.index.specs.Layouts.{IsInLayout, IsLayoutOf}
use Rattle.index.proofs.PlacesInLayout.{place_in_layout}
use Rattle.index.specs.Table.{Table, IsIndex}
use Rattle.index.specs.Relocating.{CanRelocate, HoldsLive, keys_after_merge}
use Rattle.index.proofs.KeptKeys.{held_key}
use Rattle.index.proofs.PoolKeys.{some_key}
use Rattle.index.proofs.MoveOrder.{plan_in_turn}
use Rattle.proto.proofs.Options.{value_there}
use Rattle.segments.proofs.MovedPlaces.{if_some_map}
use Rattle.segments.specs.Items.{deadline_if_there, item_deadline}
use Rattle.segments.specs.Pools.{shared_at}

-- an item that stands where it is said to, and is live
pub record StandsLive (lives : Liveness) (p : PoolState) (q : Place) : Type 0 where
  pub item : Item
  pub stands : item_in p q ≡ Some item
  pub live : lives q item (place_deadline p q) ≡ true

-- each live item of a segment stands where it is said to, and is live there
live_one : (lives : Liveness) (p : PoolState) (n : ℕ) → All (λ s. StandsLive lives p s.place) (live_standing lives p n)
live_one lives p n k d lt =
    let test : Standing → Bool = λ s. lives s.place s.item (item_deadline s.item (deadline_in (segment_at p n))) in
    let s = get_or (live_standing lives p n) k d in
    let found = All-filter test (λ x. item_in p x.place ≡ Some x.item) (standing p n)
    (found_from p n [] (items_of (segment_at p n)) refl) k d lt in
    let here = All-filter test (λ x. x.place.segment ≡ n) (standing p n)
    (in_segment n 0 (items_of (segment_at p n))) k d lt in
    record {
      item = s.item;
      stands = found;
      live = subst (λ o. lives s.place s.item (deadline_if_there (shared_at p s.place) o) ≡ true) (sym found)
          (subst (λ m. lives s.place s.item (item_deadline s.item (deadline_in (segment_at p m))) ≡ true) (sym here)
          (filter_passes test (standing p n) k d lt));
    }

-- each live item of several segments stands where it is said to, and is live there
live_all : (lives : Liveness) (p : PoolState) (numbers : List ℕ)
    → All (λ s. StandsLive lives p s.place) (live_items lives p numbers)
live_all lives p [] = All-nil (λ s. StandsLive lives p s.place)
live_all lives p (n ∷ numbers) = All-append (λ s. StandsLive lives p s.place) (live_standing lives p n)
    (live_items lives p numbers)
    (live_one lives p n) (live_all lives p numbers)

-- each move of a plan starts at a live item
pub starts_live : (lives : Liveness) (p : PoolState) (plan : Plan) → IsPlan lives p plan
    → All (λ m. StandsLive lives p m.source) plan.moves
starts_live lives p plan h =
    All-unmap (StandsLive lives p) plan.moves
    (subst (All (StandsLive lives p)) (sym (sources_live lives p plan h))
    (All-map (StandsLive lives p) (λ (s : Standing). s.place) (live_items lives p (merged_segments p plan.choice))
    (live_all lives p (merged_segments p plan.choice))))

-- where the same item stands, the key is the same
pub key_by : (p q : PoolState) (a b : Place) → item_in p a ≡ item_in q b → key_at p a ≡ key_at q b
unfolding key_at
key_by p q a b e = ap (option_map (λ (i : Item). i.key)) e

-- an item keeps its key when its reads are halved
half_key : (ev : Eviction) (o : Option Item) → option_map (λ (i : Item). i.key) (option_map (with_reads_halved ev) o)
    ≡ option_map (λ (i : Item). i.key) o
half_key ev None = refl
half_key ev (Some i) = refl

-- where the item of one place stands at another, with its reads halved, both places have the same
-- key
key_half : (ev : Eviction) (p q : PoolState) (a b : Place) → item_in p a ≡ option_map (with_reads_halved ev) (item_in q b)
    → key_at p a ≡ key_at q b
unfolding key_at
key_half ev p q a b e = ap (option_map (λ (i : Item). i.key)) e ∙ half_key ev (item_in q b)

-- a table of the live items' places can be relocated by the moves of the merge that was planned for
-- them
pub plan_relocates : (lives : Liveness) (p : PoolState) (plan : Plan) (t : Table) → IsPool p → IsPlan lives p plan
    → IsPool (carried_out (with_merge_planned p plan) plan)
    → IsLayoutOf p.sizes t.layout → IsIndex (key_at p) t → HoldsLive lives p t
    → CanRelocate (key_at (with_merge_planned p plan)) (keys_after_merge (with_merge_planned p plan)) t plan.moves
plan_relocates lives p plan t k h behind layout index holds =
    let after = carried_out (with_merge_planned p plan) plan in
    let c : FollowsPlan p plan after = carried lives p plan after k h refl in
    let starts = starts_live lives p plan h in
    record {
      held = λ i d lt some. (let s = starts i d lt in holds.held (get_or plan.moves i d).source s.item s.stands s.live);
      in_turn = plan_in_turn lives p plan k h;
      moved = λ i d lt.
          if_some_map {A = λ r. (item_in after r ≡ option_map (with_reads_halved p.eviction)
          (item_in p (get_or plan.moves i d).source)) ×
          (place_deadline after r ≡ place_deadline p (get_or plan.moves i d).source)}
          {B = λ r. key_at after r ≡ key_at (with_merge_planned p plan) (get_or plan.moves i d).source}
          (get_or plan.moves i d).target (c.moved i d lt)
          (λ r x. key_half p.eviction after (with_merge_planned p plan) r (get_or plan.moves i d).source x.0);
      inside = λ i d lt.
          if_some_map {A = λ r. (item_in after r ≡ option_map (with_reads_halved p.eviction)
          (item_in p (get_or plan.moves i d).source)) ×
          (place_deadline after r ≡ place_deadline p (get_or plan.moves i d).source)}
          {B = IsInLayout t.layout} (get_or plan.moves i d).target (c.moved i d lt)
          (λ r x.
          let s = starts i d lt in
          let there : item_in after r ≡ Some (with_reads_halved p.eviction s.item) = x.0
          ∙ ap (option_map (with_reads_halved p.eviction)) s.stands in
          place_in_layout after t.layout r (with_reads_halved p.eviction s.item) behind (rw c.sizes layout) there);
      others = λ q held none.
          (let i = value_there (item_in p q) (some_key p q (held_key (key_at p) t index q held)) in
          let live = holds.live q i.0 held i.1 in
          elim (cases_Bool (contains_number (merged_segments p plan.choice) q.segment)) [
            | inl y ↦ absurd (false≢true (sym none ∙ live_source lives p plan q i.0 h i.1 live y))
            | inr n ↦ key_by after (with_merge_planned p plan) q q (moved_other p plan after q c n).1
          ]);
    }
