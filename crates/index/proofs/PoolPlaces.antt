-- The places of a pool's items, and how many there are.
use Rattle.std.proofs.Common.{◌≡◌, ℕ, zero, suc, ◌+◌, ◌*◌, ◌/◌, ◌<◌, ◌≤◌, List, [], ◌++◌, length, get_or, Option, Some, None}
use Rattle.std.proofs.Common.{refl, sym, ap, subst, ◌∙◌, arith, inl, inr}
use Rattle.std.specs.Prelude.{Contains, Bool, true, false, ◌≢◌, map, IsSome, if◌then◌else◌}
use Rattle.std.specs.List.{remove}
use Rattle.std.proofs.lemmas.List.{length-append, length-map, get_or-map, get_or_default}
use Rattle.std.proofs.lemmas.List.Elements.{Contains-append_left, Contains-append_right}
use Rattle.std.proofs.lemmas.List.Edits.{length-remove}
use Rattle.std.proofs.Math.ListN.{get_or-eq_default}
use Rattle.std.proofs.lemmas.Bool.{cases_eq}
use Rattle.std.proofs.lemmas.Bool.Decides.{leb_tells}
use Rattle.std.proofs.lemmas.Grind.{in_remove}
use Rattle.segments.specs.declared.place.Place.{Place}
use Rattle.segments.specs.Items.{Item, item_at}
use Rattle.segments.specs.Pools.{PoolState, IsPool, Standing, segment_at, items_of, item_in, standing}
use Rattle.segments.specs.Places.{IsAppended, same_place}
use Rattle.segments.proofs.Places.{pool_items_few, standing_by}
use Rattle.segments.proofs.MovedPlaces.{same_place_itself}
use Rattle.segments.specs.Pools.{key_at}
use Rattle.index.specs.Slots.{used_in}
use Rattle.index.specs.Sizing.{most_items}
use Rattle.index.specs.Table.{Table, IsIndex}
use Rattle.index.proofs.UsedSlots.{few_used}
use Rattle.index.proofs.KeptKeys.{held_key}
use Rattle.index.proofs.PoolKeys.{some_key}
use Rattle.segments.proofs.MergeLemmas.{length_standing}
use Rattle.proto.proofs.Options.{value_there}

-- the places of the items of the first segments
abbrev places_below : PoolState → ℕ → List Place
places_below p zero = []
places_below p (suc n) = map (λ s. s.place) (standing p n) ++ places_below p n

-- no number is below 0
zero_le : (n : ℕ) → 0 ≤ n
zero_le n = omega arith

-- each segment has as many items as 32 bytes go into it, or fewer
pub few_places : (p : PoolState) (n : ℕ) → IsPool p → length (places_below p n) ≤ n * (p.sizes.segment_size / 32)
few_places p zero k = zero_le (0 * (p.sizes.segment_size / 32))
few_places p (suc n) k =
    let rest = few_places p n k in
    let here = pool_items_few p n k in
    let long = length_standing n 0 (items_of (segment_at p n)) in
    let mapped = length-map (standing p n) (λ (s : Standing). s.place) in
    let whole = length-append (map (λ (s : Standing). s.place) (standing p n)) (places_below p n) in
    let product : suc n * (p.sizes.segment_size / 32) ≡ p.sizes.segment_size / 32 + n * (p.sizes.segment_size / 32) =
    omega arith in
    omega arith

-- a place with an item is one of them
contains_place : (p : PoolState) (n : ℕ) (q : Place) → q.segment < n → IsSome (item_in p q)
    → Contains (places_below p n) q
contains_place p zero q lt some = absurd (omega arith)
contains_place p (suc n) q lt some =
    elim (cases_eq q.segment n) [
      | inl e ↦
          let i = value_there (item_in p q) some in
          let w = standing_by q.segment 0 (items_of (segment_at p q.segment)) q.offset i.0 i.1 in
          let d : Standing = record { place = record { segment = q.segment; offset = 0 }; item = i.0 } in
          let zero_plus : 0 + q.offset ≡ q.offset = omega arith in
          let there : (get_or (standing p q.segment) w.0 d).place ≡ q = ap (λ (s : Standing). s.place) w.2
          ∙ ap (λ x. record { segment = q.segment; offset = x }) zero_plus in
          let mapped = length-map (standing p q.segment) (λ (s : Standing). s.place) in
          let below = w.1 in
          let within : w.0 < length (map (λ (s : Standing). s.place) (standing p q.segment)) = omega arith in
          let at : get_or (map (λ (s : Standing). s.place) (standing p q.segment)) w.0 q ≡ q =
          get_or-map (λ (s : Standing). s.place) (standing p q.segment) w.0 d q below ∙ there in
          subst (λ m. Contains (map (λ (s : Standing). s.place) (standing p m) ++ places_below p n) q) e
          (Contains-append_left (map (λ (s : Standing). s.place) (standing p q.segment)) (places_below p n) q
          (w.0, within, at))
      | inr e ↦
          Contains-append_right (map (λ (s : Standing). s.place) (standing p n)) (places_below p n) q
          (contains_place p n q (omega arith) some)
    ]

-- an item stands in a segment of the pool
pub item_within : (p : PoolState) (q : Place) → IsPool p → IsSome (item_in p q) → q.segment < p.sizes.segments
item_within p q k some =
    let count = k.count in
    elim (leb_tells (length p.segments) q.segment) [
      | inl y ↦
          let free : segment_at p q.segment ≡ None = get_or-eq_default p.segments None y.1 in
          let gone : IsSome (item_at (items_of None) q.offset) = rw free at some in
          cc
      | inr y ↦ (let lt = y.1 in omega arith)
    ]

-- where an item is there, one is there whether or not another takes its place
kept_item : (b : Bool) (i : Item) (o : Option Item) → IsSome o → IsSome (if b then Some i else o)
kept_item true i o some = refl
kept_item false i o some = some

-- before an item was appended, the table had a place fewer than the pool may have items
pub room_for_one : (p after : PoolState) (bucket t : ℕ) (i : Item) (place : Place) (table : Table) → IsPool after
    → IsAppended p bucket t i after place
    → IsIndex (key_at p) table → used_in table.slots + 1 ≤ most_items p.sizes
room_for_one p after bucket t i place table k a index =
    let all : List Place = places_below after after.sizes.segments in
    let few = few_places after after.sizes.segments k in
    let item_kept : (q : Place) → IsSome (item_in p q) → IsSome (item_in after q) =
    λ q some. rw (a.items q) (kept_item (same_place q place) i (item_in p q) some) in
    let new : item_in after place ≡ Some i = a.items place ∙ (let z = same_place_itself place in rw z refl) in
    let new_some : IsSome (item_in after place) = rw new refl in
    let at = contains_place after after.sizes.segments place (item_within after place k new_some) new_some in
    let rest : List Place = remove all at.0 in
    let shorter = length-remove all at.0 at.1 in
    let less : used_in table.slots ≤ length rest =
    few_used (key_at p) table rest index
    (λ q h.
    let stood = some_key p q (held_key (key_at p) table index q h) in
    let stands = item_kept q stood in
    let here = contains_place after after.sizes.segments q (item_within after q k stands) stands in
    let differ : q ≢ place = λ same. (let e : IsSome {T = Item} None = subst IsSome
    (ap (item_in p) same ∙ a.fresh) stood in cc) in
    (in_remove all at.0 here.0 q at.1 here.1 (sym here.2)
    (λ same. differ (sym here.2 ∙ at_other all here.0 at.0 q place same at.1 at.2))).1) in
    let sizes : most_items after.sizes ≡ most_items p.sizes = ap most_items a.sizes in
    omega arith
  where
    at_other : (all : List Place) (i j : ℕ) (p q : Place) → i ≡ j → j < length all → get_or all j q ≡ q
        → get_or all i p ≡ q
    at_other all i j p q same r is = ap (λ (k : ℕ). get_or all k p) same ∙ get_or_default all j p q r ∙ is
