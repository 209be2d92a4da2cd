-- Searches from a slot on.
use Rattle.std.proofs.Common.{◌≡◌, ◌≢◌, ℕ, suc, ◌+◌, ◌-◌, ◌<◌, ◌≤◌, Bool, true, false, cond, List, [], ◌∷◌, length, sym}
use Rattle.std.proofs.Common.{ap, ◌∙◌, inl, inr, arith, subst}
use Rattle.std.specs.Prelude.{bytes_eq, ◌&&◌, Option, Some, eqb}
use Rattle.std.proofs.lemmas.Slice.Eq.{bytes_eq-Decides}
use Rattle.segments.specs.declared.place.Place.{Place}
use Rattle.std.proofs.lemmas.Bool.{cases_Bool}
use Rattle.std.proofs.lemmas.Bool.Decides.{leb_tells, nat_tests}
use Rattle.std.proofs.lemmas.List.Sums.{sum_by-cons}
use Rattle.index.specs.declared.slots.Slot.{Slot}
use Rattle.index.specs.Slots.{distance, next_slot, is_used, slot_at, used_in, AreUsedUpTo}
use Rattle.index.proofs.RowDistances.{distance_itself, distance_below, distance_once, distance_to_next, distance_upto, next_slot_below}

-- true isn't false
true_false : true ≡ false → ⊥
true_false e = cc

-- a slot that is empty
pub record IsGap (slots : List Slot) (gap : ℕ) : Type 0 where
  pub in_range : gap < length slots
  pub empty : is_used (slot_at slots gap) ≡ false

-- where fewer slots are used than there are, one is empty
pub some_gap : (slots : List Slot) → used_in slots < length slots → (gap : ℕ) × IsGap slots gap
some_gap [] less = absurd (omega arith)
some_gap (s ∷ slots) less =
    elim (cases_Bool (is_used s)) [
      | inl is ↦
          let count : used_in (s ∷ slots) ≡ 1 + used_in slots = sum_by-cons (λ (x : Slot). cond (is_used x) 1 0) s slots
          ∙ ap (λ b. cond b 1 0 + used_in slots) is in
          let rest = some_gap slots (omega (arith, less, count)) in
          (suc rest.0, record { in_range = (let r = rest.1.in_range in omega (arith, r)); empty = rest.1.empty })
      | inr none ↦ (0, record { in_range = omega arith; empty = none })
    ]

-- a search that has passed only used slots
pub record IsOnWay (slots : List Slot) (from at : ℕ) : Type 0 where
  pub at_range : at < length slots
  pub up_to : AreUsedUpTo slots from at

-- where a search begins, it has passed only used slots, since it has passed none
pub way_begins : (slots : List Slot) (from : ℕ) → from < length slots → IsOnWay slots from from
way_begins slots from f =
    record { at_range = f; up_to = λ x i less. absurd (omega (arith, less, distance_itself (length slots) from)) }

-- an empty slot isn't behind on the way
pub gap_ahead : (slots : List Slot) (from at gap : ℕ) → from < length slots → IsOnWay slots from at → IsGap slots gap
    → is_used (slot_at slots at) ≡ true → distance (length slots) from at < distance (length slots) from gap
gap_ahead slots from at gap f way is used =
    let n = length slots in
    elim (leb_tells (distance n from gap) (distance n from at)) [
      | inl y ↦ elim (leb_tells (distance n from at) (distance n from gap)) [
        | inl z ↦
            let same : gap ≡ at = distance_once n from gap at f is.in_range way.at_range (omega (arith, y, z)) in
            let e : is_used (slot_at slots at) ≡ false = rw same at is.empty in
            absurd (true_false (sym used ∙ e))
        | inr z ↦ absurd (true_false (sym (way.up_to gap is.in_range z.1) ∙ is.empty))
      ]
      | inr y ↦ y.1
    ]

-- where some slot isn't used, a search at a used slot may go on to the next: it has passed only
-- used ones there, too
pub way_goes_on : (slots : List Slot) (from at : ℕ) → from < length slots → used_in slots < length slots
    → IsOnWay slots from at
    → is_used (slot_at slots at) ≡ true → IsOnWay slots from (next_slot (length slots) at)
way_goes_on slots from at f less way used =
    let n = length slots in
    let gap = some_gap slots less in
    let ahead = gap_ahead slots from at gap.0 f way gap.1 used in
    record {
      at_range = next_slot_below n at way.at_range;
      up_to = λ x i upto. elim (distance_upto n from at x gap.0 f way.at_range i gap.1.in_range ahead upto) [
        | inl y ↦ way.up_to x i y
        | inr y ↦ rw y used
      ];
    }

-- where some slot isn't used, a search that goes on from a used slot has fewer slots left to look
-- at
pub way_shortens : (slots : List Slot) (from at : ℕ) → from < length slots → used_in slots < length slots
    → IsOnWay slots from at
    → is_used (slot_at slots at) ≡ true
    → length slots - distance (length slots) from (next_slot (length slots) at)
    < length slots - distance (length slots) from at
way_shortens slots from at f less way used =
    let n = length slots in
    let gap = some_gap slots less in
    let ahead = gap_ahead slots from at gap.0 f way gap.1 used in
    let step = distance_to_next n from at gap.0 f way.at_range gap.1.in_range ahead in
    let below = distance_below n from gap.0 f gap.1.in_range in
    omega (arith, step, below, ahead)

-- what holds of the slots that a search has passed, and of this one, holds of those up to the next
pub way_keeps : (P : ℕ → Type 0) (slots : List Slot) (from at : ℕ) → from < length slots → used_in slots < length slots
    → IsOnWay slots from at
    → is_used (slot_at slots at) ≡ true
    → ((x : ℕ) → x < length slots → distance (length slots) from x < distance (length slots) from at → P x) → P at
    → (x : ℕ) → x < length slots → distance (length slots) from x
    < distance (length slots) from (next_slot (length slots) at) → P x
way_keeps P slots from at f less way used passed here x i upto =
    let n = length slots in
    let gap = some_gap slots less in
    let ahead = gap_ahead slots from at gap.0 f way gap.1 used in
    elim (distance_upto n from at x gap.0 f way.at_range i gap.1.in_range ahead upto) [
      | inl y ↦ passed x i y
      | inr y ↦ subst P (sym y) here
    ]

-- a search that hasn't come to a slot is at most as far as it after its next step, too
pub nears : (n from at end : ℕ) → from < n → at < n → end < n → distance n from at ≤ distance n from end → at ≢ end
    → distance n from (next_slot n at) ≤ distance n from end
nears n from at end f a e le differ =
    elim (leb_tells (distance n from end) (distance n from at)) [
      | inl y ↦ absurd (differ (distance_once n from at end f a e (omega (arith, le, y))))
      | inr y ↦ (let step = distance_to_next n from at end f a e y.1 in omega (arith, step, y))
    ]

-- no slot is nearer to a search's first one than that one itself, so anything holds of those that
-- are
pub none_passed : (P : ℕ → Type 0) (n from : ℕ) (x : ℕ) → distance n from x < distance n from from → P x
none_passed P n from x less = absurd (omega (arith, less, distance_itself n from))

-- a comparison finds a place equal to itself
same_place : (p : Place) → (eqb p.segment p.segment && eqb p.offset p.offset) ≡ true
same_place p = grind (arith, nat_tests)

-- what a comparison of places says
pub other_place : (p q : Place) (b : Bool) → b ≡ (eqb p.segment q.segment && eqb p.offset q.offset) → b ≡ false
    → ¬ (p ≡ q)
other_place p q b compared differ same =
    let e : b ≡ true = compared ∙ ap (λ (r : Place). eqb r.segment q.segment && eqb r.offset q.offset) same
    ∙ same_place q in
    true_false (sym e ∙ differ)

-- where a comparison says that the key that is there differs from another one, the other one isn't
-- there
pub other_key : (k q : List ℕ) (o : Option (List ℕ)) (b : Bool) → o ≡ Some k → b ≡ bytes_eq k q → b ≡ false
    → ¬ (o ≡ Some q)
other_key k q o b is compared differ same =
    let e : k ≡ q = cc in
    true_false (sym ((bytes_eq-Decides k q).1 e) ∙ sym compared ∙ differ)
