-- Keys that are looked up, and places that are put into a slot.
use Rattle.std.proofs.Common.{◌≡◌, ◌≢◌, ℕ, zero, suc, ◌<◌, ◌≤◌, true, false, cond, List, []}
use Rattle.std.proofs.Common.{◌∷◌, length, refl, sym, ap, ◌∙◌, inl, inr, ◌⊎◌, arith, Option, Some}
use Rattle.std.proofs.Common.{None, subst, get_or-set_same, get_or-set_other, length-set}
use Rattle.std.specs.Prelude.{slice_set, MatchOption}
use Rattle.std.specs.Option.{IsSome}
use Rattle.std.specs.FinMap as map
use Rattle.std.specs.Ordering.{nat_cmp}
use Rattle.std.specs.Cmp.Lexicographic.{slice_cmp}
use Rattle.std.proofs.lemmas.List.Sums.{sum_by-cons}
use Rattle.std.proofs.lemmas.Bool.Decides.{leb_tells, eqb_tells, nat_tests}
use Rattle.index.specs.declared.slots.Slot.{Slot}
use Rattle.segments.specs.declared.place.Place.{Place}
use Rattle.index.specs.Keys.{KeysOf}
use Rattle.index.specs.Slots.{is_used, used_in, place_of, slot_at, slot_with, empty_slot, distance, AreUsedUpTo, IsFirstGap}
use Rattle.index.specs.Table.{places_in, Hashing, IsSlotFound, AreIndexed}
use Rattle.index.specs.Searches.{NoneUpTo, NoneOfPlace, IsOfPlace, HaveKeys}
use Rattle.index.proofs.RowDistances.{distance_once}
use Rattle.index.proofs.SlotsAsMap.{same_places, Stands, inserted_places, stands_once, stands_from_get, none_stands}

-- true isn't false
true_false : true ≡ false → ⊥
true_false e = cc

-- where slots are indexed, each used one is found by the key of its place
pub found_by : (h : Hashing) (keys : KeysOf) (slots : List Slot) → AreIndexed h keys slots → (i : ℕ) (q : List ℕ)
    → i < length slots
    → is_used (slot_at slots i) ≡ true → keys (place_of (slot_at slots i)) ≡ Some q → IsSlotFound h keys slots i q
found_by h keys slots indexed i q r u is =
    let f = indexed.each i r u in
    let e : f.0 ≡ q = (let g = sym f.1.of_key ∙ is in cc) in
    subst (λ (k : List ℕ). IsSlotFound h keys slots i k) e f.1

-- where slots are indexed, each place in them has a key
pub have_keys : (h : Hashing) (keys : KeysOf) (slots : List Slot) → AreIndexed h keys slots → HaveKeys keys slots
have_keys h keys slots indexed i r u = let f = indexed.each i r u in rw f.1.of_key refl

-- a slot that is found stands in front of the first gap
ahead_of_gap : (slots : List Slot) (from i gap : ℕ) → from < length slots → i < length slots
    → is_used (slot_at slots i) ≡ true
    → AreUsedUpTo slots from i → IsFirstGap slots from gap
    → distance (length slots) from i < distance (length slots) from gap
ahead_of_gap slots from i gap f r u up is =
    let n = length slots in
    elim (leb_tells (distance n from gap) (distance n from i)) [
      | inl y ↦ elim (leb_tells (distance n from i) (distance n from gap)) [
        | inl z ↦
            let same : gap ≡ i = distance_once n from gap i f is.in_range r (omega (arith, y, z)) in
            let e : is_used (slot_at slots i) ≡ false = rw same at is.empty in
            absurd (true_false (sym u ∙ e))
        | inr z ↦ absurd (true_false (sym (up gap is.in_range z.1) ∙ is.empty))
      ]
      | inr y ↦ y.1
    ]

-- where no slot from a key's home up to the first empty one has the key's tag and a place of the
-- key, no slot has a place of it
pub none_found : (h : Hashing) (keys : KeysOf) (slots : List Slot) (key : List ℕ) → AreIndexed h keys slots
    → h.home key < length slots
    → (gap : ℕ) → NoneUpTo keys slots (h.home key) (h.tag key) key gap → (p : Place) → Stands keys slots key p → ⊥
none_found h keys slots key indexed f gap none p st =
    let is : keys (place_of (slot_at slots st.at)) ≡ Some key = ap keys st.place_is ∙ st.key_is in
    let found = found_by h keys slots indexed st.at key st.in_range st.used is in
    none.1 st.at st.in_range (ahead_of_gap slots (h.home key) st.at gap f st.in_range st.used found.up_to none.0)
    found.tag is

-- a key's place that stands in a slot is met between the key's home and the first empty slot
pub no_place_found : (h : Hashing) (keys : KeysOf) (slots : List Slot) (key : List ℕ) (p : Place)
    → AreIndexed h keys slots → h.home key < length slots
    → Stands keys slots key p → NoneOfPlace slots (h.home key) p → ⊥
no_place_found h keys slots key p indexed f st none =
    let is : keys (place_of (slot_at slots st.at)) ≡ Some key = ap keys st.place_is ∙ st.key_is in
    let found = found_by h keys slots indexed st.at key st.in_range st.used is in
    none.2 st.at st.in_range (ahead_of_gap slots (h.home key) st.at none.0 f st.in_range st.used found.up_to none.1)
    st.place_is

-- one slot was written
pub record IsSetAt (old new : List Slot) (at : ℕ) (s : Slot) : Type 0 where
  pub len : length new ≡ length old
  pub in_range : at < length old
  pub here : slot_at new at ≡ s
  pub others : (x : ℕ) → x ≢ at → slot_at new x ≡ slot_at old x

-- where a slot is written, it is what was written, and the others stay as they are
pub set_at : (old : List Slot) (at : ℕ) (s : Slot) → at < length old → IsSetAt old (slice_set old at s) at s
set_at old at s r =
    record {
      len = length-set old at s;
      in_range = r;
      here = get_or-set_same old at s empty_slot r;
      others = λ x differ. get_or-set_other old at x s empty_slot differ;
    }

-- slots that are all used up to another one still are where one slot becomes a used one
used_kept : (old new : List Slot) (at : ℕ) (s : Slot) → IsSetAt old new at s → is_used s ≡ true → (from to : ℕ)
    → AreUsedUpTo old from to
    → AreUsedUpTo new from to
used_kept old new at s set u from to up x r less =
    let r' : x < length old = (let l = set.len in omega (arith, r, l)) in
    let less' : distance (length old) from x < distance (length old) from to = rw set.len at less in
    elim (eqb_tells x at) [
      | inl y ↦ rw (y.1, set.here) u
      | inr y ↦ rw (set.others x y.1) (up x r' less')
    ]

-- what a place is put over: an empty slot that the key's search comes to, or the slot of the key
pub record CanPut (h : Hashing) (before after : KeysOf) (old : List Slot) (at : ℕ) (key : List ℕ)
    (place : Place) : Type 0 where
  pub indexed : AreIndexed h before old
  pub some : is_used (slot_with (h.tag key) place) ≡ true
  pub path : AreUsedUpTo old (h.home key) at
  pub apart : (i : ℕ) → i < length old → is_used (slot_at old i) ≡ true → i ≢ at
      → before (place_of (slot_at old i)) ≡ Some key → ⊥
  pub own : is_used (slot_at old at) ≡ true → before (place_of (slot_at old at)) ≡ Some key
  pub is : after place ≡ Some key
  pub agree : (i : ℕ) → i < length old → is_used (slot_at old i) ≡ true → i ≢ at
      → after (place_of (slot_at old i)) ≡ before (place_of (slot_at old i))

module _ (h : Hashing) (before after : KeysOf) (old new : List Slot) (at : ℕ) (key : List ℕ) (place : Place)
    (can : CanPut h before after old at key place) (set : IsSetAt old new at (slot_with (h.tag key) place)) where
  of_new : after (place_of (slot_at new at)) ≡ Some key
  of_new = ap (λ (s : Slot). after (place_of s)) set.here ∙ can.is

  in_old : (i : ℕ) → i < length new → i < length old
  in_old i r = let l = set.len in omega (arith, r, l)

  used_old : (i : ℕ) → i ≢ at → is_used (slot_at new i) ≡ true → is_used (slot_at old i) ≡ true
  used_old i differ u = ap is_used (sym (set.others i differ)) ∙ u

  -- another slot has the key that it had
  same_key : (i : ℕ) → i < length new → i ≢ at → is_used (slot_at new i) ≡ true
      → after (place_of (slot_at new i)) ≡ before (place_of (slot_at old i))
  same_key i r differ u =
      ap (λ (s : Slot). after (place_of s)) (set.others i differ)
      ∙ can.agree i (in_old i r) (used_old i differ u) differ

  put_each : (i : ℕ) → i < length new → is_used (slot_at new i) ≡ true → (k : List ℕ) × IsSlotFound h after new i k
  put_each i r u =
      elim (eqb_tells i at) [
        | inl y ↦ subst (λ (j : ℕ). (k : List ℕ) × IsSlotFound h after new j k) (sym y.1) (
          key,
          record {
            of_key = of_new;
            tag = ap (λ (s : Slot). s.tag) set.here;
            up_to = used_kept old new at (slot_with (h.tag key) place) set can.some (h.home key) at can.path;
          },
        )
        | inr y ↦
            let f = can.indexed.each i (in_old i r) (used_old i y.1 u) in (
              f.0,
              record {
                of_key = same_key i r y.1 u ∙ f.1.of_key;
                tag = ap (λ (s : Slot). s.tag) (set.others i y.1) ∙ f.1.tag;
                up_to = used_kept old new at (slot_with (h.tag key) place) set can.some (h.home f.0) i f.1.up_to;
              },
            )
      ]

  no_other : (i : ℕ) → i < length new → i ≢ at → is_used (slot_at new i) ≡ true
      → after (place_of (slot_at new i)) ≡ Some key → ⊥
  no_other i r differ u is = can.apart i (in_old i r) (used_old i differ u) differ (sym (same_key i r differ u) ∙ is)

  put_once : (i j : ℕ) → i < length new → j < length new → is_used (slot_at new i) ≡ true
      → is_used (slot_at new j) ≡ true
      → after (place_of (slot_at new i)) ≡ after (place_of (slot_at new j)) → i ≡ j
  put_once i j r s u v same =
      elim (eqb_tells i at) [
        | inl y ↦ elim (eqb_tells j at) [
          | inl z ↦ y.1 ∙ sym z.1
          | inr z ↦ absurd (no_other j s z.1 v
              (sym same ∙ ap (λ (k : ℕ). after (place_of (slot_at new k))) y.1 ∙ of_new))
        ]
        | inr y ↦ elim (eqb_tells j at) [
          | inl z ↦ absurd (no_other i r y.1 u (same ∙ ap (λ (k : ℕ). after (place_of (slot_at new k))) z.1 ∙ of_new))
          | inr z ↦ can.indexed.once i j (in_old i r) (in_old j s) (used_old i y.1 u) (used_old j z.1 v)
              (sym (same_key i r y.1 u) ∙ same ∙ same_key j s z.1 v)
        ]
      ]

  pub put_indexed : AreIndexed h after new
  put_indexed = record { each = put_each; once = put_once }

  only_put : (q : List ℕ) (p : Place) → Stands after new q p
      → ((q ≡ key) × (p ≡ place)) ⊎ ((q ≢ key) × Stands before old q p)
  only_put q p st =
      elim (eqb_tells st.at at) [
        | inl y ↦
            let p_is : p ≡ place = sym st.place_is ∙ ap (λ (k : ℕ). place_of (slot_at new k)) y.1
            ∙ ap place_of set.here in
            let e : Some q ≡ Some key = sym st.key_is ∙ ap after p_is ∙ can.is in
            inl (cc, p_is)
        | inr y ↦
            let is : after (place_of (slot_at new st.at)) ≡ Some q = ap after st.place_is ∙ st.key_is in
            let had : before (place_of (slot_at old st.at)) ≡ Some q =
            sym (same_key st.at st.in_range y.1 st.used) ∙ is in
            let place_was : place_of (slot_at old st.at) ≡ p = ap place_of (sym (set.others st.at y.1)) ∙ st.place_is in
            inr (
              λ q_is. no_other st.at st.in_range y.1 st.used (is ∙ ap Some q_is),
              record {
                at = st.at;
                in_range = in_old st.at st.in_range;
                used = used_old st.at y.1 st.used;
                place_is = place_was;
                key_is = ap before (sym place_was) ∙ had;
              },
            )
      ]

  here_put : Stands after new key place
  here_put =
      record {
        at = at;
        in_range = (let l = set.len in let r = set.in_range in omega (arith, l, r));
        used = ap is_used set.here ∙ can.some;
        place_is = ap place_of set.here;
        key_is = can.is;
      }

  there_still : (q : List ℕ) (p : Place) → q ≢ key → Stands before old q p → Stands after new q p
  there_still q p differ st =
      let had : before (place_of (slot_at old st.at)) ≡ Some q = ap before st.place_is ∙ st.key_is in
      let apart : st.at ≢ at = λ same.
      (let own : before (place_of (slot_at old st.at)) ≡ Some key =
      subst (λ (k : ℕ). is_used (slot_at old k) ≡ true → before (place_of (slot_at old k)) ≡ Some key)
      (sym same) can.own st.used in
      let e : Some q ≡ Some key = sym had ∙ own in differ cc) in
      let place_new : place_of (slot_at new st.at) ≡ p = ap place_of (set.others st.at apart) ∙ st.place_is in
      record {
        at = st.at;
        in_range = (let l = set.len in let r = st.in_range in omega (arith, l, r));
        used = ap is_used (set.others st.at apart) ∙ st.used;
        place_is = place_new;
        key_is = ap after (sym st.place_is) ∙ can.agree st.at st.in_range st.used apart ∙ had;
      }

  pub put_places : places_in after new ≡ map.insert (places_in before old) key place
  put_places =
      inserted_places before after old new key place only_put here_put there_still
      (λ q p r. stands_once h before old can.indexed q p r)

-- a key that has no place can be put into the first gap
pub can_insert : (h : Hashing) (keys : KeysOf) (old : List Slot) (at : ℕ) (key : List ℕ) (place : Place)
    → AreIndexed h keys old → keys place ≡ Some key
    → map.get (places_in keys old) key ≡ None → IsFirstGap old (h.home key) at → 1 ≤ h.tag key
    → CanPut h keys keys old at key place
can_insert h keys old at key place indexed is none gap some =
    record {
      indexed = indexed;
      some = grind (arith, nat_tests);
      path = gap.up_to;
      apart = λ i r u differ has. none_stands keys old key none (place_of (slot_at old i))
          record { at = i; in_range = r; used = u; place_is = refl; key_is = has };
      own = λ u. absurd (true_false (sym u ∙ gap.empty));
      is = is;
      agree = λ i r u differ. refl;
    }

-- the slot of a key's place
pub record IsSlotOf (h : Hashing) (keys : KeysOf) (old : List Slot) (at : ℕ) (key : List ℕ)
    (place : Place) : Type 0 where
  pub of_place : IsOfPlace old place at
  pub of_key : keys place ≡ Some key

-- the key may get another place in its slot, where the places of the others keep their keys
pub can_replace : (h : Hashing) (before after : KeysOf) (old : List Slot) (at : ℕ) (key : List ℕ)
    (source target : Place) → AreIndexed h before old
    → IsSlotOf h before old at key source → 1 ≤ h.tag key → after target ≡ Some key
    → ((i : ℕ) → i < length old → is_used (slot_at old i) ≡ true → place_of (slot_at old i) ≢ source
    → after (place_of (slot_at old i)) ≡ before (place_of (slot_at old i)))
    → CanPut h before after old at key target
can_replace h before after old at key source target indexed slot some is agree =
    let of = slot.of_place in
    let has : before (place_of (slot_at old at)) ≡ Some key = ap before of.place_is ∙ slot.of_key in
    let alone : (i : ℕ) → i < length old → is_used (slot_at old i) ≡ true → i ≢ at
    → before (place_of (slot_at old i)) ≡ Some key → ⊥ =
    λ i r u differ own. differ (indexed.once i at r of.in_range u of.used (own ∙ sym has)) in
    record {
      indexed = indexed;
      some = grind (arith, nat_tests);
      path = (found_by h before old indexed at key of.in_range of.used has).up_to;
      apart = alone;
      own = λ u. has;
      is = is;
      agree = λ i r u differ. agree i r u (λ same. alone i r u differ (ap before same ∙ slot.of_key));
    }

-- the slot that a search for the key's place finds
pub slot_of_key : (h : Hashing) (keys : KeysOf) (old : List Slot) (at : ℕ) (key : List ℕ) (place : Place)
    → map.get (places_in keys old) key ≡ Some place → IsOfPlace old place at → IsSlotOf h keys old at key place
slot_of_key h keys old at key place is of =
    record { of_place = of; of_key = (stands_from_get keys old key place is).key_is }

-- a search finds something where what it says if it finds nothing is false
pub some_found : (o : Option ℕ) (P : Type 0) (Q : ℕ → Type 0) → MatchOption o P Q → (P → ⊥) → IsSome o
some_found None P Q m none = absurd (none m)
some_found (Some i) P Q m none = refl

-- what a search says of the slot that it finds holds of the slot that it found
pub found_is : (o : Option ℕ) (i : ℕ) (P : Type 0) (Q : ℕ → Type 0) → MatchOption o P Q → o ≡ Some i → Q i
found_is o i P Q m is = rw is at m

-- ---- no slot is used

-- where each slot is empty, none is used
none_used : (slots : List Slot) → ((i : ℕ) → i < length slots → slot_at slots i ≡ empty_slot) → used_in slots ≡ 0
none_used [] empty = refl
none_used (s ∷ slots) empty =
    let rest = none_used slots (λ i r. empty (suc i) (omega (arith, r))) in
    let here : s ≡ empty_slot = empty 0 (omega arith) in
    let first : ◌≡◌ {A = ℕ} (cond (is_used s) 1 0) 0 = ap (λ (x : Slot). cond (is_used x) 1 0) here in
    let all = sum_by-cons (λ (x : Slot). cond (is_used x) 1 0) s slots in
    omega (arith, all, first, rest)

-- no slot is used, and whatever the keys of places are, the slots are indexed and stand for the
-- empty map
pub record AreEmpty (h : Hashing) (slots : List Slot) : Type 0 where
  pub count : used_in slots ≡ 0
  pub indexed : (keys : KeysOf) → AreIndexed h keys slots
  pub places_are : (keys : KeysOf) → places_in keys slots ≡ map.empty

-- slots that are each empty are indexed and stand for the empty map
pub all_empty : (h : Hashing) (slots : List Slot) → ((i : ℕ) → i < length slots → slot_at slots i ≡ empty_slot)
    → AreEmpty h slots
all_empty h slots empty =
    let unused : (i : ℕ) → i < length slots → is_used (slot_at slots i) ≡ true → ⊥ =
    λ i r u. true_false (sym u ∙ ap is_used (empty i r)) in
    record {
      count = none_used slots empty;
      indexed = λ keys. record {
        each = λ i r u. absurd (unused i r u);
        once = λ i j r s u v same. absurd (unused i r u);
      };
      places_are = λ keys. same_places keys slots map.empty (λ q p st. absurd (unused st.at st.in_range st.used))
          (λ q p is. absurd (nothing p (sym (map.get-empty (slice_cmp nat_cmp) q) ∙ is)));
    }
  where
    nothing : (p : Place) → ◌≡◌ {A = Option Place} None (Some p) → ⊥
    nothing p e = cc

-- likewise one slot that is empty
pub one_empty : (h : Hashing) (slots : List Slot) → slots ≡ empty_slot ∷ [] → AreEmpty h slots
one_empty h slots is = subst (AreEmpty h) (sym is) (all_empty h (empty_slot ∷ []) (λ i r. only i r))
  where
    only : (i : ℕ) → i < 1 → slot_at (empty_slot ∷ []) i ≡ empty_slot
    only zero r = refl
    only (suc i) r = absurd (omega (arith, r))
