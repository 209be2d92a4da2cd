-- Keys that are put where their searches find them, one after the other along a cluster.
use Rattle.std.proofs.Common.{◌≡◌, ◌≢◌, ℕ, zero, suc, ◌+◌, ◌*◌, ◌<◌, ◌≤◌, true, false, cond, List, [], ◌∷◌}
use Rattle.std.proofs.Common.{length, refl, sym, ap, ◌∙◌, inl, inr, ◌⊎◌, arith, Some, subst}
use Rattle.std.proofs.Common.{get_or-set_same, get_or-set_other, length-set}
use Rattle.std.specs.Prelude.{slice_set, if◌then◌else◌}
use Rattle.std.specs.Option.{option_map_or}
use Rattle.std.proofs.lemmas.Nat.{mul-add-lt}
use Rattle.std.proofs.lemmas.Bool.{cases_Bool}
use Rattle.std.proofs.lemmas.Bool.Decides.{leb_tells, eqb_tells}
use Rattle.std.proofs.lemmas.List.Sums.{sum_by-cons, sum_by-set}
use Rattle.index.specs.declared.slots.Slot.{Slot}
use Rattle.segments.specs.declared.place.Place.{Place}
use Rattle.index.specs.Keys.{KeysOf}
use Rattle.index.specs.Slots.{is_used, place_of, slot_at, used_in, empty_slot, distance, next_slot, AreUsedUpTo}
use Rattle.index.specs.Reinserting.{IsNear, AreNear, IsFirstStop, IsStretch}
use Rattle.index.specs.Table.{Hashing, AreIndexed, places_in}
use Rattle.index.proofs.RowDistances.{distance_once, distance_itself, distance_below, next_slot_below, distance_add}
use Rattle.index.proofs.RowDistances.{distance_sum, distance_next, distance_last, distance_apart}
use Rattle.index.proofs.SearchesUpToGap.{IsGap}
use Rattle.index.proofs.SlotsAsMap.{Stands, same_places, stands_from_get, get_from_stands}

-- true isn't false
true_false : true ≡ false → ⊥
true_false e = cc

-- ---- how far keys stand from their homes, and where a gap is

-- how far the key of a slot stands from its home
abbrev away : Hashing → KeysOf → ℕ → ℕ → Slot → ℕ
away h keys n i s = if is_used s then option_map_or (λ (k : List ℕ). distance n (h.home k) i) (keys (place_of s)) 0 else 0

-- how far all keys do together
abbrev pub spread : Hashing → KeysOf → ℕ → ℕ → List Slot → ℕ
spread h keys n i [] = 0
spread h keys n i (s ∷ slots) = away h keys n i s + spread h keys n (suc i) slots

-- what they stand away where one slot is written
spread_set : (h : Hashing) (keys : KeysOf) (n i : ℕ) (slots : List Slot) (at : ℕ) (s : Slot) → at < length slots
    → spread h keys n i (slice_set slots at s) + away h keys n (i + at) (slot_at slots at)
    ≡ spread h keys n i slots + away h keys n (i + at) s
spread_set h keys n i [] at s r = absurd (omega (arith, r))
spread_set h keys n i (x ∷ slots) zero s r =
    let here : i + 0 ≡ i = omega arith in
    let a = ap (λ (m : ℕ). away h keys n m x) here in
    let b = ap (λ (m : ℕ). away h keys n m s) here in
    omega (arith, a, b)
spread_set h keys n i (x ∷ slots) (suc at) s r =
    let rest = spread_set h keys n (suc i) slots at s (omega (arith, r)) in
    let further : i + suc at ≡ suc i + at = omega arith in
    let a = ap (λ (m : ℕ). away h keys n m (slot_at slots at)) further in
    let b = ap (λ (m : ℕ). away h keys n m s) further in
    omega (arith, rest, a, b)

-- the first empty slot of all, if there is one
abbrev pub gap_index : List Slot → ℕ
gap_index [] = 0
gap_index (s ∷ slots) = if is_used s then suc (gap_index slots) else 0

pub gap_index_is : (slots : List Slot) → used_in slots < length slots → IsGap slots (gap_index slots)
gap_index_is [] less = absurd (omega (arith, less))
gap_index_is (s ∷ slots) less =
    elim (cases_Bool (is_used s)) [
      | inl is ↦
          let count : used_in (s ∷ slots) ≡ 1 + used_in slots = sum_by-cons (λ (x : Slot). cond (is_used x) 1 0) s slots
          ∙ ap (λ b. cond b 1 0 + used_in slots) is in
          let rest = gap_index_is slots (omega (arith, less, count)) in
          rw is record { in_range = (let r = rest.in_range in omega (arith, r)); empty = rest.empty }
      | inr none ↦ rw none record { in_range = omega arith; empty = none }
    ]

-- ---- a search from the next slot on

-- what is used from a slot on is used from the next one on, where the slot itself may be none of
-- those
passes_on : (old new : List Slot) (at x : ℕ) → length new ≡ length old → at < length old → x < length old → x ≢ at
    → ((y : ℕ) → y < length old → y ≢ at → is_used (slot_at old y) ≡ true → is_used (slot_at new y) ≡ true)
    → AreUsedUpTo old at x → AreUsedUpTo new (next_slot (length old) at) x
passes_on old new at x len a i differ keeps up y y_in lt =
    let n = length old in
    let b = next_slot n at in
    let in_old : y < n = omega (arith, len, y_in) in
    let less : distance n b y < distance n b x = rw len at lt in
    let apart : y ≢ at = λ same.
    (let last = distance_last n at a in
    let below = distance_below n b x (next_slot_below n at a) i in
    let e = ap (distance n b) same in
    omega (arith, last, below, e, less)) in
    let p = distance_next n at y a in_old apart in
    let q = distance_next n at x a i differ in
    keeps y in_old apart (up y in_old (omega (arith, p, q, less)))

-- a stretch without a slot
pub stretch_begins : (slots : List Slot) (from : ℕ) → from < length slots
    → IsStretch slots (record { first = from; end = from })
stretch_begins slots from f = record {
  first = f;
  end = f;
  used = λ x x_in lt. (let z = distance_itself (length slots) from in absurd (omega (arith, z, lt)));
}

-- what is used up to a slot, or to one before it, still is where no slot but that one gets empty
pub stretch_stays : (old new : List Slot) (at first end : ℕ) → length new ≡ length old
    → ((y : ℕ) → y < length old → y ≢ at → is_used (slot_at old y) ≡ true → is_used (slot_at new y) ≡ true)
    → AreUsedUpTo old first end → distance (length old) first end ≤ distance (length old) first at
    → AreUsedUpTo new first end
stretch_stays old new at first end len keeps up far y y_in lt =
    let n = length old in
    let in_old : y < n = omega (arith, len, y_in) in
    let less : distance n first y < distance n first end = rw len at lt in
    let apart : y ≢ at = λ same. (let e = ap (distance n first) same in omega (arith, e, less, far)) in
    keeps y in_old apart (up y in_old less)

-- what is used from another slot on still is, or it is used from this one on
keeps_way : (old new : List Slot) (from at x : ℕ) → length new ≡ length old → from < length old → at < length old
    → x < length old → x ≢ at
    → ((y : ℕ) → y < length old → y ≢ at → is_used (slot_at old y) ≡ true → is_used (slot_at new y) ≡ true)
    → AreUsedUpTo old from x → AreUsedUpTo new from x ⊎ AreUsedUpTo old at x
keeps_way old new from at x len f a i differ keeps up =
    let n = length old in
    elim (leb_tells (distance n from x) (distance n from at)) [
      | inl far ↦ inl (stretch_stays old new at from x len keeps up far.1)
      | inr on ↦ inr (λ y y_in lt.
          let whole = distance_add n from at x f a i (omega (arith, on)) in
          let below = distance_below n from x f i in
          let sum = distance_sum n from at y f a y_in (omega (arith, whole, lt, below)) in
          up y y_in (omega (arith, whole, sum, lt)))
    ]

-- a search that begins in a stretch goes on from its end
pub stop_further : (slots : List Slot) (first end home at stop : ℕ) → first < length slots → end < length slots
    → home < length slots → at < length slots → AreUsedUpTo slots first end
    → distance (length slots) first home ≤ distance (length slots) first end
    → distance (length slots) first end ≤ distance (length slots) first at
    → IsFirstStop slots end at stop → IsFirstStop slots home at stop
stop_further slots first end home at stop f e h a used begins before s =
    let n = length slots in
    let to_end = distance_add n first home end f h e begins in
    let to_at = distance_add n first home at f h a (omega (arith, begins, before)) in
    let on = distance_add n home end at h e a (omega (arith, to_end, to_at, before)) in
    let near = s.near in
    let below = distance_below n home at h a in
    let whole = distance_sum n home end stop h e s.in_range (omega (arith, on, near, below)) in
    record {
      in_range = s.in_range;
      up_to = λ x x_in lt.
          elim (leb_tells (distance n home end) (distance n home x)) [
            | inl y ↦ (let z = distance_add n home end x h e x_in y.1 in s.up_to x x_in (omega (arith, z, whole, lt)))
            | inr y ↦
                let short = distance_below n first end f e in
                let z = distance_sum n first home x f h x_in (omega (arith, y, to_end, short)) in
                used x x_in (omega (arith, z, y, to_end))
          ];
      near = omega (arith, whole, on, near);
      stops = s.stops;
    }

-- ---- the steps

-- where the cluster ends, each key is found from its home
pub cluster_ends : (h : Hashing) (keys : KeysOf) (slots : List Slot) (at : ℕ) → AreNear h keys slots at → at < length slots
    → is_used (slot_at slots at) ≡ false → AreIndexed h keys slots
cluster_ends h keys slots at near r empty =
    let n = length slots in
    record {
      each = λ i i_in u.
          let f = near.each i i_in u in (
            f.0,
            record {
              of_key = f.1.of_key;
              tag = f.1.tag;
              up_to = elim f.1.up_to [
                | inl y ↦ y
                | inr y ↦
                    let apart : i ≢ at = λ same.
                    true_false (sym u ∙ ap (λ (k : ℕ). is_used (slot_at slots k)) same ∙ empty) in
                    let far = distance_apart n at i r i_in apart in
                    let z = distance_itself n at in
                    absurd (true_false (sym (y at r (omega (arith, far, z))) ∙ empty))
              ];
            },
          );
      once = near.once;
    }

-- a key that is found from its home stays
pub run_stays : (h : Hashing) (keys : KeysOf) (slots : List Slot) (at : ℕ) (key : List ℕ) → AreNear h keys slots at
    → at < length slots → keys (place_of (slot_at slots at)) ≡ Some key → AreUsedUpTo slots (h.home key) at
    → AreNear h keys slots (next_slot (length slots) at)
run_stays h keys slots at key near r is up =
    record {
      each = λ i i_in u.
          let f = near.each i i_in u in (
            f.0,
            record {
              of_key = f.1.of_key;
              tag = f.1.tag;
              up_to = elim (eqb_tells i at) [
                | inl y ↦
                    let e : Some f.0 ≡ Some key =
                    sym f.1.of_key ∙ ap (λ (x : ℕ). keys (place_of (slot_at slots x))) y.1 ∙ is in
                    let f_is : f.0 ≡ key = cc in
                    inl (subst (λ (x : ℕ). AreUsedUpTo slots (h.home f.0) x) (sym y.1)
                    (subst (λ (k : List ℕ). AreUsedUpTo slots (h.home k) at) (sym f_is) up))
                | inr y ↦ elim f.1.up_to [
                  | inl z ↦ inl z
                  | inr z ↦ inr (passes_on slots slots at i refl r i_in y.1 (λ x x_in apart used. used) z)
                ]
              ];
            },
          );
      once = near.once;
    }

-- what stood in a slot stands in another one that was empty
pub record IsMoved (old new : List Slot) (at gap : ℕ) : Type 0 where
  pub len : length new ≡ length old
  pub at_in : at < length old
  pub gap_in : gap < length old
  pub apart : gap ≢ at
  pub was_used : is_used (slot_at old at) ≡ true
  pub was_empty : is_used (slot_at old gap) ≡ false
  pub here : slot_at new gap ≡ slot_at old at
  pub gone : is_used (slot_at new at) ≡ false
  pub others : (x : ℕ) → x ≢ gap → x ≢ at → slot_at new x ≡ slot_at old x

-- where one slot is copied to another one and then emptied
pub is_moved : (old : List Slot) (at gap : ℕ) → at < length old → gap < length old → gap ≢ at
    → is_used (slot_at old at) ≡ true → is_used (slot_at old gap) ≡ false
    → IsMoved old (slice_set (slice_set old gap (slot_at old at)) at empty_slot) at gap
is_moved old at gap a g apart used empty =
    let mid = slice_set old gap (slot_at old at) in
    let len = length-set old gap (slot_at old at) in
    record {
      len = length-set mid at empty_slot ∙ len;
      at_in = a;
      gap_in = g;
      apart = apart;
      was_used = used;
      was_empty = empty;
      here = get_or-set_other mid at gap empty_slot empty_slot apart ∙ get_or-set_same old gap (slot_at old at) empty_slot g;
      gone = ap is_used (get_or-set_same mid at empty_slot empty_slot (omega (arith, len, a)));
      others = λ x p q. get_or-set_other mid at x empty_slot empty_slot q
          ∙ get_or-set_other old gap x (slot_at old at) empty_slot p;
    }

module _ (h : Hashing) (keys : KeysOf) (old new : List Slot) (at gap : ℕ) (m : IsMoved old new at gap) where
  -- another slot than the one that was emptied is as used as before
  keeps : (y : ℕ) → y < length old → y ≢ at → is_used (slot_at old y) ≡ true → is_used (slot_at new y) ≡ true
  keeps y y_in apart used =
      elim (eqb_tells y gap) [
        | inl z ↦ ap (λ (x : ℕ). is_used (slot_at new x)) z.1 ∙ ap is_used m.here ∙ m.was_used
        | inr z ↦ ap is_used (m.others y z.1 apart) ∙ used
      ]

  -- a slot is used now: it isn't the one that was emptied
  not_gone : (i : ℕ) → is_used (slot_at new i) ≡ true → i ≢ at
  not_gone i u same = true_false (sym u ∙ ap (λ (k : ℕ). is_used (slot_at new k)) same ∙ m.gone)

  -- each place stood in one slot before
  was_at : (i : ℕ) → i < length new → is_used (slot_at new i) ≡ true
      → (j : ℕ) × (j < length old) × (is_used (slot_at old j) ≡ true) × (slot_at new i ≡ slot_at old j) ×
      (((i ≡ gap) × (j ≡ at)) ⊎ ((i ≢ gap) × (j ≡ i)))
  was_at i i_in used =
      elim (eqb_tells i gap) [
        | inl y ↦ (at, m.at_in, m.was_used, ap (slot_at new) y.1 ∙ m.here, inl (y.1, refl))
        | inr y ↦
            let same = m.others i y.1 (not_gone i used) in
            let len = m.len in
            (i, omega (arith, len, i_in), ap is_used (sym same) ∙ used, same, inr (y.1, refl))
      ]

  stood : (q : List ℕ) (p : Place) → Stands keys new q p → Stands keys old q p
  stood q p st =
      let w = was_at st.at st.in_range st.used in
      record { at = w.0; in_range = w.1; used = w.2; place_is = ap place_of (sym w.3) ∙ st.place_is; key_is = st.key_is }

  stands : (q : List ℕ) (p : Place) → Stands keys old q p → Stands keys new q p
  stands q p st =
      let len = m.len in
      elim (eqb_tells st.at at) [
        | inl y ↦ record {
          at = gap;
          in_range = (let r = m.gap_in in omega (arith, r, len));
          used = ap is_used m.here ∙ m.was_used;
          place_is = ap place_of m.here ∙ ap (λ (j : ℕ). place_of (slot_at old j)) (sym y.1) ∙ st.place_is;
          key_is = st.key_is;
        }
        | inr y ↦
            let apart : st.at ≢ gap = λ same.
            true_false (sym st.used ∙ ap (λ (k : ℕ). is_used (slot_at old k)) same ∙ m.was_empty) in
            let same = m.others st.at apart y.1 in
            record {
              at = st.at;
              in_range = (let r = st.in_range in omega (arith, r, len));
              used = ap is_used same ∙ st.used;
              place_is = ap place_of same ∙ st.place_is;
              key_is = st.key_is;
            }
      ]

  module _ (near : AreNear h keys old at) (in_row : (k : List ℕ) → h.home k < length old) where
    moved_once : (i j : ℕ) → i < length new → j < length new → is_used (slot_at new i) ≡ true
        → is_used (slot_at new j) ≡ true
        → keys (place_of (slot_at new i)) ≡ keys (place_of (slot_at new j)) → i ≡ j
    moved_once i j i_in j_in a b same =
        let p = was_at i i_in a in
        let q = was_at j j_in b in
        let one : p.0 ≡ q.0 = near.once p.0 q.0 p.1 q.1 p.2 q.2
        (ap (λ (s : Slot). keys (place_of s)) (sym p.3) ∙ same ∙ ap (λ (s : Slot). keys (place_of s)) q.3) in
        let bi = not_gone i a in
        let bj = not_gone j b in
        elim p.4 [
          | inl y ↦ elim q.4 [ inl z ↦ y.0 ∙ sym z.0 | inr z ↦ absurd (bj (sym z.1 ∙ sym one ∙ y.1)) ]
          | inr y ↦ elim q.4 [ inl z ↦ absurd (bi (sym y.1 ∙ one ∙ z.1)) | inr z ↦ sym y.1 ∙ one ∙ z.1 ]
        ]

    -- of near slots only one has a place of a key
    near_once : (q : List ℕ) (p r : Place) → Stands keys old q p → Stands keys old q r → r ≡ p
    near_once q p r a b =
        let same : keys (place_of (slot_at old b.at)) ≡ keys (place_of (slot_at old a.at)) =
        ap keys b.place_is ∙ b.key_is ∙ sym a.key_is ∙ ap keys (sym a.place_is) in
        let one : b.at ≡ a.at = near.once b.at a.at b.in_range a.in_range b.used a.used same in
        sym b.place_is ∙ ap (λ (i : ℕ). place_of (slot_at old i)) one ∙ a.place_is

    pub moved_places : places_in keys new ≡ places_in keys old
    moved_places =
        same_places keys new (places_in keys old)
        (λ q p st. (let was = stood q p st in get_from_stands keys old q p was (λ r. near_once q p r was)))
        (λ q p is. stands q p (stands_from_get keys old q p is))

    module _ (key : List ℕ) (is : keys (place_of (slot_at old at)) ≡ Some key)
        (up : AreUsedUpTo old (h.home key) gap)
        (nearer : distance (length old) (h.home key) gap < distance (length old) (h.home key) at) where
      here_near : (k : List ℕ) × IsNear h keys new (next_slot (length old) at) gap k
      here_near =
          let f = near.each at m.at_in m.was_used in
          let e : Some f.0 ≡ Some key = sym f.1.of_key ∙ is in
          let f_is : f.0 ≡ key = cc in (
            key,
            record {
              of_key = ap (λ (s : Slot). keys (place_of s)) m.here ∙ is;
              tag = ap (λ (s : Slot). s.tag) m.here ∙ f.1.tag ∙ ap h.tag f_is;
              up_to = inl (λ y y_in lt.
                  let len = m.len in
                  let in_old : y < length old = omega (arith, len, y_in) in
                  let less : distance (length old) (h.home key) y < distance (length old) (h.home key) gap =
                  rw len at lt in
                  let apart : y ≢ at = λ same.
                  (let e = ap (distance (length old) (h.home key)) same in omega (arith, e, less, nearer)) in
                  keeps y in_old apart (up y in_old less));
            },
          )

      there_near : (i : ℕ) → i < length new → i ≢ gap → is_used (slot_at new i) ≡ true
          → (k : List ℕ) × IsNear h keys new (next_slot (length old) at) i k
      there_near i i_in differ u =
          let len = m.len in
          let in_old : i < length old = omega (arith, len, i_in) in
          let other = not_gone i u in
          let same = m.others i differ other in
          let f = near.each i in_old (ap is_used (sym same) ∙ u) in (
            f.0,
            record {
              of_key = ap (λ (s : Slot). keys (place_of s)) same ∙ f.1.of_key;
              tag = ap (λ (s : Slot). s.tag) same ∙ f.1.tag;
              up_to = elim f.1.up_to [
                | inl y ↦ elim
                    (keeps_way old new (h.home f.0) at i len (in_row f.0) m.at_in in_old other keeps y) [
                      | inl z ↦ inl z
                      | inr z ↦ inr (passes_on old new at i len m.at_in in_old other keeps z)
                    ]
                | inr y ↦ inr (passes_on old new at i len m.at_in in_old other keeps y)
              ];
            },
          )

      -- a key that isn't found from its home goes to the first gap of its search
      pub run_moves : AreNear h keys new (next_slot (length old) at)
      run_moves =
          record {
            each = λ i i_in u. elim (eqb_tells i gap) [
              | inl y ↦ subst (λ (x : ℕ). (k : List ℕ) × IsNear h keys new (next_slot (length old) at) x k) (sym y.1)
                  here_near
              | inr y ↦ there_near i i_in y.1 u
            ];
            once = moved_once;
          }

-- as many slots are used where one is copied to an empty one and then emptied
pub moved_count : (old : List Slot) (at gap : ℕ) → at < length old → gap < length old → gap ≢ at
    → is_used (slot_at old at) ≡ true → is_used (slot_at old gap) ≡ false
    → used_in (slice_set (slice_set old gap (slot_at old at)) at empty_slot) ≡ used_in old
moved_count old at gap a g apart used empty =
    let mid = slice_set old gap (slot_at old at) in
    let len = length-set old gap (slot_at old at) in
    let first = set_count old gap (slot_at old at) g in
    let second = set_count mid at empty_slot (omega (arith, len, a)) in
    let still : slot_at mid at ≡ slot_at old at = get_or-set_other old gap at (slot_at old at) empty_slot
    (λ same. apart (sym same)) in
    let one : ◌≡◌ {A = ℕ} (cond (is_used (slot_at old at)) 1 0) 1 = ap (λ b. cond b 1 0) used in
    let none : ◌≡◌ {A = ℕ} (cond (is_used (slot_at old gap)) 1 0) 0 = ap (λ b. cond b 1 0) empty in
    let there : ◌≡◌ {A = ℕ} (cond (is_used (slot_at mid at)) 1 0) 1 =
    ap (λ (s : Slot). cond (is_used s) 1 0) still ∙ one in
    omega (arith, first, second, one, none, there)
  where
    set_count : (slots : List Slot) (i : ℕ) (s : Slot) → i < length slots
        → used_in (slice_set slots i s) + cond (is_used (slot_at slots i)) 1 0 ≡ used_in slots + cond (is_used s) 1 0
    set_count slots i s r = sum_by-set (λ (x : Slot). cond (is_used x) 1 0) slots i s empty_slot r

-- and their keys stand nearer to their homes together
pub moved_spread : (h : Hashing) (keys : KeysOf) (n : ℕ) (old : List Slot) (at gap : ℕ) (key : List ℕ)
    → at < length old → gap < length old → gap ≢ at
    → is_used (slot_at old at) ≡ true → is_used (slot_at old gap) ≡ false
    → keys (place_of (slot_at old at)) ≡ Some key
    → distance n (h.home key) gap < distance n (h.home key) at
    → spread h keys n 0 (slice_set (slice_set old gap (slot_at old at)) at empty_slot) < spread h keys n 0 old
moved_spread h keys n old at gap key a g apart used empty is nearer =
    let mid = slice_set old gap (slot_at old at) in
    let len = length-set old gap (slot_at old at) in
    let first = spread_set h keys n 0 old gap (slot_at old at) g in
    let second = spread_set h keys n 0 mid at empty_slot (omega (arith, len, a)) in
    let still : slot_at mid at ≡ slot_at old at = get_or-set_other old gap at (slot_at old at) empty_slot
    (λ same. apart (sym same)) in
    let from_at : ◌≡◌ {A = ℕ} (away h keys n (0 + at) (slot_at mid at)) (distance n (h.home key) at) =
    ap (away h keys n (0 + at)) still ∙ stands_away (0 + at) (slot_at old at) used is
    ∙ ap (distance n (h.home key)) (omega arith) in
    let to_gap : ◌≡◌ {A = ℕ} (away h keys n (0 + gap) (slot_at old at)) (distance n (h.home key) gap) =
    stands_away (0 + gap) (slot_at old at) used is ∙ ap (distance n (h.home key)) (omega arith) in
    let none : ◌≡◌ {A = ℕ} (away h keys n (0 + gap) (slot_at old gap)) 0 = nothing_away (0 + gap) (slot_at old gap) empty in
    let cleared : ◌≡◌ {A = ℕ} (away h keys n (0 + at) empty_slot) 0 = refl in
    omega (arith, first, second, from_at, to_gap, none, cleared, nearer)
  where
    stands_away : (i : ℕ) (s : Slot) → is_used s ≡ true → keys (place_of s) ≡ Some key
        → away h keys n i s ≡ distance n (h.home key) i
    stands_away i s u k = rw (u, k) refl

    nothing_away : (i : ℕ) (s : Slot) → is_used s ≡ false → away h keys n i s ≡ 0
    nothing_away i s u = rw u refl

-- a measure whose first part falls
pub first_falls : (a b n x y : ℕ) → a < b → x < n → a * n + x < b * n + y
first_falls a b n x y lt below =
    let less = mul-add-lt a n x b lt below in
    let turned : n * b ≡ b * n = omega arith in
    omega (arith, less, turned)

-- a slot at which a search goes on is one nearer to a gap
pub gap_nears : (slots : List Slot) (at gap : ℕ) → at < length slots → IsGap slots gap
    → is_used (slot_at slots at) ≡ true
    → distance (length slots) (next_slot (length slots) at) gap < distance (length slots) at gap
gap_nears slots at gap a is used =
    let apart : gap ≢ at = λ same.
    true_false (sym used ∙ ap (λ (k : ℕ). is_used (slot_at slots k)) (sym same) ∙ is.empty) in
    let next = distance_next (length slots) at gap a is.in_range apart in
    omega (arith, next)

-- what one step along a cluster keeps, and what falls with it
pub record IsStep (h : Hashing) (keys : KeysOf) (slots new : List Slot) (at : ℕ) : Type 0 where
  pub near : AreNear h keys new (next_slot (length slots) at)
  pub places : places_in keys new ≡ places_in keys slots
  pub used : used_in new ≡ used_in slots
  pub len : length new ≡ length slots
  pub keeps : (y : ℕ) → y < length slots → y ≢ at → is_used (slot_at slots y) ≡ true → is_used (slot_at new y) ≡ true
  pub falls : spread h keys (length slots) 0 new * length slots
      + distance (length slots) (next_slot (length slots) at) (gap_index new)
      < spread h keys (length slots) 0 slots * length slots + distance (length slots) at (gap_index slots)

-- a step at a key that stays
pub step_stays : (h : Hashing) (keys : KeysOf) (slots : List Slot) (at : ℕ) (key : List ℕ) → AreNear h keys slots at
    → at < length slots → is_used (slot_at slots at) ≡ true → used_in slots < length slots
    → keys (place_of (slot_at slots at)) ≡ Some key → AreUsedUpTo slots (h.home key) at
    → IsStep h keys slots slots at
step_stays h keys slots at key near r used less is up =
    let nears = gap_nears slots at (gap_index slots) r (gap_index_is slots less) used in
    record {
      near = run_stays h keys slots at key near r is up;
      places = refl;
      used = refl;
      len = refl;
      keeps = λ y y_in apart is_still. is_still;
      falls = omega (arith, nears);
    }

-- a step at a key that goes to the first gap of its search
pub step_moves : (h : Hashing) (keys : KeysOf) (slots new : List Slot) (at gap : ℕ) (key : List ℕ) → AreNear h keys slots at
    → at < length slots → is_used (slot_at slots at) ≡ true → used_in slots < length slots
    → ((k : List ℕ) → h.home k < length slots)
    → keys (place_of (slot_at slots at)) ≡ Some key → IsFirstStop slots (h.home key) at gap → gap ≢ at
    → new ≡ slice_set (slice_set slots gap (slot_at slots at)) at empty_slot
    → IsStep h keys slots new at
step_moves h keys slots new at gap key near r used less in_row is stop apart new_is =
    subst (λ (l : List Slot). IsStep h keys slots l at) (sym new_is) record {
      near = run_moves h keys slots moved at gap m near in_row key is stop.up_to nearer;
      places = moved_places h keys slots moved at gap m near in_row;
      used = used_same;
      len = m.len;
      keeps = keeps h keys slots moved at gap m;
      falls = first_falls (spread h keys n 0 moved) (spread h keys n 0 slots) n
          (distance n (next_slot n at) (gap_index moved)) (distance n at (gap_index slots))
          (moved_spread h keys n slots at gap key r stop.in_range apart used empty is nearer) short;
    }
  where
    n : ℕ
    n = length slots

    moved : List Slot
    moved = slice_set (slice_set slots gap (slot_at slots at)) at empty_slot

    empty : is_used (slot_at slots gap) ≡ false
    empty = elim stop.stops [ inl y ↦ absurd (apart y) | inr y ↦ y ]

    m : IsMoved slots moved at gap
    m = is_moved slots at gap r stop.in_range apart used empty

    used_same : used_in moved ≡ used_in slots
    used_same = moved_count slots at gap r stop.in_range apart used empty

    nearer : distance n (h.home key) gap < distance n (h.home key) at
    nearer =
        let le = stop.near in
        elim (leb_tells (distance n (h.home key) at) (distance n (h.home key) gap)) [
          | inl y ↦ absurd (apart (distance_once n (h.home key) gap at (in_row key) stop.in_range r (omega (arith, le, y))))
          | inr y ↦ y.1
        ]

    short : distance n (next_slot n at) (gap_index moved) < n
    short =
        let len = m.len in
        let g = gap_index_is moved (omega (arith, used_same, len, less)) in
        let in_range = g.in_range in
        distance_below n (next_slot n at) (gap_index moved) (next_slot_below n at r) (omega (arith, in_range, len))
