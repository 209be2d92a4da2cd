-- A slot emptied step by step: the hole goes on to a place that is found through it, until an empty
-- slot comes.
use Rattle.std.proofs.Common.{◌≡◌, ◌≢◌, ℕ, ◌+◌, ◌-◌, ◌<◌, ◌≤◌, true, false, cond, List, length, refl, sym, ap, ◌∙◌, inl}
use Rattle.std.proofs.Common.{inr, ◌⊎◌, arith, Some, subst, get_or-set_same, get_or-set_other, length-set}
use Rattle.std.specs.Prelude.{slice_set}
use Rattle.std.proofs.lemmas.Bool.Decides.{leb_tells, eqb_tells}
use Rattle.std.proofs.lemmas.List.Sums.{sum_by-set}
use Rattle.index.specs.declared.slots.Slot.{Slot}
use Rattle.index.specs.declared.layout.Layout.{Layout}
use Rattle.segments.specs.declared.place.Place.{Place}
use Rattle.std.specs.declared.hash.FoldHasher.{FoldHasher}
use Rattle.index.specs.Keys.{KeysOf, hash_of}
use Rattle.index.proofs.SplitHomes.{home_below}
use Rattle.index.specs.Slots.{is_used, place_of, slot_at, used_in, empty_slot, distance, next_slot, AreUsedUpTo}
use Rattle.index.specs.Table.{hashing, Hashing, AreIndexed, IsSlotFound}
use Rattle.index.specs.BackwardShift.{IsWithout}
use Rattle.index.proofs.RowDistances.{distance_once, distance_itself, distance_below, distance_to_next, next_slot_below, distance_add, distance_sum}
use Rattle.index.proofs.RowDistances.{distance_within, distance_apart}
use Rattle.index.proofs.SearchesUpToGap.{some_gap}
use Rattle.index.proofs.SlotsAsMap.{Stands, removed_places, stands_once}

-- true isn't false
pub true_false : true ≡ false → ⊥
true_false e = cc

-- a place that is found, but for the hole on its way, where it stands at or after the slot that is
-- looked at next
pub record IsNearlyFound (h : Hashing) (keys : KeysOf) (n : ℕ) (slots : List Slot) (hole next i : ℕ)
    (key : List ℕ) : Type 0 where
  pub of_key : keys (place_of (slot_at slots i)) ≡ Some key
  pub tag : (slot_at slots i).tag ≡ h.tag key
  pub up_to : (x : ℕ) → x < n → x ≢ hole → distance n (h.home key) x < distance n (h.home key) i
      → is_used (slot_at slots x) ≡ true
  pub through : distance n (h.home key) hole < distance n (h.home key) i → distance n hole next ≤ distance n hole i

-- an empty slot that isn't the hole, ahead of the slot that is looked at next
pub record IsGapAhead (n : ℕ) (slots : List Slot) (start hole next gap : ℕ) : Type 0 where
  pub in_range : gap < n
  pub other : gap ≢ hole
  pub empty : is_used (slot_at slots gap) ≡ false
  pub from_hole : distance n hole next ≤ distance n hole gap
  pub from_start : distance n start next ≤ distance n start gap

-- what stands in the slots, with the hole empty
pub record IsShifting (h : Hashing) (keys : KeysOf) (old slots : List Slot) (start hole next : ℕ)
    (key : List ℕ) : Type 0 where
  pub len : length slots ≡ length old
  pub start_range : start < length old
  pub hole_range : hole < length old
  pub next_range : next < length old
  pub hole_empty : is_used (slot_at slots hole) ≡ false
  pub each : (i : ℕ) → i < length old → is_used (slot_at slots i) ≡ true
      → (k : List ℕ) × IsNearlyFound h keys (length old) slots hole next i k
  pub once : (i j : ℕ) → i < length old → j < length old → is_used (slot_at slots i) ≡ true
      → is_used (slot_at slots j) ≡ true
      → keys (place_of (slot_at slots i)) ≡ keys (place_of (slot_at slots j)) → i ≡ j
  pub gap : (e : ℕ) × IsGapAhead (length old) slots start hole next e
  pub ahead : next ≢ hole
  pub only : (q : List ℕ) (p : Place) → Stands keys slots q p → (q ≢ key) × Stands keys old q p
  pub there : (q : List ℕ) (p : Place) → q ≢ key → Stands keys old q p → Stands keys slots q p
  pub count : used_in slots + 1 ≡ used_in old

-- a slot is emptied
emptied_here : (slots : List Slot) (at : ℕ) → at < length slots
    → is_used (slot_at (slice_set slots at empty_slot) at) ≡ false
emptied_here slots at r = ap is_used (get_or-set_same slots at empty_slot empty_slot r)

-- where a slot is emptied, the others stay as they are
pub emptied_others : (slots : List Slot) (at x : ℕ) → x ≢ at
    → slot_at (slice_set slots at empty_slot) x ≡ slot_at slots x
emptied_others slots at x differ = get_or-set_other slots at x empty_slot empty_slot differ

-- a place that is found but for the hole is found where the hole is still used
pub nearly : (h : Hashing) (keys : KeysOf) (row : List Slot) (hole next : ℕ) (key : List ℕ) → next < length row
    → next ≢ hole → is_used (slot_at row hole) ≡ true
    → IsNearlyFound h keys (length row) (slice_set row hole empty_slot) hole next next key
    → IsSlotFound h keys row next key
nearly h keys row hole next key r ahead used f =
    let same = emptied_others row hole next ahead in
    record {
      of_key = ap (λ (s : Slot). keys (place_of s)) (sym same) ∙ f.of_key;
      tag = ap (λ (s : Slot). s.tag) (sym same) ∙ f.tag;
      up_to = λ x x_in lt.
          elim (eqb_tells x hole) [
            | inl y ↦ subst (λ (i : ℕ). is_used (slot_at row i) ≡ true) (sym y.1) used
            | inr y ↦ ap is_used (sym (emptied_others row hole x y.1)) ∙ f.up_to x x_in y.1 lt
          ];
    }

-- a used slot and an empty one aren't the same slot
not_at : (slots : List Slot) (i at : ℕ) → is_used (slot_at slots i) ≡ true → is_used (slot_at slots at) ≡ false → i ≢ at
not_at slots i at u e same = true_false (sym u ∙ ap (λ (k : ℕ). is_used (slot_at slots k)) same ∙ e)

-- how many slots are used after a write
set_count : (slots : List Slot) (at : ℕ) (s : Slot) → at < length slots
    → used_in (slice_set slots at s) + cond (is_used (slot_at slots at)) 1 0 ≡ used_in slots + cond (is_used s) 1 0
set_count slots at s r = sum_by-set (λ (x : Slot). cond (is_used x) 1 0) slots at s empty_slot r

module _ (h : Hashing) (keys : KeysOf) (old : List Slot) (in_row : (k : List ℕ) → h.home k < length old) where
  -- ---- the first hole

  begin_stands : (start : ℕ) (key : List ℕ) → start < length old → is_used (slot_at old start) ≡ true
      → keys (place_of (slot_at old start)) ≡ Some key
      → AreIndexed h keys old → (q : List ℕ) (p : Place) → Stands keys (slice_set old start empty_slot) q p
      → (q ≢ key) × Stands keys old q p
  begin_stands start key r u key_is indexed q p st =
      let apart : st.at ≢ start = not_at (slice_set old start empty_slot) st.at start st.used
      (emptied_here old start r) in
      let same = emptied_others old start st.at apart in
      let in_old : st.at < length old =
      (let l = length-set old start empty_slot in let i = st.in_range in omega (arith, l, i)) in
      let used : is_used (slot_at old st.at) ≡ true = ap is_used (sym same) ∙ st.used in
      let place_was : place_of (slot_at old st.at) ≡ p = ap place_of (sym same) ∙ st.place_is in
      let had : keys (place_of (slot_at old st.at)) ≡ Some q = ap keys place_was ∙ st.key_is in (
        λ q_is. apart (indexed.once st.at start in_old r used u (had ∙ ap Some q_is ∙ sym key_is)),
        record { at = st.at; in_range = in_old; used = used; place_is = place_was; key_is = st.key_is },
      )

  begin_there : (start : ℕ) (key : List ℕ) → start < length old → keys (place_of (slot_at old start)) ≡ Some key
      → (q : List ℕ) (p : Place) → q ≢ key → Stands keys old q p → Stands keys (slice_set old start empty_slot) q p
  begin_there start key r key_is q p differ st =
      let had : keys (place_of (slot_at old st.at)) ≡ Some q = ap keys st.place_is ∙ st.key_is in
      let apart : st.at ≢ start = λ same.
      (let e : Some q ≡ Some key = sym had ∙ ap (λ (k : ℕ). keys (place_of (slot_at old k))) same ∙ key_is in
      differ cc) in
      let same = emptied_others old start st.at apart in
      record {
        at = st.at;
        in_range = (let l = length-set old start empty_slot in let i = st.in_range in omega (arith, l, i));
        used = ap is_used same ∙ st.used;
        place_is = ap place_of same ∙ st.place_is;
        key_is = st.key_is;
      }

  pub begins : (start : ℕ) (key : List ℕ) → start < length old → is_used (slot_at old start) ≡ true
      → keys (place_of (slot_at old start)) ≡ Some key
      → AreIndexed h keys old → used_in old < length old
      → IsShifting h keys old (slice_set old start empty_slot) start start (next_slot (length old) start) key
  begins start key r u key_is indexed less =
      let n = length old in
      let v = slice_set old start empty_slot in
      let here = emptied_here old start r in
      let gap = some_gap old less in
      let e = gap.0 in
      let e_in = gap.1.in_range in
      let apart : e ≢ start = λ same. true_false
      (sym u ∙ ap (λ (k : ℕ). is_used (slot_at old k)) (sym same) ∙ gap.1.empty) in
      let zero_far = distance_itself n start in
      let far = distance_apart n start e r e_in apart in
      let step = distance_to_next n start start e r r e_in (omega (arith, zero_far, far)) in
      let next_in = next_slot_below n start r in
      record {
        len = length-set old start empty_slot;
        start_range = r;
        hole_range = r;
        next_range = next_in;
        hole_empty = here;
        each = λ i i_in used.
            let differ : i ≢ start = not_at v i start used here in
            let same = emptied_others old start i differ in
            let f = indexed.each i i_in (ap is_used (sym same) ∙ used) in (
              f.0,
              record {
                of_key = ap (λ (s : Slot). keys (place_of s)) same ∙ f.1.of_key;
                tag = ap (λ (s : Slot). s.tag) same ∙ f.1.tag;
                up_to = λ x x_in other lt. ap is_used (emptied_others old start x other) ∙ f.1.up_to x x_in lt;
                through = λ lt. (let d = distance_apart n start i r i_in differ in omega (arith, d, step, zero_far));
              },
            );
        once = λ i j i_in j_in a b same_key.
            let di : i ≢ start = not_at v i start a here in
            let dj : j ≢ start = not_at v j start b here in
            let si = emptied_others old start i di in
            let sj = emptied_others old start j dj in
            indexed.once i j i_in j_in (ap is_used (sym si) ∙ a) (ap is_used (sym sj) ∙ b)
            (ap (λ (s : Slot). keys (place_of s)) (sym si) ∙ same_key ∙ ap (λ (s : Slot). keys (place_of s)) sj);
        gap = (
          e,
          record {
            in_range = e_in;
            other = apart;
            empty = ap is_used (emptied_others old start e apart) ∙ gap.1.empty;
            from_hole = omega (arith, step, zero_far, far);
            from_start = omega (arith, step, zero_far, far);
          },
        );
        ahead = λ same. (let d = ap (distance n start) same in omega (arith, d, step, zero_far));
        only = begin_stands start key r u key_is indexed;
        there = begin_there start key r key_is;
        count = (let c = set_count old start empty_slot r in
            let one : ◌≡◌ {A = ℕ} (cond (is_used (slot_at old start)) 1 0) 1 = ap
            (λ b. cond b 1 0) u in omega (arith, c, one));
      }

  -- ---- one slot further

  module _ (slots : List Slot) (start hole next : ℕ) (key : List ℕ) (c : IsShifting h keys old slots start hole next key)
      (u : is_used (slot_at slots next) ≡ true) where
    -- the empty slot is further ahead
    gap_apart : c.gap.0 ≢ next
    gap_apart same = true_false (sym u ∙ ap (λ (k : ℕ). is_used (slot_at slots k)) (sym same) ∙ c.gap.1.empty)

    hole_to_gap : distance (length old) hole next < distance (length old) hole c.gap.0
    hole_to_gap =
        elim (leb_tells (distance (length old) hole c.gap.0) (distance (length old) hole next)) [
          | inl y ↦ absurd (gap_apart (distance_once
              (length old) hole c.gap.0 next c.hole_range c.gap.1.in_range c.next_range
              (let f = c.gap.1.from_hole in omega (arith, y, f))))
          | inr y ↦ y.1
        ]

    start_to_gap : distance (length old) start next < distance (length old) start c.gap.0
    start_to_gap =
        elim (leb_tells (distance (length old) start c.gap.0) (distance (length old) start next)) [
          | inl y ↦ absurd (gap_apart (distance_once
              (length old) start c.gap.0 next c.start_range c.gap.1.in_range c.next_range
              (let f = c.gap.1.from_start in omega (arith, y, f))))
          | inr y ↦ y.1
        ]

    hole_step : distance (length old) hole (next_slot (length old) next) ≡ distance (length old) hole next + 1
    hole_step = distance_to_next (length old) hole next c.gap.0 c.hole_range c.next_range c.gap.1.in_range hole_to_gap

    start_step : distance (length old) start (next_slot (length old) next) ≡ distance (length old) start next + 1
    start_step = distance_to_next (length old) start next c.gap.0 c.start_range c.next_range c.gap.1.in_range
        start_to_gap

    pub shifting_shortens : length old - distance (length old) start (next_slot (length old) next)
        < length old - distance (length old) start next
    shifting_shortens =
        let b = distance_below (length old) start c.gap.0 c.start_range c.gap.1.in_range in
        let s = start_step in
        let g = start_to_gap in
        omega (arith, b, s, g)

    -- ---- the place at the next slot stays

    module _ (k : List ℕ) (k_is : keys (place_of (slot_at slots next)) ≡ Some k)
        (stays : distance (length old) (h.home k) next < distance (length old) hole next) where
      not_through : distance (length old) (h.home k) hole < distance (length old) (h.home k) next → ⊥
      not_through lt =
          let s = distance_add (length old) (h.home k) hole next (in_row k) c.hole_range c.next_range
          (omega (arith, lt)) in
          omega (arith, s, stays)

      pub stayed : IsShifting h keys old slots start hole (next_slot (length old) next) key
      stayed =
          record {
            len = c.len;
            start_range = c.start_range;
            hole_range = c.hole_range;
            next_range = next_slot_below (length old) next c.next_range;
            hole_empty = c.hole_empty;
            each = λ i i_in used.
                let f = c.each i i_in used in (
                  f.0,
                  record {
                    of_key = f.1.of_key;
                    tag = f.1.tag;
                    up_to = f.1.up_to;
                    through = λ lt.
                        let le = f.1.through lt in
                        let s = hole_step in
                        elim (leb_tells (distance (length old) hole i) (distance (length old) hole next)) [
                          | inl y ↦
                              let same : i ≡ next = distance_once
                              (length old) hole i next c.hole_range i_in c.next_range (omega (arith, y, le)) in
                              let e : Some f.0 ≡ Some k =
                              sym f.1.of_key ∙ ap (λ (x : ℕ). keys (place_of (slot_at slots x))) same ∙ k_is in
                              let f_is : f.0 ≡ k = cc in
                              let to_next : distance (length old) (h.home f.0) hole
                              < distance (length old) (h.home f.0) next =
                              subst (λ (x : ℕ). distance (length old) (h.home f.0) hole
                              < distance (length old) (h.home f.0) x) same lt in
                              absurd (not_through
                              (subst (λ (x : List ℕ). distance (length old) (h.home x) hole < distance (length old)
                              (h.home x) next) f_is to_next))
                          | inr y ↦ omega (arith, y, s)
                        ];
                  },
                );
            once = c.once;
            gap = (
              c.gap.0,
              record {
                in_range = c.gap.1.in_range;
                other = c.gap.1.other;
                empty = c.gap.1.empty;
                from_hole = (let s = hole_step in let g = hole_to_gap in omega (arith, s, g));
                from_start = (let s = start_step in let g = start_to_gap in omega (arith, s, g));
              },
            );
            ahead = λ same. (let d = ap (distance (length old) hole) same in let s = hole_step in
                let z = distance_itself (length old) hole in omega
                (arith, d, s, z));
            only = c.only;
            there = c.there;
            count = c.count;
          }

    -- ---- the place at the next slot goes into the hole

    module _ (new : List Slot) (new_is : new ≡ slice_set (slice_set slots hole (slot_at slots next)) next empty_slot)
        (k : List ℕ) (k_is : keys (place_of (slot_at slots next)) ≡ Some k)
        (goes : distance (length old) hole next ≤ distance (length old) (h.home k) next) where
      hole_in : hole < length slots
      hole_in = (let l = c.len in let r = c.hole_range in omega (arith, l, r))

      next_in : next < length (slice_set slots hole (slot_at slots next))
      next_in = (let l = c.len in let r = c.next_range in let m = length-set slots hole (slot_at slots next) in
          omega (arith, l, r, m))

      new_len : length new ≡ length old
      new_len = ap length new_is ∙ length-set (slice_set slots hole (slot_at slots next)) next empty_slot
          ∙ length-set slots hole (slot_at slots next) ∙ c.len

      new_others : (x : ℕ) → x ≢ hole → x ≢ next → slot_at new x ≡ slot_at slots x
      new_others x a b =
          ap (λ (l : List Slot). slot_at l x) new_is
          ∙ get_or-set_other (slice_set slots hole (slot_at slots next)) next x empty_slot empty_slot b
          ∙ get_or-set_other slots hole x (slot_at slots next) empty_slot a

      new_hole : slot_at new hole ≡ slot_at slots next
      new_hole =
          ap (λ (l : List Slot). slot_at l hole) new_is
          ∙ get_or-set_other (slice_set slots hole (slot_at slots next)) next hole empty_slot empty_slot
          (λ same. c.ahead (sym same))
          ∙ get_or-set_same slots hole (slot_at slots next) empty_slot hole_in

      new_next : is_used (slot_at new next) ≡ false
      new_next =
          ap (λ (l : List Slot). is_used (slot_at l next)) new_is
          ∙ ap is_used (get_or-set_same (slice_set slots hole (slot_at slots next)) next empty_slot empty_slot next_in)

      -- the hole was on the way to the place that goes there
      nearer : distance (length old) (h.home k) next
          ≡ distance (length old) (h.home k) hole + distance (length old) hole next
      nearer = distance_within (length old) (h.home k) hole next (in_row k) c.hole_range c.next_range goes

      apart_far : 0 < distance (length old) hole next
      apart_far = distance_apart (length old) hole next c.hole_range c.next_range c.ahead

      each_found : (i : ℕ) → i < length old → is_used (slot_at new i) ≡ true
          → (key : List ℕ) × IsNearlyFound h keys (length old) new next (next_slot (length old) next) i key
      each_found i i_in used =
          elim (eqb_tells i hole) [
            | inl y ↦ subst (λ (j : ℕ). (key : List ℕ)
                × IsNearlyFound h keys (length old) new next (next_slot (length old) next) j key) (sym y.1) in_hole
            | inr y ↦
                let b : i ≢ next = not_at new i next used new_next in
                let same = new_others i y.1 b in
                let f = c.each i i_in (ap is_used (sym same) ∙ used) in (
                  f.0,
                  record {
                    of_key = ap (λ (s : Slot). keys (place_of s)) same ∙ f.1.of_key;
                    tag = ap (λ (s : Slot). s.tag) same ∙ f.1.tag;
                    up_to = λ x x_in other lt. elim (eqb_tells x hole) [
                      | inl z ↦ ap (λ (j : ℕ). is_used (slot_at new j)) z.1 ∙ ap is_used new_hole ∙ u
                      | inr z ↦ ap is_used (new_others x z.1 other) ∙ f.1.up_to x x_in z.1 lt
                    ];
                    through = λ lt. one_step i i_in b;
                  },
                )
          ]
        where
          one_step : (i : ℕ) → i < length old → i ≢ next
              → distance (length old) next (next_slot (length old) next) ≤ distance (length old) next i
          one_step i i_in differ =
              let n = length old in
              let d = distance_apart n next i c.next_range i_in differ in
              let z = distance_itself n next in
              let s = distance_to_next n next next i c.next_range c.next_range i_in (omega (arith, d, z)) in
              omega (arith, d, z, s)

          in_hole : (key : List ℕ) × IsNearlyFound h keys (length old) new next (next_slot (length old) next) hole key
          in_hole =
              let f = c.each next c.next_range u in
              let e : Some f.0 ≡ Some k = sym f.1.of_key ∙ k_is in
              let f_is : f.0 ≡ k = cc in
              let g : IsNearlyFound h keys (length old) slots hole next next k = subst
              (λ (x : List ℕ). IsNearlyFound h keys (length old) slots hole next next x) f_is f.1 in (
                k,
                record {
                  of_key = ap (λ (s : Slot). keys (place_of s)) new_hole ∙ k_is;
                  tag = ap (λ (s : Slot). s.tag) new_hole ∙ g.tag;
                  up_to = λ x x_in other lt.
                      let near = nearer in
                      let far = apart_far in
                      let not_hole : x ≢ hole =
                      λ same. (let d = ap (distance (length old) (h.home k)) same in omega (arith, d, lt)) in
                      ap is_used (new_others x not_hole other) ∙ g.up_to x x_in not_hole (omega (arith, lt, near));
                  through = λ lt. (let near = nearer in absurd (omega (arith, lt, near)));
                },
              )

      -- each place stood in one slot before
      was_at : (i : ℕ) → i < length old → is_used (slot_at new i) ≡ true
          → (j : ℕ) × (j < length old) × (is_used (slot_at slots j) ≡ true) × (slot_at new i ≡ slot_at slots j) ×
          (((i ≡ hole) × (j ≡ next)) ⊎ ((i ≢ hole) × (j ≡ i)))
      was_at i i_in used =
          elim (eqb_tells i hole) [
            | inl y ↦ (next, c.next_range, u, ap (slot_at new) y.1 ∙ new_hole, inl (y.1, refl))
            | inr y ↦
                let b : i ≢ next = not_at new i next used new_next in
                let same = new_others i y.1 b in
                (i, i_in, ap is_used (sym same) ∙ used, same, inr (y.1, refl))
          ]

      once_still : (i j : ℕ) → i < length old → j < length old → is_used (slot_at new i) ≡ true
          → is_used (slot_at new j) ≡ true
          → keys (place_of (slot_at new i)) ≡ keys (place_of (slot_at new j)) → i ≡ j
      once_still i j i_in j_in a b same =
          let p = was_at i i_in a in
          let q = was_at j j_in b in
          let one : p.0 ≡ q.0 = c.once p.0 q.0 p.1 q.1 p.2 q.2
          (ap (λ (s : Slot). keys (place_of s)) (sym p.3) ∙ same ∙ ap (λ (s : Slot). keys (place_of s)) q.3) in
          let bi : i ≢ next = not_at new i next a new_next in
          let bj : j ≢ next = not_at new j next b new_next in
          elim p.4 [
            | inl y ↦ elim q.4 [ inl z ↦ y.0 ∙ sym z.0 | inr z ↦ absurd (bj (sym z.1 ∙ sym one ∙ y.1)) ]
            | inr y ↦ elim q.4 [ inl z ↦ absurd (bi (sym y.1 ∙ one ∙ z.1)) | inr z ↦ sym y.1 ∙ one ∙ z.1 ]
          ]

      stood : (q : List ℕ) (p : Place) → Stands keys new q p → Stands keys slots q p
      stood q p st =
          let w = was_at st.at (let r = st.in_range in let l = new_len in omega (arith, r, l)) st.used in
          record {
            at = w.0;
            in_range = (let r = w.1 in let l = c.len in omega (arith, r, l));
            used = w.2;
            place_is = ap place_of (sym w.3) ∙ st.place_is;
            key_is = st.key_is;
          }

      stands : (q : List ℕ) (p : Place) → Stands keys slots q p → Stands keys new q p
      stands q p st =
          elim (eqb_tells st.at next) [
            | inl y ↦ record {
              at = hole;
              in_range = (let r = c.hole_range in let l = new_len in omega (arith, r, l));
              used = ap is_used new_hole ∙ u;
              place_is = ap place_of new_hole ∙ ap (λ (j : ℕ). place_of (slot_at slots j)) (sym y.1) ∙ st.place_is;
              key_is = st.key_is;
            }
            | inr y ↦
                let b : st.at ≢ hole = not_at slots st.at hole st.used c.hole_empty in
                let same = new_others st.at b y.1 in
                record {
                  at = st.at;
                  in_range = (let r = st.in_range in let l = c.len in let m = new_len in omega (arith, r, l, m));
                  used = ap is_used same ∙ st.used;
                  place_is = ap place_of same ∙ st.place_is;
                  key_is = st.key_is;
                }
          ]

      as_many : used_in new ≡ used_in slots
      as_many =
          let a = set_count slots hole (slot_at slots next) hole_in in
          let b = set_count (slice_set slots hole (slot_at slots next)) next empty_slot next_in in
          let was : ◌≡◌ {A = ℕ} (cond (is_used (slot_at slots hole)) 1 0) 0 = ap (λ b. cond b 1 0) c.hole_empty in
          let one : ◌≡◌ {A = ℕ} (cond (is_used (slot_at slots next)) 1 0) 1 = ap (λ b. cond b 1 0) u in
          let still : slot_at (slice_set slots hole (slot_at slots next)) next ≡ slot_at slots next =
          get_or-set_other slots hole next (slot_at slots next) empty_slot c.ahead in
          let there : ◌≡◌ {A = ℕ} (cond (is_used (slot_at (slice_set slots hole (slot_at slots next)) next)) 1 0) 1 =
          ap (λ (s : Slot). cond (is_used s) 1 0) still ∙ one in
          let e = ap used_in new_is in
          omega (arith, a, b, was, one, there, e)

      pub moved : IsShifting h keys old new start next (next_slot (length old) next) key
      moved =
          let n = length old in
          let g = c.gap.1 in
          let e = c.gap.0 in
          let far = distance_apart n next e c.next_range g.in_range gap_apart in
          let z = distance_itself n next in
          let s = distance_to_next n next next e c.next_range c.next_range g.in_range (omega (arith, far, z)) in
          record {
            len = new_len;
            start_range = c.start_range;
            hole_range = c.next_range;
            next_range = next_slot_below n next c.next_range;
            hole_empty = new_next;
            each = each_found;
            once = once_still;
            gap = (
              e,
              record {
                in_range = g.in_range;
                other = gap_apart;
                empty = ap is_used (new_others e g.other gap_apart) ∙ g.empty;
                from_hole = omega (arith, far, z, s);
                from_start = (let t = start_step in let f = start_to_gap in omega (arith, t, f));
              },
            );
            ahead = λ same. (let d = ap (distance n next) same in omega (arith, d, s, z));
            only = λ q p st. c.only q p (stood q p st);
            there = λ q p differ st. stands q p (c.there q p differ st);
            count = (let m = as_many in let o = c.count in omega (arith, m, o));
          }

  -- ---- the end

  module _ (slots : List Slot) (start hole next : ℕ) (key : List ℕ) (c : IsShifting h keys old slots start hole next key)
      (ended : is_used (slot_at slots next) ≡ false) where
    -- no place is found through the hole, since after it there is an empty slot
    none_through : (i : ℕ) (k : List ℕ) → i < length old → is_used (slot_at slots i) ≡ true
        → IsNearlyFound h keys (length old) slots hole next i k
        → distance (length old) (h.home k) hole < distance (length old) (h.home k) i → ⊥
    none_through i k i_in used f lt =
        let n = length old in
        let le = f.through lt in
        let whole = distance_add n (h.home k) hole i (in_row k) c.hole_range i_in (omega (arith, lt)) in
        let below = distance_below n (h.home k) i (in_row k) i_in in
        let differ : i ≢ next = not_at slots i next used ended in
        let less : distance n hole next < distance n hole i =
        elim (leb_tells (distance n hole i) (distance n hole next)) [
          | inl y ↦ absurd (differ (distance_once n hole i next c.hole_range i_in c.next_range (omega (arith, y, le))))
          | inr y ↦ y.1
        ] in
        let to_next = distance_sum n (h.home k) hole next (in_row k) c.hole_range c.next_range
        (omega (arith, whole, below, less)) in
        true_false (sym (f.up_to next c.next_range c.ahead (omega (arith, to_next, whole, less))) ∙ ended)

    end_used : (i : ℕ) (k : List ℕ) → i < length old → is_used (slot_at slots i) ≡ true
        → IsNearlyFound h keys (length old) slots hole next i k
        → AreUsedUpTo slots (h.home k) i
    end_used i k i_in used f x x_in lt =
        let n = length old in
        let in_old : x < n = (let l = c.len in omega (arith, l, x_in)) in
        let less : distance n (h.home k) x < distance n (h.home k) i = rw c.len at lt in
        elim (eqb_tells x hole) [
          | inl y ↦ absurd (none_through i k i_in used f
              (subst (λ (j : ℕ). distance n (h.home k) j < distance n (h.home k) i) y.1 less))
          | inr y ↦ f.up_to x in_old y.1 less
        ]

    pub finished : AreIndexed h keys old → IsWithout h keys old slots key
    finished indexed =
        let in_old : (i : ℕ) → i < length slots → i < length old = λ i r. (let l = c.len in omega (arith, l, r)) in
        record {
          indexed = record {
            each = λ i r used.
                let f = c.each i (in_old i r) used in
                (f.0, record { of_key = f.1.of_key; tag = f.1.tag; up_to = end_used i f.0 (in_old i r) used f.1 });
            once = λ i j r s. c.once i j (in_old i r) (in_old j s);
          };
          places_are = removed_places keys old slots key c.only c.there (λ q p r. stands_once h keys old indexed q p r);
          count = c.count;
        }

-- the home of each key is one of the slots
pub homes_in_row : (count : ℕ) (layout : Layout) (hasher : FoldHasher) → 1 ≤ count → (k : List ℕ)
    → (hashing count layout hasher).home k < count
homes_in_row count layout hasher some k = home_below count (hash_of hasher k) some
