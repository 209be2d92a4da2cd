-- Rows with one slot more.
use Rattle.std.proofs.Common.{◌≡◌, ℕ, ◌+◌, ◌-◌, ◌<◌, ◌≤◌, true, false, cond, List, [], ◌∷◌, ◌++◌, length, sym, ap}
use Rattle.std.proofs.Common.{◌∙◌, inl, inr, ◌⊎◌, arith, subst}
use Rattle.std.specs.Prelude.{filter_map}
use Rattle.std.specs.FinMap as map
use Rattle.std.specs.Ordering.{nat_cmp}
use Rattle.std.specs.Cmp.Lexicographic.{slice_cmp}
use Rattle.segments.specs.declared.place.Place.{Place}
use Rattle.std.specs.declared.hash.FoldHasher.{FoldHasher}
use Rattle.std.proofs.Math.ListN.{get_or-append}
use Rattle.std.proofs.Math.Seq.{get_or-append_seam}
use Rattle.std.proofs.lemmas.Bool.Decides.{leb_tells}
use Rattle.std.proofs.lemmas.List.{length-append, append-nil}
use Rattle.std.proofs.lemmas.List.Elements.{filter_map-append}
use Rattle.std.proofs.lemmas.List.Sums.{sum_by-append}
use Rattle.index.specs.declared.slots.Slot.{Slot}
use Rattle.index.specs.declared.layout.Layout.{Layout}
use Rattle.index.specs.Keys.{KeysOf, hash_of, split_home}
use Rattle.index.specs.Slots.{is_used, place_of, slot_at, used_in, empty_slot, distance, AreUsedUpTo}
use Rattle.index.specs.Reinserting.{AreNear}
use Rattle.index.specs.Table.{Hashing, hashing, AreIndexed, places_in, slot_entry}
use Rattle.index.proofs.SplitHomes.{home_grown}
use Rattle.index.proofs.RowDistances.{distance_cases}

-- true isn't false
true_false : true ≡ false → ⊥
true_false e = cc

-- the row with an empty slot after the others
abbrev pub longer : List Slot → List Slot
longer slots = slots ++ empty_slot ∷ []

pub longer_length : (slots : List Slot) → length (longer slots) ≡ length slots + 1
longer_length slots = length-append slots (empty_slot ∷ [])

pub longer_used : (slots : List Slot) → used_in (longer slots) ≡ used_in slots
longer_used slots = (let e = sum_by-append (λ (x : Slot). cond (is_used x) 1 0) slots (empty_slot ∷ []) in omega (arith, e))

pub longer_places : (keys : KeysOf) (slots : List Slot) → places_in keys (longer slots) ≡ places_in keys slots
unfolding places_in
longer_places keys slots =
    ap (λ (es : List (List ℕ × Place)). map.from_entries {R = slice_cmp nat_cmp} es)
    (filter_map-append (slot_entry keys) slots (empty_slot ∷ []) ∙ append-nil (filter_map (slot_entry keys) slots))

-- a used slot of the longer row is one of the row
within : (slots : List Slot) (i : ℕ) → i < length (longer slots) → is_used (slot_at (longer slots) i) ≡ true
    → i < length slots
within slots i r used =
    let long = longer_length slots in
    elim (leb_tells (length slots) i) [
      | inl y ↦
          let last : i ≡ length slots = omega (arith, y, r, long) in
          let empty : is_used (slot_at (longer slots) i) ≡ false =
          ap (λ (x : ℕ). is_used (slot_at (longer slots) x)) last
          ∙ ap is_used (get_or-append_seam slots empty_slot [] empty_slot) in
          absurd (true_false (sym used ∙ empty))
      | inr y ↦ y.1
    ]

-- the slots of the row stay
pub same_slot : (slots : List Slot) (i : ℕ) → i < length slots → slot_at (longer slots) i ≡ slot_at slots i
same_slot slots i r = get_or-append slots (empty_slot ∷ []) empty_slot i r

-- In the longer row each key is found from its home; or its search had gone over the end, which was
-- used, and it is found from the front.
pub near_front : (h : Hashing) (keys : KeysOf) (slots : List Slot) (from : ℕ) → ((k : List ℕ) → h.home k < length slots)
    → AreIndexed h keys slots → (from ≡ 0) ⊎ (is_used (slot_at slots (length slots - 1)) ≡ false)
    → AreNear h keys (longer slots) from
near_front h keys slots from in_row indexed begins =
    record {
      each = λ i r used.
          let i_in = within slots i r used in
          let same = same_slot slots i i_in in
          let f = indexed.each i i_in (ap is_used (sym same) ∙ used) in (
            f.0,
            record {
              of_key = ap (λ (s : Slot). keys (place_of s)) same ∙ f.1.of_key;
              tag = ap (λ (s : Slot). s.tag) same ∙ f.1.tag;
              up_to = elim (leb_tells (h.home f.0) i) [
                | inl y ↦ inl (λ x x_in lt.
                    let between = on_way (length (longer slots)) (h.home f.0) i x r y.1 lt in
                    let x_below : x < length slots = omega (arith, between, i_in) in
                    ap is_used (same_slot slots x x_below)
                    ∙ f.1.up_to x x_below (ahead (length slots) (h.home f.0) i x y.1 between.0 between.1))
                | inr y ↦ elim begins [
                  | inl front ↦ inr (subst (λ (o : ℕ). AreUsedUpTo (longer slots) o i) (sym front) (λ x x_in lt.
                      let between = on_way (length (longer slots)) 0 i x r (omega arith) lt in
                      let x_below : x < length slots = omega (arith, between, i_in) in
                      ap is_used (same_slot slots x x_below)
                      ∙ f.1.up_to x x_below (over (length slots) (h.home f.0) i x (in_row f.0) y.1 between.1)))
                  | inr empty ↦
                      let last_in : length slots - 1 < length slots = omega (arith, i_in) in
                      let last = last_nearer (length slots) (h.home f.0) i (in_row f.0) y.1 in
                      absurd (true_false (sym (f.1.up_to (length slots - 1) last_in last) ∙ empty))
                ]
              ];
            },
          );
      once = λ i j r s a b same.
          let i_in = within slots i r a in
          let j_in = within slots j s b in
          let e = same_slot slots i i_in in
          let f = same_slot slots j j_in in
          indexed.once i j i_in j_in (ap is_used (sym e) ∙ a) (ap is_used (sym f) ∙ b)
          (ap (λ (s : Slot). keys (place_of s)) (sym e) ∙ same ∙ ap (λ (s : Slot). keys (place_of s)) f);
    }
  where
    -- what is nearer than a slot ahead stands between
    on_way : (n from i x : ℕ) → i < n → from ≤ i → distance n from x < distance n from i → (from ≤ x) × (x < i)
    on_way n from i x r le lt =
        elim (distance_cases n from i) [
          | inl p ↦ elim (distance_cases n from x) [
            | inl q ↦ (q.0, omega (arith, p, q, lt))
            | inr q ↦ absurd (omega (arith, p, q, lt, r))
          ]
          | inr p ↦ absurd (omega (arith, p, le))
        ]

    ahead : (n from i x : ℕ) → from ≤ i → from ≤ x → x < i → distance n from x < distance n from i
    ahead n from i x le on lt =
        elim (distance_cases n from i) [
          | inl p ↦ elim (distance_cases n from x) [ inl q ↦ omega (arith, p, q, lt) | inr q ↦ absurd (omega (arith, q, on)) ]
          | inr p ↦ absurd (omega (arith, p, le))
        ]

    over : (n from i x : ℕ) → from < n → i < from → x < i → distance n from x < distance n from i
    over n from i x r le lt =
        elim (distance_cases n from i) [
          | inl p ↦ absurd (omega (arith, p, le))
          | inr p ↦ elim (distance_cases n from x) [ inl q ↦ absurd (omega (arith, q, le, lt)) | inr q ↦ omega (arith, p, q, lt, r, le) ]
        ]

    -- the last slot is nearer than one over the end
    last_nearer : (n from i : ℕ) → from < n → i < from → distance n from (n - 1) < distance n from i
    last_nearer n from i f lt =
        elim (distance_cases n from i) [
          | inl p ↦ absurd (omega (arith, p, lt))
          | inr p ↦ elim (distance_cases n from (n - 1)) [ inl q ↦ omega (arith, p, q, f) | inr q ↦ absurd (omega (arith, q, f)) ]
        ]

-- by the homes of one slot more each key is found from its home, or from the home that was split
pub near_split : (n : ℕ) (l : Layout) (hasher : FoldHasher) (keys : KeysOf) (slots : List Slot) → 1 ≤ n
    → AreIndexed (hashing n l hasher) keys slots → AreNear (hashing (n + 1) l hasher) keys slots (split_home n)
near_split n l hasher keys slots some indexed =
    record {
      each = λ i r used.
          let f = indexed.each i r used in (
            f.0,
            record {
              of_key = f.1.of_key;
              tag = f.1.tag;
              up_to = elim (home_grown n (hash_of hasher f.0) some) [
                | inl y ↦ inl (subst (λ (x : ℕ). AreUsedUpTo slots x i) (sym y) f.1.up_to)
                | inr y ↦ inr (subst (λ (x : ℕ). AreUsedUpTo slots x i) y.0 f.1.up_to)
              ];
            },
          );
      once = indexed.once;
    }
