-- The finite map that the slots stand for.
use Rattle.std.proofs.Common.{◌≡◌, ◌≢◌, ℕ, zero, suc, ◌<◌, Bool, true, false, cond, List, [], ◌∷◌, length, refl, sym, ap, ◌∙◌}
use Rattle.std.proofs.Common.{inl, inr, ◌⊎◌, arith, Option, Some, None, subst}
use Rattle.std.specs.Prelude.{bytes_eq, filter_map}
use Rattle.std.specs.FinMap as map
use Rattle.std.specs.FinMap.{slice_cmp-IsAntisymmetric, nat_cmp-IsAntisymmetric}
use Rattle.std.specs.Ordering.{nat_cmp}
use Rattle.std.specs.Cmp.Lexicographic.{slice_cmp, nat_list_cmp_total}
use Rattle.std.proofs.lemmas.Map.Text.{is_eq-slice_cmp}
use Rattle.std.proofs.lemmas.Slice.Eq.{bytes_eq-Decides}
use Rattle.std.proofs.lemmas.Bool.{cases_Bool}
use Rattle.index.specs.declared.slots.Slot.{Slot}
use Rattle.segments.specs.declared.place.Place.{Place}
use Rattle.index.specs.Keys.{KeysOf}
use Rattle.index.specs.Slots.{is_used, place_of, slot_at}
use Rattle.index.specs.Table.{Places, slot_entry, places_in, Hashing, AreIndexed}

-- true isn't false
true_false : true ≡ false → ⊥
true_false e = cc

-- a slot has a place of the key
pub record Stands (keys : KeysOf) (slots : List Slot) (q : List ℕ) (p : Place) : Type 0 where
  pub at : ℕ
  pub in_range : at < length slots
  pub used : is_used (slot_at slots at) ≡ true
  pub place_is : place_of (slot_at slots at) ≡ p
  pub key_is : keys p ≡ Some q

-- a slot with a place of a key
pub record HasKey (keys : KeysOf) (s : Slot) : Type 0 where
  pub key : List ℕ
  pub used : is_used s ≡ true
  pub key_is : keys (place_of s) ≡ Some key
  pub entry : slot_entry keys s ≡ Some (key, place_of s)

-- a slot that is empty, or whose place has no key
pub record HasNone (keys : KeysOf) (s : Slot) : Type 0 where
  pub none : (q : List ℕ) → is_used s ≡ true → keys (place_of s) ≡ Some q → ⊥
  pub entry : slot_entry keys s ≡ None

-- either there is a key or there is none
of_option : (o : Option (List ℕ)) → ((k : List ℕ) × (o ≡ Some k)) ⊎ (o ≡ None)
of_option (Some k) = inl (k, refl)
of_option None = inr refl

-- either a slot has a place of a key, or it is empty or its place has none
slot_cases : (keys : KeysOf) (s : Slot) → HasKey keys s ⊎ HasNone keys s
slot_cases keys s =
    elim (cases_Bool (is_used s)) [
      | inl used ↦ elim (of_option (keys (place_of s))) [
        | inl k ↦ inl record { key = k.0; used = used; key_is = k.1; entry = rw (used, k.1) refl }
        | inr none ↦ inr record {
          none = λ q u is. (let e : Some q ≡ None = sym is ∙ none in cc);
          entry = rw (used, none) refl;
        }
      ]
      | inr free ↦ inr record { none = λ q u is. true_false (sym u ∙ free); entry = rw free refl }
    ]

-- the place of a key in the first slot that has one, None where no slot does
abbrev found : KeysOf → List Slot → List ℕ → Option Place
found keys slots q = map.find (slice_cmp nat_cmp) q (filter_map (slot_entry keys) slots)

-- where a slot has a place of a key, one has it with another slot put in front, too
shifted : (keys : KeysOf) (s : Slot) (slots : List Slot) (q : List ℕ) (p : Place) → Stands keys slots q p
    → Stands keys (s ∷ slots) q p
shifted keys s slots q p h =
    record {
      at = suc h.at;
      in_range = (let r = h.in_range in omega (arith, r));
      used = h.used;
      place_is = h.place_is;
      key_is = h.key_is;
    }

-- either the place of the key that comes first stands in a slot, or there is none and no slot has a
-- place of the key
Found : KeysOf → List Slot → List ℕ → Type 0
Found keys slots q = ((p : Place) × (found keys slots q ≡ Some p) × Stands keys slots q p) ⊎
    ((found keys slots q ≡ None) × ((p : Place) → Stands keys slots q p → ⊥))

-- a slot in front that isn't of the key
passed : (keys : KeysOf) (s : Slot) (slots : List Slot) (q : List ℕ) → found keys (s ∷ slots) q ≡ found keys slots q
    → (is_used s ≡ true → keys (place_of s) ≡ Some q → ⊥) → Found keys slots q → Found keys (s ∷ slots) q
unfolding Found
passed keys s slots q same other (inl h) = inl (h.0, same ∙ h.1, shifted keys s slots q h.0 h.2)
passed keys s slots q same other (inr h) =
    inr (same ∙ h.0, λ p st. first st.at p st.in_range st.used st.place_is st.key_is)
  where
    first : (at : ℕ) (p : Place) → at < length (s ∷ slots) → is_used (slot_at (s ∷ slots) at) ≡ true
        → place_of (slot_at (s ∷ slots) at) ≡ p
        → keys p ≡ Some q → ⊥
    first zero p r u i k = other u (ap keys i ∙ k)
    first (suc at) p r u i k = h.1 p record { at = at; in_range = omega (arith, r); used = u; place_is = i; key_is = k }

-- whatever the slots, the place of a key that comes first stands in one of them, or no slot has a
-- place of the key
found_in : (keys : KeysOf) (slots : List Slot) (q : List ℕ) → Found keys slots q
unfolding Found
found_in keys [] q = inr (refl, λ p h. (let r = h.in_range in omega (arith, r)))
found_in keys (s ∷ slots) q =
    elim (slot_cases keys s) [
      | inl k ↦ elim (cases_Bool (bytes_eq q k.key)) [
        | inl same ↦
            let here : found keys (s ∷ slots) q ≡ Some (place_of s) =
            rw (k.entry, is_eq-slice_cmp q k.key, same) refl in
            let q_is : q ≡ k.key = (bytes_eq-Decides q k.key).0 same in
            inl (
              place_of s,
              here,
              record {
                at = 0;
                in_range = omega arith;
                used = k.used;
                place_is = refl;
                key_is = k.key_is ∙ ap Some (sym q_is);
              },
            )
        | inr other ↦
            let skips : found keys (s ∷ slots) q ≡ found keys slots q =
            rw (k.entry, is_eq-slice_cmp q k.key, other) refl in
            passed keys s slots q skips (λ u is. (let e : k.key ≡ q = (let f = sym k.key_is ∙ is in cc) in true_false
            (sym ((bytes_eq-Decides q k.key).1 (sym e)) ∙ other))) (found_in keys slots q)
      ]
      | inr n ↦ (let skips : found keys (s ∷ slots) q ≡ found keys slots q = rw n.entry refl in
          passed keys s slots q skips (λ u is. n.none q u is) (found_in keys slots q))
    ]

-- the map of the slots' places has at a key the place that comes first
get-places : (keys : KeysOf) (slots : List Slot) (q : List ℕ) → map.get (places_in keys slots) q ≡ found keys slots q
unfolding places_in
get-places keys slots q = map.get-from_entries nat_list_cmp_total (filter_map (slot_entry keys) slots) q

-- what the map has at a key stands in a slot
pub stands_from_get : (keys : KeysOf) (slots : List Slot) (q : List ℕ) (p : Place)
    → map.get (places_in keys slots) q ≡ Some p → Stands keys slots q p
unfolding Found
stands_from_get keys slots q p is =
    let f : found keys slots q ≡ Some p = sym (get-places keys slots q) ∙ is in
    elim (found_in keys slots q) [
      | inl h ↦ (let e : h.0 ≡ p = (let g = sym h.1 ∙ f in cc) in subst (λ (r : Place). Stands keys slots q r) e h.2)
      | inr h ↦ (let g : None ≡ Some p = sym h.0 ∙ f in cc)
    ]

-- where a slot has a place of a key and no slot has another one, the map has that place at the key
pub get_from_stands : (keys : KeysOf) (slots : List Slot) (q : List ℕ) (p : Place) → Stands keys slots q p
    → ((r : Place) → Stands keys slots q r → r ≡ p) → map.get (places_in keys slots) q ≡ Some p
unfolding Found
get_from_stands keys slots q p st once =
    elim (found_in keys slots q) [
      | inl h ↦ get-places keys slots q ∙ h.1 ∙ ap Some (once h.0 h.2)
      | inr h ↦ absurd (h.1 p st)
    ]

-- where no slot has a place of a key, the map has nothing at the key
pub get_none : (keys : KeysOf) (slots : List Slot) (q : List ℕ) → ((p : Place) → Stands keys slots q p → ⊥)
    → map.get (places_in keys slots) q ≡ None
unfolding Found
get_none keys slots q none =
    elim (found_in keys slots q) [
      | inl h ↦ absurd (none h.0 h.2)
      | inr h ↦ get-places keys slots q ∙ h.0
    ]

-- where the map has nothing at a key, no slot has a place of the key
pub none_stands : (keys : KeysOf) (slots : List Slot) (q : List ℕ) → map.get (places_in keys slots) q ≡ None
    → (p : Place) → Stands keys slots q p → ⊥
unfolding Found
none_stands keys slots q none p st =
    elim (found_in keys slots q) [
      | inl h ↦ (let g : Some h.0 ≡ None = sym h.1 ∙ sym (get-places keys slots q) ∙ none in cc)
      | inr h ↦ h.1 p st
    ]

-- the places in slots are a map where it has exactly them
pub same_places : (keys : KeysOf) (slots : List Slot) (m : Places)
    → ((q : List ℕ) (p : Place) → Stands keys slots q p → map.get m q ≡ Some p)
    → ((q : List ℕ) (p : Place) → map.get m q ≡ Some p → Stands keys slots q p) → places_in keys slots ≡ m
unfolding Found
same_places keys slots m to from =
    map.same_map nat_list_cmp_total (slice_cmp-IsAntisymmetric nat_cmp-IsAntisymmetric) (places_in keys slots) m
    (λ q. elim (found_in keys slots q) [
      | inl h ↦ get-places keys slots q ∙ h.1 ∙ sym (to q h.0 h.2)
      | inr h ↦ get-places keys slots q ∙ h.0 ∙ sym (nothing (map.get m q) (λ p is. h.1 p (from q p is)))
    ])
  where
    nothing : (o : Option Place) → ((p : Place) → o ≡ Some p → ⊥) → o ≡ None
    nothing None none = refl
    nothing (Some p) none = absurd (none p refl)

-- of indexed slots only one has a place of a key
pub stands_once : (h : Hashing) (keys : KeysOf) (slots : List Slot) → AreIndexed h keys slots
    → (q : List ℕ) (p r : Place)
    → Stands keys slots q p → Stands keys slots q r → r ≡ p
stands_once h keys slots indexed q p r a b =
    let same : keys (place_of (slot_at slots b.at)) ≡ keys (place_of (slot_at slots a.at)) =
    ap keys b.place_is ∙ b.key_is ∙ sym a.key_is
    ∙ ap keys (sym a.place_is) in
    let one : b.at ≡ a.at = indexed.once b.at a.at b.in_range a.in_range b.used a.used same in
    sym b.place_is ∙ ap (λ (i : ℕ). place_of (slot_at slots i)) one ∙ a.place_is

-- a map with one key written has the new place at this key, and at the others what it had
pub get-insert : (m : Places) (key : List ℕ) (p : Place) (q : List ℕ)
    → map.get (map.insert m key p) q ≡ cond (bytes_eq q key) (Some p) (map.get m q)
get-insert m key p q = map.get-insert nat_list_cmp_total m key p q
    ∙ ap (λ (b : Bool). cond b (Some p) (map.get m q)) (is_eq-slice_cmp q key)

-- a map with one key taken out has nothing at this key, and at the others what it had
pub get-remove : (m : Places) (key q : List ℕ) → map.get (map.remove m key) q ≡ cond (bytes_eq q key) None (map.get m q)
get-remove m key q = map.get-remove nat_list_cmp_total m key q
    ∙ ap (λ (b : Bool). cond b None (map.get m q)) (is_eq-slice_cmp q key)

-- The places are those of a map with one key written, where the key has its place and the other
-- keys theirs.
pub inserted_places : (before after : KeysOf) (old new : List Slot) (key : List ℕ) (place : Place)
    → ((q : List ℕ) (p : Place) → Stands after new q p
    → ((q ≡ key) × (p ≡ place)) ⊎ ((q ≢ key) × Stands before old q p))
    → Stands after new key place
    → ((q : List ℕ) (p : Place) → q ≢ key → Stands before old q p → Stands after new q p)
    → ((q : List ℕ) (p r : Place) → Stands before old q p → Stands before old q r → r ≡ p)
    → places_in after new ≡ map.insert (places_in before old) key place
inserted_places before after old new key place only here there once =
    same_places after new (map.insert (places_in before old) key place) to from
  where
    to : (q : List ℕ) (p : Place) → Stands after new q p
        → map.get (map.insert (places_in before old) key place) q ≡ Some p
    to q p st =
        elim (only q p st) [
          | inl is ↦ get-insert (places_in before old) key place q
              ∙ rw ((bytes_eq-Decides q key).1 is.0) (ap Some (sym is.1))
          | inr is ↦ get-insert (places_in before old) key place q
              ∙ other q p is.0 (get_from_stands before old q p is.1 (λ r. once q p r is.1))
              (cases_Bool (bytes_eq q key))
        ]
      where
        other : (q : List ℕ) (p : Place) → q ≢ key → map.get (places_in before old) q ≡ Some p
            → (bytes_eq q key ≡ true) ⊎ (bytes_eq q key ≡ false)
            → cond (bytes_eq q key) (Some place) (map.get (places_in before old) q) ≡ Some p
        other q p differ is (inl same) = absurd (differ ((bytes_eq-Decides q key).0 same))
        other q p differ is (inr apart) = rw apart is

    from : (q : List ℕ) (p : Place) → map.get (map.insert (places_in before old) key place) q ≡ Some p
        → Stands after new q p
    from q p is = by (cases_Bool (bytes_eq q key)) (sym (get-insert (places_in before old) key place q) ∙ is)
      where
        by : (bytes_eq q key ≡ true) ⊎ (bytes_eq q key ≡ false)
            → cond (bytes_eq q key) (Some place) (map.get (places_in before old) q) ≡ Some p
            → Stands after new q p
        by (inl same) e =
            let q_is : q ≡ key = (bytes_eq-Decides q key).0 same in
            let f : Some place ≡ Some p = rw same at e in
            let p_is : place ≡ p = cc in
            subst (λ (r : Place). Stands after new q r) p_is
            (subst (λ (k : List ℕ). Stands after new k place) (sym q_is) here)
        by (inr apart) e =
            let f : map.get (places_in before old) q ≡ Some p = rw apart at e in
            there q p (λ same. true_false (sym ((bytes_eq-Decides q key).1 same) ∙ apart))
            (stands_from_get before old q p f)

-- likewise with one key taken out
pub removed_places : (keys : KeysOf) (old new : List Slot) (key : List ℕ)
    → ((q : List ℕ) (p : Place) → Stands keys new q p → (q ≢ key) × Stands keys old q p)
    → ((q : List ℕ) (p : Place) → q ≢ key → Stands keys old q p → Stands keys new q p)
    → ((q : List ℕ) (p r : Place) → Stands keys old q p → Stands keys old q r → r ≡ p)
    → places_in keys new ≡ map.remove (places_in keys old) key
removed_places keys old new key only there once =
    same_places keys new (map.remove (places_in keys old) key) to from
  where
    to : (q : List ℕ) (p : Place) → Stands keys new q p → map.get (map.remove (places_in keys old) key) q ≡ Some p
    to q p st =
        let is = only q p st in
        get-remove (places_in keys old) key q
        ∙ other (get_from_stands keys old q p is.1 (λ r. once q p r is.1)) (cases_Bool (bytes_eq q key))
      where
        other : map.get (places_in keys old) q ≡ Some p → (bytes_eq q key ≡ true) ⊎ (bytes_eq q key ≡ false)
            → cond (bytes_eq q key) None (map.get (places_in keys old) q) ≡ Some p
        other is (inl same) = absurd ((only q p st).0 ((bytes_eq-Decides q key).0 same))
        other is (inr apart) = rw apart is

    from : (q : List ℕ) (p : Place) → map.get (map.remove (places_in keys old) key) q ≡ Some p → Stands keys new q p
    from q p is = by (cases_Bool (bytes_eq q key)) (sym (get-remove (places_in keys old) key q) ∙ is)
      where
        by : (bytes_eq q key ≡ true) ⊎ (bytes_eq q key ≡ false)
            → cond (bytes_eq q key) None (map.get (places_in keys old) q) ≡ Some p → Stands keys new q p
        by (inl same) e = (let f : None ≡ Some p = rw same at e in cc)
        by (inr apart) e =
            let f : map.get (places_in keys old) q ≡ Some p = rw apart at e in
            there q p (λ same. true_false (sym ((bytes_eq-Decides q key).1 same) ∙ apart))
            (stands_from_get keys old q p f)
