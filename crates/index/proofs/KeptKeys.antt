-- Slots whose places keep their keys, and how many slots can be used.
use Rattle.std.proofs.Common.{◌≡◌, ℕ, ◌<◌, true, List, length, refl, sym, ap, ◌∙◌, Some}
use Rattle.std.specs.Prelude.{IsSome}
use Rattle.index.specs.declared.slots.Slot.{Slot}
use Rattle.segments.specs.declared.place.Place.{Place}
use Rattle.index.specs.Keys.{KeysOf}
use Rattle.index.specs.Slots.{is_used, place_of, slot_at}
use Rattle.index.specs.Table.{Table, places_in, Hashing, AreIndexed, IsIndex, HasPlace, IsMap, places}
use Rattle.index.proofs.SlotsAsMap.{Stands, same_places, stands_once, stands_from_get, get_from_stands}

-- each place in the slots has the same key after as before
abbrev Agree : KeysOf → KeysOf → List Slot → Type 0
Agree before after slots = (i : ℕ) → i < length slots → is_used (slot_at slots i) ≡ true
    → after (place_of (slot_at slots i)) ≡ before (place_of (slot_at slots i))

module _ (h : Hashing) (before after : KeysOf) (slots : List Slot) (agree : Agree before after slots)
    (indexed : AreIndexed h before slots) where
  agreed_indexed : AreIndexed h after slots
  agreed_indexed =
      record {
        each = λ i r u. (let f = indexed.each i r u in
            (f.0, record { of_key = agree i r u ∙ f.1.of_key; tag = f.1.tag; up_to = f.1.up_to }));
        once = λ i j r s u v same. indexed.once i j r s u v (sym (agree i r u) ∙ same ∙ agree j s v);
      }

  agreed_to : (q : List ℕ) (p : Place) → Stands after slots q p → Stands before slots q p
  agreed_to q p st =
      record {
        at = st.at;
        in_range = st.in_range;
        used = st.used;
        place_is = st.place_is;
        key_is = ap before (sym st.place_is) ∙ sym (agree st.at st.in_range st.used) ∙ ap after st.place_is ∙ st.key_is;
      }

  agreed_from : (q : List ℕ) (p : Place) → Stands before slots q p → Stands after slots q p
  agreed_from q p st =
      record {
        at = st.at;
        in_range = st.in_range;
        used = st.used;
        place_is = st.place_is;
        key_is = ap after (sym st.place_is) ∙ agree st.at st.in_range st.used ∙ ap before st.place_is ∙ st.key_is;
      }

  agreed_places : places_in after slots ≡ places_in before slots
  agreed_places =
      same_places after slots (places_in before slots)
      (λ q p st. (let was = agreed_to q p st in
      get_from_stands before slots q p was (λ r. stands_once h before slots indexed q p r was)))
      (λ q p is. agreed_from q p (stands_from_get before slots q p is))

-- where the places in a table keep their keys, the table stays an index of the same map
pub keys_agree : (before after : KeysOf) (t : Table) → IsIndex before t
    → ((p : Place) → HasPlace t p → after p ≡ before p) → IsMap after t (places before t)
keys_agree before after t index agree =
    let each : Agree before after t.slots =
    λ i r u. agree (place_of (slot_at t.slots i)) record { at = i; in_range = r; used = u; place_is = refl } in
    record {
      index = agreed_indexed _ before after t.slots each index;
      places_are = agreed_places _ before after t.slots each index;
    }

-- each place that an index holds has a key
pub held_key : (keys : KeysOf) (t : Table) → IsIndex keys t → (p : Place) → HasPlace t p → IsSome (keys p)
held_key keys t index p h =
    let k = index.each h.at h.in_range h.used in
    let is : keys p ≡ Some k.0 = ap keys (sym h.place_is) ∙ k.1.of_key in
    rw is refl
