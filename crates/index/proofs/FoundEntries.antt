-- What a search for a key found.
use Rattle.std.proofs.Common.{◌≡◌, ℕ, ◌≤◌, List, length, refl, sym, ap, subst, ◌∙◌, arith, Some, None}
use Rattle.std.specs.Prelude.{IsSome}
use Rattle.std.specs.FinMap as map
use Rattle.segments.specs.declared.place.Place.{Place}
use Rattle.index.specs.declared.index.Entry.{Entry}
use Rattle.index.specs.declared.index.Entry.TheVariants.{At, Gap}
use Rattle.index.specs.Keys.{KeysOf, hash_of, home_of}
use Rattle.index.specs.Layouts.{tag_of}
use Rattle.index.specs.Slots.{place_of, slot_at}
use Rattle.index.specs.Table.{Table, Hashing, hashing, IsIndex, IsMap, places, place_at}
use Rattle.index.specs.Searches.{IsEntryOf, IsOfKey, NoneUpTo}
use Rattle.index.proofs.SlotsAsMap.{get_none, get_from_stands, none_stands, removed_places, stands_once, Stands}
use Rattle.index.proofs.KeySlots.{none_found}
use Rattle.index.proofs.SplitHomes.{home_below}

-- a place that was found is the key's
pub found_place : (keys : KeysOf) (t : Table) (key : List ℕ) (hash slot : ℕ) (place : Place) → IsIndex keys t
    → IsEntryOf keys t key (At hash slot place) → place_at keys t key ≡ Some place
found_place keys t key hash slot place index found =
    let h : Hashing = hashing (length t.slots) t.layout t.hasher in
    let f : IsOfKey keys t.slots (tag_of t.layout hash) key slot = found.1.0 in
    let st : Stands keys t.slots key (place_of (slot_at t.slots slot)) =
    record { at = slot; in_range = f.in_range; used = f.used; place_is = refl; key_is = f.key_is } in
    get_from_stands keys t.slots key _ st (λ r. stands_once h keys t.slots index key _ r st) ∙ ap Some (sym found.1.1)

-- where a gap was found, no place is the key's
pub found_none : (keys : KeysOf) (t : Table) (key : List ℕ) (hash slot : ℕ) → IsIndex keys t
    → IsEntryOf keys t key (Gap hash slot) → place_at keys t key ≡ None
found_none keys t key hash slot index found =
    let some : 1 ≤ length t.slots = (let r = found.1.0.in_range in omega (arith, r)) in
    let h : Hashing = hashing (length t.slots) t.layout t.hasher in
    let none : NoneUpTo keys t.slots (h.home key) (h.tag key) key slot =
    subst (λ (n : ℕ). NoneUpTo keys t.slots (home_of (length t.slots) n) (tag_of t.layout n) key slot) found.0 found.1 in
    get_none keys t.slots key (none_found h keys t.slots key index (home_below (length t.slots) (hash_of t.hasher key) some)
    slot none)

-- and to take the key out changes nothing
pub removed_nothing : (keys : KeysOf) (t : Table) (key : List ℕ) (hash slot : ℕ) → IsIndex keys t
    → IsEntryOf keys t key (Gap hash slot) → IsMap keys t (map.remove (places keys t) key)
removed_nothing keys t key hash slot index found =
    let none = none_stands keys t.slots key (found_none keys t key hash slot index found) in
    record {
      index = index;
      places_are = removed_places keys t.slots t.slots key
          (λ q p st. (λ same. none p (subst (λ (k : List ℕ). Stands keys t.slots k p) same st), st)) (λ q p differ st. st)
          (λ q p r. stands_once (hashing (length t.slots) t.layout t.hasher) keys t.slots index q p r);
    }

-- what was found stays so where each place that has a key keeps it
pub found_kept : (before after : KeysOf) (t : Table) (key : List ℕ) (e : Entry) → IsIndex before t
    → ((p : Place) → IsSome (before p) → after p ≡ before p) → IsEntryOf before t key e → IsEntryOf after t key e
found_kept before after t key (At hash slot place) index kept found =
    let f : IsOfKey before t.slots (tag_of t.layout hash) key slot = found.1.0 in
    let has = f.key_is in (
      found.0,
      (
        record {
          in_range = f.in_range;
          used = f.used;
          tag_is = f.tag_is;
          key_is = kept (place_of (slot_at t.slots slot)) (rw has refl) ∙ has;
        },
        found.1.1,
      ),
    )
found_kept before after t key (Gap hash slot) index kept found =
    let none = found.1 in (
      found.0,
      (
        none.0,
        λ x r less tag has. none.1 x r less tag
            (let k = index.each x r (none.0.up_to x r less) in
            sym (kept (place_of (slot_at t.slots x)) (rw k.1.of_key refl)) ∙ has),
      ),
    )
