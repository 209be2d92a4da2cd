-- Rows in which some keys aren't found from their homes, and are inserted again.
use Rattle.std.specs.Prelude.{◌≡◌, ◌⊎◌, ℕ, ◌<◌, ◌≤◌, true, false, List, length, Some}
use Rattle.index.specs.declared.slots.Slot.{Slot}
use Rattle.index.specs.declared.growing.Stretch.{Stretch}
use Rattle.index.specs.Keys.{KeysOf}
use Rattle.index.specs.Layouts.{SlotArray}
use Rattle.index.specs.Slots.{is_used, place_of, slot_at, used_in, distance, AreUsedUpTo}
use Rattle.index.specs.Table.{Hashing, places_in}

-- The slot has a place of the key, with the key's tag; and it is found from the key's home or from
-- a certain slot.
pub record IsNear (h : Hashing) (keys : KeysOf) (slots : List Slot) (from i : ℕ) (key : List ℕ) : Type 0 where
  pub of_key : keys (place_of (slot_at slots i)) ≡ Some key
  pub tag : (slot_at slots i).tag ≡ h.tag key
  pub up_to : AreUsedUpTo slots (h.home key) i ⊎ AreUsedUpTo slots from i

-- each slot with a place is found from its key's home or from a certain slot, and no two of them
-- have one key
pub record AreNear (h : Hashing) (keys : KeysOf) (slots : List Slot) (from : ℕ) : Type 0 where
  pub each : (i : ℕ) → i < length slots → is_used (slot_at slots i) ≡ true
      → (key : List ℕ) × IsNear h keys slots from i key
  pub once : (i j : ℕ) → i < length slots → j < length slots → is_used (slot_at slots i) ≡ true
      → is_used (slot_at slots j) ≡ true
      → keys (place_of (slot_at slots i)) ≡ keys (place_of (slot_at slots j)) → i ≡ j

-- the first slot from one on that is empty, or another one that comes before it
pub record IsFirstStop (slots : List Slot) (from end stop : ℕ) : Type 0 where
  pub in_range : stop < length slots
  pub up_to : AreUsedUpTo slots from stop
  pub near : distance (length slots) from stop ≤ distance (length slots) from end
  pub stops : (stop ≡ end) ⊎ (is_used (slot_at slots stop) ≡ false)

-- all slots of the stretch are used
pub record IsStretch (slots : List Slot) (s : Stretch) : Type 0 where
  pub first : s.first < length slots
  pub end : s.end < length slots
  pub used : AreUsedUpTo slots s.first s.end

-- the keys have the places that they had, in as many slots, and the layout and the room stay
pub record HasSamePlaces (keys : KeysOf) (old new : SlotArray) : Type 0 where
  pub places : places_in keys new.slots ≡ places_in keys old.slots
  pub used : used_in new.slots ≡ used_in old.slots
  pub layout : new.layout ≡ old.layout
  pub room : new.room ≡ old.room
