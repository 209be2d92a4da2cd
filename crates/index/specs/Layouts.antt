-- How a slot is packed into one number.
use Rattle.std.specs.Prelude.{◌≡◌, ℕ, ◌+◌, ◌-◌, ◌*◌, ◌/◌, ◌%◌, ◌^◌, ◌<◌, ◌≤◌, List, map, nat_le, min, ◌==◌}
use Rattle.std.specs.Prelude.{if◌then◌else◌}
use Rattle.proto.specs.Sizes.{Sizes}
use Rattle.segments.specs.declared.place.Place.{Place}
use Rattle.index.specs.declared.slots.Slot.{Slot}
use Rattle.index.specs.declared.layout.Layout.{Layout}
use Rattle.index.specs.Slots.{empty_slot, place_of}

-- offsets and places take these many bits at most
pub record IsLayout (l : Layout) : Type 0 where
  pub offsets : l.offset_bits ≤ 17
  pub some : 1 ≤ l.place_bits
  pub places : l.place_bits ≤ 33

-- a packed slot has four bytes if a place leaves room in them, and else eight
abbrev pub packed_limit : Layout → ℕ
packed_limit l = if nat_le l.place_bits 32 then 2 ^ 32 else 2 ^ 64

-- how many of a hash's upper 32 bits don't go into the bits beside a place
abbrev pub tag_shift : Layout → ℕ
tag_shift l = if nat_le l.place_bits 32 then l.place_bits else l.place_bits - 32

-- how many of a hash's lowest bits stand in its slot: half of those beside a place, and four at
-- most
abbrev pub home_bits : Layout → ℕ
home_bits l = if nat_le l.place_bits 32 then min ((32 - l.place_bits) / 2) 4 else 4

-- the bits of a hash that stand in its slot, counted from 1: the upper ones, and then the lowest
unfoldable pub tag_of : Layout → ℕ → ℕ
tag_of l hash = hash / 2 ^ 32 / 2 ^ (tag_shift l + home_bits l) * 2 ^ home_bits l + hash % 2 ^ home_bits l + 1

-- the lowest bits of the hash whose tag this is
unfoldable pub low_in : Layout → ℕ → ℕ
low_in l tag = (tag - 1) % 2 ^ home_bits l

-- the slot that was packed: 0 is an empty one, and else there are the tag, the segment, and the
-- offset in steps of eight bytes
unfoldable pub slot_of : Layout → ℕ → Slot
slot_of l packed =
    if packed == 0 then empty_slot
    else record {
      tag = packed / 2 ^ l.place_bits + 1;
      place = record {
        segment = (packed % 2 ^ l.place_bits - 1) / 2 ^ l.offset_bits % 2 ^ 16;
        offset = 8 * ((packed % 2 ^ l.place_bits - 1) % 2 ^ l.offset_bits);
      };
    }

unfoldable pub packed_of : Layout → Slot → ℕ
packed_of l s = (s.tag - 1) * 2 ^ l.place_bits + (s.place.segment * 2 ^ l.offset_bits + s.place.offset / 8 + 1)

-- the place can be packed
pub record IsInLayout (l : Layout) (place : Place) : Type 0 where
  pub segment : place.segment < 2 ^ 16
  pub aligned : 8 * (place.offset / 8) ≡ place.offset
  pub offset : place.offset / 8 < 2 ^ l.offset_bits
  pub number : place.segment * 2 ^ l.offset_bits + place.offset / 8 + 1 < 2 ^ l.place_bits

-- the slot can be packed
pub record CanHold (l : Layout) (s : Slot) : Type 0 where
  pub place : IsInLayout l (place_of s)
  pub some : 1 ≤ s.tag
  pub tag : (s.tag - 1) * 2 ^ l.place_bits + 2 ^ l.place_bits ≤ packed_limit l

-- the places of a pool of these sizes are in the layout
pub record IsLayoutOf (sizes : Sizes) (l : Layout) : Type 0 where
  pub offsets : sizes.segment_size ≤ 8 * 2 ^ l.offset_bits
  pub places : sizes.segments * 2 ^ l.offset_bits ≤ 2 ^ l.place_bits

-- slots, how they are kept, and how many of them there is room for
pub record SlotArray : Type 0 where
  pub slots : List Slot
  pub layout : Layout
  pub room : ℕ

abbrev pub slot_array_of : Layout → List ℕ → List ℕ → ℕ → ℕ → SlotArray
slot_array_of l narrow wide narrow_room wide_room = record {
  slots = map (slot_of l) (if nat_le l.place_bits 32 then narrow else wide);
  layout = l;
  room = if nat_le l.place_bits 32 then narrow_room else wide_room;
}
