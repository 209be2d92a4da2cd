use Rattle.std.proofs.Common.{◌≡◌, ℕ, ◌-◌, List, length, Some, true}
use Rattle.std.specs.Prelude.{slice_set}
use Rattle.segments.specs.Pools.{key_at}
use Rattle.index.specs.Slots.{is_used, slot_at, place_of, distance, empty_slot}
use Rattle.index.specs.Table.{hashing}
use Rattle.index.proofs.ShiftedSlots.{IsShifting}
use Rattle.index.proofs.backward_shift.delete.Given as goal

abbrev pub invariant-scan : goal.invariant-scan
invariant-scan l =
    (key : List ℕ) × (key_at l.pool (place_of (slot_at l.initial.slots.slots l.at)) ≡ Some key)
    × IsShifting (hashing (length l.initial.slots.slots) l.initial.slots.layout l.hasher)
    (key_at l.pool) l.initial.slots.slots
    (slice_set l.slots.slots l.hole empty_slot) l.at l.hole l.next key
    × (l.slots.layout ≡ l.initial.slots.layout) × (l.slots.room ≡ l.initial.slots.room)
    × (is_used (slot_at l.slots.slots l.hole) ≡ true)

abbrev pub decreases-scan : goal.decreases-scan
decreases-scan l = length l.initial.slots.slots - distance (length l.initial.slots.slots) l.at l.next
