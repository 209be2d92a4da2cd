use Rattle.std.proofs.Common.{◌≡◌, ◌⊎◌, ◌+◌, ◌*◌, ◌≤◌, length}
use Rattle.segments.specs.Pools.{key_at}
use Rattle.index.specs.Reinserting.{HasSamePlaces}
use Rattle.index.specs.Table.{IsIndex, table_of}
use Rattle.index.proofs.growing.grow_for.Given as goal

abbrev pub invariant-loop-left : goal.invariant-loop-left
invariant-loop-left l = record {
  indexed : IsIndex (key_at l.pool) (table_of l.slots l.hasher);
  same : HasSamePlaces (key_at l.pool) l.initial.slots l.slots;
  within : length l.slots.slots ≤ l.initial.slots.room;
  grown : length l.slots.slots + l.left ≡ length l.initial.slots.slots + 3;
  left : l.left ≤ 3;
  kept : l.left ≡ 3 → l.slots ≡ l.initial.slots;
  few : (length l.slots.slots ≡ length l.initial.slots.slots) ⊎ (length l.slots.slots ≤ 3 * l.keys);
}

abbrev pub decreases-loop-left : goal.decreases-loop-left
decreases-loop-left l = l.left
