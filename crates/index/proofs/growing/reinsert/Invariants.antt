use Rattle.std.proofs.Common.{◌≡◌, ◌+◌, ◌*◌, ◌<◌, length}
use Rattle.segments.specs.Pools.{key_at}
use Rattle.index.specs.Slots.{distance}
use Rattle.index.specs.Reinserting.{AreNear, IsStretch, HasSamePlaces}
use Rattle.index.specs.Table.{hashing}
use Rattle.index.proofs.ReinsertedKeys.{spread, gap_index}
use Rattle.index.proofs.growing.reinsert.Given as goal

abbrev pub invariant-cluster : goal.invariant-cluster
invariant-cluster l = record {
  at_range : l.at < length l.initial.slots.slots;
  near : AreNear (hashing l.count l.initial.slots.layout l.hasher) (key_at l.pool) l.slots.slots l.at;
  known : IsStretch l.slots.slots l.known;
  same : HasSamePlaces (key_at l.pool) l.initial.slots l.slots;
  len : length l.slots.slots ≡ length l.initial.slots.slots;
}

abbrev pub decreases-cluster : goal.decreases-cluster
decreases-cluster l = spread (hashing l.count l.initial.slots.layout l.hasher) (key_at l.pool) (length l.initial.slots.slots) 0
    l.slots.slots
    * length l.initial.slots.slots + distance (length l.initial.slots.slots) l.at (gap_index l.slots.slots)
