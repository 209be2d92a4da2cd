use Rattle.std.proofs.Common.{length, ◌-◌, ◌≤◌}
use Rattle.index.specs.Slots.{distance}
use Rattle.index.proofs.SearchesUpToGap.{IsOnWay}
use Rattle.index.proofs.search.first_gap_before.Given as goal

abbrev pub invariant-loop-at : goal.invariant-loop-at
invariant-loop-at l = record {
  way : IsOnWay l.slots.slots l.home l.at;
  near : distance (length l.slots.slots) l.home l.at ≤ distance (length l.slots.slots) l.home l.end;
}

abbrev pub decreases-loop-at : goal.decreases-loop-at
decreases-loop-at l = length l.slots.slots - distance (length l.slots.slots) l.home l.at
