use Rattle.std.proofs.Common.{◌≡◌, length, vec_capacity}
use Rattle.segments.proofs.MovedNumbers.{IsSoFar}
use Rattle.segments.proofs.rules.least_read.move_before.Given as goal

abbrev pub invariant-loop-place : goal.invariant-loop-place
invariant-loop-place l = record {
  so_far : IsSoFar l.next l.number l.initial.order.items l.order.items l.place l.is_behind;
  long : length l.order.items ≡ length l.initial.order.items;
  capacity : vec_capacity l.order ≡ vec_capacity l.initial.order;
}
