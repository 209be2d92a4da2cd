use Rattle.std.proofs.Common.{◌≡◌, Some, length}
use Rattle.std.specs.Prelude.{All}
use Rattle.segments.specs.Pools.{item_in}
use Rattle.store_tests.proofs.pool.walks.has_item.Given as goal

abbrev pub invariant-loop-at : goal.invariant-loop-at
invariant-loop-at l = All (λ s. item_in l.pool s.place ≡ Some s.item) l.walk.left

abbrev pub decreases-loop-at : goal.decreases-loop-at
decreases-loop-at l = length l.walk.left
