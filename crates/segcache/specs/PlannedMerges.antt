-- Merges that are planned for the items that a test calls live.
use Rattle.std.specs.Prelude.{◌≡◌, Some}
use Rattle.segments.specs.Pools.{PoolState, Plan, Liveness}
use Rattle.segments.specs.Merges.{IsPlan}

-- the merge that comes next is that of the live items
pub record HasPlan (lives : Liveness) (p : PoolState) : Type 0 where
  pub plan : Plan
  pub planned : p.plan ≡ Some plan
  pub is_plan : IsPlan lives p plan
