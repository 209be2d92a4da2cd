-- Segments that keep all that is written to them, while that is little.
use Rattle.std.specs.Prelude.{◌≡◌, ℕ, ◌≤◌, List, Some}
use Rattle.std.specs.List.{AllByRecursion}
use Rattle.proto.specs.Stored.{StoredItem, written}
use Rattle.segments.specs.declared.place.Place.{Place}
use Rattle.segments.specs.Items.{Item}
use Rattle.segments.specs.Pools.{PoolState, Used, segment_at, item_in, lasting}
use Rattle.segments.specs.Filling.{IsFilled, held_size}
use Rattle.segcache.specs.State.{MapState}

-- each segment of a chain is of the bucket of what has no deadline
abbrev pub AllLast : PoolState → Type 0
AllLast p = (n : ℕ) (u : Used) → segment_at p n ≡ Some u → u.bucket ≡ lasting

-- no item has a deadline of its own
abbrev pub NoneDated : PoolState → Type 0
NoneDated p = (place : Place) (i : Item) → item_in p place ≡ Some i → i.own_deadline ≡ 0

-- These items were stored so far, none with a deadline, and nothing was forgotten: each segment but
-- the last one has no room left for a largest item, and together they hold no more than was
-- written.
pub record KeepsStored (m : MapState) (items : List StoredItem) : Type 0 where
  pub filled : IsFilled m.pool
  pub all_last : AllLast m.pool
  pub none_dated : NoneDated m.pool
  pub undated : AllByRecursion (λ i. i.bucket ≡ lasting) items
  pub held : held_size m.pool ≤ written items
