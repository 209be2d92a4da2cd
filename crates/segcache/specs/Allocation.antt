-- How room is made for an item, and how the item is written: what the pool becomes.
use Rattle.std.specs.Prelude.{◌≡◌, ◌<◌, ◌⊎◌, ℕ}
use Rattle.segments.specs.declared.place.Place.{Place}
use Rattle.segments.specs.Items.{Item}
use Rattle.segments.specs.Pools.{PoolState, Liveness}
use Rattle.segments.specs.Changes.{HasNoRoom, IsGivenBack, IsAddedToTail, IsAddedToFree, dead_segments}
use Rattle.segments.specs.Merges.{Evicts}

-- Room is made for an item of a bucket at the moment t, where these items are live: none is needed;
-- or what has no live item is given back; or, where each segment has one, something is evicted.
pub data MakesRoom (lives : Liveness) (p : PoolState) (bucket t : ℕ) (i : Item) : PoolState → Type 0 where
  has_room : ¬ (HasNoRoom p bucket t i) → MakesRoom lives p bucket t i p
  gives_back : (after : PoolState) → HasNoRoom p bucket t i → 0 < dead_segments lives p → IsGivenBack lives p after
      → MakesRoom lives p bucket t i after
  evicts : (after : PoolState) → HasNoRoom p bucket t i → dead_segments lives p ≡ 0 → Evicts lives p after
      → MakesRoom lives p bucket t i after

-- The item was written at the moment: room was made, and it stands at the place.
pub record IsWrittenTo (lives : Liveness) (p : PoolState) (bucket t : ℕ) (i : Item) (after : PoolState)
    (place : Place) : Type 0 where
  pub roomy : PoolState
  pub room : MakesRoom lives p bucket t i roomy
  pub added : IsAddedToTail roomy bucket t i after place ⊎ IsAddedToFree roomy bucket t i after place
