-- What contracts see of a segmented map.
use Rattle.std.specs.Prelude.{ℕ}
use Rattle.segments.specs.Pools.{PoolState}
use Rattle.segments.specs.Marks.{Marks}
use Rattle.index.specs.Table.{Table}
use Rattle.segcache.specs.Invariants.{IsTied, IsPast}

-- the pool, the index and the marks of its current items, and the last moment
pub record MapState : Type 0 where
  pub pool : PoolState
  pub index : Table
  pub marks : Marks
  pub moment : ℕ

pub record IsSegmentedMap (s : MapState) : Type 0 where
  pub tied : IsTied s.pool s.index s.marks
  pub past : IsPast s.pool s.moment
