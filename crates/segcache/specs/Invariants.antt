-- The invariants of a segmented map.
use Rattle.std.specs.Prelude.{◌≡◌, ℕ, ◌*◌, ◌/◌, ◌≤◌, ◌⊎◌, Bool, true, List, Option, Some}
use Rattle.std.specs.FinMap as finite
use Rattle.proto.specs.History.{max_moment}
use Rattle.segments.specs.declared.place.Place.{Place}
use Rattle.segments.specs.Items.{Item}
use Rattle.segments.specs.Pools.{PoolState, Used, segment_at, item_in, shared_at}
use Rattle.segments.specs.Rules.{opening_moment}
use Rattle.segments.specs.Filling.{IsInTimeOrder}
use Rattle.segments.specs.Marks.{Marks, KnowsPool, is_marked}
use Rattle.index.specs.Layouts.{IsLayoutOf}
use Rattle.index.specs.Table.{Table, IsIndex}
use Rattle.segments.specs.Pools.{key_at}
use Rattle.segcache.specs.Shown.{current}
use Rattle.segcache.specs.OwnDeadlines.{may_expire}

-- The marks are exactly at the current places, those that the index has, each of which holds an
-- item of its key; and the index has a slot to spare for each item that fits into the pool, and its
-- slots can say each place of the pool.
pub record IsTied (p : PoolState) (index : Table) (marks : Marks) : Type 0 where
  pub known : KnowsPool marks p
  pub indexed : IsIndex (key_at p) index
  pub held : (key : List ℕ) (place : Place) → finite.get (current p index) key ≡ Some place
      → is_marked marks place ≡ true
  pub marked : (place : Place) (i : Item) → item_in p place ≡ Some i → is_marked marks place ≡ true
      → finite.get (current p index) i.key ≡ Some place
  pub roomy : 2 * (p.sizes.segments * (p.sizes.segment_size / 32)) ≤ index.room
  pub layout : IsLayoutOf p.sizes index.layout

-- An item has the deadline of its segment; or where items have their own, one of these, at which an
-- item of the segment may expire.
abbrev pub IsDatedIn : Bool → Option ℕ → Item → Type 0
IsDatedIn exact shared i = (i.own_deadline ≡ 0) ⊎ ((exact ≡ true) × (may_expire exact shared i.own_deadline ≡ true))

-- so has each item of a pool
abbrev pub AreDated : PoolState → Type 0
AreDated p = (place : Place) (i : Item) → item_in p place ≡ Some i → IsDatedIn p.exact (shared_at p place) i

-- no segment has a later opening moment than one that is opened for a write at the moment t, which
-- is within its limit, and those of chains stand in the order of their opening moments, as far as
-- the pool's rule keeps it; and items have deadlines of their own only where they may
pub record IsPast (p : PoolState) (t : ℕ) : Type 0 where
  pub within : t ≤ max_moment
  pub opened : (n : ℕ) (u : Used) → segment_at p n ≡ Some u → u.opened ≤ opening_moment p.eviction u.bucket t
  pub in_order : IsInTimeOrder p
  pub dated : AreDated p
