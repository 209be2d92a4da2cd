-- What a store over segments promises beyond what any store does.
use Rattle.std.specs.Prelude.{◌≡◌, ℕ, ◌*◌, Bool}
use Rattle.std.specs.Int.{IsNextPowerOfTwo}
use Rattle.index.specs.Keys.{seeded_hasher}
use Rattle.index.specs.Sizing.{most_items}
use Rattle.proto.specs.Sizes.{Sizes}
use Rattle.proto.specs.declared.eviction.Eviction.{Eviction}
use Rattle.segments.specs.Changes.{new_pool, with_eviction}
use Rattle.proto.specs.declared.message.Request.{Request}
use Rattle.proto.specs.declared.message.Reply.{Reply}
use Rattle.engine.specs.declared.commands.Engine.{Engine}
use Rattle.segcache.specs.declared.segment_map.SegmentMap.{SegmentMap}
use Rattle.segcache.specs.State.{MapState}
use Rattle.segcache.specs.Requests.{HandlesSegments}
use Rattle.segcache.specs.StayingFilled.{StaysFilled}

-- The pool of a new map is new, evicts by this rule, and its items have deadlines of their own or
-- not; its index has memory for two slots for each item that segments of these sizes can hold, and
-- hashes the seed before each key.
pub record IsMadeFor (sizes : Sizes) (seed : ℕ) (eviction : Eviction) (exact : Bool) (new : MapState) : Type 0 where
  pub pool_is : new.pool ≡ with_eviction (new_pool sizes) eviction exact
  pub slots : IsNextPowerOfTwo (2 * most_items sizes) new.index.room
  pub seed_is : new.index.hasher ≡ seeded_hasher seed

-- How room is made and what is forgotten, in which bucket an item stands, and which reads are
-- counted; and nothing is forgotten where segments hold little.
pub record PromisesSegments (before : Engine SegmentMap) (t : ℕ) (q : Request) (reply : Reply)
    (after : Engine SegmentMap) : Type 0 where
  pub segments : HandlesSegments before t q reply after
  pub bounded : StaysFilled before t q reply after
