-- Requests for which nothing is forgotten, since segments hold little.
use Rattle.std.specs.Prelude.{◌≡◌, ◌≢◌, ℕ, ◌+◌, ◌≤◌, List, Some}
use Rattle.std.specs.FinMap as finite
use Rattle.proto.specs.declared.message.Request.{Request}
use Rattle.proto.specs.declared.message.Reply.{Reply}
use Rattle.proto.specs.declared.message.Reply.TheVariants.{NoMemory}
use Rattle.proto.specs.Cache.{Entry}
use Rattle.proto.specs.Commands.{Outcome}
use Rattle.proto.specs.Stored.{written}
use Rattle.engine.specs.declared.commands.Engine.{Engine}
use Rattle.engine.specs.Keeping.{stored_in, ForgetsNone}
use Rattle.engine.specs.Outcomes.{outcome_at}
use Rattle.segments.specs.Pools.{PoolState}
use Rattle.segments.specs.Filling.{IsFilled, HoldsLittle, held_size}
use Rattle.segcache.specs.declared.segment_map.SegmentMap.{SegmentMap}
use Rattle.segcache.specs.ItemBuckets.{bucket_for}
use Rattle.segcache.specs.StoreState.{sizes_in, segmented_cache}

-- the item that an outcome stores surely has room in the bucket where the pool puts it
abbrev pub HasRoomFor : PoolState → ℕ → Outcome → Reply → Type 0
HasRoomFor p t done reply =
    (key : List ℕ) (e : Entry) → done.stored ≡ Some key → reply ≢ NoMemory → finite.get done.entries key ≡ Some e
    → HoldsLittle p (bucket_for p t e.deadline) t

-- Where each segment but the last of its series is filled, and segments hold so little that an item
-- of the stored one's bucket surely has room, the request forgets nothing, segments stay filled,
-- and what they hold grows by the size of the item that it stores at most.
abbrev pub StaysFilled : Engine SegmentMap → ℕ → Request → Reply → Engine SegmentMap → Type 0
StaysFilled before t q reply after =
    IsFilled before.map.pool
    → HasRoomFor before.map.pool t (outcome_at (sizes_in before) (segmented_cache before) t q) reply
    → ForgetsNone (sizes_in before) (segmented_cache before) t q reply (segmented_cache after)
    × IsFilled after.map.pool
    × (held_size after.map.pool
    ≤ held_size before.map.pool + written (stored_in (sizes_in before) (segmented_cache before) t q reply))
