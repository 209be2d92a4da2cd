-- What a request does to the segments.
use Rattle.std.specs.Prelude.{◌≡◌, ℕ, false, List, Some, None}
use Rattle.std.specs.FinMap as finite
use Rattle.proto.specs.declared.hits.Hit.{Hit}
use Rattle.proto.specs.declared.message.Request.{Request}
use Rattle.proto.specs.declared.message.Reply.{Reply}
use Rattle.proto.specs.declared.message.Reply.TheVariants.{Values, NoMemory}
use Rattle.proto.specs.Cache.{Entry, found_at}
use Rattle.proto.specs.Commands.{Outcome}
use Rattle.proto.specs.Steps.{has_hits}
use Rattle.engine.specs.declared.commands.Engine.{Engine}
use Rattle.engine.specs.Outcomes.{outcome_at}
use Rattle.engine.specs.Engines.{Way, way_of, as_written, as_changed, as_touched}
use Rattle.engine.specs.Counting.{CountsEach, keys_of}
use Rattle.segcache.specs.declared.segment_map.SegmentMap.{SegmentMap}
use Rattle.segcache.specs.Shown.{shown_entries}
use Rattle.segcache.specs.State.{MapState, IsSegmentedMap}
use Rattle.segcache.specs.StoreState.{sizes_in, segmented_cache}
use Rattle.segcache.specs.Writes.{WritesToSegments, ChangesSegments, DatesSegments, IsReadAgain}

-- What a request finds at the moment t: the pool as it was, and an index and marks of what is live
-- then.
pub record FindsLive (before : Engine SegmentMap) (t : ℕ) (found : MapState) : Type 0 where
  pub pool : found.pool ≡ before.map.pool
  pub kept : IsSegmentedMap found
  pub moment : found.moment ≡ t
  pub entries : shown_entries found.pool found.index t ≡ (found_at (segmented_cache before) t).entries

-- What an outcome leaves of what was found. Where an item is stored, it is written, and room made
-- for it, or it is changed in place, or, where only its deadline is to change, it is left if it may
-- be. Of each hit that is shown one read is counted. Else, and where memory is refused, the pool
-- stays.
pub data LeavesSegments (way : Way) (found : MapState) (done : Outcome) (after : MapState) : Reply → Type 0 where
  writes : (key : List ℕ) (entry : Entry) → done.stored ≡ Some key → way ≡ as_written
      → done.entries ≡ finite.insert (shown_entries found.pool found.index found.moment) key entry
      → WritesToSegments found key entry after → LeavesSegments way found done after done.reply
  changes : (key : List ℕ) (entry : Entry) → done.stored ≡ Some key → way ≡ as_changed
      → done.entries ≡ finite.insert (shown_entries found.pool found.index found.moment) key entry
      → ChangesSegments found key entry after → LeavesSegments way found done after done.reply
  dates : (key : List ℕ) (entry : Entry) → done.stored ≡ Some key → way ≡ as_touched
      → done.entries ≡ finite.insert (shown_entries found.pool found.index found.moment) key entry
      → DatesSegments found key entry done.reply after → LeavesSegments way found done after done.reply
  reads : (hits : List Hit) → done.stored ≡ None → done.reply ≡ Values hits
      → CountsEach IsReadAgain found (keys_of hits) after
      → LeavesSegments way found done after done.reply
  stays : done.stored ≡ None → has_hits done.reply ≡ false → after.pool ≡ found.pool
      → LeavesSegments way found done after done.reply
  refuses : after.pool ≡ found.pool → LeavesSegments way found done after NoMemory

-- the request's outcome is left of what it finds at the moment
pub record HandlesSegments (before : Engine SegmentMap) (t : ℕ) (q : Request) (reply : Reply)
    (after : Engine SegmentMap) : Type 0 where
  pub found : MapState
  pub is_found : FindsLive before t found
  pub in_place : after.in_place ≡ before.in_place
  pub leaves : LeavesSegments (way_of q before.in_place) found (outcome_at (sizes_in before) (segmented_cache before) t q)
      after.map reply
