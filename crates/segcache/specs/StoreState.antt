-- What contracts see of a segmented store.
use Rattle.proto.specs.Sizes.{Sizes}
use Rattle.proto.specs.Cache.{Cache}
use Rattle.std.specs.Prelude.{ℕ}
use Rattle.engine.specs.declared.commands.Engine.{Engine}
use Rattle.engine.specs.Engines.{cache_in}
use Rattle.segcache.specs.declared.segment_map.SegmentMap.{SegmentMap}
use Rattle.segcache.specs.Shown.{shown_entries}

-- the type that code names so
abbrev pub Store : Type 0
Store = Engine SegmentMap

-- the sizes that it was made for
abbrev pub sizes_in : Engine SegmentMap → Sizes
sizes_in engine = engine.map.pool.sizes

-- the entries that were live at the last moment, the last cas number and the pending flush
abbrev pub segmented_cache : Engine SegmentMap → Cache
segmented_cache engine = cache_in (λ (m : SegmentMap). shown_entries m.pool m.index m.moment) engine

-- the moment of the last request
abbrev pub last_moment : Engine SegmentMap → ℕ
last_moment engine = engine.map.moment
