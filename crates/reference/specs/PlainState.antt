-- What contracts see of a plain store.
use Rattle.std.specs.Prelude.{ℕ}
use Rattle.proto.specs.Sizes.{Sizes}
use Rattle.proto.specs.Cache.{Cache}
use Rattle.engine.specs.declared.commands.Engine.{Engine}
use Rattle.reference.specs.declared.plain_map.PlainMap.{PlainMap}
use Rattle.engine.specs.Engines.{cache_in}
use Rattle.reference.specs.PlainEntries.{plain_entries}

-- the sizes that it was made for
abbrev pub plain_sizes : Engine PlainMap → Sizes
plain_sizes engine = engine.map.geometry

-- the entries that were live at the last moment, the last cas number and the pending flush
abbrev pub plain_cache : Engine PlainMap → Cache
plain_cache engine = cache_in plain_entries engine

-- the moment of the last request
abbrev pub plain_moment : Engine PlainMap → ℕ
plain_moment engine = engine.map.moment
