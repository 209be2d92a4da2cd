-- The live entries of a plain map, which may also have entries whose deadline has come.
use Rattle.std.specs.Prelude.{ℕ, List, map, Vec}
use Rattle.std.specs.Global.{Global}
use Rattle.std.specs.FinMap as finite
use Rattle.proto.specs.Cache.{Entry, Entries, live}
use Rattle.reference.specs.declared.plain_map.PlainMap.{PlainMap}

-- the map of some pairs of a key and an entry
abbrev pub entries_of : List (Vec ℕ Global × Entry) → Entries
entries_of pairs = finite.from_entries (map (λ p. (p.0.items, p.1)) pairs)

-- those that are live at its moment
abbrev pub plain_entries : PlainMap → Entries
plain_entries m = live (entries_of m.map.entries) m.moment
