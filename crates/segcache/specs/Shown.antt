-- The entries that a segmented map shows.
use Rattle.std.specs.Prelude.{ℕ, List, [], map, Option, Some}
use Rattle.std.specs.Option.{option_map_or}
use Rattle.std.specs.FinMap as finite
use Rattle.proto.specs.Cache.{Entry, Entries, live}
use Rattle.segments.specs.declared.place.Place.{Place}
use Rattle.segments.specs.Items.{Item}
use Rattle.segments.specs.Pools.{PoolState, item_in, place_deadline}
use Rattle.index.specs.Table.{Table, Places, places}
use Rattle.segments.specs.Pools.{key_at}

-- the entry that an item keeps, with this deadline
abbrev pub kept_entry : Option ℕ → Item → Entry
kept_entry deadline i = record { value = i.value; flags = i.flags; deadline = deadline; cas = i.cas }

-- an entry that is never live
abbrev pub dead_entry : Entry
dead_entry = record { value = []; flags = 0; deadline = Some 0; cas = 0 }

-- the entry at a place, one that is never live where no item stands
unfoldable pub entry_at : PoolState → Place → Entry
entry_at p place = option_map_or (kept_entry (place_deadline p place)) (item_in p place) dead_entry

-- the entries at the places of a map, and those of them that are live at a moment
unfoldable pub entries_at : PoolState → Places → Entries
entries_at p m = finite.from_entries (map (λ (e : List ℕ × Place). (e.0, entry_at p e.1)) (finite.entries m))

abbrev pub live_entries : PoolState → Places → ℕ → Entries
live_entries p m t = live (entries_at p m) t

-- the current places of the keys in a pool
abbrev pub current : PoolState → Table → Places
current p index = places (key_at p) index

-- the entries of a segmented map at a moment
abbrev pub shown_entries : PoolState → Table → ℕ → Entries
shown_entries p index t = live_entries p (current p index) t
