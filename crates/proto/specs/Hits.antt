-- A live entry that a `get` or `gets` shows: its text, and the room for it.
use Rattle.std.specs.Prelude.{ℕ, ◌+◌, List, [], ◌++◌, length, codes, decimal}
use Rattle.std.specs.Option.{option_map_or}
use Rattle.proto.specs.declared.hits.Hit.{Hit}

abbrev pub hit_bytes : Hit → List ℕ
hit_bytes h =
    ((codes "VALUE " ++ h.key ++ codes " " ++ decimal h.flags ++ codes " " ++ decimal (length h.value)
    ++ option_map_or (λ cas. codes " " ++ decimal cas) h.cas []) ++ codes "\r\n") ++ h.value ++ codes "\r\n"

-- how much room is reserved for the text of a hit: key and value, and at most 73 bytes of words,
-- numbers and line ends
abbrev pub hit_room : Hit → ℕ
hit_room h = length h.key + length h.value + 80

-- hits that are put together, and how much is left of the room that was reserved for them
pub record Writing : Type 0 where
  pub hits : List Hit
  pub room : ℕ
