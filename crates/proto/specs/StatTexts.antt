-- The lines of `stats`: counts by memcached's names, and then gauges.
use Rattle.std.specs.Prelude.{◌≡◌, ℕ, ◌+◌, ◌%◌, ◌^◌, Bool, not, ◌&&◌, ◌||◌, ◌==◌, nat_le, bytes_eq, IsTrue}
use Rattle.std.specs.Prelude.{List, [], ◌∷◌, ◌++◌, length, codes, decimal, flat_map}
use Rattle.std.specs.Char.{is_ascii_alphanumeric}
use Rattle.std.specs.List.{list_any, list_all}
use Rattle.proto.specs.declared.counts.Tally.{Tally}
use Rattle.proto.specs.declared.counts.Counts.{Counts}

-- a count has 64 bits: after the greatest it goes on from 0
abbrev pub more : ℕ → ℕ → ℕ
more n k = (n + k) % 2 ^ 64

-- a line has a name and what stands behind it
unfoldable pub stat_bytes : List ℕ × List ℕ → List ℕ
stat_bytes line = codes "STAT " ++ line.0 ++ codes " " ++ line.1 ++ codes "\r\n"

unfoldable pub tally_lines : List ℕ → Tally → List (List ℕ × List ℕ)
tally_lines name t = (name ++ codes "_hits", decimal t.hits) ∷ (name ++ codes "_misses", decimal t.misses) ∷ []

-- the names of counts, each with its number
unfoldable pub count_lines : Counts → List (List ℕ × List ℕ)
count_lines c =
    (codes "cmd_get", decimal (more c.gets.hits c.gets.misses))
    ∷ (codes "cmd_set", decimal (more c.sets.hits c.sets.misses))
    ∷ (codes "cmd_touch", decimal (more c.touches.hits c.touches.misses)) ∷ (codes "cmd_flush", decimal c.flushes)
    ∷ (codes "total_items", decimal c.sets.hits) ∷ (codes "cas_badval", decimal c.badvals)
    ∷ (codes "out_of_memory", decimal c.refused)
    ∷ (tally_lines (codes "get") c.gets ++ tally_lines (codes "delete") c.deletes ++ tally_lines (codes "incr") c.incrs
    ++ tally_lines (codes "decr") c.decrs ++ tally_lines (codes "touch") c.touches ++ tally_lines (codes "cas") c.cas)

-- letters, digits, `_`, `.` and `-`
abbrev pub is_plain : List ℕ → Bool
is_plain word =
    nat_le 1 (length word) && list_all (λ b. is_ascii_alphanumeric b || b == 95 || b == 46 || b == 45) word

-- a gauge has a plain name, which no count has
unfoldable pub names_gauge : Counts → List ℕ → Bool
names_gauge c name = is_plain name && not (list_any (λ count. bytes_eq name count.0) (count_lines c))

-- the lines of these counts, and then those of gauges, whose values are plain words
abbrev pub IsStats : Counts → List ℕ → Type 0
IsStats c lines = (gauges : List (List ℕ × List ℕ))
    × IsTrue (list_all (λ gauge. names_gauge c gauge.0 && is_plain gauge.1) gauges)
    × (lines ≡ flat_map stat_bytes (count_lines c ++ gauges))
