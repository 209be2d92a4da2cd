-- How often the items of each segment were read.
use Rattle.std.specs.Prelude.{◌≡◌, ℕ, ◌+◌, ◌*◌, ◌/◌, ◌<◌, ◌≤◌, List, ◌∷◌, ◌++◌, length, map, replicate, min, All}
use Rattle.std.specs.Prelude.{sum_by, nat_le, slice_index_or, slice_set, if◌then◌else◌}
use Rattle.segments.specs.Items.{Item}

-- the hits of each segment by its number, and how many segments were opened since all were halved
pub record HitCounts : Type 0 where
  pub counts : List ℕ
  pub opens : ℕ

-- the most hits of a segment that are counted
abbrev pub most_hits : ℕ
most_hits = 4294967295

abbrev pub segment_hits : HitCounts → ℕ → ℕ
segment_hits h n = slice_index_or h.counts n 0

-- no segment has a hit
abbrev pub no_hits : ℕ → HitCounts
no_hits segments = record { counts = replicate segments 0; opens = 0 }

-- one hit more of a segment
abbrev pub with_hit : HitCounts → ℕ → HitCounts
with_hit h n = record h { counts = slice_set h.counts n (min (segment_hits h n + 1) most_hits) }

-- a segment begins with so many hits
abbrev pub with_hits : HitCounts → ℕ → ℕ → HitCounts
with_hits h n hits = record h { counts = slice_set h.counts n hits }

-- a segment is opened, without a hit; each time half as many were opened as there are, all hits are
-- halved
abbrev pub with_opened : HitCounts → ℕ → HitCounts
with_opened h n =
    let counts = slice_set h.counts n 0 in
    if nat_le (length counts) (2 * (h.opens + 1)) then record { counts = map (λ hits. hits / 2) counts; opens = 0 }
    else record { counts = counts; opens = h.opens + 1 }

-- the read counts of items in sum, up to the most hits that are counted
abbrev pub reads_of : List Item → ℕ
reads_of items = min (sum_by (λ i. i.reads) items) most_hits

-- of these segments the first with the fewest hits
pub record IsFewest (h : HitCounts) (numbers : List ℕ) (n : ℕ) : Type 0 where
  pub before : List ℕ
  pub after : List ℕ
  pub whole : numbers ≡ before ++ n ∷ after
  pub earlier : All (λ m. segment_hits h n < segment_hits h m) before
  pub later : All (λ m. segment_hits h n ≤ segment_hits h m) after

-- hits are halved before half as many segments were opened again
pub record AreHitsKept (h : HitCounts) : Type 0 where
  pub few : 2 * h.opens ≤ length h.counts
