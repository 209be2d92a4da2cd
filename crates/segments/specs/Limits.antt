-- The limits of a pool, as its contracts name them.
use Rattle.std.specs.Prelude.{ℕ}

-- the bytes of the smallest segment and of the largest
abbrev pub smallest_segment : ℕ
smallest_segment = 4096

abbrev pub largest_segment : ℕ
largest_segment = 1048576

-- the bytes of the largest item, which fills the largest segment, and of the longest key
abbrev pub largest_item : ℕ
largest_item = 1048576

abbrev pub longest_key : ℕ
longest_key = 250

-- the most reads of an item that are counted
abbrev pub most_reads : ℕ
most_reads = 127

-- the most items that a merge looks at: as many as the four largest segments can hold
abbrev pub most_candidates : ℕ
most_candidates = 131072
