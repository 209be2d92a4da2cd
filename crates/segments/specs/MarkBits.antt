-- Marks as bits in words of 64.
use Rattle.std.specs.Prelude.{ℕ, ◌*◌, ◌/◌, ◌%◌, ◌≤◌, Bool, List, length, map, slice_index_or, ◌==◌}
use Rattle.std.specs.Int.{bit_at}
use Rattle.std.specs.List.{range_with_len}
use Rattle.segments.specs.Marks.{AreMarksCounted}

-- the bit k of the words, none after the last one
abbrev pub bit_of : List ℕ → ℕ → Bool
bit_of words k = bit_at (slice_index_or words (k / 64) 0) (k % 64) == 1

-- the first n bits
abbrev pub bits_of : ℕ → List ℕ → List Bool
bits_of n words = map (bit_of words) (range_with_len 0 n)

-- there are as many bits, and those that are set are counted
pub record AreMarkBits (words : List ℕ) (len count : ℕ) : Type 0 where
  pub enough : len ≤ 64 * length words
  pub counted : AreMarksCounted count (bits_of len words)
