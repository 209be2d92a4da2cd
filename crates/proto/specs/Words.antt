-- The words of a line with spaces between them, and keys with a space before each.
use Rattle.std.specs.Prelude.{◌≡◌, ℕ, Bool, false, eqb, nat_le, ◌==◌, ◌&&◌, ◌||◌, List, [], ◌∷◌, Option, Some, None}
use Rattle.std.specs.Borrow.{Bor}
use Rattle.std.specs.List.{list_any, slice_split, join_with_byte, before_first}

abbrev pub space : ℕ
space = 32

-- the words with one space between each two
abbrev pub spaced : List (List ℕ) → List ℕ
spaced words = join_with_byte space words

abbrev pub is_space : ℕ → Bool
is_space b = eqb b space

-- bytes without a space
abbrev pub IsWord : List ℕ → Type 0
IsWord word = list_any is_space word ≡ false

-- the words of a line
abbrev pub words_of : List ℕ → List (List ℕ)
words_of line = slice_split is_space line

-- what stands before the first space, or the whole line
abbrev pub first_word : List ℕ → List ℕ
first_word line = before_first (λ b. b == 32) line

-- a byte that a key may have
abbrev pub is_key_byte : ℕ → Bool
is_key_byte b = (nat_le 33 b && nat_le b 126) || (nat_le 128 b && nat_le b 255)

-- how many bytes a key may have
abbrev pub is_key_length : ℕ → Bool
is_key_length n = nat_le 1 n && nat_le n 250

-- the words of what is left of a line, if anything is
abbrev pub words_behind : Option (Bor (List ℕ)) → List (List ℕ)
words_behind None = []
words_behind (Some rest) = words_of rest.now

-- the keys in bytes where a space stands before each: the words after the first byte
abbrev pub keys_in : List ℕ → List (List ℕ)
keys_in [] = []
keys_in (first ∷ rest) = words_of rest
