-- An item and its bytes, by hand.
use Rattle.std.specs.Prelude.{ℕ, List, [], ◌∷◌, ◌++◌}
use Rattle.segments.specs.Items.{Item}

abbrev pub row : Item
row = record { cas = 1; flags = 0; key = 97 ∷ []; value = 120 ∷ []; reads = 0; own_deadline = 0 }

-- cas number, flags, the lengths of value and key, the read count, six zeros, the key, the value,
-- and zeros up to a multiple of 8
abbrev pub row_bytes : List ℕ
row_bytes =
    (1 ∷ 0 ∷ 0 ∷ 0 ∷ 0 ∷ 0 ∷ 0 ∷ 0 ∷ [])
    ++ (0 ∷ 0 ∷ 0 ∷ 0 ∷ [])
    ++ (1 ∷ 0 ∷ 0 ∷ 0 ∷ [])
    ++ (1 ∷ 0 ∷ [])
    ++ (0 ∷ 0 ∷ 0 ∷ 0 ∷ 0 ∷ 0 ∷ [])
    ++ (97 ∷ 120 ∷ [])
    ++ (0 ∷ 0 ∷ 0 ∷ 0 ∷ 0 ∷ 0 ∷ [])
