-- How often a number stands in a list.
use Rattle.std.specs.Prelude.{ℕ, ◌+◌, List, [], ◌∷◌, ◌==◌, if◌then◌else◌}

abbrev pub times : ℕ → List ℕ → ℕ
times n [] = 0
times n (m ∷ numbers) = (if m == n then 1 else 0) + times n numbers
