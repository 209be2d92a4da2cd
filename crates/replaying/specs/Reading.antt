-- What the reads of a script give.
use Rattle.std.specs.Prelude.{◌≡◌, ℕ, List, ◌++◌, Option}
use Rattle.std.specs.Io.KnownBytes.{Consumes}

-- The text grew by some bytes, and where the reader tells what it has left, by the first of those.
pub record ReadsPiece (old : Option (List ℕ)) (before : List ℕ) (new : Option (List ℕ)) (after : List ℕ) : Type 0 where
  pub piece : List ℕ
  pub grown : after ≡ before ++ piece
  pub consumed : Consumes old new piece
