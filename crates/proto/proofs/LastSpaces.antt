-- The spaces at the end of a line.
use Rattle.std.proofs.Common.{◌≡◌, ℕ, false, true, eqb, ◌&&◌, List, [], ◌∷◌, ◌++◌, refl, ◌∙◌}
use Rattle.std.specs.List.{list_all}
use Rattle.std.proofs.lemmas.Bool.{and_right}
use Rattle.std.proofs.lemmas.List.Folds.{list_all-append}
use Rattle.proto.specs.declared.dialect.Dialect.{Dialect}
use Rattle.proto.specs.declared.dialect.Dialect.TheVariants.{Strict, Lenient}
use Rattle.proto.specs.Lines.{line_text}
use Rattle.proto.specs.Words.{space}

-- one space more at the end
pub last_space : (limit : ℕ) (line : List ℕ) → line_text (Lenient limit) (line ++ space ∷ []) ≡ line_text (Lenient limit) line
last_space limit [] = refl
last_space limit (b ∷ line) = rw (all_more (b ∷ line), last_space limit line) refl
  where
    and_true : (x : _) → (x && true) ≡ x
    and_true true = refl
    and_true false = refl

    all_more : (line : List ℕ) → list_all (λ c. eqb c space) (line ++ space ∷ []) ≡ list_all (λ c. eqb c space) line
    all_more line = list_all-append (λ c. eqb c space) line (space ∷ []) ∙ and_true _

-- another byte at the end
last_other : (limit : ℕ) (line : List ℕ) (b : ℕ) → eqb b space ≡ false → line_text (Lenient limit) (line ++ b ∷ []) ≡ line ++ b ∷ []
last_other limit [] b other = rw other refl
last_other limit (a ∷ line) b other = rw (not_all (a ∷ line), last_other limit line b other) refl
  where
    not_all : (line : List ℕ) → list_all (λ c. eqb c space) (line ++ b ∷ []) ≡ false
    not_all line =
        list_all-append (λ c. eqb c space) line (b ∷ [])
        ∙ and_right (list_all (λ c. eqb c space) line) (eqb b space && true) (rw other refl)

-- the same in each dialect
pub any_other : (d : Dialect) (line : List ℕ) (b : ℕ) → eqb b space ≡ false → line_text d (line ++ b ∷ []) ≡ line ++ b ∷ []
any_other Strict line b other = refl
any_other (Lenient limit) line b other = last_other limit line b other
