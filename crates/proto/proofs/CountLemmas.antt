-- Counts, ranges, and the shares of workers in a history.
use Rattle.std.proofs.Common.{◌≡◌, ◌≢◌, ℕ, zero, suc, ◌+◌, Bool, cond, eq-eqb, ne_eqb, List, [], ◌∷◌, ◌++◌, ap, refl, ◌∙◌, arith}
use Rattle.std.proofs.Common.{add-one, add-zero}
use Rattle.std.specs.List.{range_with_len}
use Rattle.std.specs.Prelude.{◌==◌}
use Rattle.std.proofs.lemmas.List.{append-nil}
use Rattle.std.proofs.lemmas.List.Elements.{filter-append}
use mathlib.Core.Logic.{dite}
use native.Mathlib.Decide.{ℕ_discrete}
use Rattle.proto.specs.declared.history.Answered.{Answered}
use Rattle.proto.specs.Counts.{times}
use Rattle.proto.specs.History.{worker_share}

-- what holds if two numbers are equal, and holds if they differ, holds
pub either_way : {A : Type 0} (a b : ℕ) → (a ≡ b → A) → (a ≢ b → A) → A
either_way {A} a b equal apart = dite (ℕ_discrete a b) equal apart

-- ---- how often a number stands in a list

-- one that stands in front counts once more
pub one_more_time : (n x : ℕ) (xs : List ℕ) → x ≡ n → times n (x ∷ xs) ≡ suc (times n xs)
one_more_time n x xs e = ap (λ (b : Bool). cond b 1 0 + times n xs) (eq-eqb x n e) ∙ (omega arith)

-- another one in front doesn't count
pub no_more_time : (n x : ℕ) (xs : List ℕ) → x ≢ n → times n (x ∷ xs) ≡ times n xs
no_more_time n x xs e = ap (λ (b : Bool). cond b 1 0 + times n xs) (ne_eqb x n e) ∙ (omega arith)

-- in two lists it stands as often as in the one and in the other
pub times-append : (n : ℕ) (xs ys : List ℕ) → times n (xs ++ ys) ≡ times n xs + times n ys
times-append n [] ys = omega arith
times-append n (x ∷ xs) ys = let e = times-append n xs ys in omega arith

-- ---- ranges

-- a range that is longer by one has the next number at its end
pub range_more_from : (a n : ℕ) → range_with_len a (suc n) ≡ range_with_len a n ++ (a + n) ∷ []
range_more_from a zero = rw add-zero refl
range_more_from a (suc n) =
    let e : a + 1 + n ≡ a + suc n = omega (arith, add-one n) in
    rw (range_more_from (a + 1) n, e) refl

-- the same of the numbers from 0
pub range_more : (n : ℕ) → range_with_len 0 (n + 1) ≡ range_with_len 0 n ++ n ∷ []
range_more n =
    let e : 0 + n ≡ n = omega arith in
    rw add-one (range_more_from 0 n ∙ ap (λ m. range_with_len 0 n ++ m ∷ []) e)

-- ---- a worker's share

-- one more entry of the worker stands after its share
pub share_mine : (h : List Answered) (a : Answered) (w : ℕ) → a.worker ≡ w
    → worker_share (h ++ a ∷ []) w ≡ worker_share h w ++ a ∷ []
share_mine h a w is =
    filter-append (λ (x : Answered). x.worker == w) h (a ∷ [])
    ∙ ap (λ (b : Bool). worker_share h w ++ (let l : List Answered = cond b (a ∷ []) [] in l)) (eq-eqb a.worker w is)

-- one more entry of another worker leaves it
pub share_other : (h : List Answered) (a : Answered) (w : ℕ) → a.worker ≢ w
    → worker_share (h ++ a ∷ []) w ≡ worker_share h w
share_other h a w other =
    filter-append (λ (x : Answered). x.worker == w) h (a ∷ [])
    ∙ ap (λ (b : Bool). worker_share h w ++ (let l : List Answered = cond b (a ∷ []) [] in l)) (ne_eqb a.worker w other)
    ∙ append-nil (worker_share h w)
