-- The entries of a worker in a history.
use Rattle.std.proofs.Common.{◌≡◌, ◌≢◌, ℕ, List, [], ◌∷◌, Bool, cond, ap, ◌∙◌, eq-eqb, ne_eqb}
use Rattle.std.proofs.lemmas.List.Elements.{filter-append}
use Rattle.proto.specs.declared.history.Answered.{Answered}
use Rattle.proto.specs.History.{worker_share}
use Rattle.exchange.specs.Beginnings.{StartsWith, is_of_worker}

-- an entry of this worker is its share
only_mine : (a : Answered) (w : ℕ) → a.worker ≡ w → worker_share (a ∷ []) w ≡ a ∷ []
only_mine a w e = ap (λ (b : Bool). let l : List Answered = cond b (a ∷ []) [] in l) (eq-eqb a.worker w e)

-- an entry of another worker is not
only_other : (a : Answered) (w : ℕ) → a.worker ≢ w → worker_share (a ∷ []) w ≡ []
only_other a w e = ap (λ (b : Bool). let l : List Answered = cond b (a ∷ []) [] in l) (ne_eqb a.worker w e)

-- a worker's entries in a beginning are the first of its entries
pub share_starts : (h g : List Answered) (w : ℕ) → StartsWith h g → StartsWith (worker_share h w) (worker_share g w)
share_starts h g w s = (
  worker_share s.0 w,
  ap (λ (z : List Answered). worker_share z w) s.1 ∙ filter-append (is_of_worker w) g s.0,
)
