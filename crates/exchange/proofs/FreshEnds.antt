-- The last worker's end of a new exchange.
use Rattle.std.proofs.Common.{◌≡◌, ℕ, List, [], ◌∷◌, ◌++◌, length, false, refl, ap, ◌∙◌}
use mathlib.Core.Option.{some}
use lib.ListN.{get_elem?}
use Rattle.proto.specs.declared.terms.Terms.{Terms}
use Rattle.exchange.specs.Ends.{WorkerView, StorageView, AreMade, new_worker_view}

-- an element put after a list stands at the place whose number is the list's length
last_at : {A : Type 0} (xs : List A) (x : A) → get_elem? (xs ++ x ∷ []) (length xs) ≡ some x
last_at [] x = refl
last_at (y ∷ xs) x = last_at xs x

-- the last of the ends hasn't sent anything
pub last_is_fresh : (n : ℕ) (g : Terms) (storage : StorageView) (ends others : List WorkerView) (v : WorkerView)
    → AreMade n g ends storage → ends ≡ others ++ v ∷ [] → (v.sent ≡ []) × (v.back ≡ []) × (v.said_bye ≡ false)
last_is_fresh n g storage ends others v made is =
    let at : get_elem? ends (length others) ≡ some v =
    ap (λ (z : List WorkerView). get_elem? z (length others)) is ∙ last_at others v in
    let same : v ≡ new_worker_view storage.exchange g (length others) = made.1 (length others) v at in (
      ap (λ (z : WorkerView). z.sent) same,
      ap (λ (z : WorkerView). z.back) same,
      ap (λ (z : WorkerView). z.said_bye) same,
    )
