-- What a walk through a segment says of the pool.
use Rattle.std.proofs.Common.{◌≡◌, ℕ, List, [], ◌∷◌, Some, refl, sym, subst}
use Rattle.std.specs.Prelude.{All}
use Rattle.std.proofs.lemmas.List.Elements.{All-tail}
use Rattle.segments.specs.Pools.{PoolState, Standing, segment_at, item_in, items_of, standing}
use Rattle.segments.proofs.PlanLemmas.{found_from}

-- each item that is left of a walk from the first one on is found at its place
pub found : (p : PoolState) (n : ℕ) (left : List Standing) → left ≡ standing p n
    → All (λ s. item_in p s.place ≡ Some s.item) left
found p n left e =
    subst (All (λ s. item_in p s.place ≡ Some s.item)) (sym e) (found_from p n [] (items_of (segment_at p n)) refl)

-- where each item that is left of a walk is found at its place, each one after the first of them
-- is, too
pub found_behind : (p : PoolState) (s : Standing) (left rest : List Standing) → left ≡ s ∷ rest
    → All (λ s. item_in p s.place ≡ Some s.item) left → All (λ s. item_in p s.place ≡ Some s.item) rest
found_behind p s left rest e all =
    All-tail (λ s. item_in p s.place ≡ Some s.item) s rest (subst (All (λ s. item_in p s.place ≡ Some s.item)) e all)
