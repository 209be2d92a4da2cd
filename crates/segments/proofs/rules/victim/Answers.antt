use Rattle.std.proofs.Common.{◌≡◌, ◌<◌, ℕ, List, [], ◌∷◌, Some, length, refl, sym, subst}
use Rattle.std.specs.Prelude.{MatchOption}
use Rattle.std.proofs.lemmas.List.Elements.{All-take}
use Rattle.segments.specs.Pools.{oldest}
use Rattle.segments.specs.Rules.{IsVictimOf, NoVictimOf}
use Rattle.segments.proofs.rules.victim.Goals as goal

-- the first of an order, if it has one
first_of : (order : List ℕ) → MatchOption (oldest order) (order ≡ []) (λ n. oldest order ≡ Some n)
first_of [] = refl
first_of (n ∷ order) = refl

pub fewest-requires : goal.fewest-requires
fewest-requires c =
    All-take (λ n. n < length c.args.hits.now.counts) c.args.looked c.args.order.now c.requires.counted

pub returns-in-Oldest : goal.returns-in-Oldest
returns-in-Oldest c =
    let k = c.args.looked in
    let xs = c.args.order.now in
    let h = c.args.hits.now in
    subst (λ e. MatchOption c.victim.result (NoVictimOf e k xs) (IsVictimOf e k xs h)) (sym c.in-Oldest.is)
    (subst (λ o. MatchOption o (xs ≡ []) (λ n. oldest xs ≡ Some n)) (sym c.victim.ensures) (first_of xs))

pub returns-in-LeastRead : goal.returns-in-LeastRead
returns-in-LeastRead c =
    let k = c.args.looked in
    let xs = c.args.order.now in
    let h = c.args.hits.now in
    subst (λ e. MatchOption c.fewest.result (NoVictimOf e k xs) (IsVictimOf e k xs h)) (sym c.in-LeastRead.is)
    c.fewest.ensures
