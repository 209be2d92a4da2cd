use Rattle.std.proofs.Common.{◌<◌, length, drop, sym, ap, ◌∙◌, subst}
use Rattle.script.specs.Remaining.{RemainingState}
use Rattle.script.proofs.RemainingLemmas.{in_ring, first_left, first_aside_left}
use Rattle.script.proofs.remaining.Remaining.drop_first.Goals as goal

pub returns-clause-rest : goal.returns-clause-rest
returns-clause-rest c some =
    let ring = c.self.inside.ring.items in let ahead = c.self.inside.ahead in
    (λ i. in_ring (c.saturating_sub-self-inside.ensures i) (c.pop_front.ensures.rest i))
    ∙ first_left ahead ring (subst (λ (r : RemainingState). 0 < length r.rest) (sym c.self.view_is) some)
    ∙ ap (λ (r : RemainingState). record r { rest = drop 1 r.rest }) c.self.view_is

pub returns-clause-aside : goal.returns-clause-aside
returns-clause-aside c none =
    let ring = c.self.inside.ring.items in let ahead = c.self.inside.ahead in
    (λ i. in_ring (c.saturating_sub-self-inside.ensures i) (c.pop_front.ensures.rest i))
    ∙ first_aside_left ahead ring c.self.invariant (ap (λ (r : RemainingState). r.rest) c.self.view_is ∙ none)
    ∙ ap (λ (r : RemainingState). record r { aside = drop 1 r.aside }) c.self.view_is
