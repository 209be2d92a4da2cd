use Rattle.std.proofs.Common.{ℕ, ◌<◌, sym, ◌∙◌, subst}
use Rattle.std.specs.Option.{IfNone}
use Rattle.exchange.specs.Ends.{StorageView, LookedOnce}
use Rattle.exchange.proofs.Looks.{next_history}
use Rattle.exchange.proofs.storage.StorageEnd.next.Goals as goal

pub invariant_of-self : goal.invariant_of-self
invariant_of-self g c = let did = c.next.ensures in did.told ∙ (c.self.invariant
    ∙ sym (next_history c.self.inside.batch.end c.next.new.self.end c.next.result did.next))

pub returns-clause-every_lane : goal.returns-clause-every_lane
returns-clause-every_lane g c = subst (λ (z : StorageView). IfNone c.next.result ((w : ℕ) → w < z.workers
    → LookedOnce z c.next.new.self.end w)) c.self.view_is c.next.ensures.every_lane
