use Rattle.std.proofs.Common.{rules, ℕ, ◌*◌, sym, ap, ◌+◌}
use Rattle.exchange.specs.Seats.{worker_state_in}
use Rattle.exchange.proofs.Known.{posts_as}
use Rattle.exchange.proofs.Fields.{sent_all}
use Rattle.exchange.proofs.worker.WorkerLane.flush.Goals as goal

pub store-requires : goal.store-requires
store-requires c = let r = c.self.invariant.2 in (
  search rules,
  search rules,
  posts_as _ _ _ _ (worker_state_in c.self.inside.seat.me.0) _ _ r.seated
      (ap (λ (z : ℕ). 16 * z + 8) (sym r.worker_is)) (search rules) r.idle (search rules),
)

pub invariant_of-self : goal.invariant_of-self
invariant_of-self c = let r = c.self.invariant.2 in (
  search rules,
  search rules,
  sent_all _ _ _ _ _ _ _ _ _ r (search rules) (search rules)
      (c.store.ensures.2 (worker_state_in c.self.inside.seat.me.0) r.seated),
)
