use Rattle.std.proofs.Common.{rules, ap}
use Rattle.exchange.specs.Lanes.{SeatState}
use Rattle.exchange.specs.Seats.{worker_state_in}
use Rattle.exchange.proofs.ToldSteps.{notes}
use Rattle.exchange.proofs.worker.WorkerLane.told.Goals as goal

pub split_seat-requires : goal.split_seat-requires
split_seat-requires c = let r = c.self.invariant.2 in (
  search rules,
  search rules,
  notes _ _ _ (worker_state_in c.self.inside.seat.me.0) (ap (λ (m : SeatState). m.0) r.seated),
)
