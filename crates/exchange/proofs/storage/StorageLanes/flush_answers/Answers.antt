use Rattle.std.proofs.Common.{rules, refl, ap}
use Rattle.exchange.specs.Lanes.{SeatState}
use Rattle.exchange.specs.Seats.{storage_state_in}
use Rattle.exchange.proofs.Known.{tells_as}
use Rattle.exchange.proofs.storage.StorageLanes.flush_answers.Goals as goal

pub store-requires : goal.store-requires
store-requires c = let r = c.self.invariant.3 in let untold = c.self.invariant.4 in (
  search rules,
  search rules,
  tells_as _ _ _ _ (storage_state_in c.self.inside.seat.me.0) c.self.inside.untold_lane _ _
      (ap (λ (m : SeatState). m.0) r.seated) refl (r.counts_are c.self.inside.untold_lane untold.inside) (search rules)
      untold.others,
)
