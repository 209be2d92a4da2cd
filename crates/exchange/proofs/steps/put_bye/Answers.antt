use Rattle.std.proofs.Common.{rules, arith, ◌≡◌, ℕ, suc, ◌*◌, refl, sym, ap, ◌+◌}
use Rattle.exchange.specs.declared.messages.LaneMessage.TheVariants.{Bye}
use Rattle.exchange.specs.declared.rule.WorkerState.{WorkerState}
use Rattle.exchange.specs.Lanes.{SeatState}
use Rattle.exchange.specs.Steps.{holding_slot, placed_count}
use Rattle.exchange.specs.Seats.{worker_state_in}
use Rattle.exchange.proofs.WorkerSteps.{begins_post}
use Rattle.exchange.proofs.Known.{stands_put, posts_bye_as}
use Rattle.exchange.proofs.steps.put_bye.Goals as goal

pub load-requires : goal.load-requires
load-requires c = let room = c.requires.room in (
  search rules,
  search rules,
  begins_post _ _ _ _ (worker_state_in c.args.seat.now.me.0) _
      (ap (λ (m : SeatState). m.0) room.0) room.3 room.4 room.5,
)

pub store-requires : goal.store-requires
store-requires c = let room = c.requires.room in let d : WorkerState = worker_state_in c.args.seat.now.me.0 in
    let many : placed_count d ≡ c.args.number = room.2 in (
      search rules,
      search rules,
      posts_bye_as _ _ _ _ (holding_slot d (suc (placed_count d))) _ _
          (stands_put _ _ _ d _ _ _ Bye room.0 c.load.ensures.2 c.exchange.ensures.3 c.slot_at-slot.ensures room.1 many)
          (ap (λ (z : ℕ). 16 * z + 8) (sym room.1)) (omega arith) c.requires.none_put refl room.4 c.requires.all_back,
    )

pub returns-clause-sent : goal.returns-clause-sent
returns-clause-sent c = let room = c.requires.room in let d : WorkerState = worker_state_in c.args.seat.now.me.0 in
    c.store.ensures.2 (holding_slot d (suc (placed_count d))) _
    (stands_put _ _ _ d _ _ _ Bye room.0 c.load.ensures.2 c.exchange.ensures.3 c.slot_at-slot.ensures room.1 room.2)
