use Rattle.std.proofs.Common.{rules, ◌≡◌, ◌+◌, length, refl, sym, ap, ◌∙◌, Some, None}
use mathlib.Core.Option.{some}
use Rattle.atomic_table.specs.Table.{rest}
use Rattle.proto.specs.declared.limits.TheConstants.{WINDOW}
use Rattle.proto.specs.declared.history.Answered.{Answered}
use Rattle.proto.specs.History.{worker_share}
use Rattle.exchange.specs.declared.messages.LaneMessage.TheVariants.{Answer}
use Rattle.exchange.specs.declared.rule.WorkerState.{WorkerState}
use Rattle.exchange.specs.declared.rule.LaneView.TheVariants.{Worker}
use Rattle.exchange.specs.Lanes.{SeatState, lane_slot}
use Rattle.exchange.specs.Seats.{worker_state_in}
use Rattle.exchange.specs.Steps.{holding_slot, with_seen_slot_taken}
use Rattle.exchange.proofs.Lists.{at_some}
use Rattle.exchange.proofs.WorkerSteps.{takes_seen}
use Rattle.exchange.proofs.Known.{exchanged, returns_as, in_front, alone, next_round, same_answer}
use Rattle.exchange.proofs.steps.take_seen_answer.Goals as goal

pub load-requires : goal.load-requires
load-requires c = let h = c.requires.seen in let d : WorkerState = worker_state_in c.args.seat.now.me.0 in
    let next = at_some (worker_share d.seen d.worker) (length d.back) h.4 in
    (search rules, search rules, takes_seen _ _ _ _ d next.0 _ (ap (λ (m : SeatState). m.0) h.0) h.3 next.1)

pub take_out_answer-answered-requires-clause-full : goal.take_out_answer-answered-requires-clause-full
take_out_answer-answered-requires-clause-full c = let h = c.requires.seen in
    let d : WorkerState = worker_state_in c.args.seat.now.me.0 in
    let next = at_some (worker_share d.seen d.worker) (length d.back) h.4 in
    let told = c.load.ensures.2 d next.0 (ap (λ (m : SeatState). m.0) h.0) next.1 in
    let slot : lane_slot c.args.worker c.args.back ≡ lane_slot d.worker (length d.back) =
    λ j. lane_slot (sym h.1 j) (sym h.2 j) in
    (next.0, in_front _ _ _ _ _ _ told slot)

pub load-requires-2 : goal.load-requires-2
load-requires-2 c = let h = c.requires.seen in let d : WorkerState = worker_state_in c.args.seat.now.me.0 in
    let next = at_some (worker_share d.seen d.worker) (length d.back) h.4 in
    let told = c.load.ensures.2 d next.0 (ap (λ (m : SeatState). m.0) h.0) next.1 in
    let slot : lane_slot c.args.worker c.args.back ≡ lane_slot d.worker (length d.back) =
    λ j. lane_slot (sym h.1 j) (sym h.2 j) in
    let d' : WorkerState = with_seen_slot_taken d next.0 in
    let me = exchanged _ _ (Worker d') _ _ (Some (Answer next.0)) None c.take_out_answer-answered.ensures.empty
    (alone _ _ _ _ _ told (ap (λ (m : SeatState). m.1) h.0)) slot in (
      search rules,
      search rules,
      returns_as _ _ _ _ d' _ (length d.back + WINDOW) _ me refl (next_round d.worker (length d.back)),
    )

pub returns-clause-next : goal.returns-clause-next
returns-clause-next c = let h = c.requires.seen in let d : WorkerState = worker_state_in c.args.seat.now.me.0 in
    let next = at_some (worker_share d.seen d.worker) (length d.back) h.4 in
    let told = c.load.ensures.2 d next.0 (ap (λ (m : SeatState). m.0) h.0) next.1 in
    let slot : lane_slot c.args.worker c.args.back ≡ lane_slot d.worker (length d.back) =
    λ j. lane_slot (sym h.1 j) (sym h.2 j) in
    next.1 ∙ ap (λ (a : Answered). some a)
    (same_answer _ _ _ _ _ (in_front _ _ _ _ _ _ told slot) c.take_out_answer-answered.ensures.taken)

pub returns-clause-taken : goal.returns-clause-taken
returns-clause-taken c = let h = c.requires.seen in let d : WorkerState = worker_state_in c.args.seat.now.me.0 in
    let next = at_some (worker_share d.seen d.worker) (length d.back) h.4 in
    let told = c.load.ensures.2 d next.0 (ap (λ (m : SeatState). m.0) h.0) next.1 in
    let slot : lane_slot c.args.worker c.args.back ≡ lane_slot d.worker (length d.back) =
    λ j. lane_slot (sym h.1 j) (sym h.2 j) in
    let d' : WorkerState = with_seen_slot_taken d next.0 in
    let me = exchanged _ _ (Worker d') _ _ (Some (Answer next.0)) None c.take_out_answer-answered.ensures.empty
    (alone _ _ _ _ _ told (ap (λ (m : SeatState). m.1) h.0)) slot in
    let same = same_answer _ _ _ _ _ (in_front _ _ _ _ _ _ told slot) c.take_out_answer-answered.ensures.taken in
    c.load-2.ensures.2 d' (ap (λ (m : SeatState). m.0) me)
    ∙ (λ j. (Worker (holding_slot (with_seen_slot_taken d (same j)) 0), rest (me j).1))
