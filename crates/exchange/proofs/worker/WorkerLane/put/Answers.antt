use Rattle.std.proofs.Common.{rules, arith, ◌≡◌, ◌≢◌, ℕ, suc, ◌+◌, ◌-◌, ◌<◌, ◌≤◌, ◌++◌, ◌∷◌, [], length, Bool, refl, sym, ap, ◌∙◌, subst}
use Rattle.proto.specs.declared.limits.TheConstants.{WINDOW}
use Rattle.exchange.specs.declared.messages.LaneMessage.TheVariants.{Ask}
use Rattle.exchange.specs.declared.rule.WorkerState.{WorkerState}
use Rattle.exchange.specs.Lanes.{SeatState}
use Rattle.exchange.specs.Ends.{WorkerLaneView}
use Rattle.exchange.specs.Steps.{holding_slot, placed_count}
use Rattle.exchange.specs.Seats.{WorkerAgrees, worker_state_in, worker_lane_view}
use Rattle.exchange.proofs.WorkerSteps.{begins_post}
use Rattle.exchange.proofs.Known.{stands_put, puts_as}
use Rattle.exchange.proofs.Fields.{put_more}
use Rattle.exchange.proofs.worker.WorkerLane.put.Goals as goal

pub load-requires : goal.load-requires
load-requires c = let r = c.self.invariant.2 in let d : WorkerState = worker_state_in c.self.inside.seat.me.0 in
    let sent : ℕ = c.self.inside.sent in let put : ℕ = c.self.inside.put in let back : ℕ = c.self.inside.back in
    let sent_is : length d.sent ≡ sent = r.sent_is in let put_is : length d.put ≡ put = r.put_is in
    let back_is : length d.back ≡ back = r.back_is in let most : sent + put ≤ back + WINDOW = r.order.2 in
    let ne : sent + put - back ≢ WINDOW = c.if-number-self-eq-WINDOW.false in
    let room : length d.sent + length d.put < length d.back + WINDOW = omega arith in (
      search rules,
      search rules,
      begins_post _ _ _ _ d _ (ap (λ (m : SeatState). m.0) r.seated) r.idle (r.bye_is ∙ c.if-self.false) room,
    )

pub load-self-inside-requires : goal.load-self-inside-requires
load-self-inside-requires c = let r = c.self.invariant.2 in
    let d : WorkerState = worker_state_in c.self.inside.seat.me.0 in (
      search rules,
      search rules,
      puts_as _ _ _ _ (holding_slot d (suc (placed_count d))) c.args.posted _
          (stands_put _ _ _ d _ _ _ (Ask c.args.posted) r.seated c.load.ensures.2 c.exchange.ensures.3
          c.slot_at-slot.ensures r.worker_is (λ i. r.sent_is i + r.put_is i))
          (c.requires ∙ (ap (λ (v : WorkerLaneView). length v.end.sent + length v.put + 1) (sym c.self.view_is)
          ∙ (omega arith))) refl (r.bye_is ∙ c.if-self.false),
    )

pub invariant_of-self : goal.invariant_of-self
invariant_of-self c = let r = c.self.invariant.2 in
    let d : WorkerState = worker_state_in c.self.inside.seat.me.0 in let a = c.self.inside in
    let is = c.load-self-inside.ensures.2 (holding_slot d (suc (placed_count d))) c.args.posted _
    (stands_put _ _ _ d _ _ _ (Ask c.args.posted) r.seated c.load.ensures.2 c.exchange.ensures.3
    c.slot_at-slot.ensures r.worker_is (λ i. r.sent_is i + r.put_is i)) in (
      search rules,
      search rules,
      subst (λ (b : Bool). WorkerAgrees c.load-self-inside.new.seat.me a.worker a.sent (a.put + 1) a.back a.known b)
          (sym c.if-self.false)
          (put_more a.seat.me _ a.worker a.sent a.put a.back a.known c.args.posted
          (subst (λ (b : Bool). WorkerAgrees a.seat.me a.worker a.sent a.put a.back a.known b) c.if-self.false r)
          (search rules) (search rules) is),
    )

pub returns : goal.returns
returns c = let r = c.self.invariant.2 in
    let d : WorkerState = worker_state_in c.self.inside.seat.me.0 in
    let is = c.load-self-inside.ensures.2 (holding_slot d (suc (placed_count d))) c.args.posted _
    (stands_put _ _ _ d _ _ _ (Ask c.args.posted) r.seated c.load.ensures.2 c.exchange.ensures.3
    c.slot_at-slot.ensures r.worker_is (λ i. r.sent_is i + r.put_is i)) in (
      search rules,
      (λ i. worker_lane_view ((c.load-self-inside.ensures.0 ∙ (c.exchange.ensures.0 ∙ c.load.ensures.0)) i)
          (worker_state_in (is i).0))
          ∙ ap (λ (v : WorkerLaneView). record v { put = v.put ++ c.args.posted ∷ [] }) c.self.view_is,
    )
