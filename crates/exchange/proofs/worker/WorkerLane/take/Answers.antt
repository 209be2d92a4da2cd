use Rattle.std.proofs.Common.{rules, ◌≡◌, ◌+◌, length, inl, inr, sym, ◌∙◌, subst}
use Rattle.std.specs.Prelude.{IfSome}
use mathlib.Core.Option.{some}
use lib.ListN.{get_elem?}
use Rattle.proto.specs.History.{worker_share}
use Rattle.exchange.specs.Beginnings.{StartsWith, posted_of}
use Rattle.exchange.specs.Ends.{WorkerLaneView, TakesAnswer}
use Rattle.exchange.specs.Seats.{worker_state_in, worker_view}
use Rattle.exchange.proofs.Fields.{Least, taken_more, takes_outside, taken_own, taken_next, taken_back}
use Rattle.exchange.proofs.worker.WorkerLane.take.Goals.{then-done-self, else-done-self}
use Rattle.exchange.proofs.worker.WorkerLane.take.Goals as goal

pub invariant_of-self : goal.invariant_of-self
invariant_of-self c = let inv = c.self.invariant in
    let least : Least c.if-done-self.self c.take_answer-done.result.0 c.self.inside.sent =
    elim c.if-done-self.branch [ then-done-self w ↦ inl (search rules) | else-done-self w ↦ inr (search rules) ] in (
      search rules,
      search rules,
      taken_more _ _ _ _ _ _ _ _ _ _ _ inv.2 (sym c.is_some.ensures
          ∙ c.if-is_some.true) c.take_answer-done.ensures.taken c.take_answer-done.ensures.seat least,
    )

pub returns-then-is_some-clause-taken : goal.returns-then-is_some-clause-taken
returns-then-is_some-clause-taken c = subst (λ (z : WorkerLaneView). TakesAnswer z.end c.take_answer-done.result.1
    (worker_view c.take_answer-done.new.seat.table_id (worker_state_in c.take_answer-done.new.seat.me.0)))
    c.self.view_is
    (subst (λ t. TakesAnswer (worker_view c.self.inside.seat.table_id (worker_state_in c.self.inside.seat.me.0))
    c.take_answer-done.result.1
    (worker_view t (worker_state_in c.take_answer-done.new.seat.me.0))) (sym c.take_answer-done.ensures.table.0)
    (takes_outside c.self.inside.seat.table_id _ _ _ _ c.take_answer-done.ensures.taken))

pub returns-else-is_some-clause-taken : goal.returns-else-is_some-clause-taken
returns-else-is_some-clause-taken c = subst (λ (z : WorkerLaneView). TakesAnswer z.end c.take_answer-done.result.1
    (worker_view c.take_answer-done.new.seat.table_id (worker_state_in c.take_answer-done.new.seat.me.0)))
    c.self.view_is
    (subst (λ t. TakesAnswer (worker_view c.self.inside.seat.table_id (worker_state_in c.self.inside.seat.me.0))
    c.take_answer-done.result.1
    (worker_view t (worker_state_in c.take_answer-done.new.seat.me.0))) (sym c.take_answer-done.ensures.table.0)
    (takes_outside c.self.inside.seat.table_id _ _ _ _ c.take_answer-done.ensures.taken))

pub returns-then-is_some-clause-own : goal.returns-then-is_some-clause-own
returns-then-is_some-clause-own c = subst
    (λ (z : WorkerLaneView). IfSome c.take_answer-done.result.1 (λ a. (a.worker ≡ z.end.worker)
    × (get_elem? z.end.sent (length z.end.back) ≡ some (posted_of a)))) c.self.view_is
    (taken_own _ _ _ (takes_outside c.self.inside.seat.table_id _ _ _ _ c.take_answer-done.ensures.taken))

pub returns-then-is_some-clause-in_order : goal.returns-then-is_some-clause-in_order
returns-then-is_some-clause-in_order c = subst
    (λ (z : WorkerLaneView). IfSome c.take_answer-done.result.1 (λ a. a.number ≡ length z.end.back + 1)) c.self.view_is
    (taken_next _ _ _ (takes_outside c.self.inside.seat.table_id _ _ _ _ c.take_answer-done.ensures.taken))

pub returns-then-is_some-clause-back : goal.returns-then-is_some-clause-back
returns-then-is_some-clause-back c = let now = worker_state_in c.take_answer-done.new.seat.me.0 in
    subst (λ (z : WorkerLaneView). StartsWith (worker_share now.seen z.end.worker) now.back) c.self.view_is
    (taken_back _ _ _ (takes_outside c.self.inside.seat.table_id _ _ _ _ c.take_answer-done.ensures.taken))
