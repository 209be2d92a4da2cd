use Rattle.std.proofs.Common.{rules, ◌≡◌, ◌+◌, length, subst}
use mathlib.Core.Option.{some}
use lib.ListN.{get_elem?}
use Rattle.exchange.specs.Beginnings.{posted_of}
use Rattle.exchange.specs.Ends.{WorkerLaneView}
use Rattle.exchange.specs.Seats.{worker_at, worker_view}
use Rattle.exchange.proofs.Fields.{taken_seen, seen_own, seen_next}
use Rattle.exchange.proofs.worker.WorkerLane.take_seen.Goals as goal

pub invariant_of-self : goal.invariant_of-self
invariant_of-self c = let inv = c.self.invariant in let did = c.take_seen_answer-answer.ensures in
    (search rules, search rules, taken_seen _ _ _ _ _ _ _ _ _ inv.2 (search rules) did.next did.taken)

pub returns-clause-own : goal.returns-clause-own
returns-clause-own c = let a = c.take_seen_answer-answer.result in
    subst (λ (z : WorkerLaneView). (a.worker ≡ z.end.worker)
    × (get_elem? z.end.sent (length z.end.back) ≡ some (posted_of a))) c.self.view_is
    (seen_own (worker_view c.self.inside.seat.table_id (worker_at c.self.inside.seat.me)) a
    c.self.invariant.2.told c.take_seen_answer-answer.ensures.next)

pub returns-clause-in_order : goal.returns-clause-in_order
returns-clause-in_order c = let a = c.take_seen_answer-answer.result in
    subst (λ (z : WorkerLaneView). a.number ≡ length z.end.back + 1) c.self.view_is
    (seen_next (worker_view c.self.inside.seat.table_id (worker_at c.self.inside.seat.me)) a
    c.self.invariant.2.told c.take_seen_answer-answer.ensures.next)
