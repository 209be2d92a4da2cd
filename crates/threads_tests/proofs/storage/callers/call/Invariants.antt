use Rattle.std.proofs.Common.{◌≡◌}
use Rattle.threads_tests.proofs.storage.callers.call.Given as goal

abbrev pub invariant-loop : goal.invariant-loop
invariant-loop g l =
    (goal.iterator-loop g).can_next l.iterator' × (goal.iterator-loop g).is_finite l.iterator'
    × (l.end.exchange ≡ l.fn.end.exchange) × (l.end.worker ≡ l.fn.end.worker)
