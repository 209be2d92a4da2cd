use Rattle.std.proofs.Common.{◌≡◌, ◌+◌, ◌≤◌}
use Rattle.net.specs.Listening.{accepted_count}
use Rattle.net.proofs.listener.Listener.run_heard.Given as goal

-- no more than are wanted were accepted, and each is counted
abbrev pub invariant-loop : goal.invariant-loop
invariant-loop g l =
    (goal.iterator-loop g).can_next l.iterator' × (goal.iterator-loop g).is_finite l.iterator'
    × (l.report.accepted ≤ l.wanted) × (accepted_count l.self ≡ accepted_count l.fn.self + l.report.accepted)
