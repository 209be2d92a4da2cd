use Rattle.std.proofs.Common.{◌≡◌}
use Rattle.net.specs.Listening.{accepted_count}
use Rattle.net.proofs.listener.Listener.offer_queued.Given as goal

-- nothing was accepted
abbrev pub invariant-loop : goal.invariant-loop
invariant-loop g l = accepted_count l.self ≡ accepted_count l.fn.self
