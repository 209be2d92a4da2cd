use Rattle.net.proofs.streams.Streams.hear_all.Given as goal
use Rattle.net.specs.Traces.{trace_of, KeepsSockets}
use Rattle.std.proofs.Common.{◌≡◌}

-- nothing is told
abbrev pub invariant-loop-event : goal.invariant-loop-event
invariant-loop-event l = (trace_of l.self ≡ trace_of l.fn.self) × KeepsSockets l.fn.self l.self
