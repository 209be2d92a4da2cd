use Rattle.net.proofs.streams.Streams.next_input.Given as goal
use Rattle.net.specs.Traces.{trace_of, KeepsSockets}
use Rattle.std.proofs.Common.{◌≡◌}

-- until one has something, nothing is told
abbrev pub invariant-loop : goal.invariant-loop
invariant-loop l = (trace_of l.self ≡ trace_of l.fn.self) × KeepsSockets l.fn.self l.self
