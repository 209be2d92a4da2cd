use Rattle.std.proofs.Common.{◌≡◌}
use Rattle.script.specs.Scripts.{no_events}
use Rattle.script.proofs.reader.no_workers.Given as goal

abbrev pub invariant-loop : goal.invariant-loop
invariant-loop l = l.made.items ≡ no_events l.counter
