use Rattle.std.proofs.Common.{◌≡◌, take}
use Rattle.worker_port.specs.declared.events.PortRecord.TheVariants as was
use Rattle.worker_port.specs.Ports.{is_in}
use Rattle.threads_tests.proofs.workers.records.has_input_ended_in.Given as goal

abbrev pub invariant-loop-entry : goal.invariant-loop-entry
invariant-loop-entry l = l.input_ended ≡ is_in (was.EndOfInput l.session) (take l.entry-index l.records)
