use Rattle.std.proofs.Common.{◌≡◌, ℕ, ◌≤◌, take, true}
use Rattle.worker_port.specs.declared.events.PortRecord.TheVariants as was
use Rattle.worker_port.specs.Ports.{is_in}
use Rattle.threads_tests.proofs.workers.records.newest_in.Given as goal

abbrev pub invariant-loop-entry : goal.invariant-loop-entry
invariant-loop-entry l = (t : ℕ) → is_in (was.Opened t) (take l.entry-index l.records) ≡ true → t ≤ l.newest
