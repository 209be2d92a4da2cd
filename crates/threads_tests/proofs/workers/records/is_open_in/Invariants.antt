use Rattle.std.proofs.Common.{◌≡◌, take}
use Rattle.worker_port.specs.declared.events.PortRecord.TheVariants as was
use Rattle.worker_port.specs.Ports.{is_in}
use Rattle.threads_tests.proofs.workers.records.is_open_in.Given as goal

abbrev pub invariant-loop-entry : goal.invariant-loop-entry
invariant-loop-entry l =
    (l.opened ≡ is_in (was.Opened l.session) (take l.entry-index l.records))
    × (l.gone ≡ is_in (was.Gone l.session) (take l.entry-index l.records))
    × (l.shut ≡ is_in (was.Shut l.session) (take l.entry-index l.records))
