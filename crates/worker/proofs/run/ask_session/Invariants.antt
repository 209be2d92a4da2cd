use Rattle.std.proofs.Common.{◌≡◌, None}
use Rattle.worker.specs.Workers.{Continues}
use Rattle.worker.proofs.run.ask_session.Given as goal

abbrev pub invariant-loop-asked : goal.invariant-loop-asked
invariant-loop-asked g l = Continues g.P.Port.told g.P.Port.leads_to l.fn.worker l.worker × (l.worker.request ≡ None)
