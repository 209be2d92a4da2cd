use Rattle.worker.specs.Workers.{Continues}
use Rattle.worker.proofs.run.pause_sessions.Given as goal

abbrev pub invariant-loop : goal.invariant-loop
invariant-loop g l = Continues g.P.Port.told g.P.Port.leads_to l.fn.worker l.worker
