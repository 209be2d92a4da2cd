use Rattle.worker.specs.Workers.{Continues, IsWorkerServing}
use Rattle.worker.proofs.run.shut_stalled.Given as goal

abbrev pub invariant-loop : goal.invariant-loop
invariant-loop g l = Continues g.P.Port.told g.P.Port.leads_to l.fn.worker l.worker-inside.state
    × IsWorkerServing g.P.Port.told l.worker-inside.state
