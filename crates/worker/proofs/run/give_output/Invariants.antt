use Rattle.worker.specs.Workers.{Continues}
use Rattle.worker.proofs.run.give_output.Given as goal

abbrev pub invariant-loop-taken : goal.invariant-loop-taken
invariant-loop-taken g l = Continues g.P.Port.told g.P.Port.leads_to l.fn.worker l.worker
