use Rattle.std.proofs.Common.{rules, subst}
use Rattle.proto.specs.Steps.{Step, IsCarriedOut}
use Rattle.reference.specs.Execution.{Execution}
use Rattle.reference.proofs.sequential_session.Executor.execute.Goals as goal

pub returns-clause-executes : goal.returns-clause-executes
returns-clause-executes g c = (
  c.max-moment.result,
  record {
    moment_is = search rules;
    first = c.carry_out-stored.result;
    same = search rules;
    uncounted = search rules;
    steps = subst (λ (x : Execution). IsCarriedOut (Step x.sizes c.max-moment.result) x.cache c.args.request.now c.carry_out-stored.result
        (g.E.StorageEngine.cache c.carry_out-stored.new.store)) c.self.view_is c.carry_out-stored.ensures.steps;
    sizes_stay = search rules;
    last = search rules;
    later = search rules;
  },
)
