use Rattle.std.proofs.Common.{rules}
use Rattle.worker_port.proofs.Lists.{accepts_none}
use Rattle.worker.proofs.worker.Worker.new.Goals as goal

pub invariant_of-result : goal.invariant_of-result
invariant_of-result g c = record {
  steady = search rules;
  strangers = search rules;
  known = λ trace e. record {
    each = search rules;
    rising = search rules;
    counted = search rules;
    at_end = search rules;
    accepts = accepts_none trace.events (c.requires.port.silent trace e);
  };
  paused = search rules;
  whose = search rules;
}
