use Rattle.exchange.proofs.Fields.{new_agrees}
use Rattle.exchange.proofs.worker.WorkerLane.new.Goals as goal

pub invariant_of-result : goal.invariant_of-result
invariant_of-result c = (
  c.requires.table.0,
  c.requires.table.1,
  new_agrees c.args.seat.me c.requires.fresh.0 c.args.worker c.requires.fresh.1,
)
