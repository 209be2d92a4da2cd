-- What is known once a worker has drained.
use Rattle.std.proofs.Common.{◌≡◌, ap, append-nil, ◌∙◌, Option, None}
use Rattle.proto.specs.declared.history.Posted.{Posted}
use Rattle.exchange.specs.Ends.{WorkerView}
use Rattle.worker.specs.Workers.{numbered_by}

-- where no request is held, the requests with numbers are those that were sent
pub numbered_are_sent : (end : WorkerView) (request : Option Posted) → request ≡ None → numbered_by end request ≡ end.sent
numbered_are_sent end request e = ap (numbered_by end) e ∙ append-nil end.sent
