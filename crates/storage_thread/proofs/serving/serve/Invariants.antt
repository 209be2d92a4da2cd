use Rattle.std.proofs.Common.{◌≡◌}
use Rattle.storage_thread.proofs.serving.serve.Given as goal

abbrev pub invariant-loop : goal.invariant-loop
invariant-loop g l = l.side.origin ≡ l.fn.side.origin
