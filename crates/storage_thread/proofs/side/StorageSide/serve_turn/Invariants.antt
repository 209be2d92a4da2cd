use Rattle.std.proofs.Common.{◌≡◌}
use Rattle.storage_thread.proofs.side.StorageSide.serve_turn.Given as goal

abbrev pub invariant-loop : goal.invariant-loop
invariant-loop g l = l.self.origin ≡ l.fn.self.origin
