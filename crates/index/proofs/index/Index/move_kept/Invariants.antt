use Rattle.std.proofs.Common.{drop}
use Rattle.segments.specs.Pools.{key_at}
use Rattle.index.specs.Relocating.{keys_after_merge}
use Rattle.index.proofs.KeptMoves.{IsRelocating}
use Rattle.index.proofs.index.Index.move_kept.Given as goal

abbrev pub invariant-loop-step : goal.invariant-loop-step
invariant-loop-step l = IsRelocating (key_at l.pool) (keys_after_merge l.pool) l.moves
    (drop l.step-index l.moves) l.fn.self l.self
