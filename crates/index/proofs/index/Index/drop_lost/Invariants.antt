use Rattle.std.proofs.Common.{drop}
use Rattle.segments.specs.Pools.{key_at}
use Rattle.index.specs.Table.{Table, IsIndex, IsSameSize}
use Rattle.index.specs.Relocating.{IsRelocated, forget_lost}
use Rattle.index.proofs.index.Index.drop_lost.Given as goal

abbrev pub invariant-loop-step : goal.invariant-loop-step
invariant-loop-step l = record {
  index : IsIndex (key_at l.pool) l.self;
  size : IsSameSize l.fn.self l.self;
  ends : (end : Table) → IsRelocated (key_at l.pool) (key_at l.pool) (forget_lost (drop l.step-index l.moves)) l.self end
      → IsRelocated (key_at l.pool) (key_at l.pool) (forget_lost l.moves) l.fn.self end;
}
