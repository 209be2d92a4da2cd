use Rattle.std.proofs.Common.{◌≡◌, length}
use Rattle.engine.specs.Deadlines.{IsKeepingStep}
use Rattle.engine.proofs.CarryingLemmas.{touches_of, LeadsOn}
use Rattle.engine.proofs.carrying.touch_each.Given as goal

-- the keys that are left are to be touched behind those before them
abbrev pub invariant-loop-key : goal.invariant-loop-key
invariant-loop-key g l = record {
  leads : LeadsOn (IsKeepingStep (g.S.StorageEngine.is_exact l.initial.store) (g.S.StorageEngine.sizes l.initial.store) l.now)
      (g.S.StorageEngine.cache l.initial.store) (touches_of l.exptime l.initial.words) l.initial.shown
      (g.S.StorageEngine.cache l.store) (touches_of l.exptime l.words) l.shown;
  sizes : g.S.StorageEngine.sizes l.store ≡ g.S.StorageEngine.sizes l.initial.store;
  moment : g.S.StorageEngine.moment l.store ≡ l.now;
  exact : g.S.StorageEngine.is_exact l.store ≡ g.S.StorageEngine.is_exact l.initial.store;
}

abbrev pub decreases-loop-key : goal.decreases-loop-key
decreases-loop-key g l = length l.words
