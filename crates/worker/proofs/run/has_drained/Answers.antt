use Rattle.proto.specs.declared.history.Posted.{Posted}
use Rattle.std.proofs.Common.{length-append, rules, true≢false, arith, sym, subst, ◌∙◌}
use Rattle.worker.specs.Workers.{IsDrained, IsWorkerServing}
use Rattle.worker.proofs.run.has_drained.Goals as goal
use Rattle.worker.proofs.run.has_drained.Goals.{in-Some, in-None}

pub returns-clause-drained : goal.returns-clause-drained
returns-clause-drained g c = λ done. elim c.match-find_unemptied.branch [
  | in-Some w ↦ absurd (true≢false (sym done ∙ w.result-is))
  | in-None w ↦ subst (λ l. IsDrained l.state) (sym w.worker-inside-is) (record {
    ended = c.if-not-state.false;
    request = search rules;
    back = omega (arith, c.if-outstanding-gt0.false, c.outstanding.ensures.value, length-append {A = Posted});
    emptied = c.find_unemptied.ensures.none w.in-None.is;
  })
]

pub invariant_of-worker-2 : goal.invariant_of-worker-2
invariant_of-worker-2 g c = elim c.match-find_unemptied.branch [
  | in-Some w ↦ subst (λ l. IsWorkerServing g.P.Port.told l.state) (sym w.worker-inside-is)
      (subst (λ b. IsWorkerServing g.P.Port.told (record c.worker.inside.state { book = b })) (sym w.ask_later.ensures)
      c.worker.invariant)
  | in-None w ↦ subst (λ l. IsWorkerServing g.P.Port.told l.state) (sym w.worker-inside-is) c.worker.invariant
]
