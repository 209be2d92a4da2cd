use Rattle.std.proofs.Common.{refl, sym, subst, ◌∙◌}
use Rattle.worker.proofs.WorkerSteps.{continues_trans}
use Rattle.worker.proofs.run.run_worker.Goals as goal

pub loop-preserved-then-take_turn : goal.loop-preserved-then-take_turn
loop-preserved-then-take_turn g c =
    continues_trans g.met.P.Port.leads_transitive c.loop.invariant
    c.take_turn.ensures

pub loop-preserved : goal.loop-preserved
loop-preserved g c =
    continues_trans g.met.P.Port.leads_transitive
    (continues_trans g.met.P.Port.leads_transitive c.loop.invariant
    c.take_turn.ensures) c.has_drained.ensures.goes_on

pub returns-then-has_drained-clause-leads : goal.returns-then-has_drained-clause-leads
returns-then-has_drained-clause-leads g c =
    let all = (continues_trans g.met.P.Port.leads_transitive
    (continues_trans g.met.P.Port.leads_transitive c.loop.invariant
    c.take_turn.ensures) c.has_drained.ensures.goes_on).leads in
    let Leads : g.row.P.Denot × g.row.P.Denot → Type 0 = λ y. g.P.Port.leads_to y.0 y.1 in
    subst Leads (λ j. (c.new-worker.ensures.port j, sym c.leave.ensures.port j)) all

pub loop-init : goal.loop-init
loop-init g c = record {
  tells = refl;
  leads = g.met.P.Port.leads_reflexive _;
  same_end = record { exchange = refl; worker = refl };
  dialect = refl;
}

pub returns-then-has_drained-clause-spelled : goal.returns-then-has_drained-clause-spelled
returns-then-has_drained-clause-spelled g c =
    let all = (continues_trans g.met.P.Port.leads_transitive
    (continues_trans g.met.P.Port.leads_transitive c.loop.invariant
    c.take_turn.ensures) c.has_drained.ensures.goes_on).dialect in
    λ trace e. c.leave.ensures.spelled trace e ∙ all ∙ c.new-worker.ensures.dialect
