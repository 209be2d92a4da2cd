use Rattle.std.proofs.Common.{[], ap, subst, ◌∙◌}
use Rattle.exchange.specs.Ends.{StorageView}
use Rattle.storage_thread.specs.Sides.{IsLeftBySide}
use Rattle.storage_thread.proofs.serving.run_storage.Goals as goal

-- all that was taken from the end as it was given was executed
pub returns : goal.returns
returns g c =
    let m = g.S.StorageEngine in let n = g.C.Clock in let same = c.serve.ensures.origin in let made = c.new-side.ensures in
    let store_is = ap (λ o. o.store.value) same ∙ made.store in
    let clock_is = ap (λ o. o.clock.value) same ∙ made.clock in
    let end_is = ap (λ o. o.end.value) same ∙ made.end in
    let l = subst (λ (z : g.row.S.Denot × g.row.C.Denot × StorageView). IsLeftBySide n.told n.leads_to (m.keeps z.0 []) (m.is_exact z.0)
    m.may_refuse z.1 z.2 c.into_report.result) (λ j. (store_is j, clock_is j, end_is j)) c.into_report.ensures.left in record {
      same = l.same;
      legal = l.legal;
      refused = l.refused;
      once_in_order = l.once_in_order;
      inside = l.inside;
      bye = c.into_report.ensures.bye c.serve.ensures.done;
      leads = l.leads;
      moments = l.moments;
      bounded = l.bounded;
      dated = l.dated;
      executed = l.executed;
    }
