use Rattle.std.proofs.Common.{[], ap, subst, ◌∙◌}
use Rattle.exchange.specs.Ends.{StorageView}
use Rattle.storage_thread.specs.Sides.{IsLeftBySide}
use Rattle.storage_thread.proofs.sharing.SharedSide.into_report.Goals as goal

pub returns : goal.returns
returns g c =
    let m = g.S.StorageEngine in let n = g.C.Clock in let i = c.self.invariant in let same = c.agrees.ensures in
    let store_is = i.1.0 ∙ ap (λ o. o.store.value) same in
    let clock_is = i.1.1 ∙ ap (λ o. o.clock.value) same in
    let end_is = i.1.2 ∙ ap (λ o. o.end.value) same in
    subst (λ (z : g.row.S.Denot × g.row.C.Denot × StorageView). IsLeftBySide n.told n.leads_to (m.keeps z.0 []) (m.is_exact z.0)
    m.may_refuse z.1 z.2 c.into_report.result) (λ j. (store_is j, clock_is j, end_is j)) c.into_report.ensures.left
