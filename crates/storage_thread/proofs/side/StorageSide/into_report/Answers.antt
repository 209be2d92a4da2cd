use Rattle.std.proofs.Common.{[], refl, ap, subst, ◌∙◌}
use Rattle.exchange.specs.Ends.{StorageLanesView}
use Rattle.storage_thread.specs.declared.side.SideState.{SideState}
use Rattle.storage_thread.specs.declared.serving.StorageReport.{StorageReport}
use Rattle.storage_thread.specs.Sides.{IsLeftBySide}
use Rattle.storage_thread.proofs.Sides.{left_by, bye_by}
use Rattle.storage_thread.proofs.side.StorageSide.into_report.Goals as goal

pub returns-clause-left : goal.returns-clause-left
returns-clause-left g c =
    let m = g.S.StorageEngine in let n = g.C.Clock in let s = c.self.inside.state in
    let end_is = c.into_end.ensures ∙ ap (λ (b : StorageLanesView). b.end) c.flush_answers.ensures.told in
    let report : StorageReport g.row.C.Denot = record {
      clock = c.into_clock.result;
      storage_end = c.into_end.result;
      executed = s.executed;
    } in
    subst (λ (z : SideState g.row.S.Denot g.row.C.Denot). IsLeftBySide n.told n.leads_to (m.keeps z.origin.store.value [])
    (m.is_exact z.origin.store.value) m.may_refuse z.origin.clock.value z.origin.end.value report) c.self.view_is
    (left_by m.cache m.moment m.sizes m.keeps m.is_exact m.may_refuse n.told n.start n.leads_to s c.self.invariant report
    c.into_clock.ensures end_is refl)

pub returns-clause-bye : goal.returns-clause-bye
returns-clause-bye g c none =
    let m = g.S.StorageEngine in let n = g.C.Clock in let s = c.self.inside.state in
    let end_is = c.into_end.ensures ∙ ap (λ (b : StorageLanesView). b.end) c.flush_answers.ensures.told in
    let report : StorageReport g.row.C.Denot = record {
      clock = c.into_clock.result;
      storage_end = c.into_end.result;
      executed = s.executed;
    } in
    bye_by m.cache m.moment m.sizes m.keeps m.is_exact m.may_refuse n.told n.start n.leads_to s c.self.invariant report end_is
    (ap (λ z. z.left) c.self.view_is ∙ none)
