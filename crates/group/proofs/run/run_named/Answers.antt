use Rattle.std.proofs.Common.{[], refl, sym, ap, ◌∙◌}
use Rattle.exchange.specs.Ends.{StorageView}
use Rattle.group.proofs.Runs.{kept_by_side, rejoined, stored, together}
use denote.Exit.{no}
use mir.Syntax.{named}
use denote.Param.Send.{param_send, arg_send, param_sync, arg_sync}
use Rattle.storage_thread.proofs.Sent.{shared_send}
use Rattle.group.proofs.executing.StorageExecutor.TheSendSync as executor
use Rattle.group.proofs.run.run_named.Goals as goal

pub run_threads-requires-send-T : goal.run_threads-requires-send-T
run_threads-requires-send-T g c κs within = param_send 1 _ (arg_send _ no _
    (shared_send (record { mir = named 12; lft = _ }) _ _ _ _ _ _ c.type_bounds.send-E c.type_bounds.send-C c.type_bounds.send-J))

pub run_threads-requires-sync-X : goal.run_threads-requires-sync-X
run_threads-requires-sync-X g c κs within = param_sync 2 _ (arg_sync _ no _
    (executor.the_sync _ _ _
    (shared_send (record { mir = named 12; lft = _ }) _ _ _ _ _ _ c.type_bounds.send-E c.type_bounds.send-C c.type_bounds.send-J)
    c.type_bounds.sync-R))

pub gather_report-requires-clause-together : goal.gather_report-requires-clause-together
gather_report-requires-clause-together g c =
    let p = g.P.Port in let end = c.args.end.value in let report = c.into_report-storage.result in
    let same = c.into_report-storage.ensures.same.0 ∙ ap (λ (e : StorageView). e.exchange) (sym c.requires.end) in
    together p.told p.leads_to end.terms report.storage_end c.args.ports.items c.in_ok-reports.reports.items
    (rejoined p.told p.leads_to end.terms end report.storage_end same c.args.ports.items c.in_ok-reports.reports.items
    c.in_ok-reports.ensures.joined)

pub returns-clause-run : goal.returns-clause-run
returns-clause-run g c =
    let p = g.P.Port in let n = g.C.Clock in let end = c.args.end.value in let report = c.into_report-storage.result in
    let began = c.args.origin.now.value in let keeps = g.E.StorageEngine.keeps began.store.value [] in
    let exact = g.E.StorageEngine.is_exact began.store.value in let may_refuse = g.E.StorageEngine.may_refuse in
    let same = c.into_report-storage.ensures.same.0 ∙ ap (λ (e : StorageView). e.exchange) (sym c.requires.end) in
    c.gather_report.ensures began.store.value end.terms c.args.ports.items began.clock.value
    (stored p.told p.leads_to n.told n.leads_to keeps exact may_refuse _ end.terms _ end c.requires.made c.args.ports.items
    c.args.ports.ok.0 began.clock.value began.clock.value began.end.value report refl (sym c.requires.end)
    (kept_by_side n.told n.leads_to keeps exact may_refuse began.clock.value began.end.value report c.into_report-storage.ensures))
    (rejoined p.told p.leads_to end.terms end report.storage_end same c.args.ports.items c.in_ok-reports.reports.items
    c.in_ok-reports.ensures.joined)
