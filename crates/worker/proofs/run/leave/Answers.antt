use Rattle.std.proofs.Common.{◌≡◌, length, refl, sym, ap, subst, ◌∙◌, arith}
use Rattle.std.proofs.lemmas.Grind.{common_steps}
use Rattle.std.proofs.lemmas.List.{take_all}
use Rattle.proto.specs.History.{asked_posted}
use Rattle.exchange.specs.Ends.{WorkerView}
use Rattle.worker.specs.Reports.{HasSaidBye}
use Rattle.worker.specs.Workers.{end_of, IsTraceKnown, IsDrained, run_view}
use Rattle.worker.proofs.DrainSteps.{numbered_are_sent}
use Rattle.worker.proofs.ReportSteps.{reported}
use Rattle.worker.proofs.run.leave.Goals as goal

pub returns-clause-reported : goal.returns-clause-reported
returns-clause-reported g c =
    λ trace e.
    let w = c.worker.inside.state in let k = c.worker.invariant in let end = c.bye.new.self in
    let d = subst (λ v. IsDrained v) (sym c.worker.view_is) c.requires in
    let v = run_view trace w in
    let bye : HasSaidBye (end_of w) end = grind (arith, common_steps) in
    let back : (end_of w).back ≡ end.back =
    sym (ap (λ (e : WorkerView). e.back) c.bye.ensures ∙ ap (λ (e : WorkerView). e.back) c.into_end-worker_end.ensures) in
    let sent : (end_of w).sent ≡ end.sent =
    sym (k.steady.back ∙ take_all (length (end_of w).back) (end_of w).sent (omega (arith, d.back)))
    ∙ ap asked_posted back ∙ bye.all_back in
    reported v end w.unopened (subst (λ b. IsTraceKnown v w.unopened b) d.ended (k.known trace e))
    (numbered_are_sent (end_of w) w.request d.request ∙ sent) back bye.all_back (λ s. refl) (λ s cause st q. d.emptied s st q)
