use Rattle.std.proofs.Common.{◌≡◌, List, [], refl, sym, subst}
use Rattle.std.specs.Prelude.{slice_index}
use mathlib.Core.Option.{some}
use lib.ListN.{get_elem?}
use Rattle.exchange.specs.Ends.{WorkerView, AreTogether, AreCounted}
use Rattle.group.proofs.Runs.{run}
use Rattle.group.proofs.run.gather_report.Goals as goal

pub gather-requires : goal.gather-requires
gather-requires g c = subst (λ (l : List WorkerView). AreTogether l c.args.storage.storage_end)
    (sym c.split_reports-workers.ensures.1) c.requires.together

pub returns : goal.returns
returns g c = λ store sizes ports clock stored joined.
    run g.P.Port.told g.P.Port.leads_to g.C.Clock.told g.C.Clock.leads_to
    (g.E.StorageEngine.keeps store []) (g.E.StorageEngine.is_exact store) g.E.StorageEngine.may_refuse sizes ports clock c.args.reports.items c.args.storage _ stored joined
    c.split_reports-workers.ensures.0 refl refl
    (subst (λ (l : List WorkerView). (i : _) (v : WorkerView) → get_elem? l i ≡ some v
    → AreCounted c.args.storage.storage_end v (slice_index c.gather.result.sent v.worker)
    (slice_index c.gather.result.back v.worker)) c.split_reports-workers.ensures.1 c.gather.ensures.counted)
    c.gather.ensures.beyond
