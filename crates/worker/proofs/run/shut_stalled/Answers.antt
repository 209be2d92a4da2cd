use Rattle.worker.proofs.WorkerSteps.{continues, continues_trans, stalled_goes_on, open_at}
use Rattle.worker.proofs.AskSteps.{goes_on_same}
use Rattle.std.proofs.Common.{refl, sym, subst}
use Rattle.session_book.specs.Book.{BookState}
use Rattle.worker.specs.Workers.{Continues, IsWorkerServing}
use Rattle.worker.proofs.run.shut_stalled.Goals as goal

pub loop-init : goal.loop-init
loop-init g c = let w = c.worker.inside.state in
    subst (λ (b : BookState). Continues g.P.Port.told g.P.Port.leads_to c.args.worker.now (record w { book = b })
    × IsWorkerServing g.P.Port.told (record w { book = b })) (sym c.count_tick.ensures) (
      continues c.worker.view_is (g.met.P.Port.leads_reflexive _) (goes_on_same g.P.Port.told w c.worker.invariant),
      c.worker.invariant,
    )

pub shut-requires : goal.shut-requires
shut-requires g c = let u = c.in-Some.ensures in
    open_at g.P.Port.told c.loop.worker-inside.state c.in-Some.session u.s c.loop.invariant.1 u.there

pub loop-preserved : goal.loop-preserved
loop-preserved g c =
    let k = stalled_goes_on g.P.Port.told c.loop.worker-inside.state c.shut.new.self c.in-Some.session
    c.shut.ensures.shuts c.loop.invariant.1 c.in-Some.ensures in (
      continues_trans g.met.P.Port.leads_transitive c.loop.invariant.0 (continues refl c.shut.ensures.leads k),
      k.serving,
    )
