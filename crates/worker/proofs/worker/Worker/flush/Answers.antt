use Rattle.std.proofs.Common.{◌≡◌, ◌++◌, ap, append-nil, ◌∙◌}
use Rattle.exchange.specs.Ends.{WorkerLaneView, with_put_sent}
use Rattle.worker.specs.Workers.{once_flushed}
use Rattle.worker.proofs.WorkerSteps.{continues}
use Rattle.worker.proofs.SettleSteps.{flushed_goes_on}
use Rattle.worker.proofs.worker.Worker.flush.Goals as goal

-- what was flushed counted as sent before
flushed_same : (batch after : WorkerLaneView) → after ≡ with_put_sent batch → once_flushed after ≡ once_flushed batch
flushed_same batch after h =
    ap once_flushed h ∙ (λ i. record (once_flushed batch) { sent = append-nil (batch.end.sent ++ batch.put) i })

pub invariant_of-self : goal.invariant_of-self
invariant_of-self g c = let w = c.self.inside.state in
    (flushed_goes_on g.P.Port.told w c.flush.new.self (flushed_same w.batch c.flush.new.self c.flush.ensures.sent)
    c.self.invariant).serving

pub returns : goal.returns
returns g c = let w = c.self.inside.state in
    continues c.self.view_is (g.met.P.Port.leads_reflexive _)
    (flushed_goes_on g.P.Port.told w c.flush.new.self (flushed_same w.batch c.flush.new.self c.flush.ensures.sent)
    c.self.invariant)
