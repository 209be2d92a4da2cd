use Rattle.std.proofs.Common.{◌≡◌, ◌++◌, [], ◌∷◌, refl, sym, ap, append_assoc, subst, ◌∙◌, Option, Some, None}
use Rattle.proto.specs.declared.history.Posted.{Posted}
use Rattle.exchange.specs.Ends.{WorkerLaneView}
use Rattle.worker_port.specs.Ports.{PortTrace}
use Rattle.worker.specs.declared.worker.WorkerState.{WorkerState}
use Rattle.worker.specs.Workers.{end_of, once_flushed, numbered_by, IsWorkerServing}
use Rattle.worker.proofs.WorkerSteps.{WorkerGoesOn, continues}
use Rattle.worker.proofs.AskSteps.{sent_goes_on, goes_on_same}
use Rattle.worker.proofs.worker.Worker.put_held.Goals as goal

-- the held request was put, and counts as sent
put_goes_on : {P : Type 0} (told : P → Option PortTrace) (old : WorkerState P) (batch : WorkerLaneView) (request : Option Posted)
    (p : Posted) → Some p ≡ old.request → request ≡ None → batch ≡ record old.batch { put = old.batch.put ++ p ∷ [] }
    → IsWorkerServing told old → WorkerGoesOn told old (record old { batch = batch; request = request })
put_goes_on told old batch request p was none is h =
    sent_goes_on told old batch request none
    (ap once_flushed is ∙ (λ i. record (end_of old) {
      sent = (sym (append_assoc old.batch.end.sent old.batch.put (p ∷ [])) ∙ ap (numbered_by (end_of old)) was) i;
    })) h

-- it stays held
stays_goes_on : {P : Type 0} (told : P → Option PortTrace) (old : WorkerState P) (batch : WorkerLaneView) (back p : Posted)
    → Some p ≡ old.request → back ≡ p → batch ≡ old.batch → IsWorkerServing told old
    → WorkerGoesOn told old (record old { batch = batch; request = Some back })
stays_goes_on told old batch back p was same is h =
    subst (λ (y : WorkerLaneView × Option Posted). WorkerGoesOn told old (record old { batch = y.0; request = y.1 }))
    (λ i. (sym is i, sym (ap Some same ∙ was) i)) (goes_on_same told old h)

pub invariant_of-self-then-not-may_post : goal.invariant_of-self-then-not-may_post
invariant_of-self-then-not-may_post g c =
    (stays_goes_on g.P.Port.told c.self.inside.state c.self.inside.state.batch c.in-Some.held c.in-Some.held
    c.in-Some.ensures.value refl refl c.self.invariant).serving

pub returns-then-not-may_post-clause-goes_on : goal.returns-then-not-may_post-clause-goes_on
returns-then-not-may_post-clause-goes_on g c =
    continues c.self.view_is (g.met.P.Port.leads_reflexive _)
    (stays_goes_on g.P.Port.told c.self.inside.state c.self.inside.state.batch c.in-Some.held c.in-Some.held
    c.in-Some.ensures.value refl refl c.self.invariant)

pub invariant_of-self-in-Ok : goal.invariant_of-self-in-Ok
invariant_of-self-in-Ok g c =
    (put_goes_on g.P.Port.told c.self.inside.state c.put.new.self c.take.new.self c.in-Some.held c.in-Some.ensures.value
    c.in-Some.ensures.after c.in-Ok.ensures.1 c.self.invariant).serving

pub returns-in-Ok-clause-goes_on : goal.returns-in-Ok-clause-goes_on
returns-in-Ok-clause-goes_on g c =
    continues c.self.view_is (g.met.P.Port.leads_reflexive _)
    (put_goes_on g.P.Port.told c.self.inside.state c.put.new.self c.take.new.self c.in-Some.held c.in-Some.ensures.value
    c.in-Some.ensures.after c.in-Ok.ensures.1 c.self.invariant)

pub invariant_of-self-in-Err : goal.invariant_of-self-in-Err
invariant_of-self-in-Err g c =
    (stays_goes_on g.P.Port.told c.self.inside.state c.put.new.self c.in-Err.held c.in-Some.held
    c.in-Some.ensures.value c.in-Err.ensures.1 c.in-Err.ensures.2 c.self.invariant).serving

pub returns-in-Err-clause-goes_on : goal.returns-in-Err-clause-goes_on
returns-in-Err-clause-goes_on g c =
    continues c.self.view_is (g.met.P.Port.leads_reflexive _)
    (stays_goes_on g.P.Port.told c.self.inside.state c.put.new.self c.in-Err.held c.in-Some.held
    c.in-Some.ensures.value c.in-Err.ensures.1 c.in-Err.ensures.2 c.self.invariant)
