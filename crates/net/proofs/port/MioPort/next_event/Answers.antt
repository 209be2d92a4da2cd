use Rattle.std.proofs.Common.{◌≡◌, ◌∙◌, ap, subst}
use Rattle.worker_port.specs.Ports.{PortTrace}
use Rattle.worker_port.specs.declared.events.PortEvent.TheVariants.{Ended}
use Rattle.net.specs.declared.port.MioPort.{MioPort}
use Rattle.net.specs.Traces.{trace_of, Tells}
use Rattle.net.proofs.TraceLemmas.{told_none}
use Rattle.net.proofs.port.MioPort.next_event.Goals as goal
use Rattle.net.proofs.port.MioPort.next_event.Goals.{After-is_empty, then-self-2+in_default, else-self-2}
use Rattle.net.proofs.port.MioPort.next_event.Goals.{then-self-3+in_default-end_idle, else-self-3}
use Rattle.net.proofs.port.MioPort.next_event.Given as given

-- where no event was found nothing was told
untold : (g : given.Over) (c : After-is_empty g) → trace_of c.if-self-3.self.served ≡ trace_of c.args.self.now.served
untold g c =
    let opened : trace_of c.if-self-2.self.served ≡ trace_of c.args.self.now.served = elim c.if-self-2.branch [
      | then-self-2+in_default w ↦ ap (λ (p : MioPort _). trace_of p.served) w.self-is ∙ w.in_default.ensures.told
      | else-self-2 w ↦ ap (λ (p : MioPort _). trace_of p.served) w.self-is
    ] in
    let ended : trace_of c.if-self-3.self.served ≡ trace_of c.next_input.new.self = elim c.if-self-3.branch [
      | then-self-3+in_default-end_idle w ↦ ap (λ (p : MioPort _). trace_of p.served) w.self-is ∙ w.in_default-end_idle.ensures.told
      | else-self-3 w ↦ ap (λ (p : MioPort _). trace_of p.served) w.self-is
    ] in
    ended ∙ c.in_default-next_input.ensures.told ∙ opened

pub returns-clause-told : goal.returns-clause-told
returns-clause-told g c =
    record {
      told = untold g (goal.at.returns-clause-told g c).After-is_empty ∙ told_none (trace_of c.args.self.now.served);
      may = tt;
      orders = tt;
    }

pub returns-then-is_drained-clause-told : goal.returns-then-is_drained-clause-told
returns-then-is_drained-clause-told g c =
    subst (λ (t : PortTrace). Tells t Ended (trace_of c.end.new.self))
    (untold g (goal.at.returns-then-is_drained-clause-told g c).After-is_empty) c.end.ensures.told
