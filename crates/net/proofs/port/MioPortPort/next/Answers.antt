use Rattle.std.proofs.Common.{refl, sym, subst}
use Rattle.worker_port.specs.Ports.{PortTrace}
use Rattle.worker_port.specs.Giving.{HasAskedOnly}
use Rattle.net.specs.Traces.{trace_of}
use Rattle.net.proofs.port.MioPortPort.next.Goals as goal

pub next_event-event-requires : goal.next_event-event-requires
next_event-event-requires g c = let end = c.args.sender.now.end in
    subst (λ (t : PortTrace). HasAskedOnly t end.exchange end.worker end.sent) (sym c.poll_if_due.ensures.0)
    (c.requires (trace_of c.args.self.now.served) refl)
