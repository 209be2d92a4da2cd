use Rattle.std.proofs.Common.{true, List, sym, subst}
use Rattle.worker_port.specs.declared.events.PortRecord.{PortRecord}
use Rattle.net.specs.Shown.{shown_stream}
use Rattle.net.specs.Ties.{Ties}
use Rattle.net.proofs.TieLemmas.{ties_ended}
use Rattle.net.proofs.streams.Streams.end.Goals as goal

pub invariant_of-self-clause-ties : goal.invariant_of-self-clause-ties
invariant_of-self-clause-ties c =
    let old = c.args.self.now in
    subst (λ (l : List PortRecord). Ties (shown_stream old.open.entries) old.last l true) (sym c.note_as.ensures)
    (ties_ended (shown_stream old.open.entries) old.last old.told.items old.has_ended old.ties)
