use Rattle.std.proofs.Common.{◌≡◌, [], ap, sym, ◌∙◌, Option}
use Rattle.std.specs.Option.{option_map_or}
use Rattle.worker_port.specs.declared.events.PortRecord.TheVariants as was
use Rattle.worker_port.specs.Ports.{PortTrace, is_in}
use Rattle.threads_tests.proofs.workers.recording_port.RecordingPortPort.next.Goals as goal

pub returns-else-not-is_new_in-clause-may : goal.returns-else-not-is_new_in-clause-may
returns-else-not-is_new_in-clause-may g c trace told =
    let events : trace.events ≡ c.args.self.now.records.items =
    ap (λ (o : Option PortTrace). option_map_or (λ (s : PortTrace). s.events) o []) (sym told) in
    let new = c.is_new_in.ensures in
    let is_new = c.if-not-is_new_in.false in (
      new.above is_new,
      λ t opened. new.newer is_new t (ap (is_in (was.Opened t)) (c.as_slice-in-Some-Open.ensures.value ∙ sym events) ∙ opened),
      ap (is_in was.Ended) (events ∙ sym c.as_slice.ensures.value) ∙ (sym c.has_ended_in.ensures ∙ c.if-has_ended_in.false),
    )
