use Rattle.std.proofs.Common.{◌≡◌, ℕ, List, ◌++◌, ap, sym, ◌∙◌}
use Rattle.std.specs.Prelude.{Some, is_some}
use Rattle.std.specs.Option.{option_map}
use Rattle.net.specs.Seen.{received_of}
use Rattle.net.specs.Shown.{shown_stream, seen_of}
use Rattle.net.proofs.port.MioPort.agrees.Goals as goal

-- what is told and what is ahead are all that was read
pub returns-clause-came : goal.returns-clause-came
returns-clause-came g c = λ s o found.
    let served = c.args.self.now.served in
    let shown : Some (seen_of o) ≡ shown_stream served.open.entries s = ap (option_map seen_of) (sym found) in
    o.stream.joined ∙ ap (λ (b : List ℕ). b ++ o.stream.ahead)
    (ap received_of shown ∙ sym (served.ties.1 s (ap is_some (sym shown))).0)
