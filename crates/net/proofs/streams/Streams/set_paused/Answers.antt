use Rattle.std.proofs.Common.{rules, ◌≡◌, Bool, false, ap, ◌∙◌}
use Rattle.std.specs.Prelude.{Some, is_some}
use Rattle.std.specs.Map.{lookup}
use Rattle.std.specs.Bool.{nat_eq}
use Rattle.worker_port.specs.Ports.{with_pause}
use Rattle.net.specs.Shown.{shown_stream, seen_of}
use Rattle.net.specs.Seen.{IsSet, then_paused}
use Rattle.net.specs.Traces.{whose_of, trace_of}
use Rattle.net.proofs.StreamLemmas.{set_by, shown_with}
use Rattle.net.proofs.TraceLemmas.{tells_pause}
use Rattle.net.proofs.streams.Streams.set_paused.Goals as goal

pub returns-in-Some-2-clause-told : goal.returns-in-Some-2-clause-told
returns-in-Some-2-clause-told c =
    let old = c.args.self.now in let s = c.args.session in let x = c.in-Some.open.now in let y = c.resume.new.self in
    let after = (c.get_mut.follows.lender y).entries in
    let found : Some x ≡ lookup (nat_eq s) old.open.entries = search rules in
    let set : IsSet s (Some (seen_of y)) (shown_stream old.open.entries) (shown_stream after) = search rules in
    let there : is_some (shown_stream old.open.entries s) ≡ is_some (Some (seen_of x)) =
    search (rules, shown_with old s x found) in
    let resumed : false ≡ c.args.is_paused = search rules in
    tells_pause (whose_of old) (shown_stream old.open.entries) (shown_stream after) old.told.items s false there
    (set_by old after s x y (then_paused false) found c.resume.ensures.seen set)
    ∙ ap (λ (b : Bool). with_pause s b (trace_of old)) resumed
