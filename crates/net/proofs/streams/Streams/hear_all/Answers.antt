use Rattle.std.proofs.Common.{rules, ◌≡◌, ap, ◌∙◌}
use Rattle.std.specs.Prelude.{Some}
use Rattle.std.specs.Map.{lookup}
use Rattle.std.specs.Bool.{nat_eq}
use Rattle.net.specs.Shown.{shown_stream, seen_of}
use Rattle.net.specs.Seen.{IsSet}
use Rattle.net.specs.Traces.{whose_of}
use Rattle.net.proofs.StreamLemmas.{shown_with}
use Rattle.net.proofs.TraceLemmas.{same_trace, set_same}
use Rattle.net.proofs.streams.Streams.hear_all.Goals as goal

-- what is heard of a stream changes nothing that is seen of it
pub loop-event-preserved : goal.loop-event-preserved
loop-event-preserved c =
    let old = c.loop-event.self in let s = c.of-heard.result.session in
    let x = c.in-Some-get_mut.open.now in let y = c.hear-has_room.new.self in
    let after = (c.get_mut.follows.lender y).entries in
    let found : Some x ≡ lookup (nat_eq s) old.open.entries = search rules in
    let set : IsSet s (Some (seen_of y)) (shown_stream old.open.entries) (shown_stream after) = search rules in
    let seen : Some (seen_of y) ≡ shown_stream old.open.entries s = ap Some c.hear-has_room.ensures.seen ∙ shown_with old s x found in (
      same_trace (whose_of old) (shown_stream old.open.entries) (shown_stream after) old.told.items
          (set_same (whose_of old) (shown_stream old.open.entries) (shown_stream after) old.told.items s (Some (seen_of y)) seen set)
          ∙ c.loop-event.invariant.0,
      c.loop-event.invariant.1,
    )
