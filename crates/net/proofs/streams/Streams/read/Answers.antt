use Rattle.std.proofs.Common.{rules, ◌≡◌, List, ℕ, ◌∷◌, [], ◌++◌, ◌∙◌, ap, sym}
use Rattle.std.specs.Prelude.{Some, None}
use Rattle.std.specs.Map.{lookup}
use Rattle.std.specs.Bool.{nat_eq}
use Rattle.worker_port.specs.declared.events.PortRecord.TheVariants as was
use Rattle.worker_port.specs.declared.events.PortEvent.TheVariants as event
use Rattle.net.specs.Shown.{shown_stream, seen_of}
use Rattle.net.specs.Ties.{AreOfExchange}
use Rattle.net.specs.Seen.{Seen, IsSet, then_received, then_input_ended, is_paused_stream, has_input_ended}
use Rattle.net.specs.Traces.{trace_of, Tells}
use Rattle.net.proofs.StreamLemmas.{Agree, trace_after, set_by, open_with, shown_with}
use Rattle.net.proofs.SocketLemmas.{named_set, named_now, named_none}
use Rattle.net.proofs.StreamLemmas.{agree_fed, agree_input_ended, agree_gone, tell_fed, tell_input_ended, tell_gone}
use Rattle.std.proofs.Common.{subst}
use Rattle.std.specs.Prelude.{is_some}
use Rattle.proto.specs.Reading.{Reads}
use Rattle.net.specs.Seen.{received_of}
use Rattle.net.proofs.streams.Streams.read.Goals as goal
use Rattle.net.proofs.streams.Streams.read.Goals.{After-note_as, After-note_as-in-Ended, After-note_as-in-Gone}

-- bytes came: the stream that is read stands under the session's number, and what it becomes does
fed : (c : After-note_as) → let after = (c.get_mut.follows.lender c.read.new.self).entries in
    Agree c.args.self.now after c.args.session c.note_as.new.self.items
    × Tells (trace_of c.args.self.now) (event.Data c.args.session c.in-Bytes.piece)
    (trace_after c.args.self.now after c.args.session c.note_as.new.self.items)
fed c =
    let old = c.args.self.now in let s = c.args.session in let x = c.in-Some.open.now in let y = c.read.new.self in
    let after = (c.get_mut.follows.lender y).entries in let piece = c.in-Bytes.piece in let told = c.note_as.new.self.items in
    let found : Some x ≡ lookup (nat_eq s) old.open.entries = search rules in
    let set : IsSet s (Some (seen_of y)) (shown_stream old.open.entries) (shown_stream after) = search rules in
    let events : told ≡ old.told.items ++ was.Data s piece ∷ [] =
    c.note_as.ensures ∙ ap (λ (b : List ℕ). old.told.items ++ was.Data s b ∷ []) c.as_slice.ensures in
    let now = set_by old after s x y (then_received piece) found
    c.in-Bytes.ensures.arrives.0 set in (
      agree_fed old after s told (open_with old s x found) piece events now,
      tell_fed old after s told (open_with old s x found) c.requires.goes_on piece
          (sym (ap is_paused_stream (shown_with old s x found)) ∙ c.in-Bytes.ensures.arrives.2)
          (sym (ap has_input_ended (shown_with old s x found)) ∙ c.in-Bytes.ensures.arrives.1)
          c.in-Bytes.ensures.arrives.3 c.in-Bytes.ensures.arrives.4 events now,
    )

-- its input has ended
ended : (c : After-note_as-in-Ended) → let after = (c.get_mut.follows.lender c.read.new.self).entries in
    Agree c.args.self.now after c.args.session c.note_as-in-Ended.new.self.items
    × Tells (trace_of c.args.self.now) (event.EndOfInput c.args.session)
    (trace_after c.args.self.now after c.args.session c.note_as-in-Ended.new.self.items)
ended c =
    let old = c.args.self.now in let s = c.args.session in let x = c.in-Some.open.now in let y = c.read.new.self in
    let after = (c.get_mut.follows.lender y).entries in let told = c.note_as-in-Ended.new.self.items in
    let found : Some x ≡ lookup (nat_eq s) old.open.entries = search rules in
    let set : IsSet s (Some (seen_of y)) (shown_stream old.open.entries) (shown_stream after) = search rules in
    let now = set_by old after s x y then_input_ended found
    c.in-Ended.ensures.arrives.0 set in (
      agree_input_ended old after s told (open_with old s x found) c.note_as-in-Ended.ensures now,
      tell_input_ended old after s told (open_with old s x found) c.requires.goes_on
          (sym (ap is_paused_stream (shown_with old s x found)) ∙ c.in-Ended.ensures.arrives.2)
          (sym (ap has_input_ended (shown_with old s x found)) ∙ c.in-Ended.ensures.arrives.1)
          c.note_as-in-Ended.ensures now,
    )

-- its peer has gone
gone : (c : After-note_as-in-Gone)
    → Agree c.args.self.now c.remove.new.self.entries c.args.session c.note_as-in-Gone.new.self.items
    × Tells (trace_of c.args.self.now) (event.Gone c.args.session)
    (trace_after c.args.self.now c.remove.new.self.entries c.args.session c.note_as-in-Gone.new.self.items)
gone c =
    let old = c.args.self.now in let s = c.args.session in let x = c.in-Some.open.now in
    let after = c.remove.new.self.entries in let told = c.note_as-in-Gone.new.self.items in
    let found : Some x ≡ lookup (nat_eq s) old.open.entries = search rules in
    let closed : IsSet s None (shown_stream old.open.entries) (shown_stream after) = search rules in (
      agree_gone old after s told (open_with old s x found) c.note_as-in-Gone.ensures closed,
      tell_gone old after s told (open_with old s x found) c.requires.goes_on c.note_as-in-Gone.ensures closed,
    )

-- in each case the streams stay of the exchange
named_fed : (c : After-note_as)
    → AreOfExchange c.args.self.now.exchange (shown_stream (c.get_mut.follows.lender c.read.new.self).entries)
named_fed c =
    let old = c.args.self.now in let s = c.args.session in let x = c.in-Some.open.now in let y = c.read.new.self in
    let after = (c.get_mut.follows.lender y).entries in
    let found : Some x ≡ lookup (nat_eq s) old.open.entries = search rules in
    let set : IsSet s (Some (seen_of y)) (shown_stream old.open.entries) (shown_stream after) = search rules in
    let of_exchange = ap (λ (z : Seen). z.exchange) c.in-Bytes.ensures.arrives.0
    ∙ old.named s (seen_of x) (sym (shown_with old s x found)) in
    named_set old.exchange (shown_stream old.open.entries) (shown_stream after) s (Some (seen_of y))
    (named_now old.exchange (seen_of y) of_exchange) set old.named

named_ended : (c : After-note_as-in-Ended)
    → AreOfExchange c.args.self.now.exchange (shown_stream (c.get_mut.follows.lender c.read.new.self).entries)
named_ended c =
    let old = c.args.self.now in let s = c.args.session in let x = c.in-Some.open.now in let y = c.read.new.self in
    let after = (c.get_mut.follows.lender y).entries in
    let found : Some x ≡ lookup (nat_eq s) old.open.entries = search rules in
    let set : IsSet s (Some (seen_of y)) (shown_stream old.open.entries) (shown_stream after) = search rules in
    let of_exchange = ap (λ (z : Seen). z.exchange) c.in-Ended.ensures.arrives.0
    ∙ old.named s (seen_of x) (sym (shown_with old s x found)) in
    named_set old.exchange (shown_stream old.open.entries) (shown_stream after) s (Some (seen_of y))
    (named_now old.exchange (seen_of y) of_exchange) set old.named

pub invariant_of-self-in-Bytes-clause-named : goal.invariant_of-self-in-Bytes-clause-named
invariant_of-self-in-Bytes-clause-named c = named_fed (goal.at.invariant_of-self-in-Bytes-clause-named c).After-note_as

pub invariant_of-self-in-Ended-clause-named : goal.invariant_of-self-in-Ended-clause-named
invariant_of-self-in-Ended-clause-named c =
    named_ended (goal.at.invariant_of-self-in-Ended-clause-named c).After-note_as-in-Ended

pub invariant_of-self-in-Gone-clause-named : goal.invariant_of-self-in-Gone-clause-named
invariant_of-self-in-Gone-clause-named c =
    let old = c.args.self.now in let s = c.args.session in let after = c.remove.new.self.entries in
    let closed : IsSet s None (shown_stream old.open.entries) (shown_stream after) = search rules in
    named_set old.exchange (shown_stream old.open.entries) (shown_stream after) s None (named_none old.exchange) closed old.named

pub invariant_of-self-in-Bytes-clause-ties : goal.invariant_of-self-in-Bytes-clause-ties
invariant_of-self-in-Bytes-clause-ties c = (fed (goal.at.invariant_of-self-in-Bytes-clause-ties c).After-note_as).0

pub invariant_of-self-in-Ended-clause-ties : goal.invariant_of-self-in-Ended-clause-ties
invariant_of-self-in-Ended-clause-ties c = (ended (goal.at.invariant_of-self-in-Ended-clause-ties c).After-note_as-in-Ended).0

pub invariant_of-self-in-Gone-clause-ties : goal.invariant_of-self-in-Gone-clause-ties
invariant_of-self-in-Gone-clause-ties c = (gone (goal.at.invariant_of-self-in-Gone-clause-ties c).After-note_as-in-Gone).0

pub returns-in-Bytes-clause-told : goal.returns-in-Bytes-clause-told
returns-in-Bytes-clause-told c = (fed (goal.at.returns-in-Bytes-clause-told c).After-note_as).1

pub returns-in-Ended-clause-told : goal.returns-in-Ended-clause-told
returns-in-Ended-clause-told c = (ended (goal.at.returns-in-Ended-clause-told c).After-note_as-in-Ended).1

pub returns-in-Gone-clause-told : goal.returns-in-Gone-clause-told
returns-in-Gone-clause-told c = (gone (goal.at.returns-in-Gone-clause-told c).After-note_as-in-Gone).1

-- what was read of the stream came of its session
pub read-requires-clause-asked : goal.read-requires-clause-asked
read-requires-clause-asked c = λ messages rest reads.
    let old = c.args.self.now in let s = c.args.session in let x = c.in-Some.open.now in
    let found : Some x ≡ lookup (nat_eq s) old.open.entries = search rules in
    let shown : Some (seen_of x) ≡ shown_stream old.open.entries s = shown_with old s x found in
    let came = (old.ties.1 s (ap is_some (sym shown))).0 in
    c.requires.asked.asked s messages rest
    (subst (λ (b : List ℕ). Reads old.owner.dialect b messages rest)
    (ap received_of shown ∙ sym came) reads)

pub read-requires-clause-whose : goal.read-requires-clause-whose
read-requires-clause-whose c =
    let old = c.args.self.now in let s = c.args.session in let x = c.in-Some.open.now in
    let found : Some x ≡ lookup (nat_eq s) old.open.entries = search rules in
    let shown : Some (seen_of x) ≡ shown_stream old.open.entries s = shown_with old s x found in (
      c.requires.asked.worker,
      c.requires.asked.exchange ∙ sym (old.named s (seen_of x) (sym shown)),
    )
