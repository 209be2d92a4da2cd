use Rattle.std.proofs.Common.{rules, ◌≡◌, ℕ, ◌==◌, false, cond, ne_eqb, [], ◌∷◌, ◌++◌, take, append-nil, sym, ap, ◌∙◌, subst, arith}
use Rattle.std.specs.Prelude.{Some, None, Ok}
use Rattle.std.specs.Option.{option_map}
use Rattle.std.specs.Map.{lookup}
use Rattle.std.specs.Bool.{nat_eq}
use Rattle.worker_port.specs.declared.events.PortRecord.TheVariants as was
use Rattle.worker_port.specs.Ports.{then_gave}
use Rattle.net.specs.Shown.{shown_stream, seen_of}
use Rattle.net.specs.Seen.{Seen, IsSet, then_sent}
use Rattle.net.specs.Traces.{whose_of, trace, trace_of}
use Rattle.net.proofs.SocketLemmas.{named_set, named_now, named_none}
use Rattle.net.proofs.StreamLemmas.{set_by, shown_with, agree_given, agree_gone}
use Rattle.net.proofs.TraceLemmas.{sent_no_bytes, gave_by, gave_lost, tells_given}
use Rattle.net.proofs.streams.Streams.write.Goals as goal

pub invariant_of-self-then-count-gt0-clause-ties : goal.invariant_of-self-then-count-gt0-clause-ties
invariant_of-self-then-count-gt0-clause-ties c =
    let old = c.args.self.now in let s = c.args.session in let x = c.in-Some.open.now in let y = c.write-answer.new.self in
    let after = (c.get_mut.follows.lender y).entries in let taken = take c.in-Ok.count c.args.bytes.now in
    let found : Some x ≡ lookup (nat_eq s) old.open.entries = search rules in
    let set : IsSet s (Some (seen_of y)) (shown_stream old.open.entries) (shown_stream after) = search rules in
    agree_given old after s c.note_as.new.self.items c.requires.«open» taken c.note_as.ensures
    (set_by old after s x y (then_sent taken) found c.in-Ok.ensures.sends set)

pub invariant_of-self-in-Err-clause-ties : goal.invariant_of-self-in-Err-clause-ties
invariant_of-self-in-Err-clause-ties c =
    let old = c.args.self.now in let s = c.args.session in let after = c.remove.new.self.entries in
    let closed : IsSet s None (shown_stream old.open.entries) (shown_stream after) = search rules in
    agree_gone old after s c.note_as-in-Err.new.self.items c.requires.«open» c.note_as-in-Err.ensures closed

-- a stream that took bytes stays of its exchange
pub invariant_of-self-then-count-gt0-clause-named : goal.invariant_of-self-then-count-gt0-clause-named
invariant_of-self-then-count-gt0-clause-named c =
    let old = c.args.self.now in let s = c.args.session in let x = c.in-Some.open.now in let y = c.write-answer.new.self in
    let after = (c.get_mut.follows.lender y).entries in
    let found : Some x ≡ lookup (nat_eq s) old.open.entries = search rules in
    let set : IsSet s (Some (seen_of y)) (shown_stream old.open.entries) (shown_stream after) = search rules in
    let of_exchange = ap (λ (z : Seen). z.exchange) c.in-Ok.ensures.sends
    ∙ old.named s (seen_of x) (sym (shown_with old s x found)) in
    named_set old.exchange (shown_stream old.open.entries) (shown_stream after) s (Some (seen_of y))
    (named_now old.exchange (seen_of y) of_exchange) set old.named

pub invariant_of-self-in-Err-clause-named : goal.invariant_of-self-in-Err-clause-named
invariant_of-self-in-Err-clause-named c =
    let old = c.args.self.now in let s = c.args.session in let after = c.remove.new.self.entries in
    let closed : IsSet s None (shown_stream old.open.entries) (shown_stream after) = search rules in
    named_set old.exchange (shown_stream old.open.entries) (shown_stream after) s None (named_none old.exchange) closed old.named

pub returns-in-Ok-clause-told : goal.returns-in-Ok-clause-told
returns-in-Ok-clause-told c =
    let old = c.args.self.now in let s = c.args.session in let x = c.in-Some.open.now in let y = c.write-answer.new.self in
    let after = (c.get_mut.follows.lender y).entries in let taken = take c.in-Ok.count c.args.bytes.now in
    let w = whose_of old in let l = old.told.items in
    let found : Some x ≡ lookup (nat_eq s) old.open.entries = search rules in
    let set : IsSet s (Some (seen_of y)) (shown_stream old.open.entries) (shown_stream after) = search rules in
    let sends = set_by old after s x y (then_sent taken) found c.in-Ok.ensures.sends set in
    let some : (c.in-Ok.count == 0) ≡ false = ne_eqb c.in-Ok.count 0 (λ e. omega (arith, c.if-count-gt0.true)) in
    (λ i. trace (record w { history = c.args.history.items }) (shown_stream after) (c.note_as.ensures i))
    ∙ gave_by w (shown_stream old.open.entries) (shown_stream after) l s (was.Accepted s taken ∷ []) c.args.history.items
    (tells_given w (shown_stream old.open.entries) (shown_stream after) l s taken sends)
    ∙ (λ i. record (trace_of old) {
      events = l ++ cond (sym some i) [] (was.Accepted s taken ∷ []);
      history = c.args.history.items;
    })

pub returns-else-count-gt0-clause-told : goal.returns-else-count-gt0-clause-told
returns-else-count-gt0-clause-told c =
    let old = c.args.self.now in let s = c.args.session in let x = c.in-Some.open.now in let y = c.write-answer.new.self in
    let after = (c.get_mut.follows.lender y).entries in let bytes = c.args.bytes.now in
    let w = whose_of old in let l = old.told.items in
    let zero : c.in-Ok.count ≡ 0 = omega (arith, c.if-count-gt0.false) in
    let found : Some x ≡ lookup (nat_eq s) old.open.entries = search rules in
    let set : IsSet s (Some (seen_of y)) (shown_stream old.open.entries) (shown_stream after) = search rules in
    let sends = set_by old after s x y (then_sent (take c.in-Ok.count bytes)) found c.in-Ok.ensures.sends set in
    let sends_none = subst (λ (n : ℕ). IsSet s (option_map (then_sent (take n bytes)) (shown_stream old.open.entries s))
    (shown_stream old.open.entries) (shown_stream after))
    zero sends in
    (λ i. trace (record w { history = c.args.history.items })
    (λ o. sent_no_bytes w (shown_stream old.open.entries) (shown_stream after) l s sends_none o i) l)
    ∙ (λ i. record (trace_of old) { events = sym (append-nil l) i; history = c.args.history.items })
    ∙ ap (λ (n : ℕ). then_gave s bytes (Ok n) c.args.history.items (trace_of old)) (sym zero)

pub returns-in-Err-clause-told : goal.returns-in-Err-clause-told
returns-in-Err-clause-told c =
    let old = c.args.self.now in let s = c.args.session in let after = c.remove.new.self.entries in let w = whose_of old in
    let closed : IsSet s None (shown_stream old.open.entries) (shown_stream after) = search rules in
    (λ i. trace (record w { history = c.args.history.items }) (shown_stream after) (c.note_as-in-Err.ensures i))
    ∙ gave_lost w (shown_stream old.open.entries) (shown_stream after) old.told.items s c.args.history.items closed
    ∙ (λ i. then_gave s c.args.bytes.now (sym c.in-Err.is i) c.args.history.items (trace_of old))
