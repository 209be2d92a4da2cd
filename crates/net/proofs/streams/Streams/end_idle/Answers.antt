use Rattle.std.proofs.Common.{rules, ◌≡◌}
use Rattle.std.specs.Prelude.{None, Some}
use Rattle.std.specs.Map.{lookup}
use Rattle.std.specs.Bool.{nat_eq}
use Rattle.net.specs.Shown.{shown_stream}
use Rattle.net.specs.Seen.{IsSet}
use Rattle.net.proofs.SocketLemmas.{named_set, named_none}
use Rattle.net.proofs.StreamLemmas.{set_shown, open_with, agree_gone, tell_gone}
use Rattle.net.proofs.streams.Streams.end_idle.Goals as goal

pub invariant_of-self-2-clause-ties : goal.invariant_of-self-2-clause-ties
invariant_of-self-2-clause-ties c =
    let old = c.args.self.now in let after = c.remove.new.self.entries in let s = c.in_ok-session.session in
    let found : Some c.in_ok-ended.ended ≡ lookup (nat_eq s) old.open.entries = search rules in
    let closed : IsSet s None (shown_stream old.open.entries) (shown_stream after) =
    set_shown old.open.entries after s None c.remove.ensures.updates.0 in
    agree_gone old after s c.note_as.new.self.items (open_with old s c.in_ok-ended.ended found) c.note_as.ensures closed

pub invariant_of-self-2-clause-named : goal.invariant_of-self-2-clause-named
invariant_of-self-2-clause-named c =
    let old = c.args.self.now in let after = c.remove.new.self.entries in let s = c.in_ok-session.session in
    let closed : IsSet s None (shown_stream old.open.entries) (shown_stream after) =
    set_shown old.open.entries after s None c.remove.ensures.updates.0 in
    named_set old.exchange (shown_stream old.open.entries) (shown_stream after) s None (named_none old.exchange) closed old.named

pub returns-clause-told : goal.returns-clause-told
returns-clause-told c =
    let old = c.args.self.now in let after = c.remove.new.self.entries in let s = c.in_ok-session.session in
    let found : Some c.in_ok-ended.ended ≡ lookup (nat_eq s) old.open.entries = search rules in
    let closed : IsSet s None (shown_stream old.open.entries) (shown_stream after) =
    set_shown old.open.entries after s None c.remove.ensures.updates.0 in
    tell_gone old after s c.note_as.new.self.items (open_with old s c.in_ok-ended.ended found) c.requires c.note_as.ensures closed
