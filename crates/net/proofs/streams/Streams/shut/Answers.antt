use Rattle.std.proofs.Common.{◌∙◌}
use Rattle.std.specs.Prelude.{None}
use Rattle.net.specs.Shown.{shown_stream}
use Rattle.net.specs.Seen.{IsSet}
use Rattle.net.specs.Traces.{whose_of, trace}
use Rattle.net.proofs.SocketLemmas.{named_set, named_none}
use Rattle.net.proofs.StreamLemmas.{set_shown, agree_shut}
use Rattle.net.proofs.TraceLemmas.{tells_shut}
use Rattle.net.proofs.streams.Streams.shut.Goals as goal

pub invariant_of-self-clause-ties : goal.invariant_of-self-clause-ties
invariant_of-self-clause-ties g c =
    let old = c.args.self.now in let after = c.remove-removed.new.self.entries in let s = c.args.session in
    let closed : IsSet s None (shown_stream old.open.entries) (shown_stream after) =
    set_shown old.open.entries after s None c.remove-removed.ensures.updates.0 in
    agree_shut old after s c.note_as.new.self.items c.requires c.note_as.ensures closed

pub invariant_of-self-clause-named : goal.invariant_of-self-clause-named
invariant_of-self-clause-named g c =
    let old = c.args.self.now in let after = c.remove-removed.new.self.entries in let s = c.args.session in
    let closed : IsSet s None (shown_stream old.open.entries) (shown_stream after) =
    set_shown old.open.entries after s None c.remove-removed.ensures.updates.0 in
    named_set old.exchange (shown_stream old.open.entries) (shown_stream after) s None (named_none old.exchange) closed old.named

pub returns-clause-told : goal.returns-clause-told
returns-clause-told g c =
    let old = c.args.self.now in let after = c.remove-removed.new.self.entries in let s = c.args.session in
    let closed : IsSet s None (shown_stream old.open.entries) (shown_stream after) =
    set_shown old.open.entries after s None c.remove-removed.ensures.updates.0 in
    (λ i. trace (whose_of old) (shown_stream after) (c.note_as.ensures i))
    ∙ tells_shut (whose_of old) (shown_stream old.open.entries) (shown_stream after) old.told.items s closed
