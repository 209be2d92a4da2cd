use Rattle.std.proofs.Common.{rules, ◌≡◌, ◌+◌, ◌∷◌, [], ◌++◌, List, sym, ap, subst}
use Rattle.std.specs.Prelude.{Some, ℤ}
use Rattle.net.specs.Shown.{shown_stream, seen_of}
use Rattle.net.specs.Seen.{Seen, IsSet, fresh}
use Rattle.net.specs.Ties.{SocketTies}
use Rattle.net.specs.Sockets.{socket_of}
use Rattle.net.proofs.StreamLemmas.{agree_opened, tell_opened}
use Rattle.net.proofs.SocketLemmas.{kept_opened, named_set, named_now}
use Rattle.net.proofs.streams.Streams.open.Goals as goal

pub invariant_of-self-2-clause-ties : goal.invariant_of-self-2-clause-ties
invariant_of-self-2-clause-ties c =
    let old = c.args.self.now in let after = c.insert.new.self.entries in let s = c.in_ok-session.session in
    let socket = socket_of c.args.stream in
    let number : s ≡ old.last + 1 = search rules in
    let e = old.exchange in
    let new : seen_of c.new-open.result ≡ fresh socket e = c.new-open.ensures socket e c.in_ok-stream.ensures in
    let added : IsSet s (Some (seen_of c.new-open.result)) (shown_stream old.open.entries) (shown_stream after) =
    search rules in
    let opened = subst (λ (x : Seen). IsSet s (Some x) (shown_stream old.open.entries)
    (shown_stream after)) new added in
    agree_opened old after s c.note_as-2.new.self.items socket e number c.note_as-2.ensures opened

pub invariant_of-self-2-clause-kept : goal.invariant_of-self-2-clause-kept
invariant_of-self-2-clause-kept c =
    let old = c.args.self.now in let after = c.insert.new.self.entries in let s = c.in_ok-session.session in
    let socket = socket_of c.args.stream in
    let number : s ≡ old.last + 1 = search rules in
    let e = old.exchange in
    let new : seen_of c.new-open.result ≡ fresh socket e = c.new-open.ensures socket e c.in_ok-stream.ensures in
    let added : IsSet s (Some (seen_of c.new-open.result)) (shown_stream old.open.entries) (shown_stream after) =
    search rules in
    let opened = subst (λ (x : Seen). IsSet s (Some x) (shown_stream old.open.entries)
    (shown_stream after)) new added in
    let sockets : c.note_as.new.self.items ≡ old.sockets.items ++ socket ∷ [] = search rules in
    subst (λ (l : List ℤ). SocketTies (shown_stream after) s l) (sym sockets)
    (kept_opened (shown_stream old.open.entries)
    (shown_stream after) old.last old.sockets.items s old.kept socket e number opened)

pub invariant_of-self-2-clause-named : goal.invariant_of-self-2-clause-named
invariant_of-self-2-clause-named c =
    let old = c.args.self.now in let after = c.insert.new.self.entries in let s = c.in_ok-session.session in
    let socket = socket_of c.args.stream in
    let e = old.exchange in
    let new : seen_of c.new-open.result ≡ fresh socket e = c.new-open.ensures socket e c.in_ok-stream.ensures in
    let added : IsSet s (Some (seen_of c.new-open.result)) (shown_stream old.open.entries) (shown_stream after) =
    search rules in
    let of_exchange = ap (λ (x : Seen). x.exchange) new in
    named_set e (shown_stream old.open.entries) (shown_stream after) s (Some (seen_of c.new-open.result))
    (named_now e (seen_of c.new-open.result) of_exchange) added old.named

pub returns-clause-told : goal.returns-clause-told
returns-clause-told c =
    let old = c.args.self.now in let after = c.insert.new.self.entries in let s = c.in_ok-session.session in
    let socket = socket_of c.args.stream in
    let number : s ≡ old.last + 1 = search rules in
    let e = old.exchange in
    let new : seen_of c.new-open.result ≡ fresh socket e = c.new-open.ensures socket e c.in_ok-stream.ensures in
    let added : IsSet s (Some (seen_of c.new-open.result)) (shown_stream old.open.entries) (shown_stream after) =
    search rules in
    let opened = subst (λ (x : Seen). IsSet s (Some x) (shown_stream old.open.entries)
    (shown_stream after)) new added in
    tell_opened old after s c.note_as-2.new.self.items socket e number c.note_as-2.ensures opened c.requires
