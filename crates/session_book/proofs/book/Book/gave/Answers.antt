use Rattle.std.proofs.Common.{◌≤◌, length, Option, refl, sym, ap, subst, ◌∙◌}
use Rattle.std.specs.Option.{option_and_then}
use Rattle.session_book.specs.Session.{SessionState, gave, finished_by, HasReadAll}
use Rattle.session_book.specs.Book.{BookState, session_of, out_of}
use Rattle.session_book.proofs.Books.{placed, changes_by, stays_unsettled, same_queue}
use Rattle.session_book.proofs.book.Book.gave.Goals as goal

pub gave-requires : goal.gave-requires
gave-requires c =
    let e = c.pair_mut-open.ensures in
    let p = placed c.self.inside.sessions c.in_ok-place.place c.args.session _ _ e.unique e.value c.in_ok-place.ensures.at in
    subst (λ (o : Option SessionState). c.args.n ≤ length (out_of o))
    (sym (ap (λ (b : BookState). session_of b c.args.session) c.self.view_is) ∙ p.there) c.requires

pub invariant_of-self-2 : goal.invariant_of-self-2
invariant_of-self-2 c =
    let e = c.pair_mut-open.ensures in let s = c.pair_mut-open.result.1.now in let t = c.gave.new.self in
    let p = placed c.self.inside.sessions c.in_ok-place.place c.args.session _ s e.unique e.value c.in_ok-place.ensures.at in
    stays_unsettled _ _ c.args.session s t c.self.invariant p.there (p.only t) refl refl
    (same_queue s t (ap (λ (x : SessionState). x.queue) c.gave.ensures.gave))

pub returns-clause-gave : goal.returns-clause-gave
returns-clause-gave c =
    let e = c.pair_mut-open.ensures in let s = c.pair_mut-open.result.1.now in let t = c.gave.new.self in
    let p = placed c.self.inside.sessions c.in_ok-place.place c.args.session _ s e.unique e.value c.in_ok-place.ensures.at in
    changes_by _ _ c.args.self.now c.self.view_is c.args.session (λ (x : SessionState). gave x c.args.n) s t p.there (p.only t)
    refl c.gave.ensures.gave

pub returns-clause-finished : goal.returns-clause-finished
returns-clause-finished c =
    let e = c.pair_mut-open.ensures in let s = c.pair_mut-open.result.1.now in let t = c.gave.new.self in
    let p = placed c.self.inside.sessions c.in_ok-place.place c.args.session _ s e.unique e.value c.in_ok-place.ensures.at in
    c.gave.ensures.finished ∙ ap (option_and_then finished_by) (sym (p.now t))

pub returns-clause-read : goal.returns-clause-read
returns-clause-read c =
    let e = c.pair_mut-open.ensures in let s = c.pair_mut-open.result.1.now in let t = c.gave.new.self in
    let p = placed c.self.inside.sessions c.in_ok-place.place c.args.session _ s e.unique e.value c.in_ok-place.ensures.at in
    subst (λ (o : Option SessionState). HasReadAll o c.gave.result) (sym (p.now t)) c.gave.ensures.read
