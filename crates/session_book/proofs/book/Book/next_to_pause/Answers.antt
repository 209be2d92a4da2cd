use Rattle.std.proofs.Common.{refl, ap}
use Rattle.session_book.specs.Session.{SessionState}
use Rattle.session_book.proofs.Books.{placed, unchanged, stays_unsettled, same_queue}
use Rattle.session_book.proofs.book.Book.next_to_pause.Goals as goal

pub invariant_of-self-2 : goal.invariant_of-self-2
invariant_of-self-2 c =
    let e = c.pair_mut-open.ensures in let s = c.pair_mut-open.result.1.now in let t = c.wait_to_read.new.self in
    let p = placed c.self.inside.sessions c.in_ok-place.place c.in_ok-session.session _ s e.unique e.value c.in_ok-place.ensures.at in
    stays_unsettled _ _ c.in_ok-session.session s t c.self.invariant p.there (p.only t) refl refl
    (same_queue s t (ap (λ (x : SessionState). x.queue) c.wait_to_read.ensures))

pub returns-clause-same : goal.returns-clause-same
returns-clause-same c =
    let e = c.pair_mut-open.ensures in let s = c.pair_mut-open.result.1.now in let t = c.wait_to_read.new.self in
    let p = placed c.self.inside.sessions c.in_ok-place.place c.in_ok-session.session _ s e.unique e.value c.in_ok-place.ensures.at in
    unchanged _ _ c.args.self.now c.self.view_is refl (p.back t c.wait_to_read.ensures)
