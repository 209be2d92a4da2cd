use Rattle.std.proofs.Common.{refl}
use Rattle.session_book.proofs.Books.{placed, fed_again, stays_unsettled, same_queue, fed_queue}
use Rattle.session_book.proofs.book.Book.feed_held.Goals as goal

pub invariant_of-self-2 : goal.invariant_of-self-2
invariant_of-self-2 c =
    let e = c.pair_mut-open.ensures in let s = c.pair_mut-open.result.1.now in let t = c.feed_held.new.self in
    let p = placed c.self.inside.sessions c.in-Some.place c.args.session _ s e.unique e.value c.in-Some.ensures.at in
    stays_unsettled _ _ c.args.session s t c.self.invariant p.there (p.only t) refl refl
    (same_queue s t (fed_queue c.feed_held.result s t c.feed_held.ensures))

pub returns : goal.returns
returns c =
    let e = c.pair_mut-open.ensures in let s = c.pair_mut-open.result.1.now in let t = c.feed_held.new.self in
    let p = placed c.self.inside.sessions c.in-Some.place c.args.session _ s e.unique e.value c.in-Some.ensures.at in
    fed_again c.feed_held.result _ _ c.args.self.now c.self.view_is c.args.session s t t p.there (p.only t) refl
    c.feed_held.ensures refl (p.back t)
