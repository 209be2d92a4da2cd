use Rattle.std.proofs.Common.{refl}
use Rattle.session_book.proofs.Books.{placed, received, stays_unsettled, same_queue, taken_queue}
use Rattle.session_book.proofs.book.Book.receive.Goals as goal

pub invariant_of-self-2 : goal.invariant_of-self-2
invariant_of-self-2 c =
    let e = c.pair_mut-open.ensures in let s = c.pair_mut-open.result.1.now in let t = c.receive.new.self in
    let p = placed c.self.inside.sessions c.in-Some.place c.args.session _ s e.unique e.value c.in-Some.ensures.at in
    stays_unsettled _ _ c.args.session s t c.self.invariant p.there (p.only t) refl refl
    (same_queue s t (taken_queue c.receive.result s t c.args.piece c.receive.ensures))

pub returns : goal.returns
returns c =
    let e = c.pair_mut-open.ensures in let s = c.pair_mut-open.result.1.now in let t = c.receive.new.self in
    let p = placed c.self.inside.sessions c.in-Some.place c.args.session _ s e.unique e.value c.in-Some.ensures.at in
    received c.receive.result _ _ c.args.self.now c.self.view_is c.args.session c.args.piece s t t p.there (p.only t) refl
    c.receive.ensures refl (p.back t)
