use Rattle.std.proofs.Common.{rules, Some, None, refl}
use Rattle.session_book.specs.Book.{IsOldest}
use Rattle.session_book.specs.BookInside.{state_of}
use Rattle.session_book.proofs.Books.{first_asked, placed, nothing_only, only_again, settles_book, settles_kept}
use Rattle.session_book.proofs.Books.{settles_reply, settles_starved}
use Rattle.session_book.proofs.book.Book.settle.Goals as goal

pub invariant_of-self : goal.invariant_of-self
invariant_of-self c =
    let oldest : IsOldest (state_of c.self.inside) c.args.answered = search rules in
    settles_book _ _ c.args.answered.session c.args.answered.number None c.self.invariant
    (nothing_only c.self.inside.sessions.entries c.args.answered.session None (c.find.ensures.none c.in_default.is))
    refl oldest c.pop_front.ensures.rest (λ t e. absurd cc) (λ t e. absurd cc)

pub settle-kept-requires : goal.settle-kept-requires
settle-kept-requires c =
    let oldest : IsOldest (state_of c.self.inside) c.args.answered = search rules in
    let e = c.pair_mut-open.ensures in let s = c.pair_mut-open.result.1.now in
    let p = placed c.self.inside.sessions c.in-Some.place c.args.answered.session _ s e.unique e.value c.in-Some.ensures.at in
    first_asked _ c.args.answered.session c.args.answered.number s c.self.invariant p.there oldest

pub invariant_of-self-in-Ok : goal.invariant_of-self-in-Ok
invariant_of-self-in-Ok c =
    let oldest : IsOldest (state_of c.self.inside) c.args.answered = search rules in
    let e = c.pair_mut-open.ensures in let s = c.pair_mut-open.result.1.now in
    let p = placed c.self.inside.sessions c.in-Some.place c.args.answered.session _ s e.unique e.value c.in-Some.ensures.at in
    let t = c.settle-kept.new.self in
    settles_kept _ _ c.args.answered.session c.args.answered.number s t c.args.answered.reply c.self.invariant p.there
    (p.only t) refl oldest c.pop_front.ensures.rest c.in-Ok.ensures.ok

pub returns-in-Ok : goal.returns-in-Ok
returns-in-Ok c =
    let oldest : IsOldest (state_of c.self.inside) c.args.answered = search rules in
    let e = c.pair_mut-open.ensures in let s = c.pair_mut-open.result.1.now in
    let p = placed c.self.inside.sessions c.in-Some.place c.args.answered.session _ s e.unique e.value c.in-Some.ensures.at in
    let t = c.settle-kept.new.self in
    settles_reply _ _ _ c.args.answered s t c.self.view_is c.self.invariant p.there (p.only t) oldest
    (rw c.pop_front.ensures.rest refl) c.in-Ok.ensures.ok

pub invariant_of-self-in-Err : goal.invariant_of-self-in-Err
invariant_of-self-in-Err c =
    let oldest : IsOldest (state_of c.self.inside) c.args.answered = search rules in
    let e = c.pair_mut-open.ensures in let s = c.pair_mut-open.result.1.now in
    let p = placed c.self.inside.sessions c.in-Some.place c.args.answered.session _ s e.unique e.value c.in-Some.ensures.at in
    let t = c.settle-kept.new.self in
    settles_book _ _ c.args.answered.session c.args.answered.number None c.self.invariant
    (only_again _ _ _ c.args.answered.session (Some t) None (p.only t) c.remove.ensures)
    refl oldest c.pop_front.ensures.rest (λ u f. absurd cc) (λ u f. absurd cc)

pub returns-in-Err : goal.returns-in-Err
returns-in-Err c =
    let oldest : IsOldest (state_of c.self.inside) c.args.answered = search rules in
    let e = c.pair_mut-open.ensures in let s = c.pair_mut-open.result.1.now in
    let p = placed c.self.inside.sessions c.in-Some.place c.args.answered.session _ s e.unique e.value c.in-Some.ensures.at in
    let t = c.settle-kept.new.self in
    settles_starved _ _ _ c.args.answered s c.self.view_is p.there
    (λ none. absurd (let failed = c.in-Err.ensures.silent none in cc))
    (only_again _ _ _ c.args.answered.session (Some t) None (p.only t) c.remove.ensures)
    oldest (rw c.pop_front.ensures.rest refl)
