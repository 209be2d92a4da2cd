use Rattle.std.proofs.Common.{refl, sym, ap, ◌∙◌}
use Rattle.std.specs.Bool.{nat_eq}
use Rattle.std.specs.Map.{lookup}
use Rattle.std.proofs.lemmas.Bool.{OnTrue_at}
use Rattle.session_book.specs.Session.{SessionState}
use Rattle.session_book.specs.Book.{BookState}
use Rattle.session_book.proofs.Books.{placed, unchanged, stays_unsettled, same_queue}
use Rattle.session_book.proofs.book.Book.next_to_resume.Goals as goal

pub invariant_of-self-2 : goal.invariant_of-self-2
invariant_of-self-2 c =
    let e = c.pair_mut-open.ensures in let s = c.pair_mut-open.result.1.now in let t = c.read_on.new.self in
    let p = placed c.self.inside.sessions c.in-Some.place c.in_ok-session.session _ s e.unique e.value c.in-Some.ensures.at in
    stays_unsettled _ _ c.in_ok-session.session s t c.self.invariant p.there (p.only t) refl refl
    (same_queue s t (ap (λ (x : SessionState). x.queue) c.read_on.ensures.same))

pub returns-clause-same : goal.returns-clause-same
returns-clause-same c =
    let e = c.pair_mut-open.ensures in let s = c.pair_mut-open.result.1.now in let t = c.read_on.new.self in
    let p = placed c.self.inside.sessions c.in-Some.place c.in_ok-session.session _ s e.unique e.value c.in-Some.ensures.at in
    unchanged _ _ c.args.self.now c.self.view_is refl (p.back t c.read_on.ensures.same)

pub returns-clause-open : goal.returns-clause-open
returns-clause-open c =
    let e = c.pair_mut-open.ensures in let s = c.pair_mut-open.result.1.now in
    let p = placed c.self.inside.sessions c.in-Some.place c.in_ok-session.session _ s e.unique e.value c.in-Some.ensures.at in
    record {
      s = s;
      there = sym (ap (λ (b : BookState). lookup (nat_eq c.in_ok-session.session) b.sessions) c.self.view_is) ∙ p.there;
      none_held = OnTrue_at c.if-not-read_on.false c.read_on.ensures.none_held;
    }

pub invariant_of-self-then-not-read_on : goal.invariant_of-self-then-not-read_on
invariant_of-self-then-not-read_on c =
    let e = c.pair_mut-open.ensures in let s = c.pair_mut-open.result.1.now in let t = c.read_on.new.self in
    let p = placed c.self.inside.sessions c.in-Some.place c.in_ok-session.session _ s e.unique e.value c.in-Some.ensures.at in
    stays_unsettled _ _ c.in_ok-session.session s t c.self.invariant p.there (p.only t) refl refl
    (same_queue s t (ap (λ (x : SessionState). x.queue) c.read_on.ensures.same))

pub returns-then-not-read_on-clause-same : goal.returns-then-not-read_on-clause-same
returns-then-not-read_on-clause-same c =
    let e = c.pair_mut-open.ensures in let s = c.pair_mut-open.result.1.now in let t = c.read_on.new.self in
    let p = placed c.self.inside.sessions c.in-Some.place c.in_ok-session.session _ s e.unique e.value c.in-Some.ensures.at in
    unchanged _ _ c.args.self.now c.self.view_is refl (p.back t c.read_on.ensures.same)
