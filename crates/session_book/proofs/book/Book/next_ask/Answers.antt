use Rattle.std.proofs.Common.{◌≡◌, ◌+◌, ◌<◌, ◌++◌, ◌∷◌, [], List, length, Ok, Err, None, Option, refl, ap, sym, subst, ◌∙◌, arith}
use Rattle.std.proofs.lemmas.Bool.{OnTrue_at, OnFalse_at}
use Rattle.std.proofs.lemmas.Result.{err_from_is_err_and}
use Rattle.proto.specs.declared.limits.TheConstants.{WINDOW}
use Rattle.proto.specs.declared.message.Request.{Request}
use Rattle.session_book.specs.declared.causes.Unasked.{Unasked}
use Rattle.session_book.specs.declared.causes.Unsettled.{Unsettled}
use Rattle.session_book.specs.Session.{given_request}
use Rattle.session_book.specs.Book.{BookState, IsBook, GivesNone, given_in, full, spent}
use Rattle.session_book.proofs.Books.{idle_ask, placed, stays_unsettled, fits_unasked, asks_book}
use Rattle.session_book.proofs.Asking.{reads_to, asks_none, asks_given}
use Rattle.session_book.proofs.book.Book.next_ask.Goals.{then-is_full-via-then-is_full}
use Rattle.session_book.proofs.book.Book.next_ask.Goals.{then-is_full-via-else-is_full+then-self-ge-MAX_POSTS}
use Rattle.session_book.proofs.book.Book.next_ask.Goals as goal

pub returns-then-is_full-clause-open : goal.returns-then-is_full-clause-open
returns-then-is_full-clause-open c =
    λ s open_now.
    idle_ask c.args.self.now c.args.session s
    (Ok None) c.args.self.now refl refl (subst (λ (b : BookState). IsBook b) c.self.view_is c.self.invariant) open_now
    (λ e. elim c.then-is_full.branch [
      | then-is_full-via-then-is_full w ↦ full (OnTrue_at w.if-is_full.true c.is_full.ensures.full)
      | then-is_full-via-else-is_full+then-self-ge-MAX_POSTS w ↦
          subst (λ (b : BookState). GivesNone b s) c.self.view_is
          (spent (omega (arith, w.if-self-ge-MAX_POSTS.true)))
    ]) (λ f e. absurd cc)

pub invariant_of-self-in_err-request : goal.invariant_of-self-in_err-request
invariant_of-self-in_err-request c =
    let e = c.pair_mut-open.ensures in let s = c.pair_mut-open.result.1.now in let t = c.join_queues.new.self in
    let p = placed c.self.inside.sessions c.in-Some.place c.args.session _ s e.unique e.value c.in-Some.ensures.at in
    stays_unsettled _ _ c.args.session s t c.self.invariant p.there (p.only t) refl c.next_ask-read.ensures.kept
    (λ asked. fits_unasked s t c.self.inside.looks c.next_ask-read.new.looks c.next_ask-read.result
    (reads_to _ _ _ _ _ _ c.join_queues.ensures c.next_ask-read.ensures.reads) (ap given_request (c.in_err-request.was)))

pub returns-in_err-request-clause-open : goal.returns-in_err-request-clause-open
returns-in_err-request-clause-open c =
    let failed = err_from_is_err_and c.from_residual.result c.from_residual.ensures.1 in
    let e = c.pair_mut-open.ensures in let s = c.pair_mut-open.result.1.now in let t = c.join_queues.new.self in
    let p = placed c.self.inside.sessions c.in-Some.place c.args.session _ s e.unique e.value c.in-Some.ensures.at in
    λ x at.
    asks_none _ _ c.args.self.now c.args.session s t x c.next_ask-read.result c.from_residual.result c.self.view_is
    (record { was_open = p.there; only = p.only t; reads = reads_to _ _ _ _ _ _ c.join_queues.ensures c.next_ask-read.ensures.reads })
    (ap given_request c.in_err-request.was) (ap given_in failed.1) (λ e. absurd (let f = failed.1 in cc))
    (λ f e. let same : Err failed.0 ≡ Err f = sym failed.1 ∙ e in let is : failed.0 ≡ f = cc in
    c.in_err-request.was ∙ ap (λ (x : Unasked). Err x) (sym failed.2 ∙ is)) (rw c.next_ask-read.ensures.kept refl) at

pub invariant_of-self-in_default-2 : goal.invariant_of-self-in_default-2
invariant_of-self-in_default-2 c =
    let e = c.pair_mut-open.ensures in let s = c.pair_mut-open.result.1.now in let t = c.join_queues.new.self in
    let p = placed c.self.inside.sessions c.in-Some.place c.args.session _ s e.unique e.value c.in-Some.ensures.at in
    stays_unsettled _ _ c.args.session s t c.self.invariant p.there (p.only t) refl c.next_ask-read.ensures.kept
    (λ asked. fits_unasked s t c.self.inside.looks c.next_ask-read.new.looks c.next_ask-read.result
    (reads_to _ _ _ _ _ _ c.join_queues.ensures c.next_ask-read.ensures.reads)
    (ap given_request (c.in_ok-request.was ∙ ap (λ (o : Option Request). Ok o) c.in_default-2.is)))

pub returns-in_default-2-clause-open : goal.returns-in_default-2-clause-open
returns-in_default-2-clause-open c =
    let none = c.in_ok-request.was ∙ ap (λ (o : Option Request). Ok o) c.in_default-2.is in
    let e = c.pair_mut-open.ensures in let s = c.pair_mut-open.result.1.now in let t = c.join_queues.new.self in
    let p = placed c.self.inside.sessions c.in-Some.place c.args.session _ s e.unique e.value c.in-Some.ensures.at in
    λ x at.
    asks_none _ _ c.args.self.now c.args.session s t x c.next_ask-read.result (Ok None) c.self.view_is
    (record { was_open = p.there; only = p.only t; reads = reads_to _ _ _ _ _ _ c.join_queues.ensures c.next_ask-read.ensures.reads })
    (ap given_request none) refl (λ e. none) (λ f e. absurd cc) (rw c.next_ask-read.ensures.kept refl) at

pub invariant_of-self-2 : goal.invariant_of-self-2
invariant_of-self-2 c =
    let given : Unsettled = record { number = c.self.inside.numbered + 1; session = c.args.session } in
    let e = c.pair_mut-open.ensures in let s = c.pair_mut-open.result.1.now in let t = c.join_queues.new.self in
    let p = placed c.self.inside.sessions c.in-Some.place c.args.session _ s e.unique e.value c.in-Some.ensures.at in
    asks_book _ _ c.args.session (c.self.inside.numbered + 1) s t c.in-Some-2.request c.next_ask-read.result
    c.self.inside.looks c.next_ask-read.new.looks c.self.invariant p.there (p.only t) refl
    (c.push_back_reserved.ensures.items ∙ ap (λ (us : List Unsettled). us ++ given ∷ []) c.next_ask-read.ensures.kept)
    (c.in_ok-request.was ∙ ap (λ (o : Option Request). Ok o) c.in-Some-2.is) (reads_to _ _ _ _ _ _ c.join_queues.ensures c.next_ask-read.ensures.reads)

pub push_back_reserved-requires : goal.push_back_reserved-requires
push_back_reserved-requires c =
    c.next_ask-read.ensures.room c.in-Some-2.request (c.in_ok-request.was ∙ ap (λ (o : Option Request). Ok o) c.in-Some-2.is)

pub returns-clause-open : goal.returns-clause-open
returns-clause-open c =
    let given : Unsettled = record { number = c.self.inside.numbered + 1; session = c.args.session } in
    let unsettled : c.push_back_reserved.new.self.items ≡ c.self.inside.unsettled.items ++ given ∷ [] =
    c.push_back_reserved.ensures.items ∙ ap (λ (us : List Unsettled). us ++ given ∷ []) c.next_ask-read.ensures.kept in
    let e = c.pair_mut-open.ensures in let s = c.pair_mut-open.result.1.now in let t = c.join_queues.new.self in
    let p = placed c.self.inside.sessions c.in-Some.place c.args.session _ s e.unique e.value c.in-Some.ensures.at in
    λ x at.
    rw c.asked.ensures
    (asks_given _ _ c.args.self.now c.args.session s t x c.in-Some-2.request c.next_ask-read.result c.self.view_is
    (record { was_open = p.there; only = p.only t; reads = reads_to _ _ _ _ _ _ c.join_queues.ensures c.next_ask-read.ensures.reads })
    (c.in_ok-request.was ∙ ap (λ (o : Option Request). Ok o) c.in-Some-2.is)
    (subst (λ (b : BookState). length b.unsettled < WINDOW) (sym c.self.view_is)
    (OnFalse_at c.if-is_full.false c.is_full.ensures.room)) (omega (arith, c.if-self-ge-MAX_POSTS.false))
    (rw unsettled refl) at)
