-- What a book says once a session was asked.
use Rattle.std.proofs.Common.{◌≡◌, ℕ, ◌+◌, ◌<◌, List, [], ◌∷◌, ◌++◌, length, map, Option}
use Rattle.std.proofs.Common.{Some, None, Result, Ok, Err, refl, sym, ap, subst, ◌∙◌, arith, add-zero, length-append}
use Rattle.std.proofs.lemmas.List.{append-nil}
use Rattle.proto.specs.declared.message.Request.{Request}
use Rattle.session_book.specs.declared.causes.Unasked.{Unasked}
use Rattle.session_book.specs.declared.causes.Unsettled.{Unsettled}
use Rattle.proto.specs.declared.limits.TheConstants.{WINDOW}
use Rattle.proto.specs.declared.limits.TheConstants.{MAX_POSTS}
use Rattle.session_book.specs.Session.{SessionState, ReadsUpTo, ReadsAsk, given_request}
use Rattle.session_book.specs.Book.{BookState, session_of, OnlyAt, NextAsk, given_in, stops}

-- a session that was read from s to t: it is open, and the only one that has changed
pub record Asked (before after : BookState) (session : ℕ) (r : Result (Option Request) Unasked) (t : SessionState)
    (s : SessionState) : Type 0 where
  pub was_open : session_of before session ≡ Some s
  pub only : OnlyAt before after session (Some t)
  pub reads : ReadsAsk s before.looks r t after.looks

-- it is the one that is open in the book that this is
same_session : (before after now : BookState) (session : ℕ) (r : Result (Option Request) Unasked) (s t x : SessionState)
    → before ≡ now → Asked before after session r t s → session_of now session ≡ Some x → Asked before after session r t x
same_session before after now session r s t x same h at =
    let found : Some s ≡ Some x = sym h.was_open ∙ ap (λ (b : BookState). session_of b session) same ∙ at in
    let s_is : s ≡ x = cc in
    subst (λ (y : SessionState). Asked before after session r t y) s_is h

-- a session that is what another one is was read as that one
pub reads_to : (s t u : SessionState) (looks looks_after : ℕ) (r : Result (Option Request) Unasked) → u ≡ t
    → ReadsAsk s looks r t looks_after → ReadsAsk s looks r u looks_after
reads_to s t u looks looks_after r same h = subst (λ (x : SessionState). ReadsAsk s looks r x looks_after) (sym same) h

-- an open session gives no request
pub asks_none : (before after now : BookState) (session : ℕ) (s t x : SessionState) (r : Result (Option Request) Unasked)
    (result : Result (Option (Request × ℕ)) Unasked)
    → before ≡ now → Asked before after session r t s
    → given_request r ≡ [] → given_in result ≡ [] → (result ≡ Ok None → r ≡ Ok None)
    → ((e : Unasked) → result ≡ Err e → r ≡ Err e)
    → after ≡ record before { sessions = after.sessions; looks = after.looks }
    → session_of now session ≡ Some x → NextAsk now session x result after
asks_none before after now session s t x r result same asked none given why failed rest at =
    let h = same_session before after now session r s t x same asked at in
    let unsettled : after.unsettled ≡ before.unsettled = ap (λ (b : BookState). b.unsettled) rest in
    let numbered : after.numbered ≡ before.numbered = ap (λ (b : BookState). b.numbered) rest in
    subst (λ (b : BookState). NextAsk b session x result after) same (record {
      messages = h.reads.messages;
      read = t;
      reading = subst (λ (qs : List Request). ReadsUpTo x before.looks h.reads.messages qs t after.looks)
          (none ∙ sym (ap (map (λ (a : Request × ℕ). a.0)) given)) h.reads.reading;
      only_at = h.only;
      numbers = rw given refl;
      rest = rw (given, append-nil, add-zero) rest;
      room = omega (arith, ap length unsettled);
      enough = omega (arith, numbered);
      none = λ e. stops (h.reads.none (why e));
      refused = λ f e. h.reads.refused f (failed f e);
    })

-- an open session gives a request
pub asks_given : (before after now : BookState) (session : ℕ) (s t x : SessionState) (q : Request)
    (r : Result (Option Request) Unasked) → before ≡ now
    → Asked before after session r t s → r ≡ Ok (Some q) → length before.unsettled < WINDOW
    → before.numbered < MAX_POSTS
    → after ≡ record before {
      sessions = after.sessions;
      numbered = before.numbered + 1;
      unsettled = before.unsettled ++ record { number = before.numbered + 1; session = session } ∷ [];
      looks = after.looks;
    }
    → session_of now session ≡ Some x → NextAsk now session x (Ok (Some (q, before.numbered + 1))) after
asks_given before after now session s t x q r same asked r_is few below rest at =
    let h = same_session before after now session r s t x same asked at in
    let given : Unsettled = record { number = before.numbered + 1; session = session } in
    let unsettled : after.unsettled ≡ before.unsettled ++ given ∷ [] = ap (λ (b : BookState). b.unsettled) rest in
    let longer : length after.unsettled ≡ length before.unsettled + 1 =
    ap length unsettled ∙ length-append before.unsettled (given ∷ []) in
    let numbered : after.numbered ≡ before.numbered + 1 = ap (λ (b : BookState). b.numbered) rest in
    subst (λ (b : BookState). NextAsk b session x (Ok (Some (q, before.numbered + 1))) after) same (record {
      messages = h.reads.messages;
      read = t;
      reading = subst (λ (qs : List Request). ReadsUpTo x before.looks h.reads.messages qs t after.looks)
          (ap given_request r_is) h.reads.reading;
      only_at = h.only;
      numbers = refl;
      rest = rest;
      room = omega (arith, longer, few);
      enough = omega (arith, numbered, below);
      none = λ e. absurd cc;
      refused = λ f e. absurd cc;
    })
