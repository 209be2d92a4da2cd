-- What changes at one session leaves what is known of the others.
use Rattle.std.proofs.Common.{◌≡◌, ◌≢◌, ℕ, ◌-◌, ◌^◌, ◌≤◌, min, ◌==◌, true, false, cond, eq-eqb, ne_eqb}
use Rattle.std.proofs.Common.{List, [], ◌∷◌, ◌++◌, length, refl, sym, ap, subst, ◌∙◌, Some, None}
use Rattle.session_book.specs.declared.causes.EndCause.{EndCause}
use Rattle.session_book.specs.Book.{session_of}
use Rattle.worker_port.specs.declared.events.PortRecord.{PortRecord}
use Rattle.worker_port.specs.declared.events.PortRecord.TheVariants.{Gone, Shut}
use Rattle.worker_port.specs.Ports.{opened_count}
use Rattle.worker.specs.Sessions.{SessionFacts, asked_by, had_by, cause_of, RunView, facts, AreFactsConsistent, IsClosed}
use Rattle.worker_port.specs.PortFacts.{PortFacts, port_facts}
use Rattle.worker.specs.EndCauses.{with_cause}
use Rattle.worker_port.proofs.Facts.{about, elsewhere, shut_here, gone_here}
use Rattle.worker.proofs.EndCauseLemmas.{cause_apart, cause_here}
use Rattle.worker.proofs.SessionSteps.{Stays, is_closed}
use Rattle.proto.proofs.CountLemmas.{either_way}

-- the sessions in the report and those unopened are those that the list opens; the count stays at
-- the greatest number
abbrev pub AreSessionsCounted : List PortRecord → List (ℕ × EndCause) → ℕ → Type 0
AreSessionsCounted events sessions unopened =
    (length sessions ≤ opened_count events) × (unopened ≡ min (opened_count events - length sessions) (2 ^ 64 - 1))

-- what is known of two sessions is the same where each part of it is
pub facts_equal : (f g : SessionFacts) → f.dialect ≡ g.dialect → f.port ≡ g.port → f.asked ≡ g.asked → f.had ≡ g.had → f.cause ≡ g.cause
    → f.state ≡ g.state → f.piece ≡ g.piece → f ≡ g
facts_equal f g d p a h c s q = λ i. record { dialect = d i; port = p i; asked = a i; had = h i; cause = c i; state = s i; piece = q i }

-- one session changes
pub change_at : (t : ℕ) (w w' : RunView) → ((s : ℕ) → t ≢ s → facts w' s ≡ facts w s) → AreFactsConsistent (facts w' t)
    → ((s : ℕ) → t ≢ s → AreFactsConsistent (facts w s)) → (s : ℕ) → AreFactsConsistent (facts w' s)
change_at t w w' same here h s = either_way t s (λ e. subst (λ k. AreFactsConsistent (facts w' k)) e here)
    (λ ne. subst AreFactsConsistent (sym (same s ne)) (h s ne))

-- a choice that is made at one number takes the other value at each other number
pub at_other : {A : Type 0} (t s : ℕ) (x y : A) → t ≢ s → cond (s == t) x y ≡ y
at_other t s x y ne = ap (λ b. cond b x y) (ne_eqb s t (λ e. ne (sym e)))

-- and its own value at that number
pub at_same : {A : Type 0} (t : ℕ) (x y : A) → cond (t == t) x y ≡ x
at_same t x y = ap (λ b. cond b x y) (eq-eqb t t refl)

-- ---- a session is closed

-- the list has one more entry, the cause stands at the session's entry, and the session is no
-- longer in the book, with its held piece; nothing else changes
pub record ClosesIn (w w' : RunView) (t : ℕ) (cause : EndCause) (x : PortRecord) : Type 0 where
  pub dialect : w'.dialect ≡ w.dialect
  pub events : w'.events ≡ w.events ++ x ∷ []
  pub numbered : w'.numbered ≡ w.numbered
  pub back : w'.back ≡ w.back
  pub sessions : w'.sessions ≡ with_cause w.sessions t cause
  pub book : (s : ℕ) → session_of w'.book s ≡ cond (s == t) None (session_of w.book s)
  pub piece : (s : ℕ) → w'.piece s ≡ cond (s == t) [] (w.piece s)

-- closing a session by an entry that is about no other leaves what is known of the others
pub closes_elsewhere : (w w' : RunView) (t : ℕ) (c : EndCause) (x : PortRecord) → ClosesIn w w' t c x
    → ((s : ℕ) → t ≢ s → about s x ≡ false)
    → (s : ℕ) → t ≢ s → facts w' s ≡ facts w s
closes_elsewhere w w' t c x h other s ne =
    facts_equal (facts w' s) (facts w s) h.dialect
    (ap (λ l. port_facts l s) h.events ∙ elsewhere w.events x s (other s ne))
    (ap (λ l. asked_by l s) h.numbered) (ap (λ l. had_by l s) h.back)
    (ap (λ l. cause_of l s) h.sessions ∙ cause_apart w.sessions s t c ne)
    (h.book s ∙ at_other t s None (session_of w.book s) ne)
    (h.piece s ∙ at_other t s [] (w.piece s) ne)

-- of the session itself
pub record ClosedHere (f g : SessionFacts) (port : PortFacts) (cause : EndCause) : Type 0 where
  pub dialect : g.dialect ≡ f.dialect
  pub port_is : g.port ≡ port
  pub asked : g.asked ≡ f.asked
  pub had : g.had ≡ f.had
  pub cause_is : g.cause ≡ Some cause
  pub state : g.state ≡ None

-- of the session that is closed the cause stands, it has no state, and what was asked and had for
-- it stays
closes_here : (w w' : RunView) (t : ℕ) (c old : EndCause) (x : PortRecord) (port : PortFacts) → ClosesIn w w' t c x
    → port_facts (w.events ++ x ∷ []) t ≡ port → cause_of w.sessions t ≡ Some old
    → ClosedHere (facts w t) (facts w' t) port c
closes_here w w' t c old x port h p e = record {
  dialect = h.dialect;
  port_is = ap (λ l. port_facts l t) h.events ∙ p;
  asked = ap (λ l. asked_by l t) h.numbered;
  had = ap (λ l. had_by l t) h.back;
  cause_is = ap (λ l. cause_of l t) h.sessions ∙ cause_here w.sessions t c old e;
  state = h.book t ∙ at_same t None (session_of w.book t);
}

-- so it is of one that is shut, and of what the port's list says only that it was shut is new
pub shuts_here : (w w' : RunView) (t : ℕ) (c old : EndCause) → ClosesIn w w' t c (Shut t)
    → cause_of w.sessions t ≡ Some old
    → ClosedHere (facts w t) (facts w' t) (record (port_facts w.events t) { shut = true }) c
shuts_here w w' t c old h e = closes_here w w' t c old (Shut t) (record (port_facts w.events t) { shut = true }) h
    (shut_here w.events t) e

-- so it is of one that goes, and of what the port's list says only that it has gone is new
pub goes_here : (w w' : RunView) (t : ℕ) (c old : EndCause) → ClosesIn w w' t c (Gone t)
    → cause_of w.sessions t ≡ Some old
    → ClosedHere (facts w t) (facts w' t) (record (port_facts w.events t) { gone = true }) c
goes_here w w' t c old h e = closes_here w w' t c old (Gone t) (record (port_facts w.events t) { gone = true }) h
    (gone_here w.events t) e

-- what came, was given, asked and had for a session stays when it is closed, where the port's list
-- adds no bytes
pub stays : (f g : SessionFacts) (port : PortFacts) (c : EndCause) → ClosedHere f g port c → port.fed ≡ f.port.fed
    → port.given ≡ f.port.given → Stays f g
stays f g port c h fed given = record {
  dialect = h.dialect;
  fed = ap (λ (p : PortFacts). p.fed) h.port_is ∙ fed;
  given = ap (λ (p : PortFacts). p.given) h.port_is ∙ given;
  asked = h.asked;
  had = h.had;
  state = h.state;
}

-- all are consistent afterwards
pub close_all : (w w' : RunView) (t : ℕ) (c : EndCause) (x : PortRecord) (port : PortFacts) → ClosesIn w w' t c x
    → ((s : ℕ) → t ≢ s → about s x ≡ false) → ClosedHere (facts w t) (facts w' t) port c → port.opened ≡ true
    → IsClosed (facts w' t) c
    → ((s : ℕ) → t ≢ s → AreFactsConsistent (facts w s)) → (s : ℕ) → AreFactsConsistent (facts w' s)
close_all w w' t c x port h other k opened closed before =
    change_at t w w' (closes_elsewhere w w' t c x h other) (is_closed (facts w' t) c
    (ap (λ (p : PortFacts). p.opened) k.port_is ∙ opened) k.cause_is closed) before

-- that a session was shut is an entry about no other
pub apart_shut : (t s : ℕ) → t ≢ s → about s (Shut t) ≡ false
apart_shut t s ne = ne_eqb t s ne

-- that a session has gone is an entry about no other
pub apart_gone : (t s : ℕ) → t ≢ s → about s (Gone t) ≡ false
apart_gone t s ne = ne_eqb t s ne
