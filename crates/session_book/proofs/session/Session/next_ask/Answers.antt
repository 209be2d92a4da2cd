use Rattle.std.proofs.Common.{◌≡◌, true, refl, ap, subst, ◌∙◌, Err}
use Rattle.std.proofs.lemmas.Result.{err_from_is_err_and}
use Rattle.session_book.specs.declared.causes.Unasked.{Unasked}
use Rattle.session_book.specs.Session.{SessionState, begins_asked}
use Rattle.session_book.proofs.Steps.{starts_locals, reads_local, reads_ask, takes_less, not_ask}
use Rattle.session_book.proofs.Steps.{has_read, tries_none, tries_refused}
use Rattle.session_book.proofs.session.Session.next_ask.Goals as goal

pub loop-message-init : goal.loop-message-init
loop-message-init c = record {
  locals = starts_locals c.args.self.now c.args.looks.now
      (subst (λ (s : SessionState). begins_asked s.queue ≡ true) c.self.view_is c.self.invariant);
  kept = refl;
}

pub returns-in_err-message-clause-reads : goal.returns-in_err-message-clause-reads
returns-in_err-message-clause-reads c =
    let p = err_from_is_err_and c.from_residual.result c.from_residual.ensures.1 in
    rw (p.1 ∙ ap (λ (e : Unasked). Err e) p.2) (tries_refused _ _ _ _ _ _ _ c.loop-message.invariant.locals c.in_err-message.ensures.tries)

pub returns-in-Ask-clause-reads : goal.returns-in-Ask-clause-reads
returns-in-Ask-clause-reads c =
    let found = has_read _ _ _ _ _ (rw c.in-Some.is at c.in_ok-message.ensures.tries) in
    reads_ask _ _ _ _ _ _ _ c.in-Ask.field-1 c.loop-message.invariant.locals found.ready found.one
    (rw c.in-Ask.is at found.read)

pub returns-clause-reads : goal.returns-clause-reads
returns-clause-reads c =
    tries_none _ _ _ _ _ _ c.loop-message.invariant.locals (rw c.in_default.is at c.in_ok-message.ensures.tries)

pub loop-message-smaller : goal.loop-message-smaller
loop-message-smaller c =
    let found = has_read _ _ _ _ _ (rw c.in-Some.is at c.in_ok-message.ensures.tries) in
    takes_less c.loop-message.self _ c.in-Some.message found.read

pub loop-message-preserved : goal.loop-message-preserved
loop-message-preserved c =
    let found = has_read _ _ _ _ _ (rw c.in-Some.is at c.in_ok-message.ensures.tries) in
    record {
      locals = reads_local _ _ _ _ _ _ c.loop-message.invariant.locals found.ready found.one
          c.in-Some.message (not_ask _ c.in_default-message.not-Ask) found.read;
      kept = c.in_ok-message.ensures.kept ∙ c.loop-message.invariant.kept;
    }
