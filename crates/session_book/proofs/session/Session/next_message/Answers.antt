use Rattle.std.proofs.Common.{rules, ◌≡◌, ◌++◌, ◌∷◌, [], List, ℕ, None, refl, sym, ap, ◌∙◌, arith}
use Rattle.std.proofs.lemmas.List.{append-nil}
use Rattle.std.proofs.lemmas.Result.{err_from_is_err_and}
use Rattle.proto.specs.declared.message.Message.{Message}
use Rattle.proto.specs.declared.message.Message.TheVariants.{Ask}
use Rattle.proto.specs.Answers.{said}
use Rattle.session_book.specs.Session.{SessionState, messages_left, looked, at_rest}
use Rattle.session_book.proofs.Answering.{begins_asked_by}
use Rattle.session_book.proofs.Steps.{read_found, left_stays, said_stays, asked_behind}
use Rattle.session_book.proofs.session.Session.next_message.Goals as goal

pub returns-then-not-is_ready-clause-tries : goal.returns-then-not-is_ready-clause-tries
returns-then-not-is_ready-clause-tries c = at_rest c.if-not-is_ready.ensures.stops refl refl refl

pub returns-in_err-reserve-clause-tries : goal.returns-in_err-reserve-clause-tries
returns-in_err-reserve-clause-tries c =
    let p = err_from_is_err_and c.from_residual.result c.from_residual.ensures.1 in
    rw p.1 (looked c.if-not-is_ready.ensures.ready (omega arith) refl)

pub returns-in_err-reserve-2-clause-tries : goal.returns-in_err-reserve-2-clause-tries
returns-in_err-reserve-2-clause-tries c =
    let p = err_from_is_err_and c.from_residual-in_err-reserve-2.result c.from_residual-in_err-reserve-2.ensures.1 in
    rw p.1 (looked c.if-not-is_ready.ensures.ready (omega (arith, c.saturating_add.ensures)) (search rules))

pub returns-in_err-next-clause-tries : goal.returns-in_err-next-clause-tries
returns-in_err-next-clause-tries c =
    let p = err_from_is_err_and c.from_residual-in_err-next.result c.from_residual-in_err-next.ensures.1 in
    rw p.1 (looked c.if-not-is_ready.ensures.ready (omega (arith, c.saturating_add.ensures)) (search rules))

pub returns-in-Nothing-clause-tries : goal.returns-in-Nothing-clause-tries
returns-in-Nothing-clause-tries c =
    looked c.if-not-is_ready.ensures.ready (omega (arith, c.saturating_add.ensures)) (search rules)

pub returns-in_err-put_behind-in-Copied-clause-tries : goal.returns-in_err-put_behind-in-Copied-clause-tries
returns-in_err-put_behind-in-Copied-clause-tries c =
    let p = err_from_is_err_and c.from_residual-in_err-put_behind-in-Copied.result c.from_residual-in_err-put_behind-in-Copied.ensures.1 in
    rw p.1 (looked c.if-not-is_ready.ensures.ready (omega (arith, c.saturating_add.ensures)) (search rules))

pub returns-after-message-3-clause-tries : goal.returns-after-message-3-clause-tries
returns-after-message-3-clause-tries c =
    let found = rw c.in-Copied.is at c.in_ok-next.ensures in
    let m = c.in-Copied.message in
    let ready = c.if-not-is_ready.ensures.ready in
    let reserved = c.in_ok-reserve-2.ensures.items in
    let put = c.in_ok-put_behind-in-Copied.ensures in
    looked ready (omega (arith, c.saturating_add.ensures))
    (read_found _ _ c.self.inside.input c.next.new.self c.take.new.self c.in-Copied.length m _ _ _ c.self.view_is ready.not_ended
    refl refl found.0 found.1 c.take.ensures c.cause_of-self-inside.ensures
    (put.queue ∙ ap (λ (queue : List Message). messages_left (queue ++ m ∷ []) []) reserved)
    (put.out ∙ ap (λ (queue : List Message). c.self.inside.output ++ said (queue ++ m ∷ []) []) reserved))

pub invariant_of-self-in-Copied : goal.invariant_of-self-in-Copied
invariant_of-self-in-Copied c =
    begins_asked_by _ (c.reserve-2.new.self.items ++ c.in-Copied.message ∷ []) [] c.in_ok-put_behind-in-Copied.ensures.queue

pub returns-in-Taken-clause-tries : goal.returns-in-Taken-clause-tries
returns-in-Taken-clause-tries c =
    let found = rw c.in-Taken.is at c.in_ok-next.ensures in
    let m : Message = Ask c.in-Taken.request c.in-Taken.noreply in
    let queue = c.self.inside.queue.items in
    let ready = c.if-not-is_ready.ensures.ready in
    let asked = asked_behind queue c.in-Taken.request c.in-Taken.noreply c.self.invariant in
    let open_yet : c.self.inside.ended ≡ None = ap (λ (s : SessionState). s.ended) c.self.view_is ∙ ready.not_ended in
    looked ready (omega (arith, c.saturating_add.ensures))
    (read_found _ _ c.self.inside.input c.self.inside.input c.next.new.self c.in-Taken.length m _ _ _ c.self.view_is ready.not_ended
    refl refl found.begins refl found.taken open_yet
    (c.push_back_reserved.ensures.items ∙ ap (λ (ms : List Message). ms ++ c.of.result ∷ []) c.in_ok-reserve-2.ensures.items
    ∙ ap (λ (n : Message). queue ++ n ∷ []) c.of.ensures ∙ sym (left_stays (queue ++ m ∷ []) asked))
    (sym (ap (λ (x : List ℕ). c.self.inside.output ++ x) (said_stays (queue ++ m ∷ []) asked) ∙ append-nil c.self.inside.output)))
