use Rattle.std.proofs.Common.{◌≡◌, ◌++◌, ◌∷◌, [], List, ℕ, sym, ap, subst, ◌∙◌, append_assoc, arith}
use Rattle.std.specs.Prelude.{OnOk}
use Rattle.proto.specs.declared.message.Message.{Message}
use Rattle.proto.specs.Answers.{said}
use Rattle.session_book.specs.Session.{messages_left}
use Rattle.session_book.proofs.Answering.{first_ask, silent_rest, silent_reply, left_reply, said_reply}
use Rattle.session_book.proofs.session.answer_first.Goals as goal

pub unreachable-requires : goal.unreachable-requires
unreachable-requires c =
    absurd (let l = c.in_default.ensures.len in let v = c.in_default.ensures.variant in let f = c.requires.first in
    grind (arith, l, v, f))

pub returns-clause-queue : goal.returns-clause-queue
returns-clause-queue c =
    let m = c.in-Some.pending in let ms = c.pop_front.new.self.items in let r = c.args.reply.now in
    let is = c.in-Some.ensures.items in
    let ask = first_ask c.args.queue.now.items m ms is c.requires.asked in
    subst (λ (left : List Message). OnOk c.answer_up_to_ask.result (c.answer_up_to_ask.new.queue.items ≡ left))
    (sym (ap (λ (q : List Message). messages_left q (r ∷ [])) is ∙ left_reply m ms r ask)) c.answer_up_to_ask.ensures.queue

pub returns-clause-out : goal.returns-clause-out
returns-clause-out c =
    let m = c.in-Some.pending in let ms = c.pop_front.new.self.items in let r = c.args.reply.now in
    let is = c.in-Some.ensures.items in
    let ask = first_ask c.args.queue.now.items m ms is c.requires.asked in
    subst (λ (x : List ℕ). OnOk c.answer_up_to_ask.result (c.answer_up_to_ask.new.out ≡ x))
    (ap (λ (x : List ℕ). x ++ said ms []) c.in_ok-show.ensures.ok ∙ append_assoc c.args.out.now _ (said ms [])
    ∙ ap (λ (x : List ℕ). c.args.out.now ++ x)
    (sym (ap (λ (q : List Message). said q (r ∷ [])) is ∙ said_reply m ms r ask)))
    c.answer_up_to_ask.ensures.out

pub returns-clause-silent : goal.returns-clause-silent
returns-clause-silent c none =
    let m = c.in-Some.pending in let ms = c.pop_front.new.self.items in let r = c.args.reply.now in
    let is = c.in-Some.ensures.items in
    let ask = first_ask c.args.queue.now.items m ms is c.requires.asked in
    c.answer_up_to_ask.ensures.silent (silent_rest c.args.queue.now.items m ms r is ask none)

pub returns-in_err-show-clause-silent : goal.returns-in_err-show-clause-silent
returns-in_err-show-clause-silent c none =
    let m = c.in-Some.pending in
    let ms = c.pop_front.new.self.items in
    let r = c.args.reply.now in
    let is = c.in-Some.ensures.items in
    let ask = first_ask c.args.queue.now.items m ms is c.requires.asked in
    let quiet = silent_reply m ms r ask (sym (ap (λ (q : List Message). said q (r ∷ [])) is) ∙ none) in
    absurd (let ok = c.in_err-show.ensures.silent quiet in cc)
