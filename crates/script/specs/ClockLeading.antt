-- What a script's clock becomes while it answers.
use Rattle.std.specs.Prelude.{◌≡◌, ℕ, zero, suc, ◌+◌, [], ◌∷◌, ◌++◌}
use Rattle.std.proofs.Common.{sym, ap, ◌∙◌, append_assoc, append-nil, add-zero, add-suc, add_comm, add_assoc}
use Rattle.script.specs.Clocks.{ClockState, answer_of, first_answers}
use Rattle.script.specs.declared.clock.RecordingClock.{RecordingClock}

-- The clock gave its next answers, as many as the count, and goes on after them.
pub record GivesAnswers (old new : RecordingClock) : Type 0 where
  pub count : ℕ
  pub told : new.answers.items ≡ old.answers.items ++ first_answers old.clock count
  pub later : (n : ℕ) → answer_of new.clock n ≡ answer_of old.clock (n + count)

-- it may have given none
pub gives_none : (clock : RecordingClock) → GivesAnswers clock clock
gives_none clock = record {
  count = 0;
  told = sym (append-nil clock.answers.items);
  later = λ n. ap (answer_of clock.clock) (sym (add-zero n));
}

-- it may have given some, and then more
first_more : (first second : ClockState) (m n : ℕ) → ((k : ℕ) → answer_of second k ≡ answer_of first (k + m))
    → first_answers first (m + n) ≡ first_answers first m ++ first_answers second n
first_more first second m zero later = ap (first_answers first) (add-zero m)
    ∙ sym (append-nil (first_answers first m))
first_more first second m (suc n) later =
    ap (first_answers first) (add-suc m n)
    ∙ ap (λ answers. answers ++ answer_of first (m + n) ∷ []) (first_more first second m n later)
    ∙ ap (λ answer. (first_answers first m ++ first_answers second n) ++ answer ∷ [])
    (ap (answer_of first) (add_comm m n) ∙ sym (later n))
    ∙ append_assoc (first_answers first m) (first_answers second n) (answer_of second n ∷ [])

pub gives_more : (first second third : RecordingClock) → GivesAnswers first second → GivesAnswers second third
    → GivesAnswers first third
gives_more first second third some more = record {
  count = some.count + more.count;
  told = more.told ∙ ap (λ answers. answers ++ first_answers second.clock more.count) some.told
      ∙ append_assoc first.answers.items (first_answers first.clock some.count)
      (first_answers second.clock more.count)
      ∙ ap (λ answers. first.answers.items ++ answers)
      (sym (first_more first.clock second.clock some.count more.count some.later));
  later = λ n. more.later n ∙ some.later (n + more.count)
      ∙ ap (answer_of first.clock) (add_assoc n more.count some.count ∙ ap (λ k. n + k) (add_comm more.count some.count));
}
