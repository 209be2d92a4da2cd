-- Clocks whose answers are known beforehand, and the histories that have them.
use Rattle.std.specs.Prelude.{◌≡◌, ℕ, zero, suc, ◌+◌, ◌-◌, ◌*◌, ◌^◌, min, List, [], ◌∷◌, ◌++◌, length, map}
use Rattle.proto.specs.declared.history.Answered.{Answered}
use Rattle.proto.specs.ClockAnswers.{GivenAnswer}
use Rattle.proto.specs.History.{answers_by}
use Rattle.engine.specs.Reaching.{moments_after}

-- the next answer, and how much more each further one is
pub record ClockState : Type 0 where
  pub next : ℕ
  pub tick : ℕ

abbrev pub clock_at : ℕ → ℕ → ClockState
clock_at next tick = record { next = next; tick = tick }

-- the answer that comes after n others; none is above the greatest 64-bit number
abbrev pub answer_of : ClockState → ℕ → ℕ
answer_of clock n = min (clock.next + clock.tick * n) (2 ^ 64 - 1)

-- the first n answers of a clock
abbrev pub first_answers : ClockState → ℕ → List ℕ
first_answers clock zero = []
first_answers clock (suc n) = first_answers clock n ++ answer_of clock n ∷ []

-- the clock's first answers are those of the history, and gave it its moments
pub record AreTimed (clock : ClockState) (history : List Answered) : Type 0 where
  pub answers : map (λ (a : GivenAnswer). a.seconds) (answers_by [] history) ≡ first_answers clock (length history)
  pub moments : map (λ e. e.moment) history ≡ moments_after 0 (first_answers clock (length history))
