-- Requests that are executed one after the other, at the moments of a clock.
use Rattle.std.specs.Prelude.{◌⊎◌, ◌≡◌, ℕ, ◌+◌, max, min, List, ◌++◌, Some, None, refl}
use Rattle.std.specs.Coded.{Coded, code_by, coded×, coded_ℕ}
use Rattle.proto.specs.declared.message.Request.{Request}
use Rattle.proto.specs.declared.message.Request.TheVariants.{Stats}
use Rattle.proto.specs.declared.message.Reply.TheVariants.{NoMemory}
use Rattle.proto.specs.declared.message.Reply.{Reply}
use Rattle.proto.specs.declared.message.Message.{Message}
use Rattle.proto.specs.declared.message.Message.TheVariants.{Ask, Local, Quit, Fatal}
use Rattle.proto.specs.Sizes.{Sizes}
use Rattle.proto.specs.Cache.{Cache, cache_code}
use Rattle.proto.specs.Answers.{answer}
use Rattle.proto.specs.Steps.{Step, IsCarriedOut}
use Rattle.proto.specs.History.{max_moment}
use Rattle.script.specs.Clocks.{ClockState, answer_of}

-- a cache, the moment of its last request, and the clock that tells the next
pub record Execution : Type 0 where
  pub sizes : Sizes
  pub cache : Cache
  pub moment : ℕ
  pub clock : ClockState

-- how it is stored, where a type is seen as one
abbrev pub execution_code : Coded Execution
execution_code =
    code_by ((ℕ × (ℕ × ℕ)) × (Cache × (ℕ × (ℕ × ℕ))))
    (coded× (coded× coded_ℕ (coded× coded_ℕ coded_ℕ)) (coded× cache_code (coded× coded_ℕ (coded× coded_ℕ coded_ℕ))))
    (λ x. ((x.sizes.segment_size, (x.sizes.segments, x.sizes.largest_item)), (x.cache, (x.moment, (x.clock.next, x.clock.tick)))))
    (λ p. record {
      sizes = record { segment_size = p.0.0; segments = p.0.1.0; largest_item = p.0.1.1 };
      cache = p.1.0;
      moment = p.1.1.0;
      clock = record { next = p.1.1.1.0; tick = p.1.1.1.1 };
    }) (λ _. refl)

-- The request is executed at the clock's next moment, and has this reply. Nothing is counted, so a
-- `stats` is refused: the strict dialect has none.
pub record Executes (old : Execution) (t : ℕ) (q : Request) (reply : Reply) (new : Execution) : Type 0 where
  pub moment_is : t ≡ max old.moment (min (answer_of old.clock 0) max_moment)
  pub first : Reply
  pub same : (first ≡ reply) ⊎ (q ≡ Stats)
  pub uncounted : q ≡ Stats → reply ≡ NoMemory
  pub steps : IsCarriedOut (Step old.sizes t) old.cache q first new.cache
  pub sizes_stay : new.sizes ≡ old.sizes
  pub last : new.moment ≡ t
  pub later : (n : ℕ) → answer_of new.clock n ≡ answer_of old.clock (n + 1)

-- the message, where it is a request, is executed, and its answer goes after the output
abbrev pub AnswersBehind : Execution → Message → Execution → List ℕ → List ℕ → Type 0
AnswersBehind old (Ask q quiet) new output after =
    (t : ℕ) × (reply : Reply) × Executes old t q reply new × (after ≡ output ++ answer (Ask q quiet) (Some reply))
AnswersBehind old (Local kind) new output after = (new ≡ old) × (after ≡ output ++ answer (Local kind) None)
AnswersBehind old Quit new output after = (new ≡ old) × (after ≡ output ++ answer Quit None)
AnswersBehind old (Fatal kind) new output after = (new ≡ old) × (after ≡ output ++ answer (Fatal kind) None)
