-- What `segcached replay` prints, by the bytes of its script alone.
use Rattle.std.specs.Prelude.{◌≡◌, ◌≢◌, ℕ, ◌+◌, ◌<◌, ◌⊎◌, ⊤, Bool, true, false, List, [], ◌∷◌, ◌++◌, ◌==◌, length}
use Rattle.std.specs.Prelude.{map, flat_map, All, Contains, Option, Some, None}
use Rattle.std.specs.List.{list_any, last_or}
use mathlib.Core.Option.{some}
use lib.ListN.{get_elem?}
use Rattle.proto.specs.declared.dialect.Dialect.{Dialect}
use Rattle.proto.specs.Lines.{IsLenient}
use Rattle.proto.specs.declared.message.FatalKind.{FatalKind}
use Rattle.proto.specs.declared.message.Message.{Message}
use Rattle.proto.specs.declared.message.Message.TheVariants.{Quit, Fatal}
use Rattle.proto.specs.declared.history.Answered.{Answered}
use Rattle.proto.specs.Sizes.{Sizes}
use Rattle.proto.specs.History.{Legal, RefusesBy, worker_share, session_share, asked, had}
use Rattle.proto.specs.Reading.{Reads, ends_session, asks}
use Rattle.proto.specs.Answers.{said}
use Rattle.exchange.specs.Beginnings.{StartsWith}
use Rattle.worker_port.specs.Giving.{BeginsAnswers}
use Rattle.session_book.specs.declared.causes.EndCause.{EndCause}
use Rattle.session_book.specs.declared.causes.EndCause.TheVariants as causes
use Rattle.storage_thread.specs.Keeping.{MayAlwaysForgetNothing, MayLeave}
use Rattle.engine.specs.Deadlines.{IsAsAsked}
use Rattle.script.specs.declared.event.ScriptEvent.{ScriptEvent}
use Rattle.script.specs.Events.{sessions_opened, sent_bytes, goes_in_script}
use Rattle.script.specs.Clocks.{ClockState, AreTimed}
use Rattle.script.specs.Scripts.{Workers, AreEventsOf}
use Rattle.replaying.specs.Printed.{printed_line}

-- What came of a session: its bytes that were read, those that it was given, and why it ended; None
-- where it found no room, and was shut at once.
pub record SessionOutcome : Type 0 where
  pub number : ℕ
  pub came : List ℕ
  pub given : List ℕ
  pub cause : Option EndCause

-- a session whose bytes spell these messages in this dialect may have ended so
abbrev pub MayEnd : Dialect → List Message → EndCause → Type 0
MayEnd d messages causes.Drained = list_any ends_session messages ≡ false
MayEnd d messages causes.EndOfInput = ⊥
MayEnd d messages causes.Gone = ⊤
MayEnd d messages causes.NoMemory = ⊤
MayEnd d messages causes.Stalled = IsLenient d
MayEnd d messages causes.Quit = last_or None messages ≡ Some Quit
MayEnd d messages causes.Fatal = (kind : FatalKind) × (last_or None messages ≡ Some (Fatal kind))

-- What came of a session spells some messages in this dialect. Its requests in the history are the
-- first of theirs, and it was given a beginning of their answers there; of all messages, and all
-- answers, where it drained or ended by Quit or a fatal line.
pub record GivesAnswersOf (d : Dialect) (history : List Answered) (worker : ℕ) (outcome : SessionOutcome)
    (cause : EndCause) : Type 0 where
  pub messages : List Message
  pub rest : List ℕ
  pub reads : Reads d outcome.came messages rest
  pub answers : BeginsAnswers history worker outcome.number outcome.given messages
  pub complete : cause ≢ causes.Gone → cause ≢ causes.NoMemory → cause ≢ causes.Stalled
      → (asked (session_share history worker outcome.number) ≡ asks messages)
      × (outcome.given ≡ said messages (had (session_share history worker outcome.number)))
  pub may_end : MayEnd d messages cause

-- A beginning of the bytes that the script sends a session came, and all of them where it drained.
-- One that found no room was given nothing; each other one was given its answers. It ended as gone
-- only where the script says that its peer goes, or a `give` was asked to fail.
pub record IsOutcomeOf (d : Dialect) (history : List Answered) (worker fail_give : ℕ) (script : List ScriptEvent)
    (outcome : SessionOutcome) : Type 0 where
  pub came_first : StartsWith (sent_bytes script outcome.number) outcome.came
  pub came_all : outcome.cause ≡ Some causes.Drained → outcome.came ≡ sent_bytes script outcome.number
  pub no_room : outcome.cause ≡ None → outcome.given ≡ []
  pub answered : (cause : EndCause) → outcome.cause ≡ Some cause → GivesAnswersOf d history worker outcome cause
  pub gone_by : outcome.cause ≡ Some causes.Gone → (goes_in_script script outcome.number ≡ true) ⊎ (0 < fail_give)

-- Each session that the script opens has its outcome, once and in order, and each request of the
-- worker in the history is of one of them.
pub record AreOutcomesOf (d : Dialect) (history : List Answered) (worker fail_give : ℕ) (script : List ScriptEvent)
    (outcomes : List SessionOutcome) : Type 0 where
  pub opened_are : map (λ (o : SessionOutcome). o.number) outcomes ≡ sessions_opened script
  pub each : All (IsOutcomeOf d history worker fail_give script) outcomes
  pub no_other : (e : Answered) → Contains (worker_share history worker) e
      → list_any (λ s. s == e.session) (sessions_opened script) ≡ true

-- the lines of the workers from this one on
abbrev pub outcome_lines : ℕ → List (List SessionOutcome) → List ℕ
outcome_lines worker [] = []
outcome_lines worker (outcomes ∷ more) =
    flat_map (λ (o : SessionOutcome). printed_line worker o.number o.given) outcomes ++ outcome_lines (worker + 1) more

-- What is printed for a script with these bytes where this `give` was asked to fail, or none for 0:
-- some legal history has the clock's first answers and the moments that these give; by it each
-- worker's sessions, those that the script opens, have their outcomes; only a `get` is out of
-- memory; as long as no request sets a deadline and little is stored, it may be read as one that
-- forgets nothing; where deadlines are kept to the second, as one whose entries have those asked
-- for; and a line for each session tells what it was given, in order of worker and session.
pub record IsReplayOf (sizes : Sizes) (d : Dialect) (exact : Bool) (clock : ClockState) (workers fail_give : ℕ)
    (text printed : List ℕ) : Type 0 where
  pub scripts : Workers
  pub read : AreEventsOf workers text scripts
  pub history : List Answered
  pub legal : Legal sizes history
  pub inside : All (λ (e : Answered). e.worker < length scripts) history
  pub timed : AreTimed clock history
  pub outcomes : List (List SessionOutcome)
  pub one_each : length outcomes ≡ length scripts
  pub each : (w : ℕ) (script : List ScriptEvent) (os : List SessionOutcome) → get_elem? scripts w ≡ some script
      → get_elem? outcomes w ≡ some os → AreOutcomesOf d history w fail_give script os
  pub refused : RefusesBy false history
  pub bounded : MayAlwaysForgetNothing sizes history
  pub dated : exact ≡ true → MayLeave IsAsAsked sizes history
  pub printed_is : printed ≡ outcome_lines 0 outcomes
