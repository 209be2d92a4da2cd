-- What a worker's report says.
use Rattle.std.specs.Prelude.{◌≡◌, ◌≢◌, ℕ, ◌-◌, ◌^◌, ◌≤◌, true, false, min, List, [], ◌∷◌, ◌++◌, length, map}
use Rattle.std.specs.Prelude.{All, Some, None, IsSome}
use Rattle.std.specs.List.{list_any, last_or}
use Rattle.std.specs.List.Sorted.{IsStrictlyIncreasing}
use Rattle.proto.specs.declared.dialect.Dialect.{Dialect}
use Rattle.proto.specs.Lines.{IsLenient}
use Rattle.proto.specs.declared.message.FatalKind.{FatalKind}
use Rattle.proto.specs.declared.message.Message.{Message}
use Rattle.proto.specs.declared.message.Message.TheVariants.{Quit, Fatal}
use Rattle.proto.specs.declared.history.Posted.{Posted}
use Rattle.proto.specs.declared.history.Answered.{Answered}
use Rattle.proto.specs.History.{worker_share, session_share, asked_posted}
use Rattle.proto.specs.Reading.{Reads, ends_session, asks}
use Rattle.proto.specs.Answers.{said}
use Rattle.exchange.specs.Ends.{WorkerView}
use Rattle.session_book.specs.declared.causes.EndCause.{EndCause}
use Rattle.session_book.specs.declared.causes.EndCause.TheVariants as causes
use Rattle.worker_port.specs.declared.events.PortRecord.{PortRecord}
use Rattle.worker_port.specs.declared.events.PortRecord.TheVariants as was
use Rattle.worker_port.specs.Ports.{fed, given, is_in, is_open, opened_count}
use Rattle.worker_port.specs.Giving.{BeginsAnswers}
use Rattle.worker.specs.Sessions.{cause_of}

-- What the list and the messages say of a session with this cause. Gone says only that the port
-- told Gone, and NoMemory only that the session was shut. Stalled says that too, and that the
-- session was lenient: no strict one ends so.
abbrev pub IsCauseOf : Dialect → List PortRecord → ℕ → List Message → EndCause → Type 0
IsCauseOf d events s messages causes.Drained =
    (is_in (was.EndOfInput s) events ≡ false) × (is_in (was.Gone s) events ≡ false) × (is_in (was.Shut s) events ≡ false)
    × (list_any ends_session messages ≡ false)
IsCauseOf d events s messages causes.EndOfInput =
    (is_in (was.EndOfInput s) events ≡ true) × (is_in (was.Shut s) events ≡ true) × (list_any ends_session messages ≡ false)
IsCauseOf d events s messages causes.Gone = is_in (was.Gone s) events ≡ true
IsCauseOf d events s messages causes.NoMemory = is_in (was.Shut s) events ≡ true
IsCauseOf d events s messages causes.Stalled = (is_in (was.Shut s) events ≡ true) × IsLenient d
IsCauseOf d events s messages causes.Quit = (is_in (was.Shut s) events ≡ true) × (last_or None messages ≡ Some Quit)
IsCauseOf d events s messages causes.Fatal =
    (is_in (was.Shut s) events ≡ true) × (kind : FatalKind) × (last_or None messages ≡ Some (Fatal kind))

-- Of a session whose bytes spell these messages in this dialect: the port gave it a beginning of
-- their answers. If its cause is none of Gone, NoMemory and Stalled, the port gave it all of them,
-- and the history has all its requests.
pub record IsSessionAnswered (d : Dialect) (events : List PortRecord) (history : List Answered) (worker s : ℕ)
    (cause : EndCause) (messages : List Message) : Type 0 where
  pub answers : BeginsAnswers history worker s (given s events) messages
  pub complete : cause ≢ causes.Gone → cause ≢ causes.NoMemory → cause ≢ causes.Stalled
      → (map (λ e. e.request) (session_share history worker s) ≡ asks messages)
      × (given s events ≡ said messages (map (λ e. e.reply) (session_share history worker s)))
  pub caused : IsCauseOf d events s messages cause

-- The report lists sessions that were opened, once each, by rising numbers. An opened session that
-- it doesn't list was shut, and unopened counts these. A session that it doesn't list was given
-- nothing and asked nothing.
pub record AreListed (events : List PortRecord) (sent : List Posted) (sessions : List (ℕ × EndCause)) (unopened : ℕ)
    : Type 0 where
  pub ended : is_in was.Ended events ≡ true
  pub once : IsStrictlyIncreasing (0 ∷ map (λ (e : ℕ × EndCause). e.0) sessions)
  pub opened : (s : ℕ) → IsSome (cause_of sessions s) → is_in (was.Opened s) events ≡ true
  pub refused : (s : ℕ) → is_in (was.Opened s) events ≡ true → cause_of sessions s ≡ None → is_in (was.Shut s) events ≡ true
  pub counted : (length sessions ≤ opened_count events) × (unopened ≡ min (opened_count events - length sessions) (2 ^ 64 - 1))
  pub accepts : (before behind : List PortRecord) (s : ℕ) (bytes : List ℕ) → events ≡ before ++ was.Accepted s bytes ∷ behind
      → is_open s before ≡ true
  pub no_stranger : (s : ℕ) → cause_of sessions s ≡ None → given s events ≡ []
  pub placed : All (λ (p : Posted). IsSome (cause_of sessions p.session)) sent

-- What a worker's report says of a port that tells its list, by the dialect of what came: the
-- sessions were answered in each history in which this worker's share is what it took back, and
-- asks what it sent.
pub record IsReported (d : Dialect) (events : List PortRecord) (end : WorkerView) (sessions : List (ℕ × EndCause))
    (unopened : ℕ) : Type 0 where
  pub listed : AreListed events end.sent sessions unopened
  pub answered : (history : List Answered) → worker_share history end.worker ≡ end.back
      → asked_posted (worker_share history end.worker) ≡ end.sent
      → (s : ℕ) (cause : EndCause) (messages : List Message) (rest : List ℕ) → cause_of sessions s ≡ Some cause
      → Reads d (fed s events) messages rest → IsSessionAnswered d events history end.worker s cause messages

-- the end has said bye, and nothing is outstanding
pub record HasSaidBye (old new : WorkerView) : Type 0 where
  pub exchange : new.exchange ≡ old.exchange
  pub worker : new.worker ≡ old.worker
  pub said_bye : new.said_bye ≡ true
  pub all_back : asked_posted new.back ≡ new.sent
