-- What a run of one worker's events gives.
use Rattle.std.specs.Prelude.{◌≡◌, ℕ, ◌<◌, ◌≤◌, ◌++◌, false, List, [], ◌∷◌, map}
use Rattle.std.specs.Prelude.{slice_index_or, slice_set, Contains, All}
use Rattle.std.specs.List.{AllByRecursion}
use Rattle.std.specs.List.Sorted.{IsStrictlyIncreasing}
use Rattle.proto.specs.declared.dialect.Dialect.TheVariants.{Strict}
use Rattle.proto.specs.declared.message.Message.{Message}
use Rattle.proto.specs.declared.history.Answered.{Answered}
use Rattle.proto.specs.Sizes.{Sizes}
use Rattle.proto.specs.Reading.{Reads, asks}
use Rattle.proto.specs.Answers.{said}
use Rattle.proto.specs.History.{Legal, session_share, had, asked}
use Rattle.script.specs.Clocks.{ClockState, AreTimed}
use Rattle.script.specs.declared.event.ScriptEvent.{ScriptEvent}
use Rattle.script.specs.Events.{newest_of, is_open_in_script, MayFollow, sessions_opened, sent_bytes}
use Rattle.reference.specs.declared.sequential_session.SequentialSession.{SequentialSession}
use Rattle.reference.specs.declared.sequential_replay.SessionOutput.{SessionOutput}
use Rattle.reference.specs.Execution.{Execution}
use Rattle.reference.specs.SequentialSessions.{Setup, LedTo, AreBytesServed, Feeds}

-- ---- the promise

-- The bytes of a session are read as messages; in the history it has their requests, and what it
-- was given is their answers there.
pub record IsAnsweredIn (history : List Answered) (bytes : List ℕ) (given : SessionOutput) : Type 0 where
  pub messages : List Message
  pub rest : List ℕ
  pub reads : Reads Strict bytes messages rest
  pub asked_all : asked (session_share history 0 given.session) ≡ asks messages
  pub output_is : given.output ≡ said messages (had (session_share history 0 given.session))

-- an entry of worker 0 and of one of these sessions
pub record IsAmong (sessions : List ℕ) (e : Answered) : Type 0 where
  pub worker : e.worker ≡ 0
  pub session : Contains sessions e.session

-- Some legal history has entries of worker 0 and of these sessions alone, and the clock's answers
-- and moments. In it each session that was opened has exactly the requests that its bytes spell,
-- and was given exactly their answers.
pub record IsReplay (sizes : Sizes) (clock : ClockState) (events : List ScriptEvent)
    (given : List SessionOutput) : Type 0 where
  pub history : List Answered
  pub legal : Legal sizes history
  pub among : AllByRecursion (IsAmong (sessions_opened events)) history
  pub timed : AreTimed clock history
  pub sessions : map (λ (g : SessionOutput). g.session) given ≡ sessions_opened events
  pub each : All (λ (g : SessionOutput). IsAnsweredIn history (sent_bytes events g.session) g) given

-- ---- on the way

abbrev pub numbers_of : List SequentialSession → List ℕ
numbers_of sessions = map (λ (s : SequentialSession). s.number) sessions

-- a session with a higher number is neither open nor has sent anything
abbrev pub IsFresh : List ScriptEvent → Type 0
IsFresh events = (session : ℕ) → newest_of events < session
    → (sent_bytes events session ≡ []) × (is_open_in_script events session ≡ false)

-- where the events have led: to this cache and clock, and these sessions
pub record HasRun (setup : Setup) (events : List ScriptEvent) (now : Execution)
    (sessions : List SequentialSession) : Type 0 where
  pub history : List Answered
  pub led : LedTo setup history now
  pub among : AllByRecursion (IsAmong (sessions_opened events)) history
  pub numbers : numbers_of sessions ≡ sessions_opened events
  pub rising : IsStrictlyIncreasing (sessions_opened events)
  pub highest : All (λ (n : ℕ). n ≤ newest_of events) (sessions_opened events)
  pub fresh : IsFresh events
  pub each : All (λ (s : SequentialSession). AreBytesServed (sent_bytes events s.number)
      (session_share history 0 s.number) s)
      sessions

-- the session at a place is fed, and the others stay
pub record FeedsAt (before : List SequentialSession) (at : ℕ) (from : Execution) (piece : List ℕ)
    (after : List SequentialSession) (to : Execution) : Type 0 where
  pub old : SequentialSession
  pub new : SequentialSession
  pub old_is : old ≡ slice_index_or before at old
  pub feeds : Feeds old from piece new to
  pub after_is : after ≡ slice_set before at new

-- An event comes next: whatever events came before, they and it have run.
abbrev pub RunsEvent : Execution → List SequentialSession → ScriptEvent → Execution → List SequentialSession → Type 0
RunsEvent before old event after new =
    (setup : Setup) (events : List ScriptEvent) → HasRun setup events before old → MayFollow events event
    → HasRun setup (events ++ event ∷ []) after new

abbrev pub output_of : SequentialSession → SessionOutput
output_of session = record { session = session.number; output = session.output.items }
