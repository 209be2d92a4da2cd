-- One session of a run: what was executed, read and answered so far.
use Rattle.std.specs.Prelude.{◌≡◌, ℕ, ◌+◌, ◌≤◌, Bool, false, List, [], ◌++◌, length, take, Option, Some, None}
use Rattle.std.specs.List.{list_any, AllByRecursion}
use Rattle.proto.specs.declared.dialect.Dialect.TheVariants.{Strict}
use Rattle.proto.specs.declared.message.Message.{Message}
use Rattle.proto.specs.declared.history.Answered.{Answered}
use Rattle.proto.specs.Grammar.{Spells, SpellsNone}
use Rattle.proto.specs.Reading.{ends_session, Reads, asks}
use Rattle.proto.specs.Answers.{said}
use Rattle.proto.specs.Sizes.{Sizes}
use Rattle.proto.specs.History.{session_share, had, asked}
use Rattle.engine.specs.Reaching.{Reaches}
use Rattle.script.specs.Clocks.{ClockState, answer_of, AreTimed}
use Rattle.reference.specs.Execution.{Execution, AnswersBehind}
use Rattle.reference.specs.declared.sequential_session.SequentialSession.{SequentialSession}

-- for which sizes a history is, and the clock before it
pub record Setup : Type 0 where
  pub sizes : Sizes
  pub clock : ClockState

-- From an empty cache the history has led to this cache and clock. The clock gave its first answers
-- to it.
pub record LedTo (setup : Setup) (history : List Answered) (now : Execution) : Type 0 where
  pub sizes_are : now.sizes ≡ setup.sizes
  pub reaches : Reaches setup.sizes history now.cache now.moment
  pub timed : AreTimed setup.clock history
  pub clock : (n : ℕ) → answer_of now.clock n ≡ answer_of setup.clock (length history + n)

-- the bytes are whole messages, which the share of the history and the output answer
pub record AreBytesAnswered (read : List ℕ) (share : List Answered) (output : List ℕ) (ended : Bool) : Type 0 where
  pub messages : List Message
  pub reads : Reads Strict read messages []
  pub ended_is : list_any ends_session messages ≡ ended
  pub asked_is : asked share ≡ asks messages
  pub output_is : output ≡ said messages (had share)

-- an entry of a session of worker 0
pub record IsOfSession (session : ℕ) (e : Answered) : Type 0 where
  pub worker : e.worker ≡ 0
  pub session_is : e.session ≡ session

-- the history goes on with entries of the session alone
pub record HistoryGoesOn (session : ℕ) (old new : List Answered) : Type 0 where
  pub entries : List Answered
  pub longer : new ≡ old ++ entries
  pub of_session : AllByRecursion (IsOfSession session) entries

-- with further entries of the session the history leads to this, and what was read of the session
-- is answered
pub record LedOnTo (setup : Setup) (session : ℕ) (old : List Answered) (now : Execution) (read output : List ℕ)
    (ended : Bool) : Type 0 where
  pub history : List Answered
  pub goes_on : HistoryGoesOn session old history
  pub led : LedTo setup history now
  pub answered : AreBytesAnswered read (session_share history 0 session) output ended

-- The bytes begin with a message of this length, which is executed and answered; or with none, and
-- nothing changes. It is said whether the message ends its session.
abbrev pub AnswersNext : Execution → List ℕ → Option (ℕ × Bool) → Execution → List ℕ → List ℕ → Type 0
AnswersNext old unread None new output after = SpellsNone Strict unread × (new ≡ old) × (after ≡ output)
AnswersNext old unread (Some (n, ended)) new output after =
    (m : Message) × (n ≤ length unread) × Spells Strict (take n unread) m × (ended ≡ ends_session m)
    × AnswersBehind old m new output after

-- The first bytes that are unread, as many as were taken, are messages, which were executed and
-- answered, whatever history and bytes of a session there were before.
abbrev pub AnswersAll : Execution → List ℕ → ℕ → Bool → Execution → List ℕ → List ℕ → Type 0
AnswersAll old unread taken ended new output after =
    (setup : Setup) (session : ℕ) (history : List Answered) (read : List ℕ)
    → LedTo setup history old → AreBytesAnswered read (session_share history 0 session) output false
    → LedOnTo setup session history new (read ++ take taken unread) after ended

-- nothing was sent yet
pub record IsNewSession (number : ℕ) (session : SequentialSession) : Type 0 where
  pub number_is : session.number ≡ number
  pub no_unread : session.unread.items ≡ []
  pub no_output : session.output.items ≡ []
  pub not_ended : session.ended ≡ false

-- The bytes that were sent are messages that are answered, and a rest: what is unread, of which no
-- beginning is a message yet; or anything, where the session has ended.
pub record AreBytesServed (bytes : List ℕ) (share : List Answered) (session : SequentialSession) : Type 0 where
  pub read : List ℕ
  pub rest : List ℕ
  pub bytes_are : bytes ≡ read ++ rest
  pub answered : AreBytesAnswered read share session.output.items session.ended
  pub unread_is : session.ended ≡ false → rest ≡ session.unread.items
  pub no_more : session.ended ≡ false → SpellsNone Strict rest

-- with further entries of the session the history leads to this, and the bytes of the session are
-- served
pub record ServedBy (setup : Setup) (old : List Answered) (now : Execution) (bytes : List ℕ)
    (session : SequentialSession) : Type 0 where
  pub history : List Answered
  pub goes_on : HistoryGoesOn session.number old history
  pub led : LedTo setup history now
  pub served : AreBytesServed bytes (session_share history 0 session.number) session

-- the session is fed a piece, whatever history there was before
pub record Feeds (old : SequentialSession) (before : Execution) (piece : List ℕ) (new : SequentialSession)
    (after : Execution) : Type 0 where
  pub number_stays : new.number ≡ old.number
  pub serves : (setup : Setup) (history : List Answered) (bytes : List ℕ)
      → LedTo setup history before → AreBytesServed bytes (session_share history 0 old.number) old
      → ServedBy setup history after (bytes ++ piece) new
