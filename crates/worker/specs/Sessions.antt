-- What a worker knows of one session while it runs.
use Rattle.std.specs.Prelude.{◌≡◌, ℕ, ◌≤◌, ◌⊎◌, Bool, true, false, List, [], ◌∷◌, ◌++◌, length, Option, Some, None}
use Rattle.std.specs.Prelude.{◌==◌, if◌then◌else◌, map, filter}
use Rattle.proto.specs.declared.dialect.Dialect.{Dialect}
use Rattle.proto.specs.Lines.{IsLenient}
use Rattle.proto.specs.declared.message.Request.{Request}
use Rattle.proto.specs.declared.message.Reply.{Reply}
use Rattle.proto.specs.declared.message.Message.{Message}
use Rattle.proto.specs.declared.history.Posted.{Posted}
use Rattle.proto.specs.declared.history.Answered.{Answered}
use Rattle.proto.specs.Grammar.{SpellsNone}
use Rattle.proto.specs.Reading.{Reads, asks}
use Rattle.proto.specs.Answers.{said}
use Rattle.exchange.specs.Beginnings.{StartsWith}
use Rattle.session_book.specs.declared.causes.EndCause.{EndCause}
use Rattle.session_book.specs.declared.causes.EndCause.TheVariants as causes
use Rattle.session_book.specs.Session.{SessionState, ended_by}
use Rattle.session_book.specs.Book.{BookState, session_of}
use Rattle.session_book.specs.Accounts.{HasRead, HasSaid}
use Rattle.worker_port.specs.declared.events.PortRecord.{PortRecord}
use Rattle.worker_port.specs.PortFacts.{PortFacts, port_facts}

-- the requests of a session, of those that got numbers
abbrev pub asked_by : List Posted → ℕ → List Request
asked_by numbered s = map (λ (p : Posted). p.request) (filter (λ (p : Posted). p.session == s) numbered)

-- the replies that came back for a session
abbrev pub had_by : List Answered → ℕ → List Reply
had_by back s = map (λ (a : Answered). a.reply) (filter (λ (a : Answered). a.session == s) back)

-- the cause that stands at a session's entry in the report
abbrev pub cause_of : List (ℕ × EndCause) → ℕ → Option EndCause
cause_of [] s = None
cause_of (e ∷ sessions) s = if e.0 == s then Some e.1 else cause_of sessions s

-- What is known of a session: the dialect of its lines; what the port's list says of it; the
-- requests that got numbers for it; the replies that came back; its entry in the report; its state
-- in the book, while it is open; and the piece of input that is held until it fits.
pub record SessionFacts : Type 0 where
  pub dialect : Dialect
  pub port : PortFacts
  pub asked : List Request
  pub had : List Reply
  pub cause : Option EndCause
  pub state : Option SessionState
  pub piece : List ℕ

-- nothing came of the session and nothing was done for it
pub record IsUntouched (f : SessionFacts) : Type 0 where
  pub fed : f.port.fed ≡ []
  pub given : f.port.given ≡ []
  pub input_ended : f.port.input_ended ≡ false
  pub gone : f.port.gone ≡ false
  pub shut : f.port.shut ≡ false
  pub asked : f.asked ≡ []
  pub had : f.had ≡ []
  pub state : f.state ≡ None
  pub piece : f.piece ≡ []

-- the session was shut at once, as there was no room for it
pub record IsUnopened (f : SessionFacts) : Type 0 where
  pub given : f.port.given ≡ []
  pub shut : f.port.shut ≡ true
  pub asked : f.asked ≡ []
  pub state : f.state ≡ None

-- The session was fed all bytes that came, but for those held back; messages were read and asked,
-- and their answers given or put out, as its state says; and the state says whether its input has
-- ended.
pub record IsSessionServed (held : List ℕ) (f : SessionFacts) (s : SessionState) : Type 0 where
  pub bytes : List ℕ
  pub messages : List Message
  pub fed : f.port.fed ≡ bytes ++ held
  pub has_read : HasRead f.dialect bytes messages s
  pub has_said : HasSaid messages f.had f.port.given s
  pub asked : f.asked ≡ asks messages
  pub input_ended : s.input_ended ≡ f.port.input_ended

-- the session is open at the port and in the book
pub record IsRunning (f : SessionFacts) : Type 0 where
  pub gone : f.port.gone ≡ false
  pub shut : f.port.shut ≡ false
  pub s : SessionState
  pub state : f.state ≡ Some s
  pub served : IsSessionServed f.piece f s

-- bytes at the front of b are read as the messages, and rest is after them
pub record BeginsWith (d : Dialect) (b : List ℕ) (messages : List Message) (rest : List ℕ) : Type 0 where
  pub read : List ℕ
  pub whole : b ≡ read ++ rest
  pub reads : Reads d read messages []

-- all was answered and given before the session was shut, which this has ended among the messages
abbrev pub IsWhole : SessionFacts → List Message → Option EndCause → Type 0
IsWhole f messages ended =
    (f.port.given ≡ said messages f.had) × (length (asks messages) ≤ length f.had)
    × (ended_by None messages ≡ ended)

-- the session was shut as its input had ended: no beginning of the rest spells a message, and all
-- was answered and given
pub record HasRunOut (f : SessionFacts) (messages : List Message) (rest : List ℕ) : Type 0 where
  pub input_ended : f.port.input_ended ≡ true
  pub shut : f.port.shut ≡ true
  pub none : SpellsNone f.dialect rest
  pub whole : IsWhole f messages None

-- why the session was closed
abbrev pub IsCaused : SessionFacts → List Message → List ℕ → EndCause → Type 0
IsCaused f messages rest causes.Drained = ⊥
IsCaused f messages rest causes.EndOfInput = HasRunOut f messages rest
IsCaused f messages rest causes.Quit = (f.port.shut ≡ true) × IsWhole f messages (Some causes.Quit)
IsCaused f messages rest causes.Fatal = (f.port.shut ≡ true) × IsWhole f messages (Some causes.Fatal)
IsCaused f messages rest causes.Gone = f.port.gone ≡ true
IsCaused f messages rest causes.NoMemory = f.port.shut ≡ true
IsCaused f messages rest causes.Stalled = (f.port.shut ≡ true) × IsLenient f.dialect

-- the session is closed: some first messages were read and asked, and a beginning of their answers
-- was given
pub record IsClosed (f : SessionFacts) (cause : EndCause) : Type 0 where
  pub messages : List Message
  pub rest : List ℕ
  pub read : BeginsWith f.dialect f.port.fed messages rest
  pub asked : f.asked ≡ asks messages
  pub said : StartsWith (said messages f.had) f.port.given
  pub caused : IsCaused f messages rest cause
  pub closed : (f.port.gone ≡ true) ⊎ (f.port.shut ≡ true)
  pub state : f.state ≡ None

-- what is known of a session, by whether it was opened and by its entry in the report
abbrev pub IsReportedAs : SessionFacts → Option EndCause → Type 0
IsReportedAs f None = IsUnopened f
IsReportedAs f (Some causes.Drained) = IsRunning f
IsReportedAs f (Some causes.EndOfInput) = IsClosed f causes.EndOfInput
IsReportedAs f (Some causes.Quit) = IsClosed f causes.Quit
IsReportedAs f (Some causes.Fatal) = IsClosed f causes.Fatal
IsReportedAs f (Some causes.Gone) = IsClosed f causes.Gone
IsReportedAs f (Some causes.NoMemory) = IsClosed f causes.NoMemory
IsReportedAs f (Some causes.Stalled) = IsClosed f causes.Stalled

abbrev pub IsKnownAs : Bool → Option EndCause → SessionFacts → Type 0
IsKnownAs false cause f = IsUntouched f × (cause ≡ None)
IsKnownAs true cause f = IsReportedAs f cause

pub record AreFactsConsistent (f : SessionFacts) : Type 0 where
  pub known : IsKnownAs f.port.opened f.cause f

-- What the facts of all sessions are read from: the dialect, the port's list, the requests that got
-- numbers, the answers that came back, the report, the book, and the pieces of input that are held.
pub record RunView : Type 0 where
  pub dialect : Dialect
  pub events : List PortRecord
  pub numbered : List Posted
  pub back : List Answered
  pub sessions : List (ℕ × EndCause)
  pub book : BookState
  pub piece : ℕ → List ℕ

-- what is known of a session
abbrev pub facts : RunView → ℕ → SessionFacts
facts v s =
    record {
      dialect = v.dialect;
      port = port_facts v.events s;
      asked = asked_by v.numbered s;
      had = had_by v.back s;
      cause = cause_of v.sessions s;
      state = session_of v.book s;
      piece = v.piece s;
    }
