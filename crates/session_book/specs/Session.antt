-- One session: what of its bytes was read, what was asked, and what is to be given.
use Rattle.std.specs.Prelude.{◌≡◌, ℕ, ◌+◌, ◌<◌, ◌≤◌, ◌⊎◌, ⊤, Bool, true, false, List}
use Rattle.std.specs.Prelude.{[], ◌∷◌, ◌++◌, length, drop, Option, Some, None, Result, Ok, Err}
use Rattle.std.specs.Prelude.{is_some, ◌==◌, ◌&&◌, if◌then◌else◌, nat_lt}
use Rattle.proto.specs.declared.dialect.Dialect.{Dialect}
use Rattle.proto.specs.declared.message.Request.{Request}
use Rattle.proto.specs.declared.message.Reply.{Reply}
use Rattle.proto.specs.declared.message.Message.{Message}
use Rattle.proto.specs.declared.message.Message.TheVariants.{Ask, Local, Quit, Fatal}
use Rattle.proto.specs.declared.no_memory.NoMemory.{NoMemory}
use Rattle.proto.specs.Grammar.{Spells, SpellsNone}
use Rattle.proto.specs.Reading.{Reads, asks}
use Rattle.proto.specs.Needs.{IsUnfinished}
use Rattle.proto.specs.Answers.{said, is_ask}
use Rattle.session_book.specs.Input.{kept_length, max_unread}
use Rattle.session_book.specs.declared.causes.EndCause.{EndCause}
use Rattle.session_book.specs.declared.causes.EndCause.TheVariants as causes
use Rattle.session_book.specs.declared.causes.Received.{Received}
use Rattle.session_book.specs.declared.causes.Unasked.{Unasked}
use Rattle.session_book.specs.declared.causes.Received.TheVariants as received
use Rattle.session_book.specs.declared.session.TheConstants.{MAX_WAITING}

-- An open session: the dialect of its lines; its unread bytes; the messages read, from its oldest
-- unsettled request on; its output that wasn't given yet; whether it has read Quit or a fatal
-- message; how many unread bytes there have to be before the parser is asked again; the piece of
-- input that is held until it fits, empty where none is; and whether its input has ended, so that
-- nothing comes after that.
pub record SessionState : Type 0 where
  pub dialect : Dialect
  pub unread : List ℕ
  pub queue : List Message
  pub out : List ℕ
  pub ended : Option EndCause
  pub need : ℕ
  pub held : List ℕ
  pub input_ended : Bool

-- a session that was just opened
abbrev pub new_session : Dialect → SessionState
new_session d = record { dialect = d; unread = []; queue = []; out = []; ended = None; need = 1; held = []; input_ended = false }

-- the messages from the first request on for which no reply is left, where the requests use up the
-- replies one after the other: those that `said` stops before
abbrev pub messages_left : List Message → List Reply → List Message
messages_left [] replies = []
messages_left (Ask q quiet ∷ ms) [] = Ask q quiet ∷ ms
messages_left (Ask q quiet ∷ ms) (reply ∷ replies) = messages_left ms replies
messages_left (Local kind ∷ ms) replies = messages_left ms replies
messages_left (Quit ∷ ms) replies = messages_left ms replies
messages_left (Fatal kind ∷ ms) replies = messages_left ms replies

-- what has ended the session once the messages were read too
abbrev pub ended_by : Option EndCause → List Message → Option EndCause
ended_by ended [] = ended
ended_by ended (Ask q quiet ∷ ms) = ended_by ended ms
ended_by ended (Local kind ∷ ms) = ended_by ended ms
ended_by ended (Quit ∷ ms) = ended_by (Some causes.Quit) ms
ended_by ended (Fatal kind ∷ ms) = ended_by (Some causes.Fatal) ms

-- the need after the messages were read: 1 once there is one
abbrev pub need_after : ℕ → List Message → ℕ
need_after need [] = need
need_after need (m ∷ ms) = 1

-- A piece of input goes after the unread bytes; once Quit or a fatal message was read it is
-- dropped.
abbrev pub once_fed : SessionState → List ℕ → SessionState
once_fed s piece = if is_some s.ended then s else record s { unread = s.unread ++ piece }

-- the queue is empty, or its first message is a request
abbrev pub begins_asked : List Message → Bool
begins_asked [] = true
begins_asked (m ∷ ms) = is_ask m

-- Bytes at the front of the unread ones are read as the messages ms, and leave them. The messages
-- go after the queue; then those before the queue's first request leave it, and their answers go
-- after the output. The need is what the parser said where it found no message in what is left.
pub record ReadsMessages (before : SessionState) (ms : List Message) (after : SessionState) : Type 0 where
  pub read : List ℕ
  pub reads : Reads before.dialect read ms []
  pub dialect : after.dialect ≡ before.dialect
  pub unread : before.unread ≡ read ++ after.unread
  pub not_ended : is_some before.ended ≡ true → ms ≡ []
  pub ended : after.ended ≡ ended_by before.ended ms
  pub queue : after.queue ≡ messages_left (before.queue ++ ms) []
  pub out : after.out ≡ before.out ++ said (before.queue ++ ms) []
  pub need : (after.need ≡ need_after before.need ms) ⊎ IsUnfinished before.dialect after.unread after.need
  pub held : after.held ≡ before.held
  pub input_ended : after.input_ended ≡ before.input_ended

-- The queue's first request gets its reply; then the messages before the next request leave the
-- queue, and the answers go after the output.
abbrev pub with_reply : SessionState → Reply → SessionState
with_reply s reply = record s { queue = messages_left s.queue (reply ∷ []); out = s.out ++ said s.queue (reply ∷ []) }

-- n bytes of the output were given
abbrev pub gave : SessionState → ℕ → SessionState
gave s n = record s { out = drop n s.out }

-- no more input of the session comes
abbrev pub once_input_ended : SessionState → SessionState
once_input_ended s = record s { input_ended = true }

-- what ends the session: a message; or its input has ended, none of it is held, and no message is
-- left in it
abbrev pub ending_of : SessionState → Option EndCause
ending_of s =
    if is_some s.ended then s.ended
    else if s.input_ended && length s.held == 0 && nat_lt (length s.unread) s.need then Some causes.EndOfInput else None

-- how the session has ended, once no request is unsettled and all output was given
abbrev pub finished_by : SessionState → Option EndCause
finished_by s = if length s.queue == 0 && length s.out == 0 then ending_of s else None

-- where a session has finished with its input, all of that was read: no beginning of the unread
-- bytes spells a message
abbrev pub HasReadAll : Option SessionState → Option EndCause → Type 0
HasReadAll o cause = cause ≡ Some causes.EndOfInput → (s : SessionState) → o ≡ Some s → s.ended ≡ None
    → SpellsNone s.dialect s.unread

-- no message before the last is a request
abbrev pub AskAtLast : List Message → Type 0
AskAtLast [] = ⊤
AskAtLast (m ∷ []) = ⊤
AskAtLast (m ∷ n ∷ ms) = (is_ask m ≡ false) × AskAtLast (n ∷ ms)

-- why a session reads no further: it has ended, too much output waits, or no message is left, and
-- the parser isn't called again before its need is there
pub data Stops (s : SessionState) : Type 0 where
  ended : is_some s.ended ≡ true → Stops s
  waiting : MAX_WAITING < length s.out → Stops s
  no_message : length s.unread < s.need → SpellsNone s.dialect s.unread → Stops s

-- the session has no output and no held piece, hasn't finished, and reads no further
pub record IsEmptied (s : SessionState) : Type 0 where
  pub out : s.out ≡ []
  pub held : s.held ≡ []
  pub unfinished : finished_by s ≡ None
  pub stops : Stops s

-- the piece doesn't fit after the unread bytes that are kept; it always does once the session drops
-- its input
abbrev pub IsInputFull : SessionState → List ℕ → Type 0
IsInputFull s piece =
    (s.ended ≡ None) × (max_unread s.dialect s.need < kept_length s.dialect s.unread s.need + length piece)

-- the piece is held
abbrev pub holding : SessionState → List ℕ → SessionState
holding s piece = record s { held = piece }

-- the held piece is fed
abbrev pub held_fed : SessionState → SessionState
held_fed s = record (once_fed s s.held) { held = [] }

-- What becomes of a piece that came: it is fed exactly where it fits, or held where it doesn't.
-- None is fed or held over a held one; one for which there is no memory, or that isn't the only
-- one, changes nothing.
abbrev pub TakesPiece : SessionState → List ℕ → Received → SessionState → Type 0
TakesPiece s piece received.Fed after = (s.held ≡ []) × ¬ (IsInputFull s piece) × (after ≡ once_fed s piece)
TakesPiece s piece received.Held after = (s.held ≡ []) × IsInputFull s piece × (after ≡ holding s piece)
TakesPiece s piece received.Refused after = after ≡ s
TakesPiece s piece received.Unknown after = ⊥

-- What becomes of the held piece: it is fed where it fits, or there is none, or it doesn't fit yet.
-- Out of memory, nothing changes.
abbrev pub FeedsHeld : SessionState → Result Bool NoMemory → SessionState → Type 0
FeedsHeld s (Ok true) after = ¬ (IsInputFull s s.held) × (after ≡ held_fed s)
FeedsHeld s (Ok false) after = ((s.held ≡ []) ⊎ IsInputFull s s.held) × (after ≡ s)
FeedsHeld s (Err e) after = after ≡ s

-- the parser is asked for the next message
pub record IsReady (s : SessionState) : Type 0 where
  pub not_ended : s.ended ≡ None
  pub room : length s.out ≤ MAX_WAITING
  pub enough : s.need ≤ length s.unread

-- A message is read: its spelling leaves the unread bytes, and it goes after the queue.
pub record ReadsMessage (before : SessionState) (m : Message) (after : SessionState) : Type 0 where
  pub piece : List ℕ
  pub spells : Spells before.dialect piece m
  pub dialect : after.dialect ≡ before.dialect
  pub unread : before.unread ≡ piece ++ after.unread
  pub ended : after.ended ≡ ended_by before.ended (m ∷ [])
  pub queue : after.queue ≡ messages_left (before.queue ++ m ∷ []) []
  pub out : after.out ≡ before.out ++ said (before.queue ++ m ∷ []) []
  pub need : after.need ≡ 1
  pub held : after.held ≡ before.held
  pub input_ended : after.input_ended ≡ before.input_ended

-- the parser finds no message, and the session keeps what it needs
pub record TakesNothing (before after : SessionState) : Type 0 where
  pub unfinished : IsUnfinished before.dialect after.unread after.need
  pub rest : after ≡ record before { need = after.need }

-- The next message is read, or there is none yet; or there was no memory for it, or it waits, and
-- it stays unread.
abbrev pub ReadsNext : SessionState → Result (Option Message) Unasked → SessionState → Type 0
ReadsNext before (Ok (Some m)) after = ReadsMessage before m after
ReadsNext before (Ok None) after = TakesNothing before after
ReadsNext before (Err e) after = after ≡ before

-- The next message is looked for, and the call of the parser counted, where the session is ready;
-- where it stops, nothing changes.
pub data TriesNext (before : SessionState) (looks : ℕ) (result : Result (Option Message) Unasked) (after : SessionState)
    (looks_after : ℕ) : Type 0 where
  looked : IsReady before → looks_after ≤ looks + 1 → ReadsNext before result after
      → TriesNext before looks result after looks_after
  at_rest : Stops before → result ≡ Ok None → after ≡ before → looks_after ≡ looks
      → TriesNext before looks result after looks_after

-- Messages of a session are read, none where too much output waits, and looks counts the calls of
-- the parser. Only the last message may be a request: these are the requests read.
pub record ReadsUpTo (before : SessionState) (looks : ℕ) (messages : List Message) (requests : List Request)
    (after : SessionState)
    (looks_after : ℕ) : Type 0 where
  pub reads : ReadsMessages before messages after
  pub ask_at_last : AskAtLast messages
  pub requests_are : asks messages ≡ requests
  pub waits : MAX_WAITING < length before.out → messages ≡ []
  pub most_looks : looks_after ≤ looks + length messages + 1
  pub no_look : length before.unread < before.need → looks_after ≡ looks

abbrev pub given_request : Result (Option Request) Unasked → List Request
given_request (Ok (Some q)) = q ∷ []
given_request (Ok None) = []
given_request (Err e) = []

-- A session is read up to its next request; there is none only where it stops, and one waits or
-- finds no memory only where the parser is to be asked.
pub record ReadsAsk (before : SessionState) (looks : ℕ) (result : Result (Option Request) Unasked)
    (after : SessionState) (looks_after : ℕ) : Type 0 where
  pub messages : List Message
  pub reading : ReadsUpTo before looks messages (given_request result) after looks_after
  pub none : result ≡ Ok None → Stops after
  pub refused : (e : Unasked) → result ≡ Err e → IsReady after
