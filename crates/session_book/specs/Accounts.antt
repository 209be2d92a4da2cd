-- What a session's book says of a whole run: the bytes given and the output are what was said.
use Rattle.std.specs.Prelude.{◌≡◌, ℕ, ◌+◌, ◌<◌, ◌⊎◌, true, List, [], ◌∷◌, ◌++◌, length, take, None, is_some}
use Rattle.proto.specs.declared.dialect.Dialect.{Dialect}
use Rattle.proto.specs.declared.message.Reply.{Reply}
use Rattle.proto.specs.declared.message.Message.{Message}
use Rattle.proto.specs.Grammar.{SpellsNone}
use Rattle.proto.specs.Reading.{Reads, asks}
use Rattle.proto.specs.Answers.{said}
use Rattle.session_book.specs.Session.{SessionState, new_session, messages_left, ended_by, once_fed, ReadsMessages}
use Rattle.session_book.specs.Session.{with_reply, gave}

-- Of a session with lines of this dialect the bytes fed were read as the messages ms; once Quit or
-- a fatal message was read, further bytes were dropped.
pub record HasRead (d : Dialect) (fed_bytes : List ℕ) (ms : List Message) (s : SessionState) : Type 0 where
  pub read : List ℕ
  pub dropped : List ℕ
  pub whole : fed_bytes ≡ read ++ s.unread ++ dropped
  pub dialect : s.dialect ≡ d
  pub reads : Reads d read ms []
  pub ended : s.ended ≡ ended_by None ms
  pub nothing_dropped : s.ended ≡ None → dropped ≡ []

-- Of a session the messages ms were read and these replies settled: the bytes given and the output
-- after them are what was said, the queue is what is left to say, and each unsettled request is in
-- it.
pub record HasSaid (ms : List Message) (replies : List Reply) (given : List ℕ) (s : SessionState) : Type 0 where
  pub whole : given ++ s.out ≡ said ms replies
  pub queue : s.queue ≡ messages_left ms replies
  pub replied : length replies + length (asks s.queue) ≡ length (asks ms)

-- both hold of a new session
abbrev pub StartsAccounts : Type 0
StartsAccounts = (d : Dialect) → HasRead d [] [] (new_session d) × HasSaid [] [] [] (new_session d)

-- feeding, reading, settling and giving keep them
abbrev pub FeedKeeps : Type 0
FeedKeeps =
    (d : Dialect) (bytes piece given : List ℕ) (ms : List Message) (replies : List Reply) (s : SessionState)
    → HasRead d bytes ms s → HasSaid ms replies given s
    → HasRead d (bytes ++ piece) ms (once_fed s piece) × HasSaid ms replies given (once_fed s piece)

abbrev pub ReadKeeps : Type 0
ReadKeeps =
    (d : Dialect) (bytes given : List ℕ) (ms more : List Message) (replies : List Reply) (s after : SessionState)
    → ReadsMessages s more after → HasRead d bytes ms s → HasSaid ms replies given s
    → HasRead d bytes (ms ++ more) after × HasSaid (ms ++ more) replies given after

abbrev pub SettleKeeps : Type 0
SettleKeeps =
    (d : Dialect) (bytes given : List ℕ) (ms : List Message) (replies : List Reply) (reply : Reply) (s : SessionState)
    → 0 < length (asks s.queue) → HasRead d bytes ms s → HasSaid ms replies given s
    → HasRead d bytes ms (with_reply s reply) × HasSaid ms (replies ++ reply ∷ []) given (with_reply s reply)

abbrev pub GiveKeeps : Type 0
GiveKeeps =
    (d : Dialect) (bytes given : List ℕ) (n : ℕ) (ms : List Message) (replies : List Reply) (s : SessionState)
    → HasRead d bytes ms s → HasSaid ms replies given s
    → HasRead d bytes ms (gave s n) × HasSaid ms replies (given ++ take n s.out) (gave s n)

-- the messages read are the first of those that the bytes spell
abbrev pub ReadBegins : Type 0
ReadBegins =
    (d : Dialect) (bytes rest : List ℕ) (ms all : List Message) (s : SessionState)
    → HasRead d bytes ms s → Reads d bytes all rest → (more : List Message) × (all ≡ ms ++ more)

-- and all of them, once the session has ended or no message is left
abbrev pub ReadIsWhole : Type 0
ReadIsWhole =
    (d : Dialect) (bytes rest : List ℕ) (ms all : List Message) (s : SessionState)
    → (is_some s.ended ≡ true) ⊎ SpellsNone d s.unread → HasRead d bytes ms s → Reads d bytes all rest → all ≡ ms

-- the bytes given are the first of what is said to more messages with more replies
abbrev pub SaidBegins : Type 0
SaidBegins =
    (given : List ℕ) (ms more : List Message) (replies others : List Reply) (s : SessionState)
    → HasSaid ms replies given s → (behind : List ℕ) × (said (ms ++ more) (replies ++ others) ≡ given ++ behind)

-- and all of it, once the queue and the output are empty; then each request has its reply
abbrev pub SaidIsWhole : Type 0
SaidIsWhole =
    (given : List ℕ) (ms : List Message) (replies : List Reply) (s : SessionState)
    → s.queue ≡ [] → s.out ≡ [] → HasSaid ms replies given s
    → (given ≡ said ms replies) × (length replies ≡ length (asks ms))
