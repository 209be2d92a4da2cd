-- What may be offered to a session, at any moment of a run.
use Rattle.std.specs.Prelude.{◌≡◌, ℕ, true, false, List, ◌++◌, ◌==◌, map, All}
use Rattle.std.specs.List.{filter}
use Rattle.proto.specs.declared.message.Request.{Request}
use Rattle.proto.specs.declared.history.Posted.{Posted}
use Rattle.proto.specs.declared.dialect.Dialect.{Dialect}
use Rattle.proto.specs.declared.message.Message.{Message}
use Rattle.proto.specs.declared.history.Answered.{Answered}
use Rattle.proto.specs.declared.terms.Terms.{Terms}
use Rattle.proto.specs.declared.logged_clock.ClockStart.{ClockStart}
use Rattle.proto.specs.ClockAnswers.{IsRead}
use Rattle.proto.specs.Sizes.{Sizes}
use Rattle.proto.specs.History.{Legal, RefusesBy, session_share}
use Rattle.proto.specs.Reading.{Reads, asks}
use Rattle.proto.specs.Answers.{said}
use Rattle.exchange.specs.Beginnings.{StartsWith}
use Rattle.exchange.specs.Ends.{TableId, WorkerView}
use Rattle.worker_port.specs.Ports.{PortTrace, fed, given}

-- the sizes, moments by the system's clock, and no request that stores refused
abbrev pub by_system_clock : Sizes → Terms
by_system_clock sizes = record { geometry = sizes; system_clock = true; may_refuse = false }

-- the sizes, moments by any clock, and any refused
abbrev pub by_any_clock : Sizes → Terms
by_any_clock sizes = record { geometry = sizes; system_clock = false; may_refuse = true }

-- the session's requests in the history are the first of the messages', and the bytes begin what is
-- said to these there
pub record BeginsAnswers (history : List Answered) (worker s : ℕ) (bytes : List ℕ) (messages : List Message) : Type 0 where
  pub first : StartsWith (asks messages) (map (λ e. e.request) (session_share history worker s))
  pub begins : StartsWith (said messages (map (λ e. e.reply) (session_share history worker s))) bytes

-- By this history these bytes may go after those that the session took, whatever messages those
-- spell that came of it. The history is legal, and refuses memory as the terms say. Where they say
-- so, the clock's answers in it are readings of the system's clock since one start.
pub record MayBeSent (terms : Terms) (d : Dialect) (worker : ℕ) (history : List Answered) (s : ℕ) (came took bytes : List ℕ)
    : Type 0 where
  pub legal : Legal terms.geometry history
  pub read : terms.system_clock ≡ true → (start : ClockStart) × All (λ e. All (IsRead start) e.clock) history
  pub refused : RefusesBy terms.may_refuse history
  pub said_there : (messages : List Message) (rest : List ℕ) → Reads d came messages rest
      → BeginsAnswers history worker s (took ++ bytes) messages

-- by what the port tells: the history was told at its exchange, it begins with that of the last
-- give, and these bytes may be sent
pub record MayBeGiven (trace : PortTrace) (told_at : TableId) (history : List Answered) (s : ℕ) (bytes : List ℕ)
    : Type 0 where
  pub exchange : told_at ≡ trace.exchange
  pub later : StartsWith history trace.history
  pub may : MayBeSent trace.terms trace.dialect trace.worker history s (fed s trace.events) (given s trace.events) bytes

-- the requests of a session among those that were sent
abbrev pub sent_for : List Posted → ℕ → List Request
sent_for sent s = map (λ (p : Posted). p.request) (filter (λ (p : Posted). p.session == s) sent)

-- The worker w of this exchange is the port's. For each session it has sent only requests that the
-- bytes spell which came of it, from the first one on.
pub record HasAskedOnly (trace : PortTrace) (sent_at : TableId) (w : ℕ) (sent : List Posted) : Type 0 where
  pub exchange : sent_at ≡ trace.exchange
  pub worker : w ≡ trace.worker
  pub asked : (s : ℕ) (messages : List Message) (rest : List ℕ) → Reads trace.dialect (fed s trace.events) messages rest
      → StartsWith (asks messages) (sent_for sent s)

-- The exchange, the terms and the number are those of the worker's end, and its history begins with
-- that of the last give.
pub record IsOf (exchange : TableId) (worker : ℕ) (terms : Terms) (history : List Answered) (end : WorkerView) : Type 0 where
  pub exchange_is : exchange ≡ end.exchange
  pub worker_is : worker ≡ end.worker
  pub terms_are : terms ≡ end.terms
  pub later : StartsWith end.seen history

abbrev pub IsTraceOf : PortTrace → WorkerView → Type 0
IsTraceOf trace end = IsOf trace.exchange trace.worker trace.terms trace.history end
