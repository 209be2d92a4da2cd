-- What a port over sockets tells.
use Rattle.std.specs.Prelude.{◌≡◌, ⊤, ℕ, ◌+◌, ◌<◌, true, false, List, [], length, Option, MatchOption}
use Rattle.proto.specs.declared.dialect.Dialect.{Dialect}
use Rattle.proto.specs.Sizes.{Sizes}
use Rattle.proto.specs.declared.terms.Terms.{Terms}
use Rattle.proto.specs.declared.history.Answered.{Answered}
use Rattle.worker_port.specs.declared.events.PortRecord.{PortRecord}
use Rattle.worker_port.specs.declared.events.PortEvent.{PortEvent}
use Rattle.worker_port.specs.declared.events.PortEvent.TheVariants as event
use Rattle.worker_port.specs.declared.events.PortRecord.TheVariants as was
use Rattle.exchange.specs.Beginnings.{StartsWith}
use Rattle.exchange.specs.Ends.{TableId}
use Rattle.worker_port.specs.Giving.{by_system_clock}
use Rattle.worker_port.specs.Ports.{PortTrace, told_last, event_records, then_told, MayCome, is_open, is_in, opened_count}
use Rattle.net.specs.declared.streams.Streams.{Streams}
use Rattle.net.specs.Shown.{shown_stream}
use Rattle.net.specs.Seen.{Seen, is_paused_stream}

-- whose port it is, and the history by which bytes were given last
pub record Whose : Type 0 where
  pub terms : Terms
  pub dialect : Dialect
  pub worker : ℕ
  pub exchange : TableId
  pub history : List Answered

abbrev pub whose_of : Streams → Whose
whose_of streams =
    record {
      terms = by_system_clock streams.owner.geometry;
      dialect = streams.owner.dialect;
      worker = streams.owner.worker;
      exchange = streams.exchange;
      history = told_last streams.history;
    }

-- the trace of these streams and this list
abbrev pub trace : Whose → (ℕ → Option Seen) → List PortRecord → PortTrace
trace whose streams events =
    record {
      events = events;
      paused = λ s. is_paused_stream (streams s);
      terms = whose.terms;
      dialect = whose.dialect;
      worker = whose.worker;
      exchange = whose.exchange;
      history = whose.history;
    }

abbrev pub trace_of : Streams → PortTrace
trace_of streams = trace (whose_of streams) (shown_stream streams.open.entries) streams.told.items

-- the port of this worker, of which nothing was told
pub record IsNew (sizes : Sizes) (d : Dialect) (worker : ℕ) (exchange : TableId) (trace : PortTrace) : Type 0 where
  pub none : trace.events ≡ []
  pub terms_are : trace.terms ≡ by_system_clock sizes
  pub dialect_is : trace.dialect ≡ d
  pub worker_is : trace.worker ≡ worker
  pub exchange_is : trace.exchange ≡ exchange
  pub untold : trace.history ≡ []

-- the paused sessions are the open ones whose stream is paused
abbrev pub PausesAgree : (ℕ → Option Seen) → PortTrace → Type 0
PausesAgree streams trace = (s : ℕ) → trace.paused s ≡ is_paused_stream (streams s)

-- the end was not told yet
abbrev pub GoesOn : PortTrace → Type 0
GoesOn trace = is_in was.Ended trace.events ≡ false

-- the session is open
abbrev pub HasOpen : ℕ → PortTrace → Type 0
HasOpen s trace = is_open s trace.events ≡ true

-- no session is open
abbrev pub HasNoneOpen : PortTrace → Type 0
HasNoneOpen trace = (s : ℕ) → is_open s trace.events ≡ false

-- sessions are numbered from 1, a piece has some bytes, and no session is open at the end
abbrev pub IsInOrder : PortTrace → PortEvent → Type 0
IsInOrder before (event.Opened s) = s ≡ opened_count before.events + 1
IsInOrder before (event.Data s bytes) = 0 < length bytes
IsInOrder before (event.EndOfInput s) = ⊤
IsInOrder before (event.Gone s) = ⊤
IsInOrder before event.Idle = ⊤
IsInOrder before event.Ended = HasNoneOpen before

-- the event may come, and was told
pub record Tells (before : PortTrace) (e : PortEvent) (after : PortTrace) : Type 0 where
  pub told : after ≡ then_told (event_records e) before
  pub may : MayCome before e
  pub orders : IsInOrder before e

-- the same where an event came; else nothing was told
abbrev pub MayTell : PortTrace → Option PortEvent → PortTrace → Type 0
MayTell before event after = MatchOption event (after ≡ before) (λ e. Tells before e after)

-- no session was opened
abbrev pub KeepsSockets : Streams → Streams → Type 0
KeepsSockets before after = after.sockets.items ≡ before.sockets.items

-- nothing was told, and no session was opened
abbrev pub TellsNothing : Streams → Streams → Type 0
TellsNothing before after = (trace_of after ≡ trace_of before) × KeepsSockets before after

-- the sessions keep their sockets; after them stand those of the sessions that were opened
-- meanwhile
abbrev pub AddsSockets : Streams → Streams → Type 0
AddsSockets before after = StartsWith after.sockets.items before.sockets.items
