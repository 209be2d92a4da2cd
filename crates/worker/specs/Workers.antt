-- What stays true of a worker while it runs.
use Rattle.std.specs.Prelude.{◌≡◌, ℕ, ◌+◌, ◌-◌, ◌^◌, ◌≤◌, ⊤, Bool, true, false, is_some, List}
use Rattle.std.specs.Prelude.{[], ◌∷◌, ◌++◌, length, map, take, drop}
use Rattle.std.specs.Prelude.{min, Option, Some, None}
use Rattle.std.specs.Option.{option_to_list, option_map}
use mathlib.Core.Option.{some}
use lib.ListN.{get_elem?}
use Rattle.proto.specs.declared.history.Posted.{Posted}
use Rattle.proto.specs.declared.history.Answered.{Answered}
use Rattle.proto.specs.History.{asked_posted}
use Rattle.exchange.specs.Ends.{WorkerView, WorkerLaneView, WasTold, with_put_sent}
use Rattle.exchange.specs.Beginnings.{StartsWith, posted_of}
use Rattle.session_book.specs.declared.causes.EndCause.{EndCause}
use Rattle.session_book.specs.declared.causes.Unsettled.{Unsettled}
use Rattle.session_book.specs.declared.causes.EndCause.TheVariants as causes
use Rattle.session_book.specs.Session.{SessionState, IsEmptied, new_session, once_fed, holding}
use Rattle.session_book.specs.Book.{BookState, session_of, ChangesSession, OnlyAt}
use Rattle.worker_port.specs.declared.events.PortRecord.{PortRecord}
use Rattle.worker_port.specs.declared.events.PortRecord.TheVariants as was
use Rattle.worker.specs.declared.worker.WorkerState.{WorkerState}
use Rattle.worker_port.specs.Ports.{PortTrace, then_told, with_pause, is_in, is_open, opened_count}
use Rattle.worker_port.specs.Giving.{IsTraceOf}
use Rattle.worker.specs.Sessions.{RunView, facts, AreFactsConsistent}
use Rattle.worker.specs.EndCauses.{CausesRiseFrom, with_cause, piece_of}

-- a worker's end as it is once all that was put is flushed: so what was put counts as sent
abbrev pub once_flushed : WorkerLaneView → WorkerView
once_flushed batch = (with_put_sent batch).end

abbrev pub end_of : {P : Type 0} → WorkerState P → WorkerView
end_of w = once_flushed w.batch

-- the requests that got numbers: those that were sent, and the one that is held
abbrev pub numbered_by : WorkerView → Option Posted → List Posted
numbered_by end request = end.sent ++ option_to_list request

-- a held request has the number after those that were sent
abbrev pub IsNumbered : WorkerView → Option Posted → Type 0
IsNumbered end None = ⊤
IsNumbered end (Some p) = p.number ≡ length end.sent + 1

abbrev pub unsettled_post : Posted → Unsettled
unsettled_post p = record { number = p.number; session = p.session }

-- The end and the book agree: the book's unsettled requests are those with numbers that didn't come
-- back.
pub record IsSteady (end : WorkerView) (request : Option Posted) (book : BookState) : Type 0 where
  pub running : end.said_bye ≡ false
  pub numbered : book.numbered ≡ length (numbered_by end request)
  pub held : IsNumbered end request
  pub unsettled : book.unsettled ≡ map unsettled_post (drop (length end.back) (numbered_by end request))
  pub back : asked_posted end.back ≡ take (length end.back) end.sent
  pub told : WasTold end

-- All that is known where the port tells its list.
pub record IsTraceKnown (v : RunView) (unopened : ℕ) (ended : Bool) : Type 0 where
  pub each : (s : ℕ) → AreFactsConsistent (facts v s)
  pub rising : CausesRiseFrom 0 v.sessions
  pub counted : (length v.sessions ≤ opened_count v.events)
      × (unopened ≡ min (opened_count v.events - length v.sessions) (2 ^ 64 - 1))
  pub at_end : is_in was.Ended v.events ≡ ended
  pub accepts : (before behind : List PortRecord) (s : ℕ) (bytes : List ℕ) → v.events ≡ before ++ was.Accepted s bytes ∷ behind
      → is_open s before ≡ true

abbrev pub run_view : {P : Type 0} → PortTrace → WorkerState P → RunView
run_view trace w =
    record {
      dialect = trace.dialect;
      events = trace.events;
      numbered = numbered_by (end_of w) w.request;
      back = (end_of w).back;
      sessions = w.sessions.items;
      book = w.book;
      piece = piece_of w.book;
    }

-- each session of which bytes are held is paused
abbrev pub ArePaused : PortTrace → (ℕ → List ℕ) → Type 0
ArePaused trace piece = (s : ℕ) → (piece s ≡ [] → ⊥) → trace.paused s ≡ true

-- the trace is that of the end's worker, and its bytes are read in the dialect of the worker's book
abbrev pub IsTraceBy : PortTrace → WorkerView → BookState → Type 0
IsTraceBy trace end book = IsTraceOf trace end × (trace.dialect ≡ book.dialect)

-- what stays true of a worker over a port
pub record IsWorkerServing {P : Type 0} (told : P → Option PortTrace) (w : WorkerState P) : Type 0 where
  pub steady : IsSteady (end_of w) w.request w.book
  pub strangers : w.strangers ≡ 0
  pub known : (trace : PortTrace) → told w.port ≡ Some trace → IsTraceKnown (run_view trace w) w.unopened w.ended
  pub paused : (trace : PortTrace) → told w.port ≡ Some trace → ArePaused trace (piece_of w.book)
  pub whose : (trace : PortTrace) → told w.port ≡ Some trace → IsTraceBy trace (end_of w) w.book

-- it is the same end, later
pub record IsSameEnd (old new : WorkerView) : Type 0 where
  pub exchange : new.exchange ≡ old.exchange
  pub worker : new.worker ≡ old.worker

-- the end, later: its history begins with the one that it was told of before
pub record IsLaterEnd (old new : WorkerView) : Type 0 where
  pub exchange : new.exchange ≡ old.exchange
  pub worker : new.worker ≡ old.worker
  pub terms : new.terms ≡ old.terms
  pub later : StartsWith new.seen old.seen

-- the end looked for an answer and found none
pub record TakesNone (old new : WorkerView) : Type 0 where
  pub sent : new.sent ≡ old.sent
  pub back : new.back ≡ old.back
  pub running : new.said_bye ≡ old.said_bye
  pub same : IsSameEnd old new
  pub told : WasTold old → WasTold new
  pub later : IsLaterEnd old new

-- the end took back the next answer, that of the first request that hadn't come back
pub record TakesBack (old new : WorkerView) (a : Answered) : Type 0 where
  pub own : get_elem? old.sent (length old.back) ≡ some (posted_of a)
  pub sent : new.sent ≡ old.sent
  pub running : new.said_bye ≡ old.said_bye
  pub back : new.back ≡ old.back ++ a ∷ []
  pub same : IsSameEnd old new
  pub told : WasTold old → WasTold new
  pub later : IsLaterEnd old new

-- the worker goes on: over the same port, later, at the same end, and in the same dialect
pub record Continues {P : Type 0} (told : P → Option PortTrace) (leads_to : P → P → Type 0)
    (old new : WorkerState P) : Type 0 where
  pub tells : is_some (told new.port) ≡ is_some (told old.port)
  pub leads : leads_to old.port new.port
  pub same_end : IsSameEnd (end_of old) (end_of new)
  pub dialect : new.book.dialect ≡ old.book.dialect

-- Of a worker only the port and what it knows of this session change: it is no longer in the book,
-- with its held piece, and the cause stands at its entry in the report.
pub record Closes {P : Type 0} (old new : WorkerState P) (session : ℕ) (cause : EndCause) : Type 0 where
  pub end : end_of new ≡ end_of old
  pub request : new.request ≡ old.request
  pub book : ChangesSession old.book new.book session None
  pub sessions : CausesRiseFrom 0 old.sessions.items → new.sessions.items ≡ with_cause old.sessions.items session cause
  pub unopened : new.unopened ≡ old.unopened
  pub strangers : new.strangers ≡ old.strangers
  pub ended : new.ended ≡ old.ended

-- the session is shut at the port, and closed
pub record Shuts {P : Type 0} (told : P → Option PortTrace) (old new : WorkerState P) (session : ℕ)
    (cause : EndCause) : Type 0 where
  pub port : told new.port ≡ option_map (then_told (was.Shut session ∷ [])) (told old.port)
  pub closes : Closes old new session cause

-- A session was just opened: it has an entry in the report and is in the book; or it is shut and
-- counted.
pub record Admits {P : Type 0} (told : P → Option PortTrace) (old new : WorkerState P) (session : ℕ) : Type 0 where
  pub port : new.port ≡ old.port
  pub sessions : new.sessions.items ≡ old.sessions.items ++ (session, causes.Drained) ∷ []
  pub book : OnlyAt old.book new.book session (Some (new_session old.book.dialect))
  pub counts : (new.book.numbered ≡ old.book.numbered) × (new.book.unsettled ≡ old.book.unsettled)
  pub dialect : new.book.dialect ≡ old.book.dialect
  pub unopened : new.unopened ≡ old.unopened

pub record Refuses {P : Type 0} (told : P → Option PortTrace) (old new : WorkerState P) (session : ℕ) : Type 0 where
  pub port : told new.port ≡ option_map (then_told (was.Shut session ∷ [])) (told old.port)
  pub sessions : new.sessions.items ≡ old.sessions.items
  pub book : new.book ≡ old.book
  pub unopened : new.unopened ≡ min (old.unopened + 1) (2 ^ 64 - 1)

-- what doesn't change when a session is opened
pub record SameRest {P : Type 0} (old new : WorkerState P) : Type 0 where
  pub end : end_of new ≡ end_of old
  pub request : new.request ≡ old.request
  pub strangers : new.strangers ≡ old.strangers
  pub ended : new.ended ≡ old.ended

-- the rest of the worker
pub record LeavesWorker {P : Type 0} (old new : WorkerState P) : Type 0 where
  pub end : end_of new ≡ end_of old
  pub request : new.request ≡ old.request
  pub sessions : new.sessions.items ≡ old.sessions.items
  pub unopened : new.unopened ≡ old.unopened
  pub strangers : new.strangers ≡ old.strangers
  pub ended : new.ended ≡ old.ended

-- the piece is held, and nothing else changes but for a pause
pub record HoldsPiece {P : Type 0} (told : P → Option PortTrace) (old : WorkerState P) (session : ℕ) (bytes : List ℕ)
    (new : WorkerState P) : Type 0 where
  pub book : ChangesSession old.book new.book session (option_map (λ s. holding s bytes) (session_of old.book session))
  pub port : told new.port ≡ option_map (with_pause session true) (told old.port)
  pub leaves : LeavesWorker old new

-- A piece of input came: it is fed, or held, or its session is shut as memory ran out; a session
-- that isn't open drops it. That bytes are held already is a reason to shut only at a port that
-- tells nothing.
pub data HandlesData {P : Type 0} (told : P → Option PortTrace) (old : WorkerState P) (session : ℕ) (bytes : List ℕ)
    (new : WorkerState P) : Type 0 where
  feeds : piece_of old.book session ≡ []
      → ChangesSession old.book new.book session (option_map (λ s. once_fed s bytes) (session_of old.book session))
      → new.port ≡ old.port
      → LeavesWorker old new → HandlesData told old session bytes new
  holds : piece_of old.book session ≡ [] → HoldsPiece told old session bytes new
      → HandlesData told old session bytes new
  shuts : ((piece_of old.book session ≡ [] → ⊥) → told old.port ≡ None) → Shuts told old new session causes.NoMemory
      → HandlesData told old session bytes new
  drops : session_of old.book session ≡ None → new.book ≡ old.book → new.port ≡ old.port → LeavesWorker old new
      → HandlesData told old session bytes new

-- nothing is held or outstanding, and each session that is still open is emptied
pub record IsDrained {P : Type 0} (w : WorkerState P) : Type 0 where
  pub ended : w.ended ≡ true
  pub request : w.request ≡ None
  pub back : length (end_of w).back ≡ length (end_of w).sent
  pub emptied : (session : ℕ) (s : SessionState) → session_of w.book session ≡ Some s → IsEmptied s
