-- What a port has still to play, and what its calls change of that.
use Rattle.std.specs.Prelude.{◌≡◌, ◌≢◌, ℕ, ◌-◌, ◌<◌, ◌==◌, ◌||◌, ◌⊎◌, nat_lt, min, Bool, true, false, List, []}
use Rattle.std.specs.Prelude.{◌∷◌, ◌++◌, length}
use Rattle.std.specs.Prelude.{take, Result, Ok, Err, Option, Some}
use Rattle.std.specs.Prelude.{None, if◌then◌else◌}
use Rattle.std.proofs.Common.{refl, ◌∙◌}
use Rattle.std.specs.List.{AllByRecursion}
use Rattle.script.specs.declared.event.ScriptEvent.{ScriptEvent}
use Rattle.script.specs.declared.event.ScriptEvent.TheVariants as script
use Rattle.proto.specs.declared.dialect.Dialect.{Dialect}
use Rattle.proto.specs.Sizes.{Sizes}
use Rattle.proto.specs.declared.history.Answered.{Answered}
use Rattle.exchange.specs.Ends.{TableId}
use Rattle.worker_port.specs.declared.events.PortEvent.{PortEvent}
use Rattle.worker_port.specs.declared.events.PortEvent.TheVariants as event
use Rattle.worker_port.specs.declared.events.PortRecord.{PortRecord}
use Rattle.worker_port.specs.declared.events.Gone.{Gone}
use Rattle.worker_port.specs.Giving.{by_any_clock}
use Rattle.worker_port.specs.Ports.{PortTrace, is_open}
use Rattle.script.specs.PortEvents.{event_session, events_without, send_after, is_playable}
use Rattle.script.specs.PortSessions.{ScriptSessionState, is_session_paused}
use Rattle.script.specs.Remaining.{RemainingState}

-- ---- what is played

-- The script that was handed in, the events of it that are left, the sessions that were opened, the
-- list of the port's events, the most bytes that a `give` accepts, and the number of the `give`
-- from now that fails; 0 is none for either. And whether one could fail from the beginning.
pub record PlayerState : Type 0 where
  pub script : List ScriptEvent
  pub left : List ScriptEvent
  pub sessions : List ScriptSessionState
  pub records : List PortRecord
  pub accept : ℕ
  pub fail_give : ℕ
  pub can_fail : Bool

-- What contracts see of a player. Its events have those of closed sessions too.
pub record PlayerParts : Type 0 where
  pub script : List ScriptEvent
  pub events : RemainingState
  pub sessions : List ScriptSessionState
  pub records : List PortRecord
  pub accept : ℕ
  pub fail_give : ℕ
  pub can_fail : Bool
  pub ended : Bool

-- nothing is paused or resumed, but for what becomes of this session
abbrev pub KeepsOthers : ℕ → PlayerState → PlayerState → Type 0
KeepsOthers session old new = (t : ℕ) → t ≢ session → is_session_paused new.sessions t ≡ is_session_paused old.sessions t

-- the first event left whose session isn't paused is this one; after the call this stands in its
-- place
pub record TakesEvent (old : PlayerState) (e : ScriptEvent) (rest : List ScriptEvent)
    (left : List ScriptEvent) : Type 0 where
  pub before : List ScriptEvent
  pub after : List ScriptEvent
  pub old_is : old.left ≡ before ++ e ∷ after
  pub paused : AllByRecursion (λ (x : ScriptEvent). is_session_paused old.sessions (event_session x) ≡ true) before
  pub free : is_session_paused old.sessions (event_session e) ≡ false
  pub left_is : left ≡ before ++ rest ++ after

-- The next event: the first one left whose session isn't paused, of a send its next piece. Behind
-- Gone no event of the session is left. A script ends no input of a session that is open.
abbrev pub Plays : PlayerState → PortEvent → PlayerState → Type 0
Plays old (event.Opened s) new = TakesEvent old (script.Open s) [] new.left
Plays old (event.Data s piece) new =
    (bytes : List ℕ) × (piece ≡ take 16384 bytes) × TakesEvent old (script.Send s bytes) (send_after s bytes) new.left
Plays old (event.EndOfInput s) new = ⊥
Plays old (event.Gone s) new =
    (left : List ScriptEvent) × TakesEvent old (script.Gone s) [] left × (new.left ≡ events_without s left)
Plays old event.Idle new = new ≡ old
Plays old event.Ended new = (old.left ≡ []) × (new.left ≡ [])

-- neither the script nor the faults change, and nothing is paused or resumed
abbrev pub PortGoesOn : PlayerState → PlayerState → Type 0
PortGoesOn old new = (new.script ≡ old.script) × (new.accept ≡ old.accept) × (new.fail_give ≡ old.fail_give)
    × ((t : ℕ) → is_session_paused new.sessions t ≡ is_session_paused old.sessions t)

-- the count of offers of at least one byte, until the one that fails
abbrev pub count_down : ℕ → List ℕ → ℕ
count_down n [] = n
count_down n (x ∷ bytes) = n - 1

-- the offer of at least one byte that fails
abbrev pub Fails : PlayerState → List ℕ → Type 0
Fails player bytes = (player.fail_give ≡ 1) × (0 < length bytes)

-- the most bytes of these that a `give` accepts; 0 stands for any number
abbrev pub most_accepted : ℕ → List ℕ → ℕ
most_accepted accept bytes = if accept == 0 then length bytes else min accept (length bytes)

-- A `give`: it fails exactly at the offer that was said to, and the session's events that are left
-- are dropped. Else it accepts all that it may, or, out of memory, nothing.
abbrev pub Gives : PlayerState → ℕ → List ℕ → Result ℕ Gone → PlayerState → Type 0
Gives old s bytes (Err e) new =
    Fails old bytes × (new.left ≡ events_without s old.left) × (is_session_paused new.sessions s ≡ false) × KeepsOthers s old new
Gives old s bytes (Ok n) new =
    (Fails old bytes → ⊥) × ((n ≡ 0) ⊎ (n ≡ most_accepted old.accept bytes)) × (new.left ≡ old.left)
    × ((t : ℕ) → is_session_paused new.sessions t ≡ is_session_paused old.sessions t)

abbrev pub CountsGive : PlayerState → List ℕ → PlayerState → Type 0
CountsGive old bytes new =
    (new.script ≡ old.script) × (new.accept ≡ old.accept) × (new.fail_give ≡ count_down old.fail_give bytes)

-- the session is paused, or resumed, and nothing else changes
pub record SetsPaused (old : PlayerState) (s : ℕ) (paused : Bool) (new : PlayerState) : Type 0 where
  pub rest : new ≡ record old { sessions = new.sessions }
  pub here : is_session_paused new.sessions s ≡ paused
  pub others : KeepsOthers s old new

-- the session's events that are left are dropped, and it is paused no more
pub record DropsSession (old : PlayerState) (s : ℕ) (new : PlayerState) : Type 0 where
  pub left : new.left ≡ events_without s old.left
  pub here : is_session_paused new.sessions s ≡ false
  pub others : KeepsOthers s old new
  pub faults : (new.script ≡ old.script) × (new.accept ≡ old.accept) × (new.fail_give ≡ old.fail_give)

-- with these faults from now on
abbrev pub with_faults : ℕ → ℕ → PlayerState → PlayerState
with_faults accept fail_give player = record player {
  accept = accept;
  fail_give = fail_give;
  can_fail = player.can_fail || nat_lt 0 fail_give;
}

-- of which nothing was asked yet
abbrev pub new_player : List ScriptEvent → PlayerState
new_player events = record {
  script = events;
  left = events;
  sessions = [];
  records = [];
  accept = 0;
  fail_give = 0;
  can_fail = false;
}

-- ---- the port

-- What it plays, the sizes by which histories are judged, the dialect of what its sessions send,
-- its worker's number, the exchange of that worker's end, and the history by which bytes were given
-- last.
pub record PortState : Type 0 where
  pub player : PlayerState
  pub sizes : Sizes
  pub dialect : Dialect
  pub worker : ℕ
  pub exchange : TableId
  pub history : List Answered

-- its list and which sessions are paused, and whose port it is
abbrev pub script_trace : PortState → PortTrace
script_trace port = record {
  events = port.player.records;
  paused = is_session_paused port.player.sessions;
  terms = by_any_clock port.sizes;
  dialect = port.dialect;
  worker = port.worker;
  exchange = port.exchange;
  history = port.history;
}

-- they are told where the events of the script may come as they stand
abbrev pub trace_told : PortState → Option PortTrace
trace_told port = if is_playable port.player.script then Some (script_trace port) else None

-- where the port tells, the session is open
abbrev pub IsOpenWhereTold : PortState → ℕ → Type 0
IsOpenWhereTold port s = (trace : PortTrace) → trace_told port ≡ Some trace → is_open s trace.events ≡ true

-- a port that plays the same script, accepts as much at once, and can fail where it could
abbrev pub PlaysOn : PortState → PortState → Type 0
PlaysOn old new = (new.player.script ≡ old.player.script) × (new.player.accept ≡ old.player.accept)
    × (new.player.can_fail ≡ old.player.can_fail)

-- it does, and so it still does later
pub plays_same : (port : PortState) → PlaysOn port port
plays_same port = (refl, refl, refl)

pub plays_later : (first second third : PortState) → PlaysOn first second → PlaysOn second third → PlaysOn first third
plays_later first second third before after = (after.0 ∙ before.0, after.1 ∙ before.1, after.2 ∙ before.2)

-- a worker's port of which nothing was asked yet
abbrev pub IsNewPort : Sizes → Dialect → ℕ → TableId → List ScriptEvent → PortState → Type 0
IsNewPort sizes d worker exchange events port =
    port ≡ record {
      player = new_player events;
      sizes = sizes;
      dialect = d;
      worker = worker;
      exchange = exchange;
      history = [];
    }
