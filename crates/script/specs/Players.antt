-- How the events that are left, the sessions and the list of events fit together.
use Rattle.std.specs.Prelude.{◌≡◌, ℕ, ◌<◌, ◌≤◌, ◌⊎◌, Bool, true, false, not, ◌&&◌, ◌||◌, List, [], ◌∷◌, ◌++◌, filter}
use Rattle.std.specs.Prelude.{Option, Some, None, Result}
use Rattle.std.specs.List.{AllByRecursion}
use Rattle.script.specs.declared.event.ScriptEvent.{ScriptEvent}
use Rattle.proto.specs.declared.dialect.Dialect.{Dialect}
use Rattle.proto.specs.Sizes.{Sizes}
use Rattle.proto.specs.declared.history.Answered.{Answered}
use Rattle.exchange.specs.Ends.{TableId}
use Rattle.worker_port.specs.declared.events.PortRecord.{PortRecord}
use Rattle.worker_port.specs.declared.events.PortRecord.TheVariants as was
use Rattle.worker_port.specs.declared.events.PortEvent.{PortEvent}
use Rattle.worker_port.specs.declared.events.Gone.{Gone}
use Rattle.worker_port.specs.Ports.{is_in}
use Rattle.worker_port.specs.Ports as list
use Rattle.worker_port.specs.PortFacts.{PortFacts, port_facts}
use Rattle.script.specs.declared.player.Player.{Player}
use Rattle.script.specs.declared.player.Player.TheInside.{Inside}
use Rattle.script.specs.PortEvents.{event_session, plays_from, is_playable}
use Rattle.script.specs.Remaining.{in_order}
use Rattle.script.specs.PortSessions.{ScriptSessionState, numbers, newest, session_entry, is_closed, was_closed}
use Rattle.script.specs.PortSessions.{is_session_open, is_session_paused}
use Rattle.script.specs.Records.{opened_sessions, give_records}
use Rattle.script.specs.Following.{Follows, MayGo}
use Rattle.script.specs.States.{PlayerState, script_trace, Plays, PortGoesOn, DropsSession, Gives, Fails, count_down}

abbrev pub is_left : List ScriptSessionState → ScriptEvent → Bool
is_left sessions e = not (was_closed sessions (event_session e))

-- the events of the sessions that are neither gone nor shut
abbrev pub events_left : List ScriptSessionState → List ScriptEvent → List ScriptEvent
events_left sessions events = filter (is_left sessions) events

abbrev pub is_ready : List ScriptSessionState → ScriptEvent → Bool
is_ready sessions e = is_left sessions e && not (is_session_paused sessions (event_session e))

-- none of these events may be played now
abbrev pub NoneReady : List ScriptSessionState → List ScriptEvent → Type 0
NoneReady sessions events = AllByRecursion (λ (e : ScriptEvent). is_ready sessions e ≡ false) events

-- what contracts see of a player's fields
abbrev pub parts_of : Inside → Player
parts_of p = record {
  script = p.script.value.items;
  events = p.events;
  sessions = p.sessions;
  records = p.records.items;
  accept = p.accept;
  fail_give = p.fail_give;
  can_fail = p.can_fail;
  ended = p.ended;
}

abbrev pub player_state : Player → PlayerState
player_state p = record {
  script = p.script;
  left = events_left p.sessions (in_order p.events);
  sessions = p.sessions;
  records = p.records;
  accept = p.accept;
  fail_give = p.fail_give;
  can_fail = p.can_fail;
}

-- what the list says of a session that isn't there, or is
abbrev pub Agrees : Option ScriptSessionState → PortFacts → Type 0
Agrees None f = (f.opened ≡ false) × (f.gone ≡ false) × (f.shut ≡ false) × (f.given ≡ [])
Agrees (Some x) f = (f.opened ≡ true) × ((f.gone || f.shut) ≡ is_closed x.stage) × (f.given ≡ x.output)

pub record IsPlayerConsistent (p : Player) : Type 0 where
  pub each : (s : ℕ) → Agrees (session_entry p.sessions s) (port_facts p.records s)
  pub opened_are : numbers p.sessions ≡ opened_sessions p.records
  pub rising : (s : ℕ) (x : ScriptSessionState) → session_entry p.sessions s ≡ Some x → s ≤ newest p.sessions
  pub at_end : is_in was.Ended p.records ≡ p.ended
  pub plays : is_playable p.script ≡ true
      → plays_from (newest p.sessions) (is_session_open p.sessions) (events_left p.sessions (in_order p.events)) ≡ true
  pub follows : is_playable p.script ≡ true
      → Follows p.script (events_left p.sessions (in_order p.events)) p.records
      (was_closed p.sessions) p.can_fail
  pub aside : NoneReady p.sessions p.events.aside
  pub finished : p.ended ≡ true → in_order p.events ≡ []
  pub may_fail : 0 < p.fail_give → p.can_fail ≡ true

-- it plays the same script, accepts as much at once, and can fail if it could
abbrev pub PlayerGoesOn : Player → Player → Type 0
PlayerGoesOn old new = (new.script ≡ old.script) × (new.accept ≡ old.accept) × (new.can_fail ≡ old.can_fail)

-- the port hasn't ended, and the event in front of the rest may be played now, so it is the first
-- that may
pub record IsFirst (p : Player) (e : ScriptEvent) : Type 0 where
  pub running : p.ended ≡ false
  pub after : List ScriptEvent
  pub rest_is : p.events.rest ≡ e ∷ after
  pub ready : is_ready p.sessions e ≡ true

-- where the port tells, an event came as it may
pub record TellsNext (old : PlayerState) (result : PortEvent) (new : PlayerState) : Type 0 where
  pub records_are : new.records ≡ old.records ++ list.event_records result
  pub may : (sizes : Sizes) (dialect : Dialect) (worker : ℕ) (exchange : TableId) (history : List Answered)
      → list.MayCome (script_trace (record {
        player = old;
        sizes = sizes;
        dialect = dialect;
        worker = worker;
        exchange = exchange;
        history = history;
      })) result
  pub plays : Plays old result new
  pub goes_on : PortGoesOn old new

abbrev pub Played : Player → PortEvent → Player → Type 0
Played old result new = is_playable old.script ≡ true
    → TellsNext (player_state old) result (player_state new)

-- the player goes on, and played what it answers
pub record PlaysNext (old : Player) (result : PortEvent) (new : Player) : Type 0 where
  pub goes_on : PlayerGoesOn old new
  pub played : Played old result new

-- a record with which a session ends
abbrev pub EndsSession : ℕ → PortRecord → Type 0
EndsSession s entry = (entry ≡ was.Gone s) ⊎ (entry ≡ was.Shut s)

-- where the port tells, a session whose peer goes is one that may
abbrev pub IsCausedAt : Player → ℕ → PortRecord → Type 0
IsCausedAt p s entry = is_playable p.script ≡ true → entry ≡ was.Gone s
    → MayGo p.script p.can_fail s

-- a session is closed with this record
pub record RecordsClose (old : Player) (s : ℕ) (entry : PortRecord) (new : Player) : Type 0 where
  pub records_are : new.records ≡ old.records ++ entry ∷ []
  pub shuts : DropsSession (player_state old) s (player_state new)
  pub closed : was_closed new.sessions s ≡ true
  pub events_are : new.events ≡ old.events
  pub ended_is : new.ended ≡ old.ended

-- bytes that were accepted are kept
pub record Keeps (old : Player) (s : ℕ) (bytes : List ℕ) (new : Player) : Type 0 where
  pub was_open : is_session_open old.sessions s ≡ true
  pub records_are : new.records ≡ old.records ++ was.Accepted s bytes ∷ []
  pub state_is : player_state new ≡ record (player_state old) { sessions = new.sessions; records = new.records }
  pub paused : (t : ℕ) → is_session_paused new.sessions t ≡ is_session_paused old.sessions t

-- the offer is counted, and said to fail or not
pub record CountsOffer (old : Player) (bytes : List ℕ) (new : Player) (fails : Bool) : Type 0 where
  pub rest : new ≡ record old { fail_give = new.fail_give }
  pub count : new.fail_give ≡ count_down old.fail_give bytes
  pub failed : fails ≡ true → Fails (player_state old) bytes
  pub passed : fails ≡ false → Fails (player_state old) bytes → ⊥

pub record GivesAs (old : Player) (s : ℕ) (bytes : List ℕ) (result : Result ℕ Gone) (new : Player) : Type 0 where
  pub records_are : new.records ≡ old.records ++ give_records s bytes result
  pub gives : Gives (player_state old) s bytes result (player_state new)
