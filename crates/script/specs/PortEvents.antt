-- The events of a script that a port has still to play.
use Rattle.std.specs.Prelude.{ℕ, Bool, true, false, not, ◌&&◌, ◌==◌, nat_lt, if◌then◌else◌, List, [], ◌∷◌, length, drop}
use Rattle.std.specs.Prelude.{filter}
use Rattle.script.specs.declared.event.ScriptEvent.{ScriptEvent}
use Rattle.script.specs.declared.event.ScriptEvent.TheVariants.{Open, Send, Gone}
use Rattle.script.specs.Events.{newest_after, open_after}

abbrev pub event_session : ScriptEvent → ℕ
event_session (Open session) = session
event_session (Send session bytes) = session
event_session (Gone session) = session

-- the events of the other sessions
abbrev pub events_without : ℕ → List ScriptEvent → List ScriptEvent
events_without session events = filter (λ (e : ScriptEvent). not (event_session e == session)) events

-- what is left of a send after its next piece
abbrev pub send_after : ℕ → List ℕ → List ScriptEvent
send_after session bytes = if nat_lt 16384 (length bytes) then Send session (drop 16384 bytes) ∷ [] else []

-- whether an event may come where this session was opened last and these are open
abbrev pub may_follow : ℕ → (ℕ → Bool) → ScriptEvent → Bool
may_follow newest is_open (Open session) = nat_lt newest session
may_follow newest is_open (Send session bytes) = is_open session
may_follow newest is_open (Gone session) = is_open session

-- whether each event may come after those before it
abbrev pub plays_from : ℕ → (ℕ → Bool) → List ScriptEvent → Bool
plays_from newest is_open [] = true
plays_from newest is_open (e ∷ events) =
    may_follow newest is_open e && plays_from (newest_after newest e) (λ t. open_after t (is_open t) e) events

abbrev pub is_playable : List ScriptEvent → Bool
is_playable events = plays_from 0 (λ (t : ℕ). false) events
