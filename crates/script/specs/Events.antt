-- The events of a worker's sessions, and which may follow which.
use Rattle.std.specs.Prelude.{◌≡◌, ℕ, ◌<◌, ◌≤◌, ◌==◌, Bool, true, false, List, [], IsTrue, fold, flat_map}
use Rattle.std.specs.Prelude.{filter_map, length, slice_index_or, take}
use Rattle.std.specs.Prelude.{if◌then◌else◌, Option, Some, None}
use Rattle.std.specs.List.{list_any}
use Rattle.script.specs.declared.event.ScriptEvent.{ScriptEvent}
use Rattle.script.specs.declared.event.ScriptEvent.TheVariants.{Open, Send, Gone}
use Rattle.script.specs.declared.fault.LineFault.{LineFault}
use Rattle.script.specs.declared.fault.LineFault.TheVariants.{NotAboveLast, NotOpen}

abbrev pub newest_after : ℕ → ScriptEvent → ℕ
newest_after newest (Open session) = session
newest_after newest (Send session bytes) = newest
newest_after newest (Gone session) = newest

-- the number that was opened last, 0 before the first
abbrev pub newest_of : List ScriptEvent → ℕ
newest_of events = fold newest_after 0 events

abbrev pub open_after : ℕ → Bool → ScriptEvent → Bool
open_after session was (Open other) = if other == session then true else was
open_after session was (Send other bytes) = was
open_after session was (Gone other) = if other == session then false else was

-- whether the session has begun, and its peer hasn't gone
abbrev pub is_open_in_script : List ScriptEvent → ℕ → Bool
is_open_in_script events session = fold (open_after session) false events

-- A session that begins has a number above each that was opened before. Bytes come, and a peer
-- goes, only where the session is open.
abbrev pub MayFollow : List ScriptEvent → ScriptEvent → Type 0
MayFollow before (Open session) = newest_of before < session
MayFollow before (Send session bytes) = IsTrue (is_open_in_script before session)
MayFollow before (Gone session) = IsTrue (is_open_in_script before session)

-- each event may come after those before it
abbrev pub IsPlayable : List ScriptEvent → Type 0
IsPlayable events = (k : ℕ) (d : ScriptEvent) → k < length events
    → MayFollow (take k events) (slice_index_or events k d)

abbrev pub session_opened_by : ScriptEvent → Option ℕ
session_opened_by (Open session) = Some session
session_opened_by (Send session bytes) = None
session_opened_by (Gone session) = None

-- the sessions that were opened, in order
abbrev pub sessions_opened : List ScriptEvent → List ℕ
sessions_opened events = filter_map session_opened_by events

abbrev pub sent_by : ℕ → ScriptEvent → List ℕ
sent_by session (Open other) = []
sent_by session (Send other bytes) = if other == session then bytes else []
sent_by session (Gone other) = []

-- the bytes of a session, joined
abbrev pub sent_bytes : List ScriptEvent → ℕ → List ℕ
sent_bytes events session = flat_map (sent_by session) events

abbrev pub goes_by_event : ℕ → ScriptEvent → Bool
goes_by_event session (Open other) = false
goes_by_event session (Send other bytes) = false
goes_by_event session (Gone other) = other == session

-- whether the script says that the session's peer goes
abbrev pub goes_in_script : List ScriptEvent → ℕ → Bool
goes_in_script events session = list_any (goes_by_event session) events

-- what is wrong with an event that may not come
abbrev pub IsOutOfPlace : List ScriptEvent → ScriptEvent → LineFault → Type 0
IsOutOfPlace before (Open session) fault = (fault ≡ NotAboveLast) × (session ≤ newest_of before)
IsOutOfPlace before (Send session bytes) fault = (fault ≡ NotOpen) × (is_open_in_script before session ≡ false)
IsOutOfPlace before (Gone session) fault = (fault ≡ NotOpen) × (is_open_in_script before session ≡ false)
