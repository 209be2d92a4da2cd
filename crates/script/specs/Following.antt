-- What a port's list says of the script that the port plays.
use Rattle.std.specs.Prelude.{◌≡◌, ℕ, ◌⊎◌, Bool, true, false, List, ◌++◌}
use Rattle.exchange.specs.Beginnings.{StartsWith}
use Rattle.script.specs.declared.event.ScriptEvent.{ScriptEvent}
use Rattle.script.specs.Events as script
use Rattle.worker_port.specs.declared.events.PortRecord.{PortRecord}
use Rattle.worker_port.specs.declared.events.PortRecord.TheVariants as was
use Rattle.worker_port.specs.Ports.{fed, is_in}
use Rattle.script.specs.Records.{opened_sessions}

-- a session's peer may go: the script says it, or a `give` can fail
abbrev pub MayGo : List ScriptEvent → Bool → ℕ → Type 0
MayGo played can_fail s = (script.goes_in_script played s ≡ true) ⊎ (can_fail ≡ true)

-- So far: what was opened and what is left to open are the sessions of the script; and of a session
-- that isn't closed, what came and what is left to come are the bytes that the script sends it. Of
-- a closed one a beginning came. What is left to go are peers of which the script says it; and
-- those that have gone might.
pub record Follows (played left : List ScriptEvent) (records : List PortRecord) (closed : ℕ → Bool)
    (can_fail : Bool) : Type 0 where
  pub opened_are : script.sessions_opened played ≡ opened_sessions records ++ script.sessions_opened left
  pub fed_are : (s : ℕ) → closed s ≡ false → script.sent_bytes played s ≡ fed s records ++ script.sent_bytes left s
  pub begun : (s : ℕ) → closed s ≡ true → StartsWith (script.sent_bytes played s) (fed s records)
  pub to_go : (s : ℕ) → script.goes_in_script left s ≡ true → script.goes_in_script played s ≡ true
  pub gone_by : (s : ℕ) → is_in (was.Gone s) records ≡ true → MayGo played can_fail s
  pub never_over : (s : ℕ) → is_in (was.EndOfInput s) records ≡ false

-- The list says what the script does: the sessions that were opened are the first of the script's,
-- and what came of each is a beginning of the bytes that the script sends it; once the list has
-- Ended all were opened, and all bytes came of a session that was neither gone nor shut. No session
-- has gone of which the script doesn't say it, unless a `give` can fail.
pub record IsPlayed (played : List ScriptEvent) (records : List PortRecord) (can_fail : Bool) : Type 0 where
  pub opened_first : StartsWith (script.sessions_opened played) (opened_sessions records)
  pub fed_first : (s : ℕ) → StartsWith (script.sent_bytes played s) (fed s records)
  pub opened_all : is_in was.Ended records ≡ true → opened_sessions records ≡ script.sessions_opened played
  pub fed_all : (s : ℕ) → is_in was.Ended records ≡ true → is_in (was.Gone s) records ≡ false
      → is_in (was.Shut s) records ≡ false
      → fed s records ≡ script.sent_bytes played s
  pub gone_by : (s : ℕ) → is_in (was.Gone s) records ≡ true → MayGo played can_fail s
  pub never_over : (s : ℕ) → is_in (was.EndOfInput s) records ≡ false
