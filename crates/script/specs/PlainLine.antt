-- A plain reader of a script's line, as functions on its words. It isn't part of what scripts mean:
-- what a line says is. It is proved to find what a line says, and nothing where it says nothing.
use Rattle.std.specs.Prelude.{ℕ, ◌^◌, ◌==◌, not, List, [], ◌∷◌, length, codes, bytes_eq, nat_lt, Option, Some}
use Rattle.std.specs.Prelude.{None, if◌then◌else◌}
use Rattle.std.specs.Result.{result_ok}
use Rattle.hex.specs.Hex.{decode_of}
use Rattle.proto.specs.PlainReader.{◌>>=◌, only_if, number_in}
use Rattle.script.specs.declared.event.ScriptEvent.{ScriptEvent}
use Rattle.script.specs.declared.event.ScriptEvent.TheVariants.{Open, Send, Gone}
use Rattle.script.specs.declared.event.ScriptLine.{ScriptLine}

-- the number of a session
abbrev pub session_in : List ℕ → Option ℕ
session_in word = number_in (2 ^ 64) word >>= λ n. only_if (not (n == 0)) (Some n)

-- the bytes of which the word is the digits
abbrev pub bytes_in : List ℕ → Option (List ℕ)
bytes_in word = only_if (nat_lt 0 (length word)) (result_ok (decode_of word))

-- the event of a session, from the first word and what stands after the session's number
abbrev pub event_in : List ℕ → ℕ → List (List ℕ) → Option ScriptEvent
event_in verb session [] =
    if bytes_eq verb (codes "open") then Some (Open session)
    else (if bytes_eq verb (codes "gone") then Some (Gone session) else None)
event_in verb session (hex ∷ []) =
    if bytes_eq verb (codes "send") then (bytes_in hex >>= λ bytes. Some (Send session bytes)) else None
event_in verb session (hex ∷ more ∷ rest) = None

abbrev pub line_in : List (List ℕ) → Option ScriptLine
line_in [] = None
line_in (verb ∷ []) = None
line_in (verb ∷ worker ∷ []) = None
line_in (verb ∷ worker ∷ session ∷ rest) =
    number_in (10 ^ 10) worker >>= λ w. session_in session >>= λ s. event_in verb s rest
    >>= λ e. Some (record { worker = w; event = e })
