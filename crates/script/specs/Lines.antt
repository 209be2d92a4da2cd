-- The lines of a script, and what each says. As in the grammar of messages, it is told from the
-- event to the line: the words with single spaces between them, a number as its plain decimal.
use Rattle.std.specs.Prelude.{◌≡◌, ℕ, ◌<◌, ◌^◌, ◌==◌, List, [], ◌∷◌, length, codes, decimal, if◌then◌else◌, Ok}
use Rattle.std.specs.List.{onto_first}
use Rattle.hex.specs.Hex.{decode_of}
use Rattle.proto.specs.Words.{spaced}
use Rattle.script.specs.declared.event.ScriptEvent.{ScriptEvent}
use Rattle.script.specs.declared.event.ScriptEvent.TheVariants.{Open, Send, Gone}
use Rattle.script.specs.declared.event.ScriptLine.{ScriptLine}

-- what stands before each line feed, and what stands after the last one, unless that is nothing
abbrev pub lines_of : List ℕ → List (List ℕ)
lines_of [] = []
lines_of (byte ∷ rest) = if byte == 10 then [] ∷ lines_of rest else onto_first byte (lines_of rest)

-- a worker is a number of at most 10 digits, and a session one of 64 bits that isn't 0
pub record FitsNumbers (worker session : ℕ) : Type 0 where
  pub ten_digits : worker < 10 ^ 10
  pub positive : 0 < session
  pub fits : session < 2 ^ 64

-- the hexadecimal digits, in either case, of these bytes; there are some
pub record IsHexOf (bytes hex : List ℕ) : Type 0 where
  pub some : 0 < length hex
  pub decoded : decode_of hex ≡ Ok bytes

-- the line says that the event comes at the worker
abbrev pub SaysAt : List ℕ → ℕ → ScriptEvent → Type 0
SaysAt line worker (Open session) =
    FitsNumbers worker session × (line ≡ spaced (codes "open" ∷ decimal worker ∷ decimal session ∷ []))
SaysAt line worker (Send session bytes) =
    (hex : List ℕ) × FitsNumbers worker session × IsHexOf bytes hex
    × (line ≡ spaced (codes "send" ∷ decimal worker ∷ decimal session ∷ hex ∷ []))
SaysAt line worker (Gone session) =
    FitsNumbers worker session × (line ≡ spaced (codes "gone" ∷ decimal worker ∷ decimal session ∷ []))

abbrev pub LineSays : List ℕ → ScriptLine → Type 0
LineSays line l = SaysAt line l.worker l.event

-- the line says nothing that a script may say
abbrev pub SaysNothing : List ℕ → Type 0
SaysNothing line = (l : ScriptLine) → ¬ (LineSays line l)
