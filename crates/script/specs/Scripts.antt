-- What a script is, line by line, and what is wrong with one.
use Rattle.std.specs.Prelude.{◌≡◌, ℕ, ◌+◌, ◌<◌, ◌≤◌, ⊤, List, [], ◌∷◌, ◌++◌, length, replicate, slice_index_or}
use Rattle.std.specs.Prelude.{slice_set}
use Rattle.script.specs.declared.event.ScriptEvent.{ScriptEvent}
use Rattle.script.specs.declared.event.ScriptLine.{ScriptLine}
use Rattle.script.specs.declared.fault.LineFault.{LineFault}
use Rattle.script.specs.declared.fault.LineFault.TheVariants as kind
use Rattle.script.specs.declared.fault.ScriptFault.{ScriptFault}
use Rattle.script.specs.declared.fault.ScriptFault.TheVariants as script
use Rattle.script.specs.Lines.{lines_of, LineSays, SaysNothing}
use Rattle.script.specs.Events.{MayFollow, IsOutOfPlace}

-- the events of each worker, by its number
abbrev pub Workers : Type 0
Workers = List (List ScriptEvent)

-- the events of a worker, none where there is no such worker
abbrev pub events_at : Workers → ℕ → List ScriptEvent
events_at workers worker = slice_index_or workers worker []

-- no event yet
abbrev pub no_events : ℕ → Workers
no_events workers = replicate workers []

-- the line says an event that may come next at one of the workers
pub record MayAdd (workers : Workers) (line : List ℕ) (said : ScriptLine) : Type 0 where
  pub says : LineSays line said
  pub in_range : said.worker < length workers
  pub may_come : MayFollow (events_at workers said.worker) said.event

-- with one more event at its worker
abbrev pub with_line : Workers → ScriptLine → Workers
with_line workers said = slice_set workers said.worker (events_at workers said.worker ++ said.event ∷ [])

abbrev pub AddsLine : Workers → List ℕ → Workers → Type 0
AddsLine before line after = (said : ScriptLine) × MayAdd before line said × (after ≡ with_line before said)

-- the lines add their events, one after the other
abbrev pub AreRead : Workers → List (List ℕ) → Workers → Type 0
AreRead before [] after = after ≡ before
AreRead before (line ∷ lines) after = (mid : Workers) × AddsLine before line mid × AreRead mid lines after

-- the line says an event at one of the workers, at which it may not come for this fault
pub record IsMisplaced (workers : Workers) (line : List ℕ) (fault : LineFault) : Type 0 where
  pub said : ScriptLine
  pub says : LineSays line said
  pub in_range : said.worker < length workers
  pub out_of_place : IsOutOfPlace (events_at workers said.worker) said.event fault

-- what is wrong with a line that comes after those that gave these events
abbrev pub HasLineFault : Workers → List ℕ → LineFault → Type 0
HasLineFault workers line kind.NotAScriptLine = SaysNothing line
HasLineFault workers line kind.WorkerOutOfRange = (said : ScriptLine) × LineSays line said × (length workers ≤ said.worker)
HasLineFault workers line kind.NotAboveLast = IsMisplaced workers line kind.NotAboveLast
HasLineFault workers line kind.NotOpen = IsMisplaced workers line kind.NotOpen

-- where a reader stands: the lines that are left, the events so far, and how many lines were read
pub record Position : Type 0 where
  pub left : List (List ℕ)
  pub workers : Workers
  pub read : ℕ

-- before the first line
abbrev pub first_position : ℕ → List ℕ → Position
first_position workers text = record { left = lines_of text; workers = no_events workers; read = 0 }

-- the next line is read
pub record ReadsLine (before after : Position) : Type 0 where
  pub line : List ℕ
  pub first : before.left ≡ line ∷ after.left
  pub adds : AddsLine before.workers line after.workers
  pub counted : after.read ≡ before.read + 1

-- the next line, of this number, has this fault
pub record NextHasFault (before : Position) (number : ℕ) (fault : LineFault) : Type 0 where
  pub line : List ℕ
  pub rest : List (List ℕ)
  pub first : before.left ≡ line ∷ rest
  pub number_is : number ≡ before.read + 1
  pub faulty : HasLineFault before.workers line fault

-- why the next line isn't read
abbrev pub IsNextFault : Position → ScriptFault → Type 0
IsNextFault before script.TooLarge = ⊥
IsNextFault before (script.Line number fault) = NextHasFault before number fault
IsNextFault before script.NoMemory = ⊤

-- the lines before the one of this number, counted from 1, have no fault, and it has this one
pub record HasFault (workers : ℕ) (lines : List (List ℕ)) (number : ℕ) (fault : LineFault) : Type 0 where
  pub before : List (List ℕ)
  pub line : List ℕ
  pub rest : List (List ℕ)
  pub lines_are : lines ≡ before ++ line ∷ rest
  pub number_is : number ≡ length before + 1
  pub events : Workers
  pub read : AreRead (no_events workers) before events
  pub faulty : HasLineFault events line fault

-- the most bytes that a script may have
abbrev pub max_script : ℕ
max_script = 16777216

-- the events of a script
pub record AreEventsOf (workers : ℕ) (text : List ℕ) (events : Workers) : Type 0 where
  pub small : length text ≤ max_script
  pub read : AreRead (no_events workers) (lines_of text) events

-- why a script has no events
abbrev pub IsFaultOf : ℕ → List ℕ → ScriptFault → Type 0
IsFaultOf workers text script.TooLarge = max_script < length text
IsFaultOf workers text (script.Line number fault) =
    (length text ≤ max_script) × HasFault workers (lines_of text) number fault
IsFaultOf workers text script.NoMemory = ⊤
