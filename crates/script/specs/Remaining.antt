-- The events of a script that are left to play.
use Rattle.std.specs.Prelude.{◌≡◌, ℕ, List, ◌∷◌, ◌++◌}
use Rattle.script.specs.declared.event.ScriptEvent.{ScriptEvent}
use Rattle.script.specs.declared.event.ScriptEvent.TheVariants as script
use Rattle.script.specs.PortEvents.{send_after}

-- the first ones, which were put aside, and the rest
pub record RemainingState : Type 0 where
  pub aside : List ScriptEvent
  pub rest : List ScriptEvent

-- all of them, in the order of the script
abbrev pub in_order : RemainingState → List ScriptEvent
in_order events = events.aside ++ events.rest

-- a send in front of the rest loses its next piece
abbrev pub TakesFromSend : RemainingState → RemainingState → Type 0
TakesFromSend old new =
    (s : ℕ) (bytes : List ℕ) (after : List ScriptEvent) → old.rest ≡ script.Send s bytes ∷ after
    → new ≡ record old { rest = send_after s bytes ++ after }
