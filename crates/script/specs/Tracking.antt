-- What is kept beside the events of a worker: the newest session, and the open ones.
use Rattle.std.specs.Prelude.{◌≡◌, ℕ, List}
use Rattle.std.specs.Ordering.{nat_cmp}
use Rattle.std.specs.BTreeSet.{BTreeSet, contains}
use Rattle.script.specs.declared.event.ScriptEvent.{ScriptEvent}
use Rattle.script.specs.Events.{newest_of, is_open_in_script, IsPlayable}

pub record IsTracked (events : List ScriptEvent) (newest : ℕ) (sessions : BTreeSet ℕ) : Type 0 where
  pub newest_is : newest ≡ newest_of events
  pub open_are : (session : ℕ) → contains nat_cmp sessions session ≡ is_open_in_script events session
  pub playable : IsPlayable events
