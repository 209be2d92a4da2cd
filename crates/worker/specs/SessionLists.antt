-- The list of the sessions that a worker opened.
use Rattle.std.specs.Prelude.{ℕ, List, [], ◌∷◌, ◌++◌}
use Rattle.session_book.specs.declared.causes.EndCause.{EndCause}
use Rattle.session_book.specs.declared.causes.EndCause.TheVariants as causes
use Rattle.worker.specs.declared.session_list.SessionNote.{SessionNote}
use Rattle.worker.specs.declared.session_list.SessionNote.TheVariants as was
use Rattle.worker.specs.EndCauses.{with_cause}

-- a list of sessions, each with its cause
pub record SessionEntries : Type 0 where
  pub items : List (ℕ × EndCause)

-- a session that is opened stands at the end, as if it drained; one that is closed gets its cause
abbrev pub and_noted : List (ℕ × EndCause) → SessionNote → List (ℕ × EndCause)
and_noted sessions (was.Opened s) = sessions ++ (s, causes.Drained) ∷ []
and_noted sessions (was.Closed s cause) = with_cause sessions s cause

abbrev pub listed_from : List (ℕ × EndCause) → List SessionNote → List (ℕ × EndCause)
listed_from sessions [] = sessions
listed_from sessions (note ∷ notes) = listed_from (and_noted sessions note) notes

-- the list that the notes tell
abbrev pub listed_sessions : List SessionNote → List (ℕ × EndCause)
listed_sessions notes = listed_from [] notes
