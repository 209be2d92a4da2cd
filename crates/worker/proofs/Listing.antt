-- The list of sessions that notes tell, with one more note.
use Rattle.std.proofs.Common.{◌≡◌, ℕ, List, [], ◌∷◌, ◌++◌, refl}
use Rattle.session_book.specs.declared.causes.EndCause.{EndCause}
use Rattle.worker.specs.declared.session_list.SessionNote.{SessionNote}
use Rattle.worker.specs.SessionLists.{and_noted, listed_from, listed_sessions}

more_from : (sessions : List (ℕ × EndCause)) (notes : List SessionNote) (note : SessionNote)
    → listed_from sessions (notes ++ note ∷ []) ≡ and_noted (listed_from sessions notes) note
more_from sessions [] note = refl
more_from sessions (x ∷ notes) note = more_from (and_noted sessions x) notes note

pub listed_more : (notes : List SessionNote) (note : SessionNote)
    → listed_sessions (notes ++ note ∷ []) ≡ and_noted (listed_sessions notes) note
listed_more notes note = more_from [] notes note
