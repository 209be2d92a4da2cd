-- The entries of sessions in the report, and the pieces of input that are held.
use Rattle.std.specs.Prelude.{ℕ, ◌<◌, ⊤, List, [], ◌∷◌, ◌==◌, if◌then◌else◌, map}
use Rattle.session_book.specs.declared.causes.EndCause.{EndCause}
use Rattle.session_book.specs.Book.{BookState, session_of, held_of}

-- the numbers rise from one above this one, so that no session has two entries
abbrev pub CausesRiseFrom : ℕ → List (ℕ × EndCause) → Type 0
CausesRiseFrom n [] = ⊤
CausesRiseFrom n (e ∷ sessions) = (n < e.0) × CausesRiseFrom e.0 sessions

-- the report with this cause at the session's entry
abbrev pub with_cause : List (ℕ × EndCause) → ℕ → EndCause → List (ℕ × EndCause)
with_cause sessions session cause = map (λ (e : ℕ × EndCause). if e.0 == session then (session, cause) else e) sessions

-- the piece that the book holds of a session, none of one that isn't open
abbrev pub piece_of : BookState → ℕ → List ℕ
piece_of book session = held_of (session_of book session)
