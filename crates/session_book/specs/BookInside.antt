-- The state that the fields of a `Book` stand for, and its table of sessions.
use Rattle.std.specs.Prelude.{◌≡◌, ℕ, List, Option, ◌==◌, if◌then◌else◌}
use Rattle.std.specs.Bool.{nat_eq}
use Rattle.std.specs.Map.{lookup}
use Rattle.session_book.specs.Session.{SessionState}
use Rattle.session_book.specs.declared.book.Book.TheInside.{Inside}
use Rattle.session_book.specs.Book.{BookState, IsBook}

abbrev pub state_of : Inside → BookState
state_of a =
    record {
      worker = a.worker;
      dialect = a.dialect;
      sessions = a.sessions.entries;
      numbered = a.numbered;
      unsettled = a.unsettled.items;
      greatest = a.greatest;
      opened = a.opened;
      looks = a.looks;
    }

abbrev pub IsBookKept : Inside → Type 0
IsBookKept a = IsBook (state_of a)

-- only what stands in the table under this number is another session, or none
abbrev pub ChangesAt : List (ℕ × SessionState) → ℕ → Option SessionState → List (ℕ × SessionState) → Type 0
ChangesAt before session s after = (other : ℕ)
    → lookup (nat_eq other) after ≡ (if other == session then s else lookup (nat_eq other) before)
