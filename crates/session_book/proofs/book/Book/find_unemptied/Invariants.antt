use Rattle.std.proofs.Common.{ℕ, ◌≡◌, ◌⊎◌, Some}
use Rattle.session_book.specs.Session.{SessionState, IsEmptied}
use Rattle.std.specs.Map.{lookup}
use Rattle.std.specs.Bool.{nat_eq}
use Rattle.session_book.proofs.book.Book.find_unemptied.Given as goal

-- each open session is emptied, or still to come
abbrev pub invariant-loop-session : goal.invariant-loop-session
invariant-loop-session l = (session : ℕ) (s : SessionState) → lookup (nat_eq session) l.self.sessions ≡ Some s
    → IsEmptied s ⊎ (lookup (nat_eq session) l.session-iterator ≡ Some s)
