-- Which pieces are held follows from what the book has of the sessions.
use Rattle.std.proofs.Common.{◌≡◌, ◌≢◌, ℕ, ◌==◌, Bool, true, false, cond, eq-eqb}
use Rattle.std.proofs.Common.{List, [], ◌++◌, refl, sym, ap, ◌∙◌, Option, Some, None, is_some}
use Rattle.std.specs.Option.{option_map}
use Rattle.session_book.specs.Session.{SessionState, once_fed, once_input_ended, gave}
use Rattle.session_book.specs.Book.{BookState, session_of, held_of, OnlyAt}
use Rattle.worker.specs.EndCauses.{piece_of}
use Rattle.worker.proofs.RunViews.{at_other}
use Rattle.proto.proofs.CountLemmas.{either_way}

-- of two sessions one is chosen by a test: its held piece is the one of the two pieces that the
-- test chooses
held_if : (b : Bool) (x y : Option SessionState) → held_of (cond b x y) ≡ cond b (held_of x) (held_of y)
held_if true x y = refl
held_if false x y = refl

-- where one session changes, only its piece does
pub pieces_at : (old new : BookState) (t : ℕ) (o : Option SessionState) → OnlyAt old new t o → (s : ℕ)
    → piece_of new s ≡ cond (s == t) (held_of o) (piece_of old s)
pieces_at old new t o only s = ap held_of (only s) ∙ held_if (s == t) o (session_of old s)

-- and none where that stays
pub pieces_kept : (old new : BookState) (t : ℕ) (o : Option SessionState) → OnlyAt old new t o
    → held_of o ≡ piece_of old t → (s : ℕ)
    → piece_of new s ≡ piece_of old s
pieces_kept old new t o only same s =
    pieces_at old new t o only s
    ∙ either_way t s
    (λ (e : t ≡ s). ap (λ b. cond b (held_of o) (piece_of old s)) (eq-eqb s t (sym e)) ∙ same ∙ ap (piece_of old) e)
    (λ (ne : t ≢ s). at_other t s (held_of o) (piece_of old s) ne)

-- to drop bytes twice under the same test is to drop them once
twice : (b : Bool) (x : List ℕ) → cond b [] (cond b [] x) ≡ cond b [] x
twice true x = refl
twice false x = refl

-- a session that is closed twice
pub pieces_gone : (old mid new : BookState) (t : ℕ) → OnlyAt old mid t None → OnlyAt mid new t None → (s : ℕ)
    → piece_of new s ≡ cond (s == t) [] (piece_of old s)
pieces_gone old mid new t first second s =
    pieces_at mid new t None second s ∙ ap (λ (x : List ℕ). cond (s == t) [] x) (pieces_at old mid t None first s)
    ∙ twice (s == t) (piece_of old s)

-- new bytes, dropped by a session that has ended and else put after its unread ones, leave its held
-- piece
fed_if : (ended : Bool) (s : SessionState) (b : List ℕ)
    → (cond ended s (record s { unread = s.unread ++ b })).held ≡ s.held
fed_if true s b = refl
fed_if false s b = refl

-- feeding and giving leave the piece
pub fed_piece : (o : Option SessionState) (b : List ℕ)
    → held_of (option_map (λ (s : SessionState). once_fed s b) o) ≡ held_of o
fed_piece None b = refl
fed_piece (Some s) b = fed_if (is_some s.ended) s b

-- a session whose input has ended keeps its held piece
pub input_ended_piece : (o : Option SessionState) → held_of (option_map once_input_ended o) ≡ held_of o
input_ended_piece None = refl
input_ended_piece (Some s) = refl

-- a session that gives some of its output keeps its held piece
pub gave_piece : (o : Option SessionState) (n : ℕ) → held_of (option_map (λ (s : SessionState). gave s n) o) ≡ held_of o
gave_piece None n = refl
gave_piece (Some s) n = refl
