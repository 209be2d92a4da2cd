-- How many bytes there have to be before a message can be found.
use Rattle.std.proofs.Common.{◌≡◌, ℕ, ◌+◌, ◌-◌, ◌<◌, List, [], ◌++◌, length}
use Rattle.std.proofs.Common.{take, Option, Some, subst, arith, inl, inr, append_assoc, length-append}
use Rattle.std.specs.Prelude.{nat_le}
use Rattle.std.specs.Bool.{OnFalse}
use Rattle.std.proofs.lemmas.Bool.{cases_Bool, leb-false}
use Rattle.std.proofs.lemmas.List.{append-nil, length-take, take-append-le}
use Rattle.proto.specs.declared.dialect.Dialect.{Dialect}
use Rattle.proto.specs.Grammar.{SpellsNone}
use Rattle.proto.specs.Lines.{IsSearched}
use Rattle.proto.specs.Needs.{IsNeed, NeedsMore, IsUnfinished}
use Rattle.proto.proofs.MessageReader.{spelling_nonempty}
use Rattle.proto.proofs.NeedLemmas.{awaits_fewer}
use Rattle.proto.proofs.Options.{some_is}
use Rattle.session_book.specs.declared.causes.EndCause.{EndCause}
use Rattle.session_book.specs.Session.{SessionState, HasReadAll, Stops, no_message}

-- one byte is needed always
pub needs_one : (d : Dialect) (b : List ℕ) → NeedsMore d b 1
needs_one d b more fewer n m h = omega (arith, spelling_nonempty d (take n (b ++ more)) m h, length-take n (b ++ more))

-- bytes that come behind don't change the need
pub needs_behind : (d : Dialect) (b piece : List ℕ) (need : ℕ) → NeedsMore d b need → NeedsMore d (b ++ piece) need
needs_behind d b piece need h more fewer = rw append_assoc (h (piece ++ more) (rw append_assoc at fewer))

-- as long as fewer bytes are there, no beginning spells a message
pub spells_none : (d : Dialect) (b : List ℕ) (need : ℕ) → NeedsMore d b need → length b < need → SpellsNone d b
spells_none d b need h fewer =
    let none : SpellsNone d (b ++ []) = h [] (rw append-nil fewer) in
    rw append-nil at none

-- no beginning spells a message where, beside those that are gone, fewer bytes are there than are
-- missing
pub none_short : (d : Dialect) (b : List ℕ) (need gone missing n : ℕ) → gone + n ≡ length b → missing ≡ need - gone → NeedsMore d b need
    → OnFalse (nat_le missing n) (SpellsNone d b)
none_short d b need gone missing n len is h =
    elim (cases_Bool (nat_le missing n)) [
      | inl enough ↦ rw enough tt
      | inr short ↦
          let fewer : length b < need = omega (arith, leb-false missing n short, len, is) in
          rw short (spells_none d b need h fewer)
    ]

-- a session whose unread bytes spell nothing has read all
pub read_all : (now : SessionState) → SpellsNone now.dialect now.unread → (cause : Option EndCause) → HasReadAll (Some now) cause
read_all now nothing cause is s same none =
    let e : now ≡ s = some_is now s same in
    subst (λ (x : SessionState). SpellsNone x.dialect x.unread) e nothing

-- a session that has fewer bytes than it needs reads no further
pub stops_short : (s : SessionState) → NeedsMore s.dialect s.unread s.need → OnFalse (nat_le s.need (length s.unread)) (Stops s)
stops_short s h =
    elim (cases_Bool (nat_le s.need (length s.unread))) [
      | inl enough ↦ rw enough tt
      | inr short ↦
          let fewer : length s.unread < s.need = leb-false _ _ short in
          rw short (no_message fewer (spells_none s.dialect s.unread s.need h fewer))
    ]

-- what the parser needs isn't there
pub unfinished_short : (d : Dialect) (b : List ℕ) (need : ℕ) → IsUnfinished d b need → length b < need
unfinished_short d b need h = by_need h.need_is
  where
    by_need : IsNeed d b need → length b < need
    by_need (inr line) = omega (arith, line.1)
    by_need (inl awaited) = awaits_fewer d b need awaited h.none

-- bytes that come behind were not searched
pub searched_behind : (b piece : List ℕ) (n : ℕ) → IsSearched b n → IsSearched (b ++ piece) n
searched_behind b piece n h =
    let within = h.within in
    record {
      within = omega (arith, length-append b piece);
      no_end = rw (take-append-le n b piece within) h.no_end;
    }
