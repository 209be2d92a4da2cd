-- Readings, one after the other.
use Rattle.std.proofs.Common.{◌≡◌, ℕ, Bool, false, ◌||◌, List, [], ◌∷◌, ◌++◌, refl, sym, ap, subst, ◌∙◌, inl, inr, append_assoc}
use Rattle.std.specs.List.{list_any}
use Rattle.std.proofs.lemmas.Bool.{cases_Bool, both_ways, or_left, or_parts}
use Rattle.std.proofs.lemmas.List.{append-nil}
use Rattle.proto.specs.declared.dialect.Dialect.{Dialect}
use Rattle.proto.specs.declared.message.Message.{Message}
use Rattle.proto.specs.Grammar.{Spells, SpellsNone}
use Rattle.proto.specs.Reading.{ends_session, Reads}
use Rattle.proto.proofs.MessageReader.{next_empty, next_none}

-- no bytes are read as no messages
pub reads_empty : (d : Dialect) → Reads d [] [] []
reads_empty d = (refl, next_none d [] (next_empty d))

-- a spelling is read as its message
pub reads_one : (d : Dialect) (piece : List ℕ) (m : Message) → Spells d piece m → Reads d piece (m ∷ []) []
reads_one d piece m spells =
    elim (cases_Bool (ends_session m)) [
      | inl ends ↦ (piece, [], sym (append-nil piece), spells, inl (ends, refl, refl))
      | inr goes_on ↦ (piece, [], sym (append-nil piece), spells, inr (goes_on, reads_empty d))
    ]

-- behind bytes that are read wholly, and as messages that don't end the session, the others are
-- read
pub reads_on : (d : Dialect) (b read more rest : List ℕ) (ms ns : List Message) → b ≡ read ++ more
    → list_any ends_session ms ≡ false → Reads d read ms [] → Reads d more ns rest → Reads d b (ms ++ ns) rest
reads_on d b read more rest [] ns whole go_on r s =
    subst (λ (x : List ℕ). Reads d x ns rest) (sym (whole ∙ ap (λ (x : List ℕ). x ++ more) r.0)) s
reads_on d b read more rest (m ∷ ms) ns whole go_on (p, behind, split, spells, inl r) s =
    absurd (both_ways _ go_on (or_left (ends_session m) (list_any ends_session ms) r.0))
reads_on d b read more rest (m ∷ ms) ns whole go_on (p, behind, split, spells, inr r) s = (
  p,
  behind ++ more,
  whole ∙ ap (λ (x : List ℕ). x ++ more) split ∙ append_assoc p behind more,
  spells,
  inr (
    r.0,
    reads_on d (behind ++ more) behind more rest ms ns refl
        (or_parts (ends_session m) (list_any ends_session ms) go_on).1 r.1 s,
  ),
)

-- and where they do, or no beginning of the others spells a message, the others are the rest
pub reads_before : (d : Dialect) (b read rest : List ℕ) (ms : List Message) → b ≡ read ++ rest → Reads d read ms []
    → (list_any ends_session ms ≡ false → SpellsNone d rest) → Reads d b ms rest
reads_before d b read rest [] whole r none = (whole ∙ ap (λ (x : List ℕ). x ++ rest) r.0, none refl)
reads_before d b read rest (m ∷ ms) whole (p, behind, split, spells, inl r) none = (
  p,
  behind ++ rest,
  whole ∙ ap (λ (x : List ℕ). x ++ rest) split ∙ append_assoc p behind rest,
  spells,
  inl (r.0, r.1, ap (λ (x : List ℕ). x ++ rest) r.2),
)
reads_before d b read rest (m ∷ ms) whole (p, behind, split, spells, inr r) none = (
  p,
  behind ++ rest,
  whole ∙ ap (λ (x : List ℕ). x ++ rest) split ∙ append_assoc p behind rest,
  spells,
  inr (
    r.0,
    reads_before d (behind ++ rest) behind rest ms refl r.1
        (λ go_on. none (ap (λ (t : Bool). t || list_any ends_session ms) r.0 ∙ go_on)),
  ),
)

-- behind messages that don't end the session the others may
pub ends-append : (ms ns : List Message) → list_any ends_session ms ≡ false
    → list_any ends_session (ms ++ ns) ≡ list_any ends_session ns
ends-append [] ns go_on = refl
ends-append (m ∷ ms) ns go_on =
    let both = or_parts (ends_session m) (list_any ends_session ms) go_on in
    ap (λ (t : Bool). t || list_any ends_session (ms ++ ns)) both.0 ∙ ends-append ms ns both.1
