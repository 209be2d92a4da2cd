-- Walks over the entries, of which something holds for those that were seen.
use Rattle.std.proofs.Common.{ℕ, ◌≡◌, ◌⊎◌, Bool, true, false, Option, Some, None, List, [], ◌∷◌, ⊎_elim, inl, inr, sym}
use Rattle.std.proofs.Common.{ap, subst, ◌∙◌, cond}
use Rattle.std.specs.Bool.{nat_eq}
use Rattle.session_book.specs.Session.{SessionState}
use Rattle.std.specs.Map.{lookup}

-- it holds of each entry, or that stands among those to come
abbrev pub HoldsOrIn : (SessionState → Type 0) → List (ℕ × SessionState) → List (ℕ × SessionState) → Type 0
HoldsOrIn P later entries = (session : ℕ) (s : SessionState) → lookup (nat_eq session) entries ≡ Some s
    → P s ⊎ (lookup (nat_eq session) later ≡ Some s)

-- what is looked up after an entry is the entry's, or stands after it
first_or_behind : (b : Bool) (v s : SessionState) (behind : Option SessionState) → cond b (Some v) behind ≡ Some s
    → (v ≡ s) ⊎ (behind ≡ Some s)
first_or_behind true v s behind e = inl (cc)
first_or_behind false v s behind e = inr e

-- one further, of which it holds
pub holds_or_later : (P : SessionState → Type 0) (later rest : List (ℕ × SessionState)) (k : ℕ) (v : SessionState)
    → later ≡ (k, v) ∷ rest → P v → (entries : List (ℕ × SessionState)) → HoldsOrIn P later entries → HoldsOrIn P rest entries
holds_or_later P later rest k v split holds entries h session s at =
    ⊎_elim (λ (e : P s). inl e)
    (λ (l : lookup (nat_eq session) later ≡ Some s).
    ⊎_elim (λ (same : v ≡ s). inl (subst P same holds)) (λ (behind : lookup (nat_eq session) rest ≡ Some s). inr behind)
    (first_or_behind (nat_eq session k) v s (lookup (nat_eq session) rest) (ap (λ x. lookup (nat_eq session) x) (sym split) ∙ l)))
    (h session s at)

-- none is left to come
pub all_hold : (P : SessionState → Type 0) (later : List (ℕ × SessionState)) → later ≡ [] → (entries : List (ℕ × SessionState))
    → HoldsOrIn P later entries → (session : ℕ) (s : SessionState) → lookup (nat_eq session) entries ≡ Some s → P s
all_hold P later none entries h session s at =
    ⊎_elim (λ (e : P s). e)
    (λ (l : lookup (nat_eq session) later ≡ Some s). let no : None ≡ Some s = ap (λ x. lookup (nat_eq session) x) (sym none) ∙ l in absurd (cc))
    (h session s at)
