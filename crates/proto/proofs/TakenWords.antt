-- The words after a storage line's command word, one after the other.
use Rattle.std.proofs.Common.{◌≡◌, ℕ, ℤ, ◌^◌, Bool, List, [], ◌∷◌, Option, Some, refl, sym, ap, ◌∙◌}
use Rattle.proto.specs.Lines.{is_key}
use Rattle.proto.specs.Grammar.{meant}
use Rattle.proto.specs.declared.dialect.Dialect.{Dialect}
use Rattle.proto.specs.declared.line.StorageWord.{StorageWord}
use Rattle.proto.specs.declared.line.StorageWord.TheVariants as storing
use Rattle.proto.specs.PlainReader.{key_in, taken, number_in, signed_in, quiet_in, plain_tail, unique_tail, tail_of, line_with, storage_in}
use Rattle.proto.proofs.Options.{bind_some, guarded_some, some_is}

-- a word that was taken, what it is read as, and the words after it
record IsTaken {A : Type 0} (read : List ℕ → Option A) (words rest : List (List ℕ)) (a : A) : Type 0 where
  word : List ℕ
  words_are : words ≡ word ∷ rest
  read_is : read word ≡ Some a

-- a value that was read, and the words after it
abbrev with_words : {A : Type 0} → List (List ℕ) → A → Option (A × List (List ℕ))
with_words words a = Some (a, words)

-- what is taken is read from a first word
is_taken : {A : Type 0} (read : List ℕ → Option A) (words rest : List (List ℕ)) (a : A)
    → with_words rest a ≡ taken read words → IsTaken read words rest a
is_taken read [] rest a e = absurd cc
is_taken {A} read (word ∷ words) rest a e =
    let found = bind_some (read word) (with_words words) (a, rest) (sym e) in
    let same = some_is (found.0, words) (a, rest) found.2 in
    let first : found.0 ≡ a = ap (λ (p : A × List (List ℕ)). p.0) same in
    let behind : words ≡ rest = ap (λ (p : A × List (List ℕ)). p.1) same in
    record { word = word; words_are = ap (λ (ws : List (List ℕ)). word ∷ ws) behind; read_is = rw (← first) found.1 }

-- a storage line whose words are taken one after the other
pub storage_taken : (dialect : Dialect) (verb : StorageWord) (words w1 w2 w3 w4 : List (List ℕ)) (key : List ℕ) (f : ℕ) (e : ℤ) (n : ℕ)
    (t : ℕ × Bool)
    → Some (key, w1) ≡ taken key_in words → Some (f, w2) ≡ taken (number_in (2 ^ 32)) w1
    → Some (e, w3) ≡ taken (signed_in (10 ^ 10)) w2 → Some (n, w4) ≡ taken (number_in (10 ^ 10)) w3
    → Some t ≡ tail_of verb w4 → Some (line_with verb key f (meant dialect e) n t) ≡ storage_in dialect verb words
storage_taken dialect verb words w1 w2 w3 w4 key f e n t key_read flags_read exptime_read size_read tail_read =
    let a = is_taken key_in words w1 key key_read in
    let b = is_taken (number_in (2 ^ 32)) w1 w2 f flags_read in
    let c = is_taken (signed_in (10 ^ 10)) w2 w3 e exptime_read in
    let d = is_taken (number_in (10 ^ 10)) w3 w4 n size_read in
    let parts = guarded_some (is_key a.word) (Some a.word) key a.read_is in
    let key_is = some_is a.word key parts.1 in
    let all : words ≡ a.word ∷ b.word ∷ c.word ∷ d.word ∷ w4 =
    a.words_are
    ∙ ap (λ (ws : List (List ℕ)). a.word ∷ ws)
    (b.words_are ∙ ap (λ (ws : List (List ℕ)). b.word ∷ ws)
    (c.words_are ∙ ap (λ (ws : List (List ℕ)). c.word ∷ ws) d.words_are)) in
    rw (all, parts.0, b.read_is, c.read_is, d.read_is, ← tail_read, key_is) refl

-- what ends a storage line: the cas number, and whether it is quiet
abbrev pub ending : ℕ → Bool → Option (ℕ × Bool)
ending unique quiet = Some (unique, quiet)

-- the words behind its size, without a cas number
pub plain_taken : (quiet : Bool) (words rest : List (List ℕ)) → Some quiet ≡ quiet_in rest → rest ≡ words
    → ending 0 quiet ≡ plain_tail words
plain_taken quiet words rest read same = rw (← same, ← read) refl

-- which all but `cas` are without
pub plain_verb : (verb : StorageWord) → (verb ≡ storing.Cas → ⊥) → (words : List (List ℕ)) → plain_tail words ≡ tail_of verb words
plain_verb storing.Cas not_cas words = absurd (not_cas refl)
plain_verb _ not_cas words = refl

-- the same with one
pub unique_taken : (n : ℕ) (quiet : Bool) (words more rest : List (List ℕ)) → Some (n, more) ≡ taken (number_in (2 ^ 64)) words
    → Some quiet ≡ quiet_in rest → rest ≡ more → ending n quiet ≡ unique_tail words
unique_taken n quiet words more rest number read same =
    let first = is_taken (number_in (2 ^ 64)) words more n number in
    rw (first.words_are, first.read_is, ← same, ← read) refl
