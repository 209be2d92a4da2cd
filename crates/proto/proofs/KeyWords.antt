-- Words that are all keys, read byte by byte.
use Rattle.std.proofs.Common.{◌≡◌, ◌<◌, ℕ, ◌+◌, Bool, true, false, cond, ◌&&◌, List, [], ◌∷◌, ◌++◌, length, arith}
use Rattle.std.proofs.Common.{refl, sym, ap, ◌∙◌, append_assoc, length-append, inl, inr}
use Rattle.std.specs.Prelude.{nat_le}
use Rattle.std.specs.List.{list_all}
use Rattle.std.proofs.lemmas.Bool.{and_parts, and_right, cases_Bool, eqb-true, lt-leb}
use Rattle.std.proofs.lemmas.List.{append-nil}
use Rattle.std.proofs.lemmas.List.Folds.{list_all-append}
use Rattle.proto.specs.Lines.{is_key}
use Rattle.proto.specs.Words.{is_space, words_of, first_word, is_key_byte, is_key_length}
use Rattle.proto.proofs.Numbers.{key_byte_other, key_bytes_word}
use Rattle.proto.proofs.WordLists.{words_of_one, words_of_more}
use Rattle.proto.proofs.FirstWord.{words_parts, first_word_cons}

-- the bytes go on with keys, of the first of which n bytes stand before them
abbrev pub goes_on : ℕ → List ℕ → Bool
goes_on n [] = is_key_length n
goes_on n (b ∷ rest) = cond (is_key_byte b) (goes_on (n + 1) rest) (is_space b && is_key_length n && goes_on 0 rest)

stopped : (x y : Bool) → (x && false && y) ≡ false
stopped true y = refl
stopped false y = refl

-- a key has at most 250 bytes
long_key : (n : ℕ) → 250 < n → is_key_length n ≡ false
long_key n many = rw (lt-leb n 250 many) (and_right (nat_le 1 n) false refl)

pub and_true : (x : Bool) → x ≡ (x && true)
and_true true = refl
and_true false = refl

-- bytes of a key are one if they are as many as a key has
key_by : (word : List ℕ) → list_all is_key_byte word ≡ true → is_key_length (length word) ≡ is_key word
key_by word all = rw all (and_true (is_key_length (length word)))

-- a word with a byte that a key can't have is none
no_key_with : (word rest : List ℕ) (b : ℕ) → list_all is_key_byte word ≡ true → is_key_byte b ≡ false → is_space b ≡ false
    → list_all is_key_byte (first_word (word ++ b ∷ rest)) ≡ false
no_key_with [] rest b all fails other = rw (first_word_cons b rest other, fails) refl
no_key_with (c ∷ word) rest b all fails other =
    let parts = and_parts (is_key_byte c) (list_all is_key_byte word) all in
    rw (first_word_cons c (word ++ b ∷ rest) (key_byte_other c parts.0), no_key_with word rest b parts.1 fails other) (and_right (is_key_byte c) false refl)

-- the same behind bytes of a key
keys_after : (word rest : List ℕ) → list_all is_key_byte word ≡ true
    → goes_on (length word) rest ≡ list_all is_key (words_of (word ++ rest))
keys_after word [] all =
    rw (append-nil word, words_of_one word (key_bytes_word word all)) (key_by word all ∙ and_true (is_key word))
keys_after word (b ∷ rest) all =
    elim (cases_Bool (is_key_byte b)) [
      | inl key ↦
          let more : list_all is_key_byte (word ++ b ∷ []) ≡ true =
          list_all-append is_key_byte word (b ∷ []) ∙ rw (all, key) refl in
          let below = keys_after (word ++ b ∷ []) rest more in
          rw key (rw (length-append, append_assoc) at below)
      | inr fails ↦ elim (cases_Bool (is_space b)) [
        | inl here ↦
            let b-is : b ≡ 32 = eqb-true b 32 here in
            rw (b-is, words_of_more word rest (key_bytes_word word all), ← key_by word all, ← keys_after [] rest refl) refl
        | inr other ↦
            let parts = words_parts (word ++ b ∷ rest) in
            let never : is_key (first_word (word ++ b ∷ rest)) ≡ false =
            and_right _ _ (no_key_with word rest b all fails other) in
            rw (fails, other) (sym (ap (list_all is_key) parts.1 ∙ ap (λ (t : Bool). t && list_all is_key parts.0) never))
      ]
    ]

-- the words of a line are keys
pub are_keys : (line : List ℕ) → goes_on 0 line ≡ list_all is_key (words_of line)
are_keys line = keys_after [] line refl

-- more bytes than a key has are the first of none
pub too_many : (n : ℕ) (rest : List ℕ) → 250 < n → goes_on n rest ≡ false
too_many n [] many = long_key n many
too_many n (b ∷ rest) many =
    elim (cases_Bool (is_key_byte b)) [
      | inl key ↦ rw key (too_many (n + 1) rest (omega (arith, many)))
      | inr other ↦ rw (other, long_key n many) (stopped (is_space b) (goes_on 0 rest))
    ]
