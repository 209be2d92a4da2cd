-- The first word of a line, read from the line's front.
use Rattle.std.proofs.Common.{◌≡◌, ℕ, ℤ, ◌+◌, ◌-◌, ◌*◌, ◌^◌, ◌<◌, ◌≤◌, Bool, true, false, cond, eqb, not}
use Rattle.std.proofs.Common.{List, [], ◌∷◌, ◌++◌, length, take, drop}
use Rattle.std.proofs.Common.{get_or, Option, Some, None, refl, sym, ap, ◌∙◌, arith, length-take-le, one-add, take-append-drop, inl, inr, lit<}
use Rattle.std.specs.Prelude.{nat_le, decimal, pos, negsuc, is_some, IsTrue, bytes_eq, codes}
use Rattle.std.specs.Borrow.{Bor}
use Rattle.std.specs.Char.{is_ascii_digit, digit_value}
use Rattle.std.specs.List.{prefix_len, take_while, list_all, list_any}
use Rattle.std.specs.Str.Parse.{AllDigits, digits_value, digits_value_after}
use Rattle.std.proofs.lemmas.Bool.{and_parts, and_from, or_parts, cases_Bool, le-leb, leb-true, eqb-true, eqb-false, ne_eqb, false≢true}
use Rattle.std.proofs.lemmas.List.Sums.{prefix_len-le-length}
use Rattle.std.proofs.lemmas.List.{take_all, append-nil}
use Rattle.std.proofs.lemmas.Fmt.{decimal_is_IsNumeral_wide, decimal-digits_value, first_decimal, decimal_digit}
use Rattle.std.proofs.lemmas.Str.{digit_value_digit}
use Rattle.std.proofs.lemmas.Str.Parse.{IsNumeralModel, digit_from_value}
use Rattle.proto.specs.Lines.{is_key}
use Rattle.proto.specs.PlainReader.{◌>>=◌, only_if, key_in, taken, number_in, negative_in, plain_in, signed_in}
use Rattle.proto.specs.PlainReader.{quiet_in}
use Rattle.proto.specs.Words.{space, spaced, is_space, IsWord, words_of, first_word, is_key_byte, is_key_length, words_behind}
use Rattle.proto.proofs.Numbers.{number_in_some, number_in_none, key_bytes_word, digits_word}
use Rattle.proto.proofs.WordLists.{some_words, first_word-words_of, words_of_one, words_of_more, spaced-words_of}

-- ---- the first word

-- the same of the words under another name
parts_of : (line : List ℕ) (words : List (List ℕ)) → words_of line ≡ words
    → (args : List (List ℕ)) × (words_of line ≡ first_word line ∷ args)
parts_of line [] e = let some = some_words line in let none = ap length e in absurd (omega (arith, some, none))
parts_of line (word ∷ args) e = (args, e ∙ ap (λ (w : List ℕ). w ∷ args) (sym (first_word-words_of line word args e)))

-- the words of a line are its first one and others
pub words_parts : (line : List ℕ) → (args : List (List ℕ)) × (words_of line ≡ first_word line ∷ args)
words_parts line = parts_of line (words_of line) refl

-- nothing is taken where the first word isn't read
pub taken_none : {A : Type 0} (read : List ℕ → Option A) (line : List ℕ) → read (first_word line) ≡ None
    → None ≡ taken read (words_of line)
taken_none read line e = let parts = words_parts line in rw (parts.1, e) refl

-- what the first word is read as is taken
pub taken_some : {A : Type 0} (read : List ℕ → Option A) (line word : List ℕ) (args : List (List ℕ)) (a : A)
    → words_of line ≡ word ∷ args → Some a ≡ read word
    → Some (a, args) ≡ taken read (words_of line)
taken_some read line word args a parts e = rw (parts, ← e) refl

-- a byte in front that is no space is in the first word
pub first_word_cons : (c : ℕ) (line : List ℕ) → is_space c ≡ false → first_word (c ∷ line) ≡ c ∷ first_word line
first_word_cons c line other = rw (other, one-add) refl

-- the first word before a space has no bytes
first_word_space : (c : ℕ) (line : List ℕ) → is_space c ≡ true → first_word (c ∷ line) ≡ []
first_word_space c line here = rw here refl

-- as many bytes pass in front of a line as in front of its first word, where a space doesn't pass
pub prefix_first : (p : ℕ → Bool) → p space ≡ false → (line : List ℕ)
    → prefix_len p line ≡ prefix_len p (first_word line)
prefix_first p stops [] = refl
prefix_first p stops (c ∷ line) =
    elim (cases_Bool (is_space c)) [
      | inl here ↦
          let c-is : c ≡ 32 = eqb-true c 32 here in
          let fails : p c ≡ false = ap p c-is ∙ stops in
          rw (first_word_space c line here, fails) refl
      | inr other ↦ rw (first_word_cons c line other, prefix_first p stops line) refl
    ]

-- one byte more in front of bytes that are taken
taken_cons : (c : ℕ) (line word : List ℕ) (n m : ℕ) (t : Bool) → take n line ≡ take m word
    → take (cond t (1 + n) 0) (c ∷ line) ≡ take (cond t (1 + m) 0) (c ∷ word)
taken_cons c line word n m true e = rw (one-add, one-add) (ap (λ (w : List ℕ). c ∷ w) e)
taken_cons c line word n m false e = refl

-- and these are the same bytes
pub take_first : (p : ℕ → Bool) → p space ≡ false → (line : List ℕ) → take_while p line ≡ take_while p (first_word line)
take_first p stops [] = refl
take_first p stops (c ∷ line) =
    elim (cases_Bool (is_space c)) [
      | inl here ↦
          let c-is : c ≡ 32 = eqb-true c 32 here in
          let fails : p c ≡ false = ap p c-is ∙ stops in
          rw (first_word_space c line here, fails) refl
      | inr other ↦
          rw (first_word_cons c line other)
          (taken_cons c line (first_word line) (prefix_len p line) (prefix_len p (first_word line)) (p c)
          (take_first p stops line))
    ]

-- the bytes in front that pass all pass
pub all_prefix : (p : ℕ → Bool) (xs : List ℕ) → list_all p (take_while p xs) ≡ true
all_prefix p [] = refl
all_prefix p (x ∷ xs) =
    elim (cases_Bool (p x)) [
      | inl passes ↦ rw (passes, one-add, passes) (all_prefix p xs)
      | inr fails ↦ rw fails refl
    ]

-- where all bytes pass, they are all of the front
pub full_prefix : (p : ℕ → Bool) (xs : List ℕ) → list_all p xs ≡ true → prefix_len p xs ≡ length xs
full_prefix p [] h = refl
full_prefix p (x ∷ xs) h =
    let parts = and_parts (p x) (list_all p xs) h in
    let below = full_prefix p xs parts.1 in
    rw parts.0 (omega (arith, below))

-- ---- the end of a word

-- the words of a line with a word in front and nothing after it
pub front_alone : (line front behind : List ℕ) (n : ℕ) → IsWord (take n line) → front ≡ take n line
    → behind ≡ drop n line → length behind ≡ 0
    → (front ≡ take n line) × (words_of line ≡ front ∷ [])
front_alone line front [] n word front-is behind-is none =
    let whole : line ≡ take n line = sym (take-append-drop n line) ∙ rw (← behind-is) (append-nil (take n line)) in
    (front-is, rw front-is (ap words_of whole ∙ words_of_one (take n line) word))
front_alone line front (b ∷ behind) n word front-is behind-is none = absurd (omega arith)

-- with a space after it
pub front_spaced : (line front behind rest : List ℕ) (n c : ℕ) → IsWord (take n line) → front ≡ take n line
    → behind ≡ drop n line → behind ≡ c ∷ rest → c ≡ 32
    → (front ≡ take n line) × (words_of line ≡ front ∷ words_of rest)
front_spaced line front behind rest n c word front-is behind-is parts space-is =
    let whole : line ≡ take n line ++ 32 ∷ rest =
    sym (take-append-drop n line) ∙ ap (λ (b : List ℕ). take n line ++ b)
    (sym behind-is ∙ parts ∙ ap (λ (x : ℕ). x ∷ rest) space-is) in
    (front-is, rw front-is (ap words_of whole ∙ words_of_more (take n line) rest word))

-- a first word is longer than a front of it
longer : (front rest : List ℕ) (c : ℕ) → IsWord front → is_space c ≡ false
    → length front < length (first_word (front ++ c ∷ rest))
longer [] rest c word other = let more = first_word_cons c rest other in rw more (omega arith)
longer (x ∷ front) rest c word other =
    let parts = or_parts (is_space x) (list_any is_space front) word in
    let more = first_word_cons x (front ++ c ∷ rest) parts.0 in
    let below = longer front rest c parts.1 other in
    rw more (omega (arith, below))

-- with another byte after it
pub front_longer : (line behind rest : List ℕ) (n c : ℕ) → n ≤ length line → IsWord (take n line) → behind ≡ drop n line
    → behind ≡ c ∷ rest → (c ≡ 32 → ⊥)
    → n < length (first_word line)
front_longer line behind rest n c within word behind-is parts other =
    let whole : line ≡ take n line ++ c ∷ rest =
    sym (take-append-drop n line) ∙ ap (λ (b : List ℕ). take n line ++ b) (sym behind-is ∙ parts) in
    let len : length (take n line) ≡ n = length-take-le n line within in
    let more = longer (take n line) rest c word (ne_eqb c 32 other) in
    let same = ap (λ (l : List ℕ). length (first_word l)) whole in
    omega (arith, len, more, same)

-- ---- keys

-- a first word that is a key is as long as the bytes in front that a key may have
pub key_is : (line : List ℕ) → is_key (first_word line) ≡ true
    → (prefix_len is_key_byte line ≡ length (first_word line)) × (is_key_length (prefix_len is_key_byte line) ≡ true)
key_is line h =
    let word = first_word line in
    let parts = and_parts (is_key_length (length word)) (list_all is_key_byte word) h in
    let whole : prefix_len is_key_byte line ≡ length word =
    prefix_first is_key_byte refl line ∙ full_prefix is_key_byte word parts.1 in
    (whole, ap is_key_length whole ∙ parts.0)

-- a word that is no key is not read as one
no_key_by : (word : List ℕ) (t : Bool) → is_key word ≡ t → (t ≡ true → ⊥) → key_in word ≡ None
no_key_by word true e never = absurd (never refl)
no_key_by word false e never = rw e refl

-- no key is taken where the first word is none
pub no_key : (line : List ℕ) → (is_key (first_word line) ≡ true → ⊥) → None ≡ taken key_in (words_of line)
no_key line never = taken_none key_in line (no_key_by (first_word line) (is_key (first_word line)) refl (λ e. never e))

-- bytes that a key may have are one
pub is_key_front : (line : List ℕ) → is_key_length (prefix_len is_key_byte line) ≡ true
    → is_key (take_while is_key_byte line) ≡ true
is_key_front line few =
    let len : length (take_while is_key_byte line) ≡ prefix_len is_key_byte line =
    length-take-le (prefix_len is_key_byte line) line (prefix_len-le-length is_key_byte line) in
    and_from (is_key_length (length (take_while is_key_byte line))) (list_all is_key_byte (take_while is_key_byte line))
    (ap is_key_length len ∙ few) (all_prefix is_key_byte line)

-- bytes that a key may have are no spaces
pub key_front_word : (line : List ℕ) → IsWord (take_while is_key_byte line)
key_front_word line = key_bytes_word (take_while is_key_byte line) (all_prefix is_key_byte line)

-- ---- numbers

-- the value of a digit
pub digit_of : (c : ℕ) → is_ascii_digit c ≡ true → (digit_value c + 48 ≡ c) × (digit_value c < 10)
digit_of c h =
    let parts = and_parts (nat_le 48 c) (nat_le c 57) h in
    let low = leb-true 48 c parts.0 in
    let high = leb-true c 57 parts.1 in
    let value = digit_value_digit c (low, high) in
    (value, omega (arith, value, high))

-- bytes that pass as digits are digits
all_digits : (xs : List ℕ) → list_all is_ascii_digit xs ≡ true → AllDigits 10 xs
all_digits [] h = tt
all_digits (x ∷ xs) h =
    let parts = and_parts (is_ascii_digit x) (list_all is_ascii_digit xs) h in
    ((digit_of x parts.0).1, all_digits xs parts.1)

-- digits pass as digits
digits_all : (xs : List ℕ) → AllDigits 10 xs → list_all is_ascii_digit xs ≡ true
digits_all [] h = refl
digits_all (x ∷ xs) h =
    let range = digit_from_value x h.0 in
    rw (le-leb 48 x (omega (arith, range)), le-leb x 57 (omega (arith, range)), digits_all xs h.1) refl

-- the bytes in front that pass as digits are digits
pub digits_front : (line : List ℕ) → AllDigits 10 (take_while is_ascii_digit line)
digits_front line = all_digits (take_while is_ascii_digit line) (all_prefix is_ascii_digit line)

-- digits are no spaces
pub digits_front_word : (line : List ℕ) → IsWord (take_while is_ascii_digit line)
digits_front_word line = digits_word (take_while is_ascii_digit line) (digits_front line)

-- digits and their value in std's words
own : IsNumeralModel (λ ds. AllDigits 10 ds) (digits_value 10)
own = record { to = λ ds h. h; from = λ ds h. h; same = λ ds h. refl }

-- digits that begin with no 0, or are one digit, are the plain decimal of their value
pub plain_number : (bound : ℕ) (ds : List ℕ) → bound ≤ 2 ^ 64 → AllDigits 10 ds → 0 < length ds
    → (get_or ds 0 0 ≡ 48 → length ds ≡ 1) → digits_value 10 ds < bound
    → Some (digits_value 10 ds) ≡ number_in bound ds
plain_number bound ds small digits some plain below =
    number_in_some bound (digits_value 10 ds) ds (omega arith) below
    (sym (decimal-digits_value own ds digits some plain (omega arith)))

-- the same of digits that were read from the front
pub read_plain : (most n : ℕ) (ds : List ℕ) → most < 2 ^ 64 → AllDigits 10 ds → n ≡ digits_value 10 ds → n ≤ most
    → (0 < length ds) × (get_or ds 0 0 ≡ 48 → length ds ≡ 1)
    → Some n ≡ number_in (most + 1) ds
read_plain most n ds small digits value high plain =
    rw value (plain_number (most + 1) ds (omega arith) digits plain.0 plain.1 (omega (arith, value, high)))

-- what is known of the digits of a plain decimal
pub record IsPlainOf (ds : List ℕ) (n : ℕ) : Type 0 where
  pub whole : prefix_len is_ascii_digit ds ≡ length ds
  pub same : take_while is_ascii_digit ds ≡ ds
  pub value : digits_value 10 ds ≡ n
  pub some : 0 < length ds
  pub plain : get_or ds 0 0 ≡ 48 → length ds ≡ 1

-- a plain decimal that begins with 0 is one digit
zero_alone : (n : ℕ) → n < 2 ^ 64 → (b : Bool) → eqb n 0 ≡ b → get_or (decimal n) 0 0 ≡ 48 → length (decimal n) ≡ 1
zero_alone n below true e h = let n-is : n ≡ 0 = eqb-true n 0 e in rw (n-is, decimal_digit 0 (lit< tt)) refl
zero_alone n below false e h =
    let other = eqb-false n 0 e in
    let first = first_decimal n (pos-of n other) below in
    absurd (omega (arith, first, h))
  where
    pos-of : (n : ℕ) → (n ≡ 0 → ⊥) → 0 < n
    pos-of n other = omega arith

-- a plain decimal is plain
pub decimal_plain : (ds : List ℕ) (n : ℕ) → n < 2 ^ 64 → ds ≡ decimal n → IsPlainOf ds n
decimal_plain ds n below e =
    let numeral = decimal_is_IsNumeral_wide n (omega arith) in
    let all : list_all is_ascii_digit ds ≡ true = ap (list_all is_ascii_digit) e ∙ digits_all (decimal n) numeral.0.1 in
    let whole = full_prefix is_ascii_digit ds all in
    let same : take_while is_ascii_digit ds ≡ ds =
    ap (λ (k : ℕ). take k ds) whole ∙ take_all (length ds) ds (omega arith) in
    record {
      whole = whole;
      same = same;
      value = ap (digits_value 10) e ∙ numeral.1;
      some = rw e numeral.0.0;
      plain = rw e (zero_alone n below (eqb n 0) refl);
    }

-- nothing is taken where the first word is the plain decimal of no number below the bound
pub no_number : (bound : ℕ) (line : List ℕ) → ((n : ℕ) → n < bound → first_word line ≡ decimal n → ⊥)
    → None ≡ taken (number_in bound) (words_of line)
no_number bound line never = taken_none (number_in bound) line (sym (number_in_none bound (first_word line) never))

-- the digits in front of a line whose first word is a plain decimal are that word
pub first_plain : (line : List ℕ) (n : ℕ) → n < 2 ^ 64 → first_word line ≡ decimal n
    → (prefix_len is_ascii_digit line ≡ length (first_word line)) × (take_while is_ascii_digit line ≡ decimal n)
first_plain line n below e =
    let plain = decimal_plain (first_word line) n below e in
    (prefix_first is_ascii_digit refl line ∙ plain.whole, take_first is_ascii_digit refl line ∙ plain.same ∙ e)

-- ---- the loop over digits

-- a number does not fall by further digits
pub after_le : (n : ℕ) (ds : List ℕ) → n ≤ digits_value_after 10 n ds
after_le n [] = omega arith
after_le n (d ∷ ds) = let below = after_le (n * 10 + digit_value d) ds in omega (arith, below)

-- one digit more
pub digit_step : (n c : ℕ) (rest : List ℕ) → is_ascii_digit c ≡ true
    → digits_value_after 10 n (take_while is_ascii_digit (c ∷ rest))
    ≡ digits_value_after 10 (n * 10 + (c - 48)) (take_while is_ascii_digit rest)
digit_step n c rest h =
    let value : digit_value c ≡ c - 48 = let v = (digit_of c h).0 in omega (arith, v) in
    rw (h, one-add) (ap (λ (d : ℕ). digits_value_after 10 (n * 10 + d) (take_while is_ascii_digit rest)) value)

-- a digit that is one too many
pub digit_overflows : (n c v : ℕ) (rest : List ℕ) → is_ascii_digit c ≡ true
    → digits_value_after 10 n (take_while is_ascii_digit (c ∷ rest)) ≡ v
    → 2 ^ 64 ≤ n * 10 + (c - 48) → 2 ^ 64 ≤ v
digit_overflows n c v rest h e large =
    let step = digit_step n c rest h in
    let above = after_le (n * 10 + (c - 48)) (take_while is_ascii_digit rest) in
    omega (arith, step, above, e, large)

-- and is counted
pub digit_counts : (c : ℕ) (rest : List ℕ) → is_ascii_digit c ≡ true
    → prefix_len is_ascii_digit (c ∷ rest) ≡ 1 + prefix_len is_ascii_digit rest
digit_counts c rest h = rw h refl

-- ---- signed numbers

-- a value that was read, and the words after it
abbrev pub with_words : {A : Type 0} → List (List ℕ) → A → Option (A × List (List ℕ))
with_words words a = Some (a, words)

-- the negative of a number that was taken, which isn't 0
abbrev pub negative_pair : ℕ × List (List ℕ) → Option (ℤ × List (List ℕ))
negative_pair p = only_if (not (eqb p.0 0)) (Some (negsuc (p.0 - 1), p.1))

-- a number that was taken, as a signed one
abbrev pub plain_pair : ℕ × List (List ℕ) → Option (ℤ × List (List ℕ))
plain_pair p = Some (pos p.0, p.1)

-- a test commutes with the words behind
tested : (words : List (List ℕ)) (b : Bool) (n : ℕ)
    → (only_if b (Some (negsuc (n - 1))) >>= with_words words) ≡ only_if b (with_words words (negsuc (n - 1)))
tested words true n = refl
tested words false n = refl

-- a negative number by what its digits are read as
negative_by : (words : List (List ℕ)) (o : Option ℕ)
    → ((o >>= λ n. only_if (not (eqb n 0)) (Some (negsuc (n - 1)))) >>= with_words words)
    ≡ ((o >>= with_words words) >>= negative_pair)
negative_by words None = refl
negative_by words (Some n) = tested words (not (eqb n 0)) n

-- what a negative number is taken as, by its digits
taken_negative : (bound : ℕ) (words : List (List ℕ))
    → taken (negative_in bound) words ≡ (taken (number_in bound) words >>= negative_pair)
unfolding negative_in
taken_negative bound [] = refl
taken_negative bound (word ∷ words) = negative_by words (number_in bound word)

-- a number without a sign by what its digits are read as
plain_by : (words : List (List ℕ)) (o : Option ℕ)
    → ((o >>= λ n. Some (pos n)) >>= with_words words) ≡ ((o >>= with_words words) >>= plain_pair)
plain_by words None = refl
plain_by words (Some n) = refl

-- what a number without a sign is taken as
taken_plain : (bound : ℕ) (words : List (List ℕ))
    → taken (plain_in bound) words ≡ (taken (number_in bound) words >>= plain_pair)
unfolding plain_in
taken_plain bound [] = refl
taken_plain bound (word ∷ words) = plain_by words (number_in bound word)

-- a number behind `-`, by what its digits are taken as
pub signed_minus : (bound c : ℕ) (digits line : List ℕ) → line ≡ c ∷ digits → c ≡ 45
    → taken (signed_in bound) (words_of line) ≡ (taken (number_in bound) (words_of digits) >>= negative_pair)
unfolding signed_in
signed_minus bound c digits line e minus =
    let parts = words_parts digits in
    let same : taken (negative_in bound) (words_of digits) ≡ taken (signed_in bound) (words_of line) = rw (e, minus, parts.1) refl in
    sym same ∙ taken_negative bound (words_of digits)

-- a number without a sign
pub signed_no_minus : (bound c : ℕ) (rest line : List ℕ) → bound ≤ 2 ^ 64 → line ≡ c ∷ rest → (c ≡ 45 → ⊥)
    → taken (signed_in bound) (words_of line) ≡ (taken (number_in bound) (words_of line) >>= plain_pair)
unfolding signed_in plain_in
signed_no_minus bound c rest line small e other =
    let parts = words_parts rest in
    let nothing : None ≡ number_in bound [] =
    number_in_none bound [] (λ n lt is. let plain = decimal_plain [] n (omega arith) is in let some = plain.some in
    omega (arith, some)) in
    let same : taken (plain_in bound) (words_of line) ≡ taken (signed_in bound) (words_of line) =
    elim (cases_Bool (is_space c)) [
      | inl here ↦ rw (e, here, ← nothing) refl
      | inr not_space ↦ rw (e, not_space, parts.1, ne_eqb c 45 other) refl
    ] in
    sym same ∙ taken_plain bound (words_of line)

-- and nothing at all
pub signed_nothing : (bound : ℕ) (line : List ℕ) → length line ≡ 0 → None ≡ taken (signed_in bound) (words_of line)
unfolding signed_in
signed_nothing bound [] none = refl
signed_nothing bound (c ∷ line) none = absurd (omega arith)

-- ---- what is left of a line

-- a line has a first word
pub some_of : (line : List ℕ) → words_of line ≡ [] → ⊥
some_of line e = let some = some_words line in let none = ap length e in omega (arith, some, none)

-- no word is left exactly where nothing of the line is
pub no_words : (rest : Option (Bor (List ℕ))) (words : List (List ℕ)) (t : Bool) → words_behind rest ≡ words
    → is_some rest ≡ not t → (IsTrue t → words ≡ []) × (words ≡ [] → IsTrue t)
no_words None words true e is = (λ _. sym e, λ _. refl)
no_words None words false e is = absurd cc
no_words (Some rest) words true e is = absurd cc
no_words (Some rest) words false e is = (λ h. absurd (false≢true h), λ h. absurd (some_of rest.now (e ∙ h)))

-- words of a line other than `noreply`
quiet_words : (line : List ℕ) (words : List (List ℕ)) → spaced words ≡ line → bytes_eq line (codes "noreply") ≡ false
    → (words ≡ [] → ⊥) → None ≡ quiet_in words
quiet_words line [] e other some = absurd (some refl)
quiet_words line (word ∷ []) e other some =
    let same : bytes_eq word (codes "noreply") ≡ false = ap (λ (w : List ℕ). bytes_eq w (codes "noreply")) e ∙ other in
    rw same refl
quiet_words line (word ∷ next ∷ words) e other some = refl

-- what is left of a line is no `noreply`
pub quiet_other : (line : List ℕ) → bytes_eq line (codes "noreply") ≡ false → None ≡ quiet_in (words_of line)
quiet_other line other = quiet_words line (words_of line) (spaced-words_of line) other (λ e. some_of line e)
