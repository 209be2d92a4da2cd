-- The lines of `stats`.
use Rattle.std.proofs.Common.{◌≡◌, ℕ, ◌^◌, ◌<◌, ◌&&◌, ◌||◌, Bool, true, List, [], ◌∷◌, ◌++◌, length, refl, sym, ap, ◌∙◌, append_assoc, arith}
use Rattle.std.specs.Prelude.{◌==◌, ◌≤◌, IsTrue, codes, decimal, drop, nat_le, flat_map}
use Rattle.std.specs.Char.{is_ascii_digit, is_ascii_alphanumeric}
use Rattle.std.specs.List.{list_all}
use Rattle.std.specs.Str.{all_ascii_digits}
use Rattle.std.proofs.lemmas.Bool.{and_parts, and_from, le-leb}
use Rattle.std.proofs.lemmas.Fmt.{digits_decimal, decimal_nonempty}
use Rattle.std.proofs.lemmas.Grind.{flat_map-append}
use Rattle.std.proofs.lemmas.List.{append-nil, length-append}
use Rattle.std.proofs.lemmas.List.Folds.{list_all-append}
use Rattle.std.proofs.lemmas.Str.Parse.{numerals_by_value, tells_all_ascii_digits}
use Rattle.proto.specs.declared.counts.Counts.{Counts}
use Rattle.proto.specs.StatTexts.{stat_bytes, count_lines, is_plain, names_gauge, IsStats}

-- a byte of a plain word
abbrev is_plain_byte : ℕ → Bool
is_plain_byte b = is_ascii_alphanumeric b || b == 95 || b == 46 || b == 45

-- a digit is a plain byte
digit_plain : (c : ℕ) → is_ascii_digit c ≡ true → is_plain_byte c ≡ true
digit_plain c e = rw e refl

-- digits are plain bytes
digits_plain : (ds : List ℕ) → all_ascii_digits ds ≡ true → list_all is_plain_byte ds ≡ true
digits_plain [] e = refl
digits_plain (c ∷ cs) e =
    let parts = and_parts (is_ascii_digit c) (all_ascii_digits cs) e in
    and_from (is_plain_byte c) (list_all is_plain_byte cs) (digit_plain c parts.0) (digits_plain cs parts.1)

-- a number is a plain word
pub decimal_plain : (n : ℕ) → n < 2 ^ 64 → IsTrue (is_plain (decimal n))
decimal_plain n small =
    let digits = digits_decimal (numerals_by_value (λ ds. all_ascii_digits ds ≡ true) tells_all_ascii_digits) n small in
    and_from (nat_le 1 (length (decimal n))) (list_all is_plain_byte (decimal n))
    (le-leb 1 (length (decimal n)) (decimal_nonempty n small)) (digits_plain (decimal n) digits)

-- what is plain byte for byte is so behind its first byte
behind_plain : (l : List ℕ) → list_all is_plain_byte l ≡ true → list_all is_plain_byte (drop 1 l) ≡ true
behind_plain [] e = refl
behind_plain (c ∷ cs) e = (and_parts (is_plain_byte c) (list_all is_plain_byte cs) e).1

-- a number, a point and what is behind the first digit of a number are a plain word
pub seconds_plain : (n m : ℕ) → n < 2 ^ 64 → m < 2 ^ 64
    → IsTrue (is_plain ((decimal n ++ codes ".") ++ drop 1 (decimal m)))
seconds_plain n m small few =
    let whole = and_parts (nat_le 1 (length (decimal n))) (list_all is_plain_byte (decimal n)) (decimal_plain n small) in
    let part = and_parts (nat_le 1 (length (decimal m))) (list_all is_plain_byte (decimal m)) (decimal_plain m few) in
    let front : list_all is_plain_byte (decimal n ++ codes ".") ≡ true =
    list_all-append is_plain_byte (decimal n) (codes ".") ∙ and_from (list_all is_plain_byte (decimal n)) true whole.1 refl in
    let all : list_all is_plain_byte ((decimal n ++ codes ".") ++ drop 1 (decimal m)) ≡ true =
    list_all-append is_plain_byte (decimal n ++ codes ".") (drop 1 (decimal m))
    ∙ and_from (list_all is_plain_byte (decimal n ++ codes ".")) (list_all is_plain_byte (drop 1 (decimal m))) front
    (behind_plain (decimal m) part.1) in
    let some : 1 ≤ length ((decimal n ++ codes ".") ++ drop 1 (decimal m)) =
    let a = length-append (decimal n ++ codes ".") (drop 1 (decimal m)) in
    let b = length-append (decimal n) (codes ".") in
    let c = decimal_nonempty n small in omega (arith, a, b, c) in
    and_from (nat_le 1 (length ((decimal n ++ codes ".") ++ drop 1 (decimal m)))) _ (le-leb 1 _ some) all

-- a line of a gauge
abbrev is_line : Counts → List ℕ × List ℕ → Bool
is_line c gauge = names_gauge c gauge.0 && is_plain gauge.1

-- one more line of a gauge
pub gauge_more : (c : Counts) (lines name value : List ℕ) → IsStats c lines → IsTrue (names_gauge c name)
    → IsTrue (is_plain value) → IsStats c (lines ++ stat_bytes (name, value))
gauge_more c lines name value is plain word =
    let line : List ℕ × List ℕ = (name, value) in
    let one : flat_map stat_bytes (line ∷ []) ≡ stat_bytes line = append-nil (stat_bytes line) in
    let said = count_lines c ++ is.0 in
    let all : flat_map stat_bytes (said ++ line ∷ []) ≡ flat_map stat_bytes said ++ stat_bytes line =
    flat_map-append stat_bytes said (line ∷ []) ∙ ap (λ (l : List ℕ). flat_map stat_bytes said ++ l) one in
    let last : list_all (is_line c) (line ∷ []) ≡ true = and_from (is_line c line) true (and_from _ _ plain word) refl in (
      is.0 ++ line ∷ [],
      list_all-append (is_line c) is.0 (line ∷ []) ∙ and_from (list_all (is_line c) is.0) (list_all (is_line c) (line ∷ [])) is.1 last,
      ap (λ (l : List ℕ). l ++ stat_bytes line) is.2 ∙ sym all
          ∙ ap (λ (l : List (List ℕ × List ℕ)). flat_map stat_bytes l) (append_assoc (count_lines c) is.0 (line ∷ [])),
    )
