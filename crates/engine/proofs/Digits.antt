-- Numbers, read digit by digit.
use Rattle.std.proofs.Common.{◌≡◌, ℕ, suc, ◌+◌, ◌-◌, ◌*◌, ◌^◌, ◌<◌, ◌≤◌, true, false, eqb, ltb, List, length, drop, get_or}
use Rattle.std.proofs.Common.{Some, None, refl, sym, ap, ◌∙◌, le-leb, drop-cons, arith}
use Rattle.std.specs.Char.{digit_value}
use Rattle.std.proofs.lemmas.Bool.{le-ltb, lt-ltb, eqb-false, and_right}
use Rattle.std.proofs.lemmas.List.{at_drop_all}
use Rattle.std.proofs.lemmas.Str.{digit_value_digit}
use Rattle.proto.specs.Commands.{is_number}
use Rattle.std.specs.Str.{all_ascii_digits}
use Rattle.std.specs.Str.Parse.{digits_value, digits_value_after}
use Rattle.engine.specs.Number.{number_of}
use Rattle.proto.proofs.FirstWord.{after_le}

-- the next of the digits makes the number too large
pub number_of_overflow : (value : List ℕ) (n k : ℕ) → k < length value
    → digits_value_after 10 n (drop k value) ≡ digits_value 10 value
    → 48 ≤ get_or value k 0 → get_or value k 0 ≤ 57 → (n * 10 + (get_or value k 0 - 48) < 2 ^ 64 → ⊥)
    → None ≡ number_of value
number_of_overflow value n k lt is low high large =
    let digit : digit_value (get_or value k 0) + 48 ≡ get_or value k 0 =
    digit_value_digit (get_or value k 0) (low, high) in
    let grows : n * 10 + digit_value (get_or value k 0) ≤ digits_value_after 10 n (drop k value) =
    rw (drop-cons value k 0 lt)
    (after_le (n * 10 + digit_value (get_or value k 0)) (drop (suc k) value)) in
    let over : 2 ^ 64 ≤ digits_value 10 value = omega arith in
    let too_large : ltb (digits_value 10 value) (2 ^ 64) ≡ false = le-ltb _ _ over in
    let no : is_number value ≡ false = and_right _ _ too_large in
    rw no refl

-- all digits are read
pub number_of_read : (value : List ℕ) (n k : ℕ) → eqb (length value) 0 ≡ false → length value ≤ 20 → length value ≤ k
    → n < 2 ^ 64
    → all_ascii_digits (drop k value) ≡ all_ascii_digits value
    → digits_value_after 10 n (drop k value) ≡ digits_value 10 value
    → Some n ≡ number_of value
number_of_read value n k some short end small digits is =
    let number : n ≡ digits_value 10 value = sym (at_drop_all (digits_value_after 10 n) value k end) ∙ is in
    let all : all_ascii_digits value ≡ true = sym digits ∙ at_drop_all all_ascii_digits value k end in
    let empty : length value ≡ 0 → ⊥ = eqb-false (length value) 0 some in
    let fits : digits_value 10 value < 2 ^ 64 = omega arith in
    rw (le-leb 1 (length value) (omega arith), le-leb (length value) 20 short, all, lt-ltb _ _ fits) (ap Some number)
