use Rattle.std.proofs.Common.{◌≡◌, ◌∷◌, ◌+◌, ◌-◌, ◌*◌, true, sym, ap, ◌∙◌, arith}
use Rattle.std.specs.Char.{is_ascii_digit}
use Rattle.std.specs.List.{prefix_len, take_while}
use Rattle.std.specs.Str.Parse.{digits_value, digits_value_after}
use Rattle.proto.proofs.FirstWord.{digit_step, digit_overflows, digit_counts}
use Rattle.proto.proofs.words.leading_number.Goals as goal

pub returns-in_err-checked_mul : goal.returns-in_err-checked_mul
returns-in_err-checked_mul c =
    let digit : is_ascii_digit c.in-Some.byte.now ≡ true = sym c.if-not-is_ascii_digit.ensures.value in
    let value : digits_value_after 10 c.loop-byte.n
    (take_while is_ascii_digit (c.in-Some.byte.now ∷ c.in-Some.behind.now))
    ≡ digits_value 10 (take_while is_ascii_digit c.args.bytes.now) =
    rw c.in-Some.ensures.cases.0 at c.loop-byte.invariant.value in
    let large = c.in_err-checked_mul.ensures in
    rw c.from_residual.ensures
    (digit_overflows c.loop-byte.n c.in-Some.byte.now (digits_value 10 (take_while is_ascii_digit c.args.bytes.now))
    c.in-Some.behind.now digit value (omega (arith, large)))

pub returns-in_err-n : goal.returns-in_err-n
returns-in_err-n c =
    let digit : is_ascii_digit c.in-Some.byte.now ≡ true = sym c.if-not-is_ascii_digit.ensures.value in
    let value : digits_value_after 10 c.loop-byte.n
    (take_while is_ascii_digit (c.in-Some.byte.now ∷ c.in-Some.behind.now))
    ≡ digits_value 10 (take_while is_ascii_digit c.args.bytes.now) =
    rw c.in-Some.ensures.cases.0 at c.loop-byte.invariant.value in
    let large = c.in_err-n.ensures in
    let tens = c.in_ok-checked_mul.ensures.1 in
    let ones = c.from.ensures in
    rw c.from_residual-in_err-n.ensures
    (digit_overflows c.loop-byte.n c.in-Some.byte.now (digits_value 10 (take_while is_ascii_digit c.args.bytes.now))
    c.in-Some.behind.now digit value (omega (arith, large, tens, ones)))

pub loop-byte-preserved : goal.loop-byte-preserved
loop-byte-preserved c =
    let digit : is_ascii_digit c.in-Some.byte.now ≡ true = sym c.if-not-is_ascii_digit.ensures.value in
    let value : digits_value_after 10 c.loop-byte.n
    (take_while is_ascii_digit (c.in-Some.byte.now ∷ c.in-Some.behind.now))
    ≡ digits_value 10 (take_while is_ascii_digit c.args.bytes.now) =
    rw c.in-Some.ensures.cases.0 at c.loop-byte.invariant.value in
    let counted : c.loop-byte.length + prefix_len is_ascii_digit (c.in-Some.byte.now ∷ c.in-Some.behind.now)
    ≡ prefix_len is_ascii_digit c.args.bytes.now =
    rw c.in-Some.ensures.cases.0 at c.loop-byte.invariant.counted in
    let tens = c.in_ok-checked_mul.ensures.1 in
    let ones = c.from.ensures in
    let sum = c.in_ok-n.ensures.1 in
    let n-is : c.in_ok-n.n ≡ c.loop-byte.n * 10 + (c.in-Some.byte.now - 48) = omega (arith, tens, ones, sum) in
    let one = digit_counts c.in-Some.byte.now c.in-Some.behind.now digit in
    record {
      value = ap (λ n. digits_value_after 10 n (take_while is_ascii_digit c.in-Some.behind.now)) n-is
          ∙ sym (digit_step c.loop-byte.n c.in-Some.byte.now c.in-Some.behind.now digit) ∙ value;
      counted = omega (arith, counted, one);
      within = let len = c.in-Some.ensures.cases.1 in let within = c.loop-byte.invariant.within in
          omega (arith, len, within);
    }
