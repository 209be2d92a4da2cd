use Rattle.std.proofs.Common.{sym, arith}
use Rattle.engine.proofs.Digits.{number_of_overflow, number_of_read}
use Rattle.engine.proofs.number.number_of.Goals as goal

pub returns-in_err-checked_mul : goal.returns-in_err-checked_mul
returns-in_err-checked_mul c =
    let large = c.in_err-checked_mul.ensures in
    rw c.from_residual.ensures (number_of_overflow c.args.value.now c.loop-byte.n c.loop-byte.byte-index
    (omega arith) c.loop-byte.invariant.number
    (omega (arith, c.if-not-is_ascii_digit.ensures.cases))
    (omega (arith, c.if-not-is_ascii_digit.ensures.cases)) (λ lt. absurd (omega (arith, large, lt))))

pub returns-in_err-n : goal.returns-in_err-n
returns-in_err-n c =
    let large = c.in_err-n.ensures in
    let tens = c.in_ok-checked_mul.ensures.1 in
    let ones = c.from.ensures in
    rw c.from_residual-in_err-n.ensures (number_of_overflow c.args.value.now c.loop-byte.n c.loop-byte.byte-index
    (omega arith) c.loop-byte.invariant.number
    (omega (arith, c.if-not-is_ascii_digit.ensures.cases))
    (omega (arith, c.if-not-is_ascii_digit.ensures.cases)) (λ lt. absurd (omega (arith, large, tens, ones, lt))))

pub returns : goal.returns
returns c =
    number_of_read c.args.value.now c.loop-byte.n c.loop-byte.byte-index (sym c.if-is_empty.ensures) (omega arith)
    (omega arith)
    c.loop-byte.invariant.fits c.loop-byte.invariant.digits c.loop-byte.invariant.number
