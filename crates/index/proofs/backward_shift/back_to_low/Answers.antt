use Rattle.std.proofs.Common.{◌≡◌, ℕ, ◌+◌, ◌-◌, ◌*◌, ◌%◌, ◌^◌, ap, ◌∙◌, arith}
use Rattle.std.specs.Prelude.{bit_and}
use Rattle.std.proofs.lemmas.Nat.{one_shl, pow_pos}
use Rattle.index.proofs.PackedSlots.{low_bits}
use Rattle.index.proofs.backward_shift.back_to_low.Goals as goal

pub returns : goal.returns
returns c =
    let m : ℕ = 2 ^ c.args.bits in
    let few = c.requires.few in
    let mask : ℕ = 1 * 2 ^ c.args.bits % 2 ^ 64 - 1 in
    let power : 1 * 2 ^ c.args.bits % 2 ^ 64 ≡ m = one_shl c.args.bits 64 (omega (arith, few)) in
    let some = pow_pos c.args.bits in
    let whole : mask + 1 ≡ m = omega (arith, power, some) in
    let low : (n : ℕ) → bit_and n mask ≡ n % m = λ n. low_bits n c.args.bits (omega (arith, few)) in
    let sum : bit_and c.args.at mask + mask + 1 - c.args.low ≡ c.args.at % m + m - c.args.low =
    (let here = low c.args.at in omega (arith, here, whole)) in
    ap (λ n. bit_and n mask) sum ∙ low (c.args.at % m + m - c.args.low)
