use Rattle.std.proofs.Common.{◌≡◌, ◌≤◌, ◌^◌, ◌*◌, ◌%◌, arith}
use Rattle.std.proofs.Math.Nat.{pow-le-pow_right}
use Rattle.std.proofs.lemmas.Nat.{one_shl, mul-le}
use Rattle.index.proofs.layout.layout_for.Goals as goal

pub bits_for-place_bits-requires-clause-count : goal.bits_for-place_bits-requires-clause-count
bits_for-place_bits-requires-clause-count c =
    let bits = c.bits_for-offset_bits.result in
    let most = c.bits_for-offset_bits.ensures.most in
    let e : 1 * 2 ^ bits % 2 ^ 64 ≡ 2 ^ bits = one_shl bits 64 (omega (arith, most)) in
    let few : 2 ^ bits ≤ 2 ^ 17 = pow-le-pow_right (omega arith) most in
    let count : c.segments-segments.result ≤ 2 ^ 16 =
    (let v = c.segments-segments.ensures.value in let m = c.segments-segments.ensures.in_range.most in omega (arith, v, m)) in
    let h : c.segments-segments.result * 2 ^ bits ≤ 2 ^ 16 * 2 ^ 17 =
    mul-le c.segments-segments.result (2 ^ bits) (2 ^ 16) (2 ^ 17) count few in
    rw e (omega (arith, h))

pub returns-clause-sizes : goal.returns-clause-sizes
returns-clause-sizes c =
    let bits = c.bits_for-offset_bits.result in
    let most = c.bits_for-offset_bits.ensures.most in
    let e : 1 * 2 ^ bits % 2 ^ 64 ≡ 2 ^ bits = one_shl bits 64 (omega (arith, most)) in
    let size = c.segment_size.ensures.value in
    let steps = c.bits_for-offset_bits.ensures.enough in
    let places : c.segments-segments.result * 2 ^ bits ≤ 2 ^ c.bits_for-place_bits.result =
    rw e at c.bits_for-place_bits.ensures.enough in
    record {
      offsets = omega (arith, size, steps);
      places = rw (← c.segments-segments.ensures.value) places;
    }
