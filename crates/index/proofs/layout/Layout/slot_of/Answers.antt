use Rattle.std.proofs.Common.{◌≡◌, ◌^◌, ◌-◌, ◌%◌, arith, ap, ◌∙◌, refl}
use Rattle.index.specs.Layouts.{slot_of}
use Rattle.index.proofs.PackedSlots.{low_bits, offset_small, tag_counts}
use Rattle.index.proofs.layout.Layout.slot_of.Goals as goal

pub returns-then-packed-eq0 : goal.returns-then-packed-eq0
unfolding slot_of
returns-then-packed-eq0 c = rw c.if-packed-eq0.true refl

pub overflow_add-result : goal.overflow_add-result
overflow_add-result c = record {
  fits = tag_counts c.args.packed c.args.self.place_bits c.requires.some
      c.ranges.packed.fits;
}

pub overflow_mul-result : goal.overflow_mul-result
overflow_mul-result c =
    let le = c.requires.offsets in
    let e = low_bits c.saturating_sub-number.result c.args.self.offset_bits (omega (arith, le)) in
    rw e record { fits = offset_small c.saturating_sub-number.result c.args.self.offset_bits le }

pub returns : goal.returns
unfolding slot_of
returns c =
    let few = c.requires.places in
    let le = c.requires.offsets in
    let places = c.args.self.place_bits in
    let number : c.saturating_sub-number.result ≡ c.args.packed % 2 ^ places - 1 =
    c.saturating_sub-number.ensures ∙ ap (λ n. n - 1) (low_bits c.args.packed places (omega (arith, few))) in
    let e = low_bits c.saturating_sub-number.result c.args.self.offset_bits (omega (arith, le)) in
    rw (e, number) (grind (arith, c.if-packed-eq0.false))
