use Rattle.std.proofs.Common.{◌-◌, ◌%◌, ◌^◌, ap, ◌∙◌, arith}
use Rattle.index.specs.Layouts.{low_in}
use Rattle.index.proofs.PackedSlots.{low_bits}
use Rattle.index.proofs.layout.Layout.low_in.Goals as goal

pub returns-clause-value : goal.returns-clause-value
unfolding low_in
returns-clause-value c =
    let few = c.home_bits.ensures.few in
    low_bits (c.args.tag - 1) c.home_bits.result (omega (arith, few))
    ∙ ap (λ n. (c.args.tag - 1) % 2 ^ n) c.home_bits.ensures.value
