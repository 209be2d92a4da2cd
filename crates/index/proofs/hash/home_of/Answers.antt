use Rattle.std.proofs.Common.{◌≡◌, ◌-◌, ◌+◌, ◌*◌, ◌%◌, ap, ◌∙◌, inl, inr, arith}
use Rattle.std.specs.Prelude.{bit_and}
use Rattle.index.specs.Keys.{floor_power_of_two}
use Rattle.index.proofs.SplitHomes.{masked, home_cases, home_below, floor_power_small}
use Rattle.index.proofs.hash.home_of.Goals as goal

pub overflow_add-home : goal.overflow_add-home
overflow_add-home c =
    let value = c.floor_power_of_two-power.ensures.value in
    let small = floor_power_small c.args.count c.requires c.ranges.count.fits in
    record { fits = omega (arith, value, small) }

pub overflow_sub-result : goal.overflow_sub-result
overflow_sub-result c =
    let within = c.floor_power_of_two-power.ensures.within in
    let not = c.if-home-count.false in
    omega (arith, within, not)

pub returns-then-home-count-clause-value : goal.returns-then-home-count-clause-value
returns-then-home-count-clause-value c =
    let is : bit_and c.args.hash (c.floor_power_of_two-power.result - 1 + c.floor_power_of_two-power.result)
    ≡ c.args.hash % (2 * floor_power_of_two c.args.count) =
    ap (λ r. bit_and c.args.hash (r - 1 + r)) c.floor_power_of_two-power.ensures.value ∙ masked c.args.count c.args.hash c.requires in
    let lt = c.if-home-count.true in
    elim (home_cases c.args.count c.args.hash) [
      | inl y ↦ omega (arith, is, y)
      | inr y ↦ absurd (omega (arith, is, y, lt))
    ]

pub returns-else-home-count-clause-value : goal.returns-else-home-count-clause-value
returns-else-home-count-clause-value c =
    let is : bit_and c.args.hash (c.floor_power_of_two-power.result - 1 + c.floor_power_of_two-power.result)
    ≡ c.args.hash % (2 * floor_power_of_two c.args.count) =
    ap (λ r. bit_and c.args.hash (r - 1 + r)) c.floor_power_of_two-power.ensures.value ∙ masked c.args.count c.args.hash c.requires in
    let le = c.if-home-count.false in
    let value = c.floor_power_of_two-power.ensures.value in
    elim (home_cases c.args.count c.args.hash) [
      | inl y ↦ absurd (omega (arith, is, y, le))
      | inr y ↦ omega (arith, is, y, value)
    ]

pub returns-else-home-count-clause-in_range : goal.returns-else-home-count-clause-in_range
returns-else-home-count-clause-in_range c =
    let is : bit_and c.args.hash (c.floor_power_of_two-power.result - 1 + c.floor_power_of_two-power.result)
    ≡ c.args.hash % (2 * floor_power_of_two c.args.count) =
    ap (λ r. bit_and c.args.hash (r - 1 + r)) c.floor_power_of_two-power.ensures.value ∙ masked c.args.count c.args.hash c.requires in
    let le = c.if-home-count.false in
    let value = c.floor_power_of_two-power.ensures.value in
    let below = home_below c.args.count c.args.hash c.requires in
    elim (home_cases c.args.count c.args.hash) [
      | inl y ↦ absurd (omega (arith, is, y, le))
      | inr y ↦ omega (arith, is, y, value, below)
    ]
