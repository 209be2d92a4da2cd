use Rattle.std.proofs.Common.{rules, ◌≡◌, ◌++◌, ◌+◌, ◌/◌, ◌%◌, ◌^◌, ◌<◌, IsTrue, decimal, drop, List, ℕ, subst, sym}
use Rattle.std.specs.Prelude.{codes}
use Rattle.proto.specs.StatTexts.{is_plain}
use Rattle.proto.proofs.StatLemmas.{seconds_plain}
use Rattle.proto.proofs.stats.StatsText.with_seconds.Goals as goal

pub with_word-requires-clause-value : goal.with_word-requires-clause-value
with_word-requires-clause-value c =
    let n = c.args.micros / 1000000 in
    let m = 1000000 + c.args.micros % 1000000 in
    let same : c.as_slice.result.now ≡ (decimal n ++ codes ".") ++ drop 1 (decimal m) = search rules in
    let small : n < 2 ^ 64 = search rules in
    let few : m < 2 ^ 64 = search rules in
    subst (λ (l : List ℕ). IsTrue (is_plain l)) (sym same) (seconds_plain n m small few)
