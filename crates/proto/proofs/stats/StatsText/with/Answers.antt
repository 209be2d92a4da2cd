use Rattle.std.proofs.Common.{List, ℕ, subst, sym, ◌∙◌, IsTrue}
use Rattle.proto.specs.StatTexts.{is_plain}
use Rattle.proto.proofs.StatLemmas.{decimal_plain}
use Rattle.proto.proofs.stats.StatsText.with.Goals as goal

pub with_word-requires-clause-value : goal.with_word-requires-clause-value
with_word-requires-clause-value c =
    subst (λ (l : List ℕ). IsTrue (is_plain l)) (sym (c.as_bytes.ensures.value ∙ c.format.ensures.text))
    (decimal_plain c.args.n c.ranges.n.fits)
