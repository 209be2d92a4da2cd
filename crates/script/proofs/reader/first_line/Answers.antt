use Rattle.std.proofs.Common.{◌<◌, length, sym, ◌∙◌, arith}
use Rattle.std.proofs.lemmas.List.{take_all, drop_all}
use Rattle.std.proofs.lemmas.Bool.{eqb-false, false_from_ne_true}
use Rattle.script.proofs.ReadingLemmas.{lines_at, lines_whole}
use Rattle.script.proofs.reader.first_line.Goals as goal

pub returns-in-Some-clause-lines : goal.returns-in-Some-clause-lines
returns-in-Some-clause-lines c =
    rw (c.split_at.ensures.front, c.split_at-in-Some.ensures.back, c.split_at.ensures.back)
    (lines_at c.args.script.now c.in-Some.at c.in-Some.ensures.0.high c.in-Some.ensures.1
    (λ k lt. false_from_ne_true _ (c.in-Some.ensures.0.before k (omega arith) lt)))

pub returns-in-None-2-clause-lines : goal.returns-in-None-2-clause-lines
returns-in-None-2-clause-lines c =
    let text = c.args.script.now in
    let some : 0 < length text = omega (
      arith,
      eqb-false (length text) 0 (sym c.is_empty.ensures ∙ c.if-is_empty.false),
    ) in
    rw (
      c.split_at-in-None-2.ensures.front,
      c.split_at-in-None-2.ensures.back,
      take_all (length text) text
          (omega arith),
      drop_all (length text) text (omega arith),
    )
    (lines_whole text some (λ k lt. false_from_ne_true _ (c.in-None-2.ensures k (omega arith) lt)))
