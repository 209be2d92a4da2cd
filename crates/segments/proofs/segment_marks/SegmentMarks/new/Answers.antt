use Rattle.std.proofs.Common.{length, sym, ap, subst, ◌∙◌, arith}
use Rattle.std.proofs.lemmas.List.{length-replicate}
use Rattle.segments.specs.Marks.{AreMarksCounted}
use Rattle.segments.specs.MarkBits.{bits_of}
use Rattle.segments.proofs.MarkBitLemmas.{no_bits}
use Rattle.segments.proofs.MarkCounts.{counted_none}
use Rattle.segments.proofs.segment_marks.SegmentMarks.new.Goals as goal

pub invariant_of-result : goal.invariant_of-result
invariant_of-result c =
    let zeros = c.in_ok-vec.ensures.items_if_clones_equal (λ y e. e) in
    let long = ap length zeros ∙ length-replicate _ 0 in
    let words = c.div_ceil.ensures in
    record {
      enough = omega (arith, long, words);
      counted = subst (AreMarksCounted 0) (sym (ap (bits_of c.args.count) zeros ∙ no_bits c.args.count _))
          (counted_none c.args.count c.requires);
    }

pub returns : goal.returns
returns c = ap (bits_of c.args.count) (c.in_ok-vec.ensures.items_if_clones_equal (λ y e. e)) ∙ no_bits c.args.count _
