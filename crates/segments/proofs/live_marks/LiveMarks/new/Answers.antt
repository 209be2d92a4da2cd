use Rattle.std.proofs.Common.{◌/◌, List, Bool, false, ap, ◌∙◌, ◌≡◌, arith}
use Rattle.std.specs.Prelude.{replicate}
use Rattle.segments.specs.Marks.{no_marks}
use Rattle.segments.proofs.live_marks.LiveMarks.new.Goals as goal

pub returns : goal.returns
unfolding no_marks
returns c =
    let g = c.args.geometry in
    let all : c.loop-number._number ≡ c.segments.result = omega arith in
    ap (λ (rs : List (List Bool)). record { sizes = g; rows = rs })
    (c.loop-number.invariant ∙ ap (λ n. replicate n (replicate (c.segment_size-marks.result / 32) false)) (all ∙ c.segments.ensures.value)
    ∙ ap (λ n. replicate g.segments (replicate (n / 32) false)) c.segment_size-marks.ensures.value)
