use Rattle.std.proofs.Common.{◌<◌, ◌/◌, length, get_or, ap, ◌∙◌, arith}
use Rattle.std.specs.Prelude.{slice_set}
use Rattle.std.proofs.lemmas.List.{get_or_default}
use Rattle.std.proofs.lemmas.List.Edits.{map_over_more}
use Rattle.segments.proofs.segment_hits.SegmentHits.open.Goals as goal

pub loop-count-init : goal.loop-count-init
loop-count-init c =
    c.deref_mut-count-items.ensures.value ∙ ap (λ h. slice_set h.counts c.args.segment 0) c.self.view_is

pub loop-count-preserved : goal.loop-count-preserved
loop-count-preserved c =
    let old = slice_set c.args.self.now.counts c.args.segment 0 in
    let ys = c.loop-count.count-items in
    let i = c.loop-count.count-index in
    let lt = c.loop-count-test.true in
    let same = c.loop-count.auto.count-items in
    let long = ap length c.deref_mut-count-items.ensures.value in
    let seen = ap (λ h. length (slice_set h.counts c.args.segment 0)) c.self.view_is in
    let within : i < length ys = omega arith in
    let before : i < length old = omega (arith, lt, same, long, seen) in
    map_over_more (λ hits. hits / 2) old ys i (get_or ys i 0) before c.loop-count.invariant
    (get_or_default ys i 0 (get_or ys i 0) within)
