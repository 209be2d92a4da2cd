use Rattle.std.proofs.Common.{◌≡◌, sym, ◌∙◌}
use Rattle.index.specs.Layouts.{tag_of, tag_shift, home_bits}
use Rattle.index.proofs.PackedSlots.{tag_said, can_hold}
use Rattle.index.proofs.layout.Layout.tag_of.Goals.{then-is_narrow, else-is_narrow}
use Rattle.index.proofs.layout.Layout.tag_of.Goals as goal

pub returns-clause-value : goal.returns-clause-value
unfolding tag_of
returns-clause-value c =
    let beside : c.if-is_narrow.beside ≡ tag_shift c.args.self = elim c.if-is_narrow.branch [
      | then-is_narrow w ↦ rw (sym c.is_narrow.ensures ∙ w.if-is_narrow.true) w.beside-is
      | else-is_narrow w ↦ rw (sym c.is_narrow.ensures ∙ w.if-is_narrow.false) w.beside-is
    ] in
    rw (beside, c.home_bits-bits.ensures.value)
    (tag_said c.args.hash (tag_shift c.args.self) (home_bits c.args.self) c.ranges.hash.fits
    (rw (← c.home_bits-bits.ensures.value) c.home_bits-bits.ensures.few))

pub returns-clause-fits : goal.returns-clause-fits
returns-clause-fits c =
    λ place inside. rw (returns-clause-value c) (can_hold c.args.self c.args.hash place c.requires c.ranges.hash.fits inside)
