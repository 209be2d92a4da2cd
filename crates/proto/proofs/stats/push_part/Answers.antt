use Rattle.std.proofs.Common.{append_assoc}
use Rattle.proto.specs.StatTexts.{stat_bytes}
use Rattle.proto.proofs.stats.push_part.Goals as goal

pub returns : goal.returns
unfolding stat_bytes
returns c =
    rw (
      c.in_ok-extend_from_slice-6.ensures.items,
      c.in_ok-extend_from_slice-5.ensures.items,
      c.in_ok-extend_from_slice-4.ensures.items,
      c.in_ok-extend_from_slice-3.ensures.items,
      c.in_ok-extend_from_slice-2.ensures.items,
      c.in_ok-extend_from_slice.ensures.items,
      c.as_bytes.ensures.value,
      c.format.ensures.text,
    )
    (simp append_assoc)
