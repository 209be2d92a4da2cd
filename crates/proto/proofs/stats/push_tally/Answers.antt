use Rattle.std.proofs.Common.{append_assoc, append-nil}
use Rattle.proto.specs.StatTexts.{tally_lines}
use Rattle.proto.proofs.stats.push_tally.Goals as goal

pub returns : goal.returns
unfolding tally_lines
returns c = rw (c.in_ok-push_part-2.ensures, c.in_ok-push_part.ensures) (simp (append_assoc, append-nil))
