use Rattle.std.proofs.Common.{ap, ◌∙◌}
use Rattle.std.specs.Prelude.{nat_lt}
use Rattle.segments.proofs.MarkedPlaces.{counts_live}
use Rattle.segments.proofs.live_marks.LiveMarksLive.has_live.Goals as goal

pub returns : goal.returns
returns c p known = ap (nat_lt 0) c.count.ensures ∙ counts_live c.args.self.now p c.args.segment known
