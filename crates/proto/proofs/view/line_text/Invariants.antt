use Rattle.std.proofs.Common.{◌≡◌, length}
use Rattle.proto.specs.Lines.{line_text}
use Rattle.proto.proofs.view.line_text.Given as goal

-- the rest is the line without some of the spaces at its end
abbrev pub invariant-loop-last : goal.invariant-loop-last
invariant-loop-last l = line_text l.dialect l.rest ≡ line_text l.dialect l.line

abbrev pub decreases-loop-last : goal.decreases-loop-last
decreases-loop-last l = length l.rest
