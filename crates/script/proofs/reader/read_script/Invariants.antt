use Rattle.std.proofs.Common.{length}
use Rattle.script.proofs.ReadingLemmas.{IsAt}
use Rattle.script.proofs.reader.read_script.Given as goal

abbrev pub invariant-loop-reader : goal.invariant-loop-reader
invariant-loop-reader l = IsAt l.workers l.script l.reader

abbrev pub decreases-loop-reader : goal.decreases-loop-reader
decreases-loop-reader l = length l.reader.left
