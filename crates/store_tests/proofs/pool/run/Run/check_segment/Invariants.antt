use Rattle.std.proofs.Common.{length}
use Rattle.store_tests.proofs.pool.run.Run.check_segment.Given as goal

abbrev pub decreases-loop-place : goal.decreases-loop-place
decreases-loop-place g l = length l.walk.left
