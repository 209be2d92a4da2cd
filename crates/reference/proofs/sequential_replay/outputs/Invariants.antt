use Rattle.std.proofs.Common.{◌≡◌, map}
use Rattle.reference.specs.SequentialReplays.{output_of}
use Rattle.reference.proofs.sequential_replay.outputs.Given as goal

abbrev pub invariant-loop-session : goal.invariant-loop-session
invariant-loop-session l = l.given.items ≡ map output_of l.yielded
