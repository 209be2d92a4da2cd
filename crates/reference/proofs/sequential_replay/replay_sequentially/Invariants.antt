use Rattle.std.proofs.Common.{take}
use Rattle.reference.specs.SequentialReplays.{HasRun}
use Rattle.reference.proofs.sequential_replay.replay_sequentially.Given as goal

abbrev pub invariant-loop-event : goal.invariant-loop-event
invariant-loop-event g l = HasRun (record { sizes = l.initial.executor.sizes; clock = l.initial.executor.clock })
    (take l.event-index l.events) l.executor l.sessions.items
