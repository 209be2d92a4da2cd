use Rattle.std.proofs.Common.{◌≡◌, length}
use Rattle.script.specs.Remaining.{in_order}
use Rattle.script.specs.Players.{NoneReady}
use Rattle.script.proofs.player.settle.Given as goal

abbrev pub invariant-loop-event : goal.invariant-loop-event
invariant-loop-event l = (in_order l.events ≡ in_order l.initial.events) × NoneReady l.sessions l.events.aside

abbrev pub decreases-loop-event : goal.decreases-loop-event
decreases-loop-event l = length l.events.rest
