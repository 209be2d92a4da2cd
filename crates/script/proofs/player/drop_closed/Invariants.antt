use Rattle.std.proofs.Common.{◌≡◌, length}
use Rattle.script.specs.Remaining.{in_order}
use Rattle.script.specs.Players.{NoneReady, events_left}
use Rattle.script.proofs.player.drop_closed.Given as goal

abbrev pub invariant-loop-event : goal.invariant-loop-event
invariant-loop-event l =
    (events_left l.sessions (in_order l.events) ≡ events_left l.sessions (in_order l.initial.events))
    × (NoneReady l.sessions l.initial.events.aside → NoneReady l.sessions l.events.aside)

abbrev pub decreases-loop-event : goal.decreases-loop-event
decreases-loop-event l = length (in_order l.events)
