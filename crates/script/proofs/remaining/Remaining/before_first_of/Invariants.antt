use Rattle.std.proofs.Common.{◌≡◌, ◌≢◌, ◌≤◌, ◌-◌, length, take}
use Rattle.std.specs.List.{All}
use Rattle.script.specs.PortEvents.{event_session}
use Rattle.script.proofs.remaining.Remaining.before_first_of.Given as goal

abbrev pub invariant-loop-before : goal.invariant-loop-before
invariant-loop-before l = (l.before ≤ l.aside) × (l.aside ≡ length l.self.aside)
    × All (λ e. event_session e ≢ l.session) (take l.before l.self.aside)

abbrev pub decreases-loop-before : goal.decreases-loop-before
decreases-loop-before l = l.aside - l.before
