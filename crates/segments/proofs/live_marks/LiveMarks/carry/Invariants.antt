use Rattle.std.proofs.Common.{◌≡◌, take}
use Rattle.segments.specs.Marks.{unmarked_sources, marked_targets}
use Rattle.segments.proofs.live_marks.LiveMarks.carry.Given as goal

abbrev pub invariant-loop-step : goal.invariant-loop-step
invariant-loop-step l = l.self ≡ unmarked_sources l.fn.self (take l.step-index l.moves)

abbrev pub invariant-loop-step-2 : goal.invariant-loop-step-2
invariant-loop-step-2 l = l.self ≡ marked_targets (unmarked_sources l.fn.self l.moves) (take l.step-index l.moves)
