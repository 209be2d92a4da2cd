use Rattle.std.proofs.Common.{◌-◌, ◌≤◌, false, length}
use Rattle.reference.specs.SequentialSessions.{AnswersAll}
use Rattle.reference.proofs.sequential_session.answer_all.Given as goal

abbrev pub invariant-loop-length : goal.invariant-loop-length
invariant-loop-length g l = record {
  within : l.taken ≤ length l.unread;
  answered : AnswersAll l.initial.executor l.unread l.taken false l.executor l.initial.output.items l.output.items;
}

abbrev pub decreases-loop-length : goal.decreases-loop-length
decreases-loop-length g l = length l.unread - l.taken
