use Rattle.std.proofs.Common.{◌≡◌, length}
use Rattle.session_book.proofs.Steps.{HasReadLocals}
use Rattle.session_book.proofs.session.Session.next_ask.Given as goal

abbrev pub invariant-loop-message : goal.invariant-loop-message
invariant-loop-message l = record {
  locals : HasReadLocals l.fn.self l.fn.looks l.self l.looks;
  kept : l.unsettled.items ≡ l.fn.unsettled.items;
}

abbrev pub decreases-loop-message : goal.decreases-loop-message
decreases-loop-message l = length l.self.unread
