use Rattle.std.proofs.Common.{◌≡◌, ◌++◌, [], length}
use Rattle.proto.specs.Answers.{said}
use Rattle.session_book.specs.Session.{messages_left}
use Rattle.session_book.proofs.session.answer_up_to_ask.Given as goal

abbrev pub invariant-loop-pending : goal.invariant-loop-pending
invariant-loop-pending l = record {
  queue : messages_left l.queue.items [] ≡ messages_left l.fn.queue.items [];
  out : l.out ++ said l.queue.items [] ≡ l.fn.out ++ said l.fn.queue.items [];
  silent : said l.fn.queue.items [] ≡ [] → said l.queue.items [] ≡ [];
}

abbrev pub decreases-loop-pending : goal.decreases-loop-pending
decreases-loop-pending l = length l.queue.items
