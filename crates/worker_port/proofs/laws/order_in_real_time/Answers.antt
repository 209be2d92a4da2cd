use Rattle.worker_port.proofs.Behind.{stands_behind, spelled_first}
use Rattle.worker_port.proofs.laws.order_in_real_time.Goals as goal

pub returns-clause-behind : goal.returns-clause-behind
returns-clause-behind c = λ session place spelled later entry sent one at behind.
    stands_behind c.args.sender.now.end.sent c.args.earlier.items later c.args.sender.now.end.worker session place spelled entry
    c.check.ensures.asked sent one at behind

pub returns-clause-own : goal.returns-clause-own
returns-clause-own c = λ session spelled sent.
    spelled_first c.args.sender.now.end.sent c.args.earlier.items c.args.sender.now.end.worker session spelled
    c.check.ensures.asked sent
