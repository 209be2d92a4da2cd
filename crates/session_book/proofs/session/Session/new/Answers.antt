use Rattle.std.proofs.Common.{refl}
use Rattle.session_book.proofs.session.Session.new.Goals as goal

pub invariant_of-result : goal.invariant_of-result
invariant_of-result c = rw c.new-2.ensures.items refl
