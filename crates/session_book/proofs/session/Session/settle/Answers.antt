use Rattle.std.proofs.Common.{◌∷◌, []}
use Rattle.session_book.proofs.Answering.{begins_asked_by}
use Rattle.session_book.proofs.session.Session.settle.Goals as goal

pub invariant_of-self : goal.invariant_of-self
invariant_of-self c = begins_asked_by _ c.self.inside.queue.items (c.args.reply.now ∷ []) c.in-Ok.ensures.queue
