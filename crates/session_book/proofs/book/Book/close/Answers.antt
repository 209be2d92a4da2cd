use Rattle.std.proofs.Common.{refl}
use Rattle.session_book.proofs.Books.{closes_book, closed_at}
use Rattle.session_book.proofs.book.Book.close.Goals as goal

pub invariant_of-self : goal.invariant_of-self
invariant_of-self c = closes_book _ _ c.args.session c.self.invariant c.remove.ensures refl refl

pub returns : goal.returns
returns c = closed_at _ _ c.args.self.now c.self.view_is c.args.session c.remove.ensures refl
