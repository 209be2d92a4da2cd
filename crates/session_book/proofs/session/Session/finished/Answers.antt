use Rattle.std.proofs.lemmas.Bool.{OnFalse_at}
use Rattle.session_book.proofs.Needing.{read_all}
use Rattle.session_book.proofs.session.Session.finished.Goals as goal

pub returns-then-not-has_enough-clause-read : goal.returns-then-not-has_enough-clause-read
returns-then-not-has_enough-clause-read c = rw (← c.self.view_is)
    (read_all _ (OnFalse_at c.if-not-has_enough.true c.has_enough.ensures.none) _)
