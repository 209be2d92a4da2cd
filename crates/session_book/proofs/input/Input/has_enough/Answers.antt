use Rattle.std.proofs.Common.{◌++◌, subst, length-append, arith}
use Rattle.std.specs.Prelude.{nat_le}
use Rattle.std.specs.Bool.{OnFalse}
use Rattle.proto.specs.Grammar.{SpellsNone}
use Rattle.session_book.specs.Input.{InputState}
use Rattle.session_book.proofs.Needing.{none_short}
use Rattle.session_book.proofs.input.Input.has_enough.Goals as goal

pub returns-clause-none : goal.returns-clause-none
returns-clause-none c =
    let i = c.self.inside in
    subst (λ (j : InputState). OnFalse (nat_le c.saturating_sub.result c.len.result) (SpellsNone j.dialect j.unread)) c.self.view_is
    (none_short i.dialect (i.gone.items ++ i.kept) i.need i.dropped c.saturating_sub.result c.len.result
    (omega (arith, c.len.ensures, c.self.invariant.0, length-append i.gone.items i.kept)) c.saturating_sub.ensures c.self.invariant.1)
