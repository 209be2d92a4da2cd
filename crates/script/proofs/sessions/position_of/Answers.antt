use Rattle.std.proofs.Common.{rules}
use Rattle.std.proofs.lemmas.List.Sorted.{answers_always}
use Rattle.script.proofs.Positions.{position_found, position_none}
use Rattle.script.proofs.sessions.position_of.Goals as goal

pub returns-in-Ok : goal.returns-in-Ok
returns-in-Ok g c =
    position_found g.S.Numbered.number_of c.args.sessions.now c.args.number c.in-Ok.at c.in-Ok.ensures.bound
    (c.in-Ok.ensures.position g.S.Numbered.number_of (answers_always _ _ _ (λ f a r f' called. search rules)))

pub returns-in-Err : goal.returns-in-Err
returns-in-Err g c =
    position_none g.S.Numbered.number_of c.args.sessions.now c.args.number c.in-Err.field-0 c.requires
    (c.in-Err.ensures.position g.S.Numbered.number_of (answers_always _ _ _ (λ f a r f' called. search rules)))
