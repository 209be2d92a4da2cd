use Rattle.std.proofs.Common.{sym, ◌∙◌}
use Rattle.script.proofs.StepLemmas.{left_first}
use Rattle.script.proofs.player.drop_closed.Goals as goal

pub returns-then-is_left-clause-front : goal.returns-then-is_left-clause-front
returns-then-is_left-clause-front c none = absurd
    (left_first c.args.sessions.now c.loop-event.events c.in-Some.event.now
    c.in-Some.ensures (sym c.is_left.ensures ∙ c.if-is_left.true) none)
