use Rattle.std.proofs.Common.{ap, subst, ◌∙◌}
use Rattle.script.specs.declared.port.ScriptPort.TheInside.{Inside}
use Rattle.script.specs.PortEvents.{is_playable}
use Rattle.script.specs.States.{PortState, PlayerState}
use Rattle.script.specs.Players.{parts_of, player_state}
use Rattle.script.specs.Following.{IsPlayed}
use Rattle.script.proofs.PlayedLemmas.{played}
use Rattle.script.proofs.port.ScriptPort.sessions.Goals as goal

pub returns-clause-played : goal.returns-clause-played
returns-clause-played c tells =
    let player_is = ap (λ (p : Inside). player_state p.player) c.self-inside.view_is ∙ ap (λ (p : PortState). p.player) c.self.view_is in
    subst (λ (p : PlayerState). IsPlayed p.script p.records p.can_fail) player_is
    (played (parts_of c.self-inside.inside.0.0) c.self-inside.invariant (ap (λ (p : PlayerState). is_playable p.script) player_is ∙ tells))
