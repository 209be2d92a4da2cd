use Rattle.std.proofs.Common.{ap, subst, ◌∙◌}
use Rattle.script.specs.PortEvents.{is_playable}
use Rattle.script.specs.States.{PortState, PlayerState}
use Rattle.script.specs.Players.{player_state, TellsNext}
use Rattle.script.proofs.ToldLemmas.{told_next, may_where_told}
use Rattle.script.proofs.port.ScriptPortPort.next.Goals as goal

pub returns-clause-told : goal.returns-clause-told
returns-clause-told c =
    let player_is = ap (λ (p : PortState). p.player) c.self.view_is in
    told_next c.args.self.now _ c.next.result
    (record {
      sizes = ap (λ (p : PortState). p.sizes) c.self.view_is;
      dialect = ap (λ (p : PortState). p.dialect) c.self.view_is;
      worker = ap (λ (p : PortState). p.worker) c.self.view_is;
      exchange = ap (λ (p : PortState). p.exchange) c.self.view_is;
      history = ap (λ (p : PortState). p.history) c.self.view_is;
    })
    (c.next.ensures.goes_on.0 ∙ ap (λ (p : PlayerState). p.script) player_is)
    (λ yes. subst (λ (p : PlayerState). TellsNext p c.next.result (player_state c.next.new.self)) player_is
    (c.next.ensures.played (ap (λ (p : PlayerState). is_playable p.script) player_is ∙ yes)))

pub returns-clause-may : goal.returns-clause-may
returns-clause-may c =
    let player_is = ap (λ (p : PortState). p.player) c.self.view_is in
    let port : PortState = c.args.self.now in
    may_where_told port c.next.result
    (λ yes. (subst (λ (p : PlayerState). TellsNext p c.next.result (player_state c.next.new.self)) player_is
    (c.next.ensures.played (ap (λ (p : PlayerState). is_playable p.script) player_is ∙ yes))).may port.sizes port.dialect port.worker
    port.exchange port.history)
