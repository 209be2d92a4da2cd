use Rattle.std.proofs.Common.{false, ap, subst, ◌∙◌}
use Rattle.script.specs.States.{PortState, PlayerState, SetsPaused}
use Rattle.script.specs.Players.{player_state}
use Rattle.script.proofs.ToldLemmas.{open_where_told, told_paused}
use Rattle.script.proofs.port.ScriptPortPort.resume.Goals as goal

pub returns-clause-paused : goal.returns-clause-paused
returns-clause-paused c tells =
    let player_is = ap (λ (p : PortState). p.player) c.self.view_is in
    subst (λ (p : PlayerState). SetsPaused p c.args.session false (player_state c.set_stage.new.self)) player_is
    (c.set_stage.ensures.paused (open_where_told c.args.self.now c.self.inside.player c.args.session player_is c.requires tells))

pub returns-clause-told : goal.returns-clause-told
returns-clause-told c =
    let player_is = ap (λ (p : PortState). p.player) c.self.view_is in
    told_paused c.args.self.now _ c.args.session false
    (record {
      sizes = ap (λ (p : PortState). p.sizes) c.self.view_is;
      dialect = ap (λ (p : PortState). p.dialect) c.self.view_is;
      worker = ap (λ (p : PortState). p.worker) c.self.view_is;
      exchange = ap (λ (p : PortState). p.exchange) c.self.view_is;
      history = ap (λ (p : PortState). p.history) c.self.view_is;
    })
    (c.set_stage.ensures.goes_on.0 ∙ ap (λ (p : PlayerState). p.script) player_is)
    (returns-clause-paused c)
