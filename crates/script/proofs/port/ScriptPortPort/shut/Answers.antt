use Rattle.std.proofs.Common.{[], ◌∷◌, ◌++◌, ap, ◌∙◌, subst}
use Rattle.worker_port.specs.declared.events.PortRecord.TheVariants.{Shut}
use Rattle.script.specs.States.{PortState, PlayerState, DropsSession}
use Rattle.script.specs.Players.{player_state}
use Rattle.script.proofs.ToldLemmas.{open_where_told, told_shut}
use Rattle.script.proofs.port.ScriptPortPort.shut.Goals as goal

pub returns-clause-shuts : goal.returns-clause-shuts
returns-clause-shuts c tells =
    let player_is = ap (λ (p : PortState). p.player) c.self.view_is in
    subst (λ (p : PlayerState). DropsSession p c.args.session (player_state c.close.new.self)) player_is
    (c.close.ensures.closes (open_where_told c.args.self.now c.self.inside.player c.args.session player_is c.requires tells)).shuts

pub returns-clause-told : goal.returns-clause-told
returns-clause-told c =
    let player_is = ap (λ (p : PortState). p.player) c.self.view_is in
    told_shut c.args.self.now _ c.args.session
    (record {
      sizes = ap (λ (p : PortState). p.sizes) c.self.view_is;
      dialect = ap (λ (p : PortState). p.dialect) c.self.view_is;
      worker = ap (λ (p : PortState). p.worker) c.self.view_is;
      exchange = ap (λ (p : PortState). p.exchange) c.self.view_is;
      history = ap (λ (p : PortState). p.history) c.self.view_is;
    })
    (c.close.ensures.goes_on.0 ∙ ap (λ (p : PlayerState). p.script) player_is)
    (λ tells. (
      (c.close.ensures.closes (open_where_told c.args.self.now c.self.inside.player c.args.session player_is c.requires tells)).records_are
          ∙ ap (λ (p : PlayerState). p.records ++ Shut c.args.session ∷ []) player_is,
      returns-clause-shuts c tells,
    ))
