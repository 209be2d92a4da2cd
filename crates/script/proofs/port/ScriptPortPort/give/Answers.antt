use Rattle.std.proofs.Common.{◌++◌, refl, ap, ◌∙◌, subst}
use Rattle.script.specs.Records.{give_records}
use Rattle.script.specs.States.{PortState, PlayerState, Gives}
use Rattle.script.specs.Players.{player_state}
use Rattle.script.proofs.ToldLemmas.{open_where_told, told_give}
use Rattle.script.proofs.port.ScriptPortPort.give.Goals as goal

pub returns-clause-gives : goal.returns-clause-gives
returns-clause-gives c tells =
    let player_is = ap (λ (p : PortState). p.player) c.self.view_is in
    subst (λ (p : PlayerState). Gives p c.args.session c.args.bytes.now c.give.result
    (player_state c.give.new.self)) player_is
    (c.give.ensures.given (open_where_told c.args.self.now c.self.inside.player c.args.session player_is c.requires.«open» tells)).gives

pub returns-clause-told : goal.returns-clause-told
returns-clause-told c =
    let player_is = ap (λ (p : PortState). p.player) c.self.view_is in
    told_give c.args.self.now _ c.args.session c.args.bytes.now c.give.result c.args.history.items
    (record {
      sizes = ap (λ (p : PortState). p.sizes) c.self.view_is;
      dialect = ap (λ (p : PortState). p.dialect) c.self.view_is;
      worker = ap (λ (p : PortState). p.worker) c.self.view_is;
      exchange = ap (λ (p : PortState). p.exchange) c.self.view_is;
      history = refl;
    })
    (c.give.ensures.counts.0 ∙ ap (λ (p : PlayerState). p.script) player_is)
    (λ tells. let gives = c.give.ensures.given
    (open_where_told c.args.self.now c.self.inside.player c.args.session player_is c.requires.«open»
    tells) in (
      gives.records_are
          ∙ ap (λ (p : PlayerState). p.records ++ give_records c.args.session c.args.bytes.now c.give.result)
          player_is,
      returns-clause-gives c tells,
    ))
