use Rattle.std.proofs.Common.{[], sym, ap, subst, ◌∙◌}
use Rattle.script.specs.Events.{IsPlayable}
use Rattle.script.specs.PortEvents.{is_playable}
use Rattle.script.specs.States.{PortState, new_player, with_faults}
use Rattle.replaying.proofs.run.port_of.Goals as goal

pub returns : goal.returns
returns c =
    let fresh = c.new-port.ensures.fresh in let events = c.into_events-events.ensures.events in (
      ap is_playable (sym events) ∙ ap (λ (p : PortState). is_playable p.player.script) (sym fresh)
          ∙ c.new-port.ensures.tells.1 (subst IsPlayable (sym events) c.into_events-events.ensures.playable),
      c.with_faults.ensures ∙ (λ k. let p : PortState = fresh k in
          record p { player = with_faults c.args.options.now.accept c.args.options.now.fail_give p.player })
          ∙ (λ k. let p : PortState = record {
            player = with_faults c.args.options.now.accept c.args.options.now.fail_give (new_player (events k));
            sizes = c.args.geometry;
            dialect = c.args.options.now.dialect;
            worker = c.args.worker;
            exchange = c.name-name.ensures k;
            history = [];
          } in p),
    )
