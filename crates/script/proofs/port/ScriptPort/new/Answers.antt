use Rattle.std.proofs.Common.{sym, ap, ◌∙◌}
use Rattle.script.specs.PortEvents.{is_playable}
use Rattle.script.specs.States.{PlayerState}
use Rattle.script.proofs.EventLemmas.{plays_each, each_plays}
use Rattle.script.proofs.port.ScriptPort.new.Goals as goal

pub returns-clause-tells : goal.returns-clause-tells
returns-clause-tells c =
    let script_is = ap (λ (p : PlayerState). p.script) c.new.ensures in (
      (λ h. plays_each c.args.events.items (sym (ap is_playable script_is) ∙ h)),
      (λ h. ap is_playable script_is ∙ each_plays c.args.events.items h),
    )
