use Rattle.std.proofs.Common.{◌≡◌, ◌≢◌, ◌<◌, get_or, length, sym, ap, ◌∙◌, arith}
use Rattle.std.proofs.lemmas.List.{get_or-drop}
use Rattle.std.proofs.lemmas.List.Elements.{All-more}
use Rattle.script.specs.declared.event.ScriptEvent.{ScriptEvent}
use Rattle.script.specs.PortEvents.{event_session}
use Rattle.script.specs.Remaining.{RemainingState}
use Rattle.script.proofs.remaining.Remaining.before_first_of.Goals as goal

pub loop-before-preserved : goal.loop-before-preserved
loop-before-preserved c =
    let ring = c.self.inside.ring.items in let ahead = c.self.inside.ahead in let before = c.loop-before.before in
    let aside = c.args.self.now.aside in let k = c.loop-before.invariant in let x = c.index.result.now in
    let below : before < length aside = omega (arith, c.loop-before-test.true, k.1) in
    let x_is : x ≡ get_or aside before x = c.index.ensures ∙ sym (get_or-drop ahead ring before x)
    ∙ ap (λ (r : RemainingState). get_or r.aside before x) c.self.view_is in
    let other : event_session (get_or aside before x) ≢ c.args.session =
    λ q. c.if-event_session-session.false (c.event_session.ensures ∙ ap event_session x_is ∙ q) in (
      omega (arith, c.loop-before-test.true),
      k.1,
      All-more (λ (e : ScriptEvent). event_session e ≢ c.args.session) aside before x below k.2 other,
    )
