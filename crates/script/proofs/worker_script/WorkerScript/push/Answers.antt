use Rattle.std.proofs.Common.{◌≡◌, List, [], ◌∷◌, ◌++◌, sym, ap, subst, ◌∙◌}
use Rattle.script.specs.declared.event.ScriptEvent.{ScriptEvent}
use Rattle.script.specs.Events.{MayFollow}
use Rattle.script.specs.Tracking.{IsTracked}
use Rattle.script.proofs.TrackLemmas.{tracked_more}
use Rattle.script.proofs.worker_script.WorkerScript.push.Goals as goal

pub invariant_of-self-2 : goal.invariant_of-self-2
invariant_of-self-2 c =
    let before = c.self.inside.events.items in
    let may : MayFollow before c.args.event =
    subst (λ (es : List ScriptEvent). MayFollow es c.args.event) (sym c.self.view_is) c.requires in
    let items : c.push_reserved.new.self.items ≡ before ++ c.args.event ∷ [] = c.push_reserved.ensures.items
    ∙ ap (λ (es : List ScriptEvent). es ++ c.args.event ∷ []) c.in_ok-reserve.ensures.items in
    subst (λ (es : List ScriptEvent). IsTracked es c.track.new.newest c.track.new.sessions) (sym items)
    (tracked_more before c.args.event c.self.inside.newest c.track.new.newest c.self.inside.sessions
    c.track.new.sessions
    c.self.invariant may c.in_ok-track.ensures.newest c.in_ok-track.ensures.sessions)
