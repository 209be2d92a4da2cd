use Rattle.std.proofs.Common.{◌-◌, ◌∙◌, ap, length, arith}
use Rattle.script.specs.PortSessions.{ScriptSessionState, newest}
use Rattle.script.proofs.SessionLemmas.{last_is}
use Rattle.script.proofs.sessions.Sessions.newest.Goals as goal

pub returns-in-Some : goal.returns-in-Some
returns-in-Some c =
    let k = c.in-Some.ensures.item in let l = c.deref.result.now in let x = c.in-Some.session.now in
    c.number.ensures ∙ ap (λ (z : ScriptSessionState). z.number) k.1
    ∙ last_is 0 l x (length l - 1) (omega (arith, k.3.0))
    ∙ ap newest (c.deref.ensures.value ∙ c.self.view_is)
