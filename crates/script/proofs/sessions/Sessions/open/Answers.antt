use Rattle.std.proofs.Common.{List, subst, sym, ◌∙◌, ap, ◌∷◌, ◌++◌, [], arith}
use Rattle.std.specs.List.Sorted.{IsStrictlyIncreasing}
use Rattle.script.specs.PortSessions.{ScriptSessionState, numbers, newest}
use Rattle.script.specs.declared.sessions.Stage.TheVariants.{Playing}
use Rattle.script.proofs.SessionLemmas.{rises_more}
use Rattle.script.proofs.sessions.Sessions.open.Goals as goal

pub invariant_of-self-2 : goal.invariant_of-self-2
invariant_of-self-2 c =
    let xs = c.self.inside.entries.items in
    let x : ScriptSessionState = record { number = c.args.number; stage = Playing; output = c.new.result.items } in
    let old = ap newest c.self.view_is in
    let items = c.push_reserved.ensures.items
    ∙ ap (λ (l : List ScriptSessionState). l ++ x ∷ []) c.in_ok-reserve.ensures.items in
    subst (λ (l : List ScriptSessionState). IsStrictlyIncreasing (numbers l)) (sym items)
    (rises_more xs x c.self.invariant (omega (arith, old, c.requires)))
