use Rattle.std.proofs.Common.{◌≡◌, List, Some, None, ◌∙◌, subst}
use Rattle.script.specs.PortSessions.{ScriptSessionState, session_entry}
use Rattle.script.proofs.SessionLemmas.{none_at, placed_at, placed_as}
use Rattle.script.proofs.sessions.Sessions.get.Goals as goal

pub returns : goal.returns
returns c =
    let xs = c.self.inside.entries.items in let n = c.args.number in let at = c.in_ok-at.at in
    let x = c.index.result.now in
    let found = placed_at _ xs n at c.as_slice.ensures.value c.in_ok-at.ensures in
    subst (λ (l : List ScriptSessionState). session_entry l n ≡ Some x) c.self.view_is
    (placed_as xs n at x c.self.invariant found.0 found.1 c.index.ensures)

pub returns-in_err-at : goal.returns-in_err-at
returns-in_err-at c = rw c.from_residual.ensures (subst (λ (l : List ScriptSessionState). session_entry l c.args.number ≡ None)
    (c.as_slice.ensures.value ∙ c.self.view_is) (none_at c.as_slice.result.now c.args.number c.in_err-at.ensures))
