use Rattle.std.proofs.Common.{◌≡◌, List, true, false, not, subst, sym, ◌∙◌, ap, slice_set}
use Rattle.script.specs.PortSessions.{ScriptSessionState, is_some_and, is_session_open, ChangesScriptSession, with_stage, is_closed}
use Rattle.script.proofs.SessionLemmas.{none_at, placed_at, placed_as, closed_when, open_when, rises_set, stage_changed, same_item}
use Rattle.script.proofs.sessions.Sessions.change.Goals as goal

pub returns-then-is_closed-clause-open : goal.returns-then-is_closed-clause-open
returns-then-is_closed-clause-open c =
    let xs = c.self.inside.entries.items in let n = c.args.number in let at = c.in-Some.at in
    let x = c.index.result.now in
    let found = placed_at _ xs n at c.as_slice.ensures.value c.in-Some.ensures in
    let closed : is_closed x.stage ≡ true =
    sym (c.is_closed.ensures ∙ ap is_closed c.stage.ensures) ∙ c.if-is_closed.true in
    sym (subst (λ (l : List ScriptSessionState). is_session_open l n ≡ false) c.self.view_is
    (closed_when xs n x (placed_as xs n at x c.self.invariant found.0 found.1 c.index.ensures) closed))

pub invariant_of-self : goal.invariant_of-self
invariant_of-self c =
    let xs = c.self.inside.entries.items in let n = c.args.number in let at = c.in-Some.at in
    let y = c.index_mut.result.now in
    let found = placed_at _ xs n at c.as_slice.ensures.value c.in-Some.ensures in
    rises_set xs n at c.set_stage.new.self c.self.invariant found.0 found.1
    (ap (λ (z : ScriptSessionState). z.number) (c.set_stage.ensures)
    ∙ ap (λ (z : ScriptSessionState). z.number) c.index_mut.ensures.value ∙ found.1 y)

pub returns-clause-open : goal.returns-clause-open
returns-clause-open c =
    let xs = c.self.inside.entries.items in let n = c.args.number in let at = c.in-Some.at in
    let x = c.index.result.now in
    let found = placed_at _ xs n at c.as_slice.ensures.value c.in-Some.ensures in
    let active : is_closed x.stage ≡ false =
    sym (c.is_closed.ensures ∙ ap is_closed c.stage.ensures) ∙ c.if-is_closed.false in
    sym (subst (λ (l : List ScriptSessionState). is_session_open l n ≡ true) c.self.view_is
    (open_when xs n x (placed_as xs n at x c.self.invariant found.0 found.1 c.index.ensures) active))

pub returns-clause-changes : goal.returns-clause-changes
returns-clause-changes c _ =
    let xs = c.self.inside.entries.items in let n = c.args.number in let at = c.in-Some.at in
    let x = c.index.result.now in let y = c.index_mut.result.now in
    let found = placed_at _ xs n at c.as_slice.ensures.value c.in-Some.ensures in
    let same : y ≡ x = same_item xs at x y found.0 c.index.ensures c.index_mut.ensures.value in
    let active : is_closed y.stage ≡ false = ap (λ (z : ScriptSessionState). is_closed z.stage) same
    ∙ sym (c.is_closed.ensures ∙ ap is_closed c.stage.ensures) ∙ c.if-is_closed.false in
    let done = stage_changed xs n at c.args.stage y c.self.invariant found.0 found.1 c.index_mut.ensures.value in
    let new = c.set_stage.new.self in
    subst (λ (l : List ScriptSessionState). ChangesScriptSession l n (with_stage c.args.stage) (slice_set xs at new))
    c.self.view_is
    (subst (λ (z : ScriptSessionState). ChangesScriptSession xs n (with_stage c.args.stage) (slice_set xs at z))
    (sym c.set_stage.ensures) done)

pub returns-in_default-clause-open : goal.returns-in_default-clause-open
returns-in_default-clause-open c = sym (subst (λ (l : List ScriptSessionState). is_session_open l c.args.number ≡ false)
    (c.as_slice.ensures.value ∙ c.self.view_is)
    (ap (is_some_and (λ (x : ScriptSessionState). not (is_closed x.stage)))
    (none_at c.as_slice.result.now c.args.number c.in_default.ensures)))
