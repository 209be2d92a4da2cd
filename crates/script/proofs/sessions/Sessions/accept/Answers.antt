use Rattle.std.proofs.Common.{◌≡◌, ◌++◌, List, false, subst, sym, ◌∙◌, ap, slice_set}
use Rattle.script.specs.PortSessions.{ScriptSessionState, AcceptsAt, is_closed}
use Rattle.script.proofs.SessionLemmas.{placed_at, rises_set, output_added, same_item, on_ok, either_result}
use Rattle.script.proofs.sessions.Sessions.accept.Goals as goal

pub invariant_of-self : goal.invariant_of-self
invariant_of-self c =
    let xs = c.self.inside.entries.items in let n = c.args.number in let at = c.in-Some.at in
    let y = c.index_mut.result.now in let new = c.accept.new.self in
    let found = placed_at _ xs n at c.as_slice.ensures.value c.in-Some.ensures in
    let number : new.number ≡ y.number =
    either_result (new ≡ record y { output = y.output ++ c.args.bytes.now }) (new ≡ y)
    (new.number ≡ y.number) c.accept.result c.accept.ensures.ok c.accept.ensures.err
    (λ e. ap (λ (z : ScriptSessionState). z.number) e)
    (λ e. ap (λ (z : ScriptSessionState). z.number) e) in
    rises_set xs n at new c.self.invariant found.0 found.1
    (number ∙ ap (λ (z : ScriptSessionState). z.number) c.index_mut.ensures.value ∙ found.1 y)

pub returns-clause-ok : goal.returns-clause-ok
returns-clause-ok c =
    let xs = c.self.inside.entries.items in let n = c.args.number in let at = c.in-Some.at in
    let x = c.index.result.now in
    let y = c.index_mut.result.now in let new = c.accept.new.self in
    let bytes = c.args.bytes.now in
    let found = placed_at _ xs n at c.as_slice.ensures.value c.in-Some.ensures in
    let same : y ≡ x = same_item xs at x y found.0 c.index.ensures c.index_mut.ensures.value in
    let active : is_closed y.stage ≡ false = ap (λ (z : ScriptSessionState). is_closed z.stage) same
    ∙ sym (c.is_closed.ensures ∙ ap is_closed c.stage.ensures) ∙ c.if-is_closed.false in
    let done = output_added xs n at bytes y c.self.invariant found.0 found.1 c.index_mut.ensures.value active in
    on_ok (new ≡ record y { output = y.output ++ bytes })
    (AcceptsAt c.args.self.now n bytes (slice_set xs at new)) c.accept.result
    (λ e.
    subst (λ (l : List ScriptSessionState). AcceptsAt l n bytes (slice_set xs at new)) c.self.view_is
    (subst (λ (z : ScriptSessionState). AcceptsAt xs n bytes (slice_set xs at z)) (sym e) done))
    c.accept.ensures.ok
