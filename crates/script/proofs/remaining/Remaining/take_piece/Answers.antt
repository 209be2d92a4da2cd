use Rattle.std.proofs.Common.{◌≡◌, ◌∷◌, ◌++◌, ◌-◌, [], refl, ap, sym, ◌∙◌, List}
use Rattle.script.specs.declared.event.ScriptEvent.{ScriptEvent}
use Rattle.script.specs.declared.event.ScriptEvent.TheVariants as script
use Rattle.script.specs.PortEvents.{send_after}
use Rattle.script.specs.Remaining.{RemainingState}
use Rattle.script.proofs.RemainingLemmas.{in_ring, front_is, popped, replaced}
use Rattle.script.proofs.remaining.Remaining.take_piece.Goals as goal

pub returns-in_default-after_piece : goal.returns-in_default-after_piece
returns-in_default-after_piece c s bytes after is =
    let ring = c.self.inside.ring.items in let ahead = c.self.inside.ahead in
    let here = ap (λ (r : RemainingState). r.rest) c.self.view_is ∙ is in
    let e_is = front_is ahead ring c.in-Some.event (script.Send s bytes) after here c.in-Some.ensures.lookup in
    let none : send_after s bytes ≡ [] = c.in_default-after_piece.ensures.none refl s bytes e_is in
    ap (in_ring (ahead - 1)) c.pop_front.ensures.rest ∙ popped ahead ring (script.Send s bytes) after here
    ∙ (λ i. record (c.self.view_is i) { rest = sym none i ++ after })

pub returns : goal.returns
returns c s bytes after is =
    let ring = c.self.inside.ring.items in let ahead = c.self.inside.ahead in
    let here = ap (λ (r : RemainingState). r.rest) c.self.view_is ∙ is in
    let e_is = front_is ahead ring c.in-Some.event (script.Send s bytes) after here c.in-Some.ensures.lookup in
    let x = script.Send c.in-Some-after_piece.session c.in-Some-after_piece.bytes in
    let some : send_after s bytes ≡ x ∷ [] = c.in-Some-after_piece.ensures.some s bytes e_is in
    ap (in_ring ahead) (c.push_front_reserved.ensures.items ∙ ap
    (λ (l : List ScriptEvent). x ∷ l) c.pop_front.ensures.rest)
    ∙ replaced ahead ring (script.Send s bytes) x after here
    ∙ (λ i. record (c.self.view_is i) { rest = sym some i ++ after })
