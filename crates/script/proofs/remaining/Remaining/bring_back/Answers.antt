use Rattle.std.proofs.Common.{◌+◌, ◌≤◌, ◌++◌, length, take, drop, ap, ◌∙◌, arith}
use Rattle.std.proofs.lemmas.List.{length-drop}
use Rattle.script.specs.Remaining.{RemainingState}
use Rattle.script.proofs.RemainingLemmas.{in_ring, turned_back}
use Rattle.script.proofs.remaining.Remaining.bring_back.Goals as goal

pub returns : goal.returns
returns c =
    let ring = c.self.inside.ring.items in let ahead = c.self.inside.ahead in let stay = c.args.stay in
    let aside_is = ap (λ (r : RemainingState). length r.aside) c.self.view_is in
    let tail = length-drop ahead ring in
    let le : ahead + stay ≤ length ring = omega (arith, aside_is, tail, c.requires, c.self.invariant) in
    ap (in_ring _) c.rotate_right.ensures.items
    ∙ turned_back ahead stay c.len.result _ ring le (c.len.ensures ∙ c.self.inside.ring.ok.0) c.self.inside.ring.ok.0
    ∙ ap (λ (r : RemainingState). record { aside = take stay r.aside; rest = drop stay r.aside ++ r.rest })
    c.self.view_is
