use Rattle.std.proofs.Common.{◌≡◌, ℕ, List, [], ◌∷◌, ◌++◌, length, length-append, arith, ap, sym, ◌∙◌, subst}
use lib.ListN.{get_elem?}
use Rattle.std.specs.Option.{option_to_list}
use Rattle.proto.specs.declared.terms.Terms.{Terms}
use Rattle.exchange.specs.Ends.{WorkerView, WorkerLaneView, StorageView, AreMade, new_worker_view}
use Rattle.program_tests.proofs.asked_port.idle_end.Goals as goal

-- the last end of a new exchange of one worker is as it was made
last_is_new : (g : Terms) (storage : StorageView) (ends others : List WorkerView) (v : WorkerView)
    → AreMade 1 g ends storage → ends ≡ others ++ v ∷ [] → v ≡ new_worker_view storage.exchange g 0
last_is_new g storage ends [] v made is = made.1 0 v (ap (λ (z : List WorkerView). get_elem? z 0) is)
last_is_new g storage ends (x ∷ others) v made is =
    let long = sym made.0 ∙ ap length is in absurd (omega (arith, long, length-append others (v ∷ [])))

pub returns : goal.returns
returns g c =
    let made = subst (λ (n : ℕ). AreMade n c.args.exchange.terms c.into_ends-ends.result.0.items c.into_ends-ends.result.1) c.requires
    c.into_ends-ends.ensures.made in
    let is = c.pop.ensures.items ∙ ap (λ z. c.pop.new.self.items ++ option_to_list z) c.expect-end.ensures in
    let end = last_is_new c.args.exchange.terms c.into_ends-ends.result.1 c.into_ends-ends.result.0.items c.pop.new.self.items
    c.expect-end.result made is in
    let same = ap (λ (b : WorkerLaneView). b.end) c.batched.ensures in (
      ap (λ (z : WorkerView). z.exchange) (same ∙ end) ∙ c.into_ends-ends.ensures.id,
      ap (λ (z : WorkerView). z.worker) (same ∙ end),
      ap (λ (z : WorkerView). z.sent) (same ∙ end),
    )
