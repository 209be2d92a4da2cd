use Rattle.std.proofs.Common.{◌≡◌, ℕ, List, [], ◌∷◌, ◌++◌, length, length-append, arith, ap, sym, ◌∙◌, subst}
use lib.ListN.{get_elem?}
use Rattle.std.specs.Option.{option_to_list}
use Rattle.proto.specs.declared.terms.Terms.{Terms}
use Rattle.exchange.specs.Ends.{WorkerView, StorageView, AreMade, new_worker_view}
use Rattle.exchange.proofs.FreshEnds.{last_is_fresh}
use Rattle.worker_port.specs.Giving.{by_any_clock}
use Rattle.threads_tests.proofs.serving.made.Goals as goal

-- the last end of a new exchange of one worker is as it was made
last_is_new : (g : Terms) (storage : StorageView) (ends others : List WorkerView) (v : WorkerView)
    → AreMade 1 g ends storage → ends ≡ others ++ v ∷ [] → v ≡ new_worker_view storage.exchange g 0
last_is_new g storage ends [] v made is = made.1 0 v (ap (λ (z : List WorkerView). get_elem? z 0) is)
last_is_new g storage ends (x ∷ others) v made is =
    let long = sym made.0 ∙ ap length is in absurd (omega (arith, long, length-append others (v ∷ [])))

-- the ends that were made, by what was asked for
made_by : (n m : ℕ) (g h : Terms) (ends : List WorkerView) (s : StorageView) → (n ≡ m) × (g ≡ h)
    → AreMade n g ends s → AreMade m h ends s
made_by n m g h ends s same made = subst (λ (z : ℕ × Terms). AreMade z.0 z.1 ends s) (λ i. (same.0 i, same.1 i)) made

pub returns-clause-worker : goal.returns-clause-worker
returns-clause-worker g c =
    let made = made_by _ 1 _ (by_any_clock c.args.geometry) c.into_ends-ends.result.0.items c.into_ends-ends.result.1 c.requires
    c.into_ends-ends.ensures.made in
    let is = c.pop.ensures.items ∙ ap (λ z. c.pop.new.self.items ++ option_to_list z) c.expect-end.ensures in
    last_is_fresh 1 (by_any_clock c.args.geometry) c.into_ends-ends.result.1 c.into_ends-ends.result.0.items c.pop.new.self.items
    c.expect-end.result made is

pub returns-clause-whose : goal.returns-clause-whose
returns-clause-whose g c =
    let made = made_by _ 1 _ (by_any_clock c.args.geometry) c.into_ends-ends.result.0.items c.into_ends-ends.result.1 c.requires
    c.into_ends-ends.ensures.made in
    let is = c.pop.ensures.items ∙ ap (λ z. c.pop.new.self.items ++ option_to_list z) c.expect-end.ensures in
    let end = last_is_new (by_any_clock c.args.geometry) c.into_ends-ends.result.1 c.into_ends-ends.result.0.items c.pop.new.self.items
    c.expect-end.result made is in (
      ap (λ (z : WorkerView). z.worker) end,
      ap (λ (z : WorkerView). z.terms) end,
      ap (λ (z : WorkerView). z.seen) end,
      ap (λ (z : WorkerView). z.exchange) end ∙ c.into_ends-ends.ensures.id,
    )
