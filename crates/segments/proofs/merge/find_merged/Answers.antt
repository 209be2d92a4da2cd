use Rattle.std.proofs.Common.{◌≡◌, ◌+◌, ◌-◌, Bool, length, take, drop, sym, ap, ◌∙◌}
use Rattle.std.specs.Prelude.{if◌then◌else◌}
use Rattle.std.proofs.lemmas.Bool.{ne_eqb}
use Rattle.segments.specs.Inside.{shown_segments}
use Rattle.segments.specs.Pools.{chain_in, lasting}
use Rattle.segments.specs.Merges.{merged_in}
use Rattle.segments.specs.Rules.{most_merged}
use Rattle.segments.proofs.FrontLemmas.{first_most, same_opening, front_cut, rest_from}
use Rattle.segments.proofs.merge.find_merged.Goals as goal

pub returns-then-choice-ne-LASTING-clause-items : goal.returns-then-choice-ne-LASTING-clause-items
returns-then-choice-ne-LASTING-clause-items c =
    let us = shown_segments c.args.segments.now in
    let from = c.args.choice.from in
    let order = take (length c.args.order.now - from) (drop from c.args.order.now) in
    let chain = chain_in us order c.args.choice.bucket in
    let most = most_merged c.args.eviction c.args.choice.bucket in
    let popped : c.pop.new.self.items ≡ first_most most chain = c.pop.ensures.rest
    ∙ ap (λ n. take (n - 1) c.find_first.new.front.items) c.find_first.new.front.ok.0
    ∙ ap (λ xs. take (length xs - 1) xs) c.find_first.ensures.items
    ∙ ap (λ k. take (length (take (k + 1) chain) - 1) (take (k + 1) chain)) c.most_merged-most.ensures.most in
    c.keep_same_opening.ensures.items ∙ ap (same_opening us) popped
    ∙ ap (λ (b : Bool). if b then first_most most chain else same_opening us (first_most most chain))
    (sym (ne_eqb c.args.choice.bucket lasting c.if-choice-ne-LASTING.true))
    ∙ front_cut most us c.args.choice.bucket chain
    ∙ ap (λ xs. merged_in c.args.eviction us xs c.args.choice.bucket) (rest_from from c.args.order.now)
