use Rattle.std.proofs.Common.{sym, ap, subst, ◌∙◌}
use Rattle.proto.specs.declared.terms.Terms.{Terms}
use Rattle.exchange.specs.Ends.{TableId}
use Rattle.group.specs.Threads.{ArePortsOf}
use Rattle.group.proofs.Runs.{made_of}
use Rattle.group.proofs.run.run_group.Goals as goal

pub run_named-requires-clause-made : goal.run_named-requires-clause-made
run_named-requires-clause-made g c κs within =
    made_of _ _ _ _ _ _ c.requires.made.0 c.into_ends-ends.ensures.made c.of-end.ensures

pub run_named-requires-clause-ports : goal.run_named-requires-clause-ports
run_named-requires-clause-ports g c κs within =
    let made = c.into_ends-ends.ensures.made in
    let of_exchange = ap (λ e. e.exchange) c.of-end.ensures ∙ c.into_ends-ends.ensures.id in
    let by_terms = ap (λ e. e.terms) c.of-end.ensures ∙ ap (λ e. e.terms) made.2 ∙ c.requires.made.1 in
    subst (λ (z : TableId × Terms). ArePortsOf g.P.Port.told z.0 z.1 c.args.config.dialect c.args.ports.items)
    (λ i. (sym of_exchange i, sym by_terms i)) c.requires.ports
