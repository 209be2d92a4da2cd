use Rattle.std.proofs.Common.{Some, not, ap, sym, ◌∙◌}
use Rattle.proto.specs.Cache.{Entry}
use Rattle.engine.specs.Shown.{entry_of}
use Rattle.reference.proofs.PlainLemmas.{live_where_live, live_where_dead, live_where_none}
use Rattle.reference.proofs.plain_map.PlainMapLiveMap.entry_found.Goals as goal

pub returns-in_err-get-clause-found : goal.returns-in_err-get-clause-found
returns-in_err-get-clause-found c = rw c.from_residual.ensures (live_where_none _ _ _ c.in_err-get.ensures.value)

pub returns-then-has_arrived-clause-found : goal.returns-then-has_arrived-clause-found
returns-then-has_arrived-clause-found c =
    live_where_dead c.args.self.now.map.entries c.args.self.now.moment c.args.key.now (entry_of c.lent-entry.result)
    (ap (λ (e : Entry). Some e) c.lent-entry.ensures.entry ∙ c.in_ok-get.ensures.value)
    (ap not (sym c.if-has_arrived.ensures))

pub returns-clause-found : goal.returns-clause-found
returns-clause-found c =
    live_where_live c.args.self.now.map.entries c.args.self.now.moment c.args.key.now (entry_of c.lent-entry.result)
    (ap (λ (e : Entry). Some e) c.lent-entry.ensures.entry ∙ c.in_ok-get.ensures.value)
    (ap not (sym c.if-has_arrived.ensures))
