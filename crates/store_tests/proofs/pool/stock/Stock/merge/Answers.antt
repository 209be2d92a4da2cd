use Rattle.std.proofs.Common.{sym, subst, ◌∙◌}
use Rattle.segments.specs.Marks.{KnowsPool}
use Rattle.segments.proofs.MarkedPlaces.{merge_ready, merge_done}
use Rattle.store_tests.proofs.Planned.{planned_known}
use Rattle.store_tests.proofs.pool.stock.Stock.merge.Goals as goal

pub invariant_of-self : goal.invariant_of-self
invariant_of-self c =
    let s = c.args.self.now in
    let h = planned_known s.marks s.pool c.plan_merge.new.self c.plan_merge.result c.plan_merge.ensures.plan s.known
    c.plan_merge.ensures.pool in
    record { sizes = h.1 ∙ s.sizes; known = h.0 }

pub carry-requires-clause-sources : goal.carry-requires-clause-sources
carry-requires-clause-sources c =
    let s = c.args.self.now in
    (merge_ready s.marks s.pool c.plan_merge.new.self c.moves.result.now s.known c.if-not-plan_merge.ensures.plan
    c.moves.ensures.planned c.moves.ensures.sources c.moves.ensures.carried).0

pub carry-requires-clause-targets : goal.carry-requires-clause-targets
carry-requires-clause-targets c =
    let s = c.args.self.now in
    (merge_ready s.marks s.pool c.plan_merge.new.self c.moves.result.now s.known c.if-not-plan_merge.ensures.plan
    c.moves.ensures.planned c.moves.ensures.sources c.moves.ensures.carried).1

pub invariant_of-self-2 : goal.invariant_of-self-2
invariant_of-self-2 c =
    let s = c.args.self.now in
    let d = merge_done s.marks s.pool c.plan_merge.new.self c.merge_next.new.self c.moves.result.now s.known
    c.if-not-plan_merge.ensures.plan c.moves.ensures.planned c.moves.ensures.sources
    c.merge_next.ensures.merged c.merge_next.ensures.pool in
    record {
      sizes = d.1 ∙ s.sizes;
      known = subst (λ t. KnowsPool t c.merge_next.new.self) (sym c.carry.ensures) d.0;
    }
