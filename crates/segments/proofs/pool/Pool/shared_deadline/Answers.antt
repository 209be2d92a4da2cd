use Rattle.std.proofs.Common.{ap, sym, ◌∙◌}
use Rattle.segments.specs.Pools.{PoolState, segment_at, deadline_in}
use Rattle.segments.proofs.PoolLemmas.{dated, in_range, segment_inside}
use Rattle.segments.proofs.pool.Pool.shared_deadline.Goals as goal

pub deadline-requires : goal.deadline-requires
deadline-requires c =
    dated c.self.inside c.args.place.segment c.index.result.now c.self.invariant
    (in_range c.self.inside c.args.self.now c.args.place c.self.view_is c.requires) c.index.ensures

pub returns : goal.returns
returns c =
    let a = c.self.inside in
    let n = c.args.place.segment in
    let s = c.index.result.now in
    let lt = in_range a c.args.self.now c.args.place c.self.view_is c.requires in
    c.deadline.ensures ∙ ap deadline_in (sym (segment_inside a n s lt c.index.ensures))
    ∙ ap (λ (q : PoolState). deadline_in (segment_at q n)) c.self.view_is
