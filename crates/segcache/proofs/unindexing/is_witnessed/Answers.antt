use Rattle.std.proofs.Common.{◌≡◌, false, refl, sym, ap, subst, ◌∙◌}
use Rattle.std.specs.Prelude.{IsSome}
use Rattle.std.proofs.lemmas.Bool.{not-true}
use Rattle.proto.specs.Cache.{has_arrived}
use Rattle.segments.specs.Pools.{place_deadline}
use Rattle.segcache.proofs.LiveSegments.{place_held, held_lives}
use Rattle.segcache.proofs.unindexing.is_witnessed.Goals as goal

pub item-requires : goal.item-requires
item-requires c =
    let x = place_held c.args.pool.now c.args.index.now c.args._marks.now c.in-Some.place c.requires.tied c.in-Some.ensures in
    subst IsSome (sym x.stands) refl

pub returns-then-place-segment : goal.returns-then-place-segment
returns-then-place-segment c =
    λ holds.
    let p = c.args.pool.now in
    let t = c.args.moment in
    let waits : has_arrived (place_deadline p c.in-Some.place) t ≡ false =
    ap (λ d. has_arrived d t) (sym c.item.ensures.deadline) ∙ sym c.has_arrived.ensures ∙ not-true c.has_arrived.result holds in
    held_lives p c.args.index.now c.args._marks.now t c.args.segment c.in-Some.place c.requires.tied c.in-Some.ensures
    c.if-place-segment.true waits
