use Rattle.std.proofs.Common.{◌≡◌, ◌≤◌, ◌*◌, ap, arith}
use Rattle.segments.specs.Pools.{PoolState}
use Rattle.segments.specs.Changes.{new_pool}
use Rattle.segments.specs.Pools.{key_at}
use Rattle.index.specs.Sizing.{most_items}
use Rattle.store_tests.proofs.shelf.Shelf.new.Goals as goal

pub invariant_of-result : goal.invariant_of-result
unfolding new_pool
invariant_of-result c =
    let index = c.in_ok-new-2.field-0 in
    let room : index.room ≡ c.max.result = c.in_ok-new-2.ensures.room in
    let enough : 2 * most_items c.args.geometry ≤ c.slots_for.result = c.slots_for.ensures.1 in
    let most = c.max.ensures in (
      (c.in_ok-new-2.ensures.map (key_at c.in_ok-new.field-0)).index,
      ap (λ (p : PoolState). p.sizes) c.in_ok-new.ensures.empty,
      omega (arith, room, enough, most),
      rw c.in_ok-new-2.ensures.layout c.layout_for.ensures.sizes,
    )
