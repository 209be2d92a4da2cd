use Rattle.store_tests.proofs.Standings.{found, found_behind}
use Rattle.store_tests.proofs.pool.walks.has_item.Goals as goal

pub loop-at-init : goal.loop-at-init
loop-at-init c =
    found c.args.pool.now c.args.place.segment c.walk-walk.result.left c.walk-walk.ensures.left

pub loop-at-preserved : goal.loop-at-preserved
loop-at-preserved c =
    found_behind c.args.pool.now _ c.loop-at.walk.left c.next.new.self.left c.in-Some.ensures.left.0 c.loop-at.invariant
