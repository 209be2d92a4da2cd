use Rattle.std.proofs.Common.{◌≡◌, length, ap, refl, arith}
use Rattle.std.specs.List.{range_with_len}
use Rattle.std.proofs.lemmas.Iterator.{items_from_collect, YieldsList-from_range}
use Rattle.std.proofs.lemmas.List.FromFn.{length-range_with_len}
use Rattle.segments.proofs.pool.all_free.Goals as goal

pub returns-clause-free : goal.returns-clause-free
returns-clause-free c =
    let all = items_from_collect {s = record { start = 0; end = c.args.count }} c.collect.result c.collect.ensures.ran
    (YieldsList-from_range 0 c.args.count c.args.count refl (omega arith)) in
    rw c.in_ok-free.was at all

pub returns-clause-free_room : goal.returns-clause-free_room
returns-clause-free_room c =
    let items : c.in_ok-free.free.items ≡ range_with_len 0 c.args.count = returns-clause-free c in
    let long = length-range_with_len 0 c.args.count in
    omega (arith, ap length items, long, c.in_ok-free.free.ok)
