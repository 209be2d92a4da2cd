use Rattle.std.proofs.Common.{ℕ, ◌<◌, ◌≤◌, length, arith}
use Rattle.index.specs.Slots.{distance}
use Rattle.index.specs.Reinserting.{IsFirstStop}
use Rattle.index.proofs.RowDistances.{distance_itself}
use Rattle.index.proofs.ReinsertedKeys.{stop_further}
use Rattle.index.proofs.growing.search.Goals as goal
use Rattle.index.proofs.growing.search.Goals.{After-first_gap_before}

-- what is found from the end of the stretch is found from each of its slots
goes_on : (c : After-first_gap_before) (home : ℕ) → home < length c.args.slots.now.slots
    → distance (length c.args.slots.now.slots) c.args.known.first home
    ≤ distance (length c.args.slots.now.slots) c.args.known.first c.args.known.end
    → IsFirstStop c.args.slots.now.slots home c.args.at c.first_gap_before.result
goes_on c home h begins =
    let known = c.requires.known in
    let to_end = c.distance-reach.ensures in
    let to_at = c.distance-then-distance-reach.ensures in
    let le = c.if-reach-distance.true in
    let before = rw c.len-count.ensures at (rw (to_end, to_at) at le) in
    stop_further c.args.slots.now.slots c.args.known.first c.args.known.end home c.args.at c.first_gap_before.result
    known.first known.end h c.requires.at known.used begins before c.first_gap_before.ensures

pub returns-then-reach-distance-clause-used : goal.returns-then-reach-distance-clause-used
returns-then-reach-distance-clause-used c =
    let z = distance_itself (length c.args.slots.now.slots) c.args.known.first in
    goes_on c c.args.known.first c.requires.known.first (omega (arith, z))

pub returns-then-reach-distance-clause-stop : goal.returns-then-reach-distance-clause-stop
returns-then-reach-distance-clause-stop c =
    let le = c.if-distance-reach.true in
    let begins = rw c.len-count.ensures at (rw (c.distance.ensures, c.distance-reach.ensures) at le) in
    goes_on c c.args.home c.requires.home begins
