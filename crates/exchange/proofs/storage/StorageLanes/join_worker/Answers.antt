use Rattle.std.proofs.Common.{rules, arith, ◌≡◌, ℕ, ◌+◌, ◌*◌, ◌<◌, sym, ap, ◌∙◌, subst}
use Rattle.atomic_table.specs.Seated.{TableId}
use Rattle.exchange.specs.declared.rule.StorageState.{StorageState}
use Rattle.exchange.specs.declared.rule.WorkerState.{WorkerState}
use Rattle.exchange.specs.declared.rule.LaneView.TheVariants.{Storage}
use Rattle.exchange.specs.Lanes.{SeatState}
use Rattle.exchange.specs.Steps.{comparing}
use Rattle.exchange.specs.Seats.{storage_state_in, StorageAgrees, HasUntold, IsNamed, IsLane, storage_lanes_view}
use Rattle.exchange.specs.Ends.{WorkerView, WorkerLaneView, StorageLanesView, AreCompared}
use Rattle.exchange.proofs.StorageSteps.{joins, compares}
use Rattle.exchange.proofs.Comparisons.{compared_outside}
use Rattle.exchange.proofs.storage.StorageLanes.join_worker.Goals as goal

pub join_seat-requires : goal.join_seat-requires
join_seat-requires c = let d : StorageState = storage_state_in c.self.inside.seat.me.0 in
    let seated = c.self.invariant.3.seated in
    let theirs = c.into_seat-seat.ensures.seated in (
      search rules,
      search rules,
      search rules,
      search rules,
      joins _ _ _ _ _ d theirs.0 (ap (λ (m : SeatState). m.0) seated)
          (ap (λ (m : SeatState). m.0) theirs.1),
    )

pub load-requires : goal.load-requires
load-requires c = let d : StorageState = storage_state_in c.self.inside.seat.me.0 in
    let seated = c.self.invariant.3.seated in
    let theirs = c.into_seat-seat.ensures.seated in
    let joined = c.join_seat.ensures.2 ∙ (λ
    j. let z : SeatState = (comparing (seated j).0 (theirs.1 j).0, (seated j).1) in z) in
    (search rules, search rules, compares _ _ _ _ d theirs.0 _ (ap (λ (m : SeatState). m.0) joined))

pub invariant_of-self : goal.invariant_of-self
invariant_of-self c = let d : StorageState = storage_state_in c.self.inside.seat.me.0 in
    let seated = c.self.invariant.3.seated in
    let theirs = c.into_seat-seat.ensures.seated in
    let joined = c.join_seat.ensures.2 ∙ (λ
    j. let z : SeatState = (comparing (seated j).0 (theirs.1 j).0, (seated j).1) in z) in
    let found = c.load.ensures.2 d theirs.0 (ap (λ (m : SeatState). m.0) joined) in
    let back = found.1 ∙ (λ j. let z : SeatState = (Storage d, (joined j).1) in z) in (
      search rules,
      (search rules, search rules),
      search rules,
      subst (λ (m : SeatState).
          StorageAgrees m c.self.inside.workers c.self.inside.last c.self.inside.counts c.self.inside.open_now) (seated
          ∙ sym back) c.self.invariant.3,
      subst (λ (m : SeatState).
          HasUntold (storage_state_in m.0) c.self.inside.untold c.self.inside.untold_lane
          c.self.inside.workers) (seated
          ∙ sym back) c.self.invariant.4,
      subst (λ (m : SeatState).
          IsNamed (storage_state_in m.0) c.self.inside.looked_lane c.self.inside.named c.self.inside.workers)
          (seated ∙ sym back) c.self.invariant.5,
    )

pub returns-clause-compared : goal.returns-clause-compared
returns-clause-compared c = let d : StorageState = storage_state_in c.self.inside.seat.me.0 in
    let seated = c.self.invariant.3.seated in
    let theirs = c.into_seat-seat.ensures.seated in let u : WorkerState = theirs.0 in
    let whole = ap (λ (v : WorkerLaneView). v.end) c.batched.ensures in
    let joined = c.join_seat.ensures.2 ∙ (λ
    j. let z : SeatState = (comparing (seated j).0 (theirs.1 j).0, (seated j).1) in z) in
    let found = c.load.ensures.2 d u (ap (λ (m : SeatState). m.0) joined) in
    let table : c.into_seat-seat.result.0.table_id ≡ c.self.inside.seat.table_id =
    ap (λ (z : WorkerView). z.exchange) (sym theirs.2 ∙ whole)
    ∙ (c.requires ∙ ap (λ (z : StorageLanesView). z.end.exchange) (sym c.self.view_is)) in
    let lane = subst (λ (z : TableId × ℕ). IsLane z.0 z.1)
    (λ i. (table i, (theirs.2 i).worker)) c.into_seat-seat.ensures.lane in
    let l0 : 16 * u.worker + 16 < c.self.inside.seat.table_id.words = lane.0 in let size = c.self.invariant.1.0 in
    subst (λ (z : StorageLanesView × WorkerView). AreCompared z.0.end z.1) (λ i. (c.self.view_is i, (sym theirs.2 ∙ whole) i))
    (compared_outside c.self.inside.seat.table_id c.into_seat-seat.result.0.table_id c.self.inside.workers
    c.self.inside.last d u
    (omega (arith, size)) found.0)

pub returns-clause-same : goal.returns-clause-same
returns-clause-same c = let d : StorageState = storage_state_in c.self.inside.seat.me.0 in
    let seated = c.self.invariant.3.seated in
    let theirs = c.into_seat-seat.ensures.seated in
    let joined = c.join_seat.ensures.2 ∙ (λ
    j. let z : SeatState = (comparing (seated j).0 (theirs.1 j).0, (seated j).1) in z) in
    let found = c.load.ensures.2 d theirs.0 (ap (λ (m : SeatState). m.0) joined) in
    (λ i. storage_lanes_view ((c.load.ensures.0 ∙ c.join_seat.ensures.0) i) c.self.inside.workers c.self.inside.last
    (storage_state_in (found.1 i).0))
    ∙ c.self.view_is
