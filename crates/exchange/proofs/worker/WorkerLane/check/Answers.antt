use Rattle.std.proofs.Common.{rules, ◌≡◌, List, [], sym, ap, ◌∙◌, subst}
use Rattle.proto.specs.declared.history.Answered.{Answered}
use Rattle.proto.specs.History.{worker_share, asked_posted}
use Rattle.exchange.specs.declared.rule.WorkerState.{WorkerState}
use Rattle.exchange.specs.declared.rule.LaneView.TheVariants.{Worker, Told}
use Rattle.exchange.specs.Beginnings.{StartsWith, AreOfOne}
use Rattle.exchange.specs.Lanes.{SeatState}
use Rattle.exchange.specs.Steps.{meeting, unchanged, noting}
use Rattle.exchange.specs.Ends.{WorkerLaneView}
use Rattle.exchange.specs.Seats.{WorkerAgrees, worker_state_in, worker_lane_view, told_at, told_in, told_view}
use Rattle.exchange.proofs.ToldSteps.{notes_again, meets, checks}
use Rattle.exchange.proofs.worker.WorkerLane.check.Goals as goal

pub split_seat-met-requires : goal.split_seat-met-requires
split_seat-met-requires c = let t : List Answered = c.args.told.items in (
  search rules,
  search rules,
  notes_again _ _ _ t (ap (λ (m : SeatState). m.0) c.into_seat-kept.ensures.known),
)

pub join_seat-requires : goal.join_seat-requires
join_seat-requires c = let d : WorkerState = worker_state_in c.self.inside.seat.me.0 in
    let t : List Answered = c.args.told.items in
    let known = c.into_seat-kept.ensures.known in
    let met = c.split_seat-met.ensures.4 ∙ (λ j. let z : SeatState = (noting (known j).0, []) in z) in (
      search rules,
      search rules,
      search rules,
      search rules,
      meets _ _ _ _ _ d t (ap (λ (m : SeatState). m.0) c.self.invariant.2.seated) (ap (λ (m : SeatState). m.0) met),
    )

pub load-requires : goal.load-requires
load-requires c = let d : WorkerState = worker_state_in c.self.inside.seat.me.0 in
    let t : List Answered = c.args.told.items in
    let seated = c.self.invariant.2.seated in let known = c.into_seat-kept.ensures.known in
    let met = c.split_seat-met.ensures.4 ∙ (λ j. let z : SeatState = (noting (known j).0, []) in z) in
    let joined = c.join_seat.ensures.2 ∙ (λ
    j. let z : SeatState = (meeting (seated j).0 (met j).0, (seated j).1) in z) in
    (search rules, search rules, checks _ _ _ _ d t _ (ap (λ (m : SeatState). m.0) joined))

pub of-requires : goal.of-requires
of-requires c = let t : List Answered = c.args.told.items in
    let known = c.into_seat-kept.ensures.known in
    let kept = c.split_seat-met.ensures.2 ∙ (λ j. let z : SeatState = (unchanged (known j).0, (known j).1) in z) in
    subst (λ (m : SeatState). m ≡ (Told (told_at m), [])) (sym kept) (λ j. let z : SeatState = (Told t, []) in z)

pub invariant_of-self : goal.invariant_of-self
invariant_of-self c = let d : WorkerState = worker_state_in c.self.inside.seat.me.0 in
    let t : List Answered = c.args.told.items in let a = c.self.inside in
    let seated = c.self.invariant.2.seated in let known = c.into_seat-kept.ensures.known in
    let met = c.split_seat-met.ensures.4 ∙ (λ j. let z : SeatState = (noting (known j).0, []) in z) in
    let joined = c.join_seat.ensures.2 ∙ (λ
    j. let z : SeatState = (meeting (seated j).0 (met j).0, (seated j).1) in z) in
    let found = c.load.ensures.2 d t (ap (λ (m : SeatState). m.0) joined) in
    let back = found.1 ∙ (λ j. let z : SeatState = (Worker d, (joined j).1) in z) in (
      search rules,
      search rules,
      subst (λ (m : SeatState). WorkerAgrees m a.worker a.sent a.put a.back a.known a.said_bye) (seated ∙ sym back)
          c.self.invariant.2,
    )

pub returns-clause-same : goal.returns-clause-same
returns-clause-same c = let d : WorkerState = worker_state_in c.self.inside.seat.me.0 in
    let t : List Answered = c.args.told.items in
    let seated = c.self.invariant.2.seated in let known = c.into_seat-kept.ensures.known in
    let met = c.split_seat-met.ensures.4 ∙ (λ j. let z : SeatState = (noting (known j).0, []) in z) in
    let joined = c.join_seat.ensures.2 ∙ (λ
    j. let z : SeatState = (meeting (seated j).0 (met j).0, (seated j).1) in z) in
    let found = c.load.ensures.2 d t (ap (λ (m : SeatState). m.0) joined) in
    (λ i. worker_lane_view ((c.load.ensures.0 ∙ c.join_seat.ensures.0) i) (worker_state_in (found.1 i).0))
    ∙ c.self.view_is

pub returns-clause-handed_back : goal.returns-clause-handed_back
returns-clause-handed_back c = let known = c.into_seat-kept.ensures.known in
    let kept = c.split_seat-met.ensures.2 ∙ (λ j. let z : SeatState = (unchanged (known j).0, (known j).1) in z) in
    c.of.ensures ∙ (λ i. told_view ((c.split_seat-met.ensures.0 ∙ c.into_seat-kept.ensures.table) i) (told_in (kept i).0))

pub returns-clause-asked : goal.returns-clause-asked
returns-clause-asked c = let d : WorkerState = worker_state_in c.self.inside.seat.me.0 in
    let t : List Answered = c.args.told.items in
    let seated = c.self.invariant.2.seated in let known = c.into_seat-kept.ensures.known in
    let met = c.split_seat-met.ensures.4 ∙ (λ j. let z : SeatState = (noting (known j).0, []) in z) in
    let joined = c.join_seat.ensures.2 ∙ (λ
    j. let z : SeatState = (meeting (seated j).0 (met j).0, (seated j).1) in z) in
    let found = c.load.ensures.2 d t (ap (λ (m : SeatState). m.0) joined) in
    subst (λ (z : WorkerLaneView). StartsWith z.end.sent (asked_posted (worker_share t z.end.worker))) c.self.view_is
    found.0.asked

pub returns-clause-one : goal.returns-clause-one
returns-clause-one c = let d : WorkerState = worker_state_in c.self.inside.seat.me.0 in
    let t : List Answered = c.args.told.items in
    let seated = c.self.invariant.2.seated in let known = c.into_seat-kept.ensures.known in
    let met = c.split_seat-met.ensures.4 ∙ (λ j. let z : SeatState = (noting (known j).0, []) in z) in
    let joined = c.join_seat.ensures.2 ∙ (λ
    j. let z : SeatState = (meeting (seated j).0 (met j).0, (seated j).1) in z) in
    let found = c.load.ensures.2 d t (ap (λ (m : SeatState). m.0) joined) in
    subst (λ (z : WorkerLaneView). AreOfOne z.end.seen t) c.self.view_is found.0.one
