use Rattle.std.proofs.Common.{rules, ◌≡◌, List, [], sym, ap, ◌∙◌, subst}
use Rattle.proto.specs.declared.history.Answered.{Answered}
use Rattle.exchange.specs.declared.rule.LaneView.TheVariants.{Told}
use Rattle.exchange.specs.Lanes.{SeatState}
use Rattle.exchange.specs.Steps.{meeting}
use Rattle.exchange.specs.Seats.{told_at, told_in, told_view}
use Rattle.exchange.proofs.ToldSteps.{meets_told, compares_told}
use Rattle.exchange.proofs.worker.WorkerLane.compare.Goals as goal

pub join_seat-requires : goal.join_seat-requires
join_seat-requires c = let t : List Answered = c.args.told.items in
    let u : List Answered = c.args.other.items in (
      search rules,
      search rules,
      search rules,
      search rules,
      meets_told _ _ _ _ _ t u (ap (λ (m : SeatState). m.0) c.into_seat-seat.ensures.known)
          (ap (λ (m : SeatState). m.0) c.into_seat-met.ensures.known),
    )

pub load-requires : goal.load-requires
load-requires c = let t : List Answered = c.args.told.items in
    let u : List Answered = c.args.other.items in
    let joined = c.join_seat.ensures.2 ∙ (λ
    j. let z : SeatState = (meeting (c.into_seat-seat.ensures.known j).0 (c.into_seat-met.ensures.known j).0, (c.into_seat-seat.ensures.known j).1) in z) in
    (search rules, search rules, compares_told _ _ _ _ t u _ (ap (λ (m : SeatState). m.0) joined))

pub of-requires : goal.of-requires
of-requires c = let t : List Answered = c.args.told.items in
    let u : List Answered = c.args.other.items in
    let joined = c.join_seat.ensures.2 ∙ (λ
    j. let z : SeatState = (meeting (c.into_seat-seat.ensures.known j).0 (c.into_seat-met.ensures.known j).0, (c.into_seat-seat.ensures.known j).1) in z) in
    let found = c.load.ensures.2 t u (ap (λ (m : SeatState). m.0) joined) in
    let back = found.1 ∙ (λ j. let z : SeatState = (Told t, (joined j).1) in z) in
    subst (λ (m : SeatState). m ≡ (Told (told_at m), [])) (sym back) (λ j. let z : SeatState = (Told t, []) in z)

pub returns-clause-same : goal.returns-clause-same
returns-clause-same c = let t : List Answered = c.args.told.items in
    let u : List Answered = c.args.other.items in
    let joined = c.join_seat.ensures.2 ∙ (λ
    j. let z : SeatState = (meeting (c.into_seat-seat.ensures.known j).0 (c.into_seat-met.ensures.known j).0, (c.into_seat-seat.ensures.known j).1) in z) in
    let found = c.load.ensures.2 t u (ap (λ (m : SeatState). m.0) joined) in
    c.of.ensures ∙ (λ i. told_view ((c.load.ensures.0 ∙ c.join_seat.ensures.0 ∙ c.into_seat-seat.ensures.table) i) (told_in (found.1 i).0))

pub returns-clause-one : goal.returns-clause-one
returns-clause-one c = let t : List Answered = c.args.told.items in
    let u : List Answered = c.args.other.items in
    let joined = c.join_seat.ensures.2 ∙ (λ
    j. let z : SeatState = (meeting (c.into_seat-seat.ensures.known j).0 (c.into_seat-met.ensures.known j).0, (c.into_seat-seat.ensures.known j).1) in z) in
    (c.load.ensures.2 t u (ap (λ (m : SeatState). m.0) joined)).0
