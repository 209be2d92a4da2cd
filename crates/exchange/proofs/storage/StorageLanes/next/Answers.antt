use Rattle.std.proofs.Common.{arith, ◌≡◌, ℕ, suc, ◌+◌, ◌∙◌, inl, inr}
use Rattle.exchange.proofs.Looks.{IsTurn, found_in_turn, vain_in_turn, all_looked, each_once}
use Rattle.exchange.proofs.storage.StorageLanes.next.Goals.{then-turn-workers, else-turn-workers}
use Rattle.exchange.proofs.storage.StorageLanes.next.Goals as goal

pub loop-turn-preserved : goal.loop-turn-preserved
loop-turn-preserved g c = let inv = c.loop-turn.invariant in let k : ℕ = inv.looks.0 in
    let turn : ℕ = c.loop-turn.turn in let workers : ℕ = c.self.inside.workers in
    let is : IsTurn workers turn c.if-turn-workers.lane = elim c.if-turn-workers.branch [
      | then-turn-workers w ↦ inl (w.if-turn-workers.true, w.lane-is)
      | else-turn-workers w ↦ let high = w.if-turn-workers.false in let lane = w.lane-is in
          inr (omega (arith, high), omega (arith, high, lane))
    ] in
    let at : c.self.inside.last + 1 + k ≡ turn = inv.looks.1 in let l = c.in_default.ensures.looks in record {
      same = inv.same;
      told = c.in_default.ensures.told ∙ inv.told;
      shut = inv.shut;
      looks = (
        suc k,
        omega arith,
        vain_in_turn _ _ _ _ k inv.same inv.looks.2 _ turn _ at c.loop-turn-test.true is l.0 l.1.0 l.1.1,
      );
    }

pub returns-in-Some-clause-next : goal.returns-in-Some-clause-next
returns-in-Some-clause-next g c = let inv = c.loop-turn.invariant in
    let is : IsTurn c.self.inside.workers c.loop-turn.turn c.if-turn-workers.lane = elim c.if-turn-workers.branch [
      | then-turn-workers w ↦ inl (w.if-turn-workers.true, w.lane-is)
      | else-turn-workers w ↦ let high = w.if-turn-workers.false in let lane = w.lane-is in
          inr (omega (arith, high), omega (arith, high, lane))
    ] in
    found_in_turn _ _ _ _ inv.looks.0 inv.same inv.looks.2 _ c.loop-turn.turn _ inv.looks.1 c.loop-turn-test.true is
    c.in-Some.taken c.in-Some.ensures.looks

pub returns-clause-next : goal.returns-clause-next
returns-clause-next g c = let inv = c.loop-turn.invariant in let at = inv.looks.1 in
    let over = c.loop-turn-test.false in
    all_looked c.args.self.now.end c.loop-turn.self.end _ _ inv.looks.0 inv.same inv.looks.2 (omega (arith, at, over))

pub returns-clause-every_lane : goal.returns-clause-every_lane
returns-clause-every_lane g c = let inv = c.loop-turn.invariant in let at = inv.looks.1 in
    let over = c.loop-turn-test.false in
    λ w l. each_once c.args.self.now.end c.loop-turn.self.end w (let a = inv.same.0 in
    let b = inv.same.1 in let d = inv.same.2 in omega arith) l
    (all_looked c.args.self.now.end c.loop-turn.self.end _ _ inv.looks.0 inv.same inv.looks.2 (omega (arith, at, over)))
