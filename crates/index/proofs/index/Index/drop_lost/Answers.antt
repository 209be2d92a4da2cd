use Rattle.std.proofs.Common.{◌≡◌, ◌+◌, sym, ap, ◌∙◌, None, refl, subst, List, [], ◌∷◌, drop, get_or, add-one}
use Rattle.std.specs.Prelude.{not}
use Rattle.std.proofs.Math.ListN.{drop_of_length-le}
use Rattle.std.proofs.Math.Seq.{drop-cons}
use Rattle.segments.specs.declared.place.Move.{Move}
use Rattle.segments.specs.Shown.{item_of}
use Rattle.index.specs.Keys.{KeysOf}
use Rattle.segments.specs.Pools.{key_at}
use Rattle.index.specs.Relocating.{forget_lost}
use Rattle.index.proofs.PoolKeys.{item_key}
use Rattle.index.proofs.RelocatedTables.{IsLosing, loses, passes, relocated_itself}
use Rattle.index.proofs.index.Index.drop_lost.Goals as goal
use Rattle.index.proofs.index.Index.drop_lost.Goals.{then-is_none, else-is_none}

abbrev no_move : Move
no_move = record { source = record { segment = 0; offset = 0 }; target = None }

pub loop-step-preserved : goal.loop-step-preserved
loop-step-preserved c =
    let keys : KeysOf = key_at c.args.pool.now in
    let moves = c.args.moves.now in
    let i = c.loop-step.step-index in
    let m : Move = get_or moves i no_move in
    let rest : List Move = drop (i + 1) moves in
    let lt = c.loop-step-test.true in
    let cons : drop i moves ≡ m ∷ rest = rw add-one (drop-cons moves i no_move lt) in
    let had : IsLosing keys moves (m ∷ rest) c.args.self.now c.loop-step.self =
    subst (λ ms. IsLosing keys moves ms c.args.self.now c.loop-step.self) cons
    record {
      index = c.loop-step.invariant.index;
      size = c.loop-step.invariant.size;
      ends = c.loop-step.invariant.ends;
    } in
    let has : IsLosing keys moves rest c.args.self.now c.if-is_none.self = elim c.if-is_none.branch [
      | then-is_none w ↦
          subst (IsLosing keys moves rest c.args.self.now) (sym w.self-is)
          (loses keys moves m rest c.args.self.now c.loop-step.self w.take_out.new.self had
          (c.is_none.ensures ∙ ap not w.if-is_none.true) w.take_out.ensures.relocated w.take_out.ensures.size)
      | else-is_none w ↦
          subst (IsLosing keys moves rest c.args.self.now) (sym w.self-is)
          (passes keys moves m rest c.args.self.now c.loop-step.self had
          (c.is_none.ensures ∙ ap not w.if-is_none.false))
    ] in
    record { index = has.index; size = has.size; ends = has.ends }

pub take_out-requires-clause-key : goal.take_out-requires-clause-key
take_out-requires-clause-key c =
    item_key c.args.pool.now (get_or c.args.moves.now c.loop-step.step-index no_move).source
    (item_of c.item-item.result) (sym c.item-item.ensures.item)

pub returns-clause-relocated : goal.returns-clause-relocated
returns-clause-relocated c =
    let keys : KeysOf = key_at c.args.pool.now in
    let moves = c.args.moves.now in
    let le = c.loop-step-test.false in
    let none : drop c.loop-step.step-index moves ≡ [] = drop_of_length-le moves le in
    c.loop-step.invariant.ends c.loop-step.self
    (relocated_itself keys keys (forget_lost (drop c.loop-step.step-index moves)) c.loop-step.self
    c.loop-step.invariant.index (λ q held. refl)
    (λ q held. ap (λ (l : List Move). forget_lost l q) none))
