use Rattle.std.proofs.Common.{◌≡◌, ◌+◌, sym, ◌∙◌, Some, None, refl, subst, List, [], ◌∷◌, drop, get_or, add-one}
use Rattle.std.specs.Prelude.{IsSome}
use Rattle.std.proofs.Math.ListN.{drop_of_length-le}
use Rattle.std.proofs.Math.Seq.{drop-cons}
use Rattle.std.proofs.lemmas.List.Elements.{All-head}
use Rattle.segments.specs.declared.place.Move.{Move}
use Rattle.segments.specs.Shown.{item_of}
use Rattle.segments.specs.Places.{moved_by}
use Rattle.index.specs.Keys.{KeysOf}
use Rattle.segments.specs.Pools.{key_at}
use Rattle.index.specs.Relocating.{IsRelocated, CanRelocate, keys_after_merge}
use Rattle.index.proofs.PoolKeys.{item_key}
use Rattle.index.proofs.RelocatedTables.{relocated_itself}
use Rattle.index.proofs.KeptMoves.{IsRelocating, rekeyed, skips, key_held, others_keep, target_rekeyed, moves_on}
use Rattle.index.proofs.index.Index.move_kept.Goals as goal
use Rattle.index.proofs.index.Index.move_kept.Goals.{in-Some, in_default}

abbrev no_move : Move
no_move = record { source = record { segment = 0; offset = 0 }; target = None }

pub loop-step-init : goal.loop-step-init
loop-step-init c =
    record {
      keys = key_at c.args.pool.now;
      index = c.requires.index;
      can = c.requires.can;
      lost = c.requires.lost;
      same = λ k d lt some. refl;
      size = record { count = refl; hasher = refl; layout = refl };
      ends = λ end h. h;
    }

pub loop-step-preserved : goal.loop-step-preserved
loop-step-preserved c =
    let before : KeysOf = key_at c.args.pool.now in
    let after : KeysOf = keys_after_merge c.args.pool.now in
    let moves = c.args.moves.now in
    let i = c.loop-step.step-index in
    let m : Move = get_or moves i no_move in
    let rest : List Move = drop (i + 1) moves in
    let lt = c.loop-step-test.true in
    let t = c.loop-step.self in
    let cons : drop i moves ≡ m ∷ rest = rw add-one (drop-cons moves i no_move lt) in
    let had : IsRelocating before after moves (m ∷ rest) c.args.self.now t = subst
    (λ ms. IsRelocating before after moves ms c.args.self.now t) cons c.loop-step.invariant in
    elim c.match-step.branch [
      | in-Some w ↦
          let target = w.in-Some.target in
          let is : m.target ≡ Some target = w.in-Some.is in
          let key = w.item-item.result.key.now in
          let some : IsSome m.target = rw is refl in
          let own : had.keys m.source ≡ Some key =
          All-head (λ (l : Move). IsSome l.target → had.keys l.source ≡ before l.source) m rest had.same some
          ∙ item_key c.args.pool.now m.source (item_of w.item-item.result) (sym w.item-item.ensures.item) in
          let put = w.replace.ensures.map had.keys (rekeyed had.keys target key) had.index
          (key_held before after moves m rest c.args.self.now t had target is key own)
          (target_rekeyed before after moves m rest c.args.self.now t had target is key own)
          (others_keep before after moves m rest c.args.self.now t had target is key own) in
          subst (IsRelocating before after moves rest c.args.self.now) (sym w.self-is)
          (moves_on before after moves m rest c.args.self.now t had target is key own w.replace.new.self put
          w.replace.ensures.size)
      | in_default w ↦
          subst (IsRelocating before after moves rest c.args.self.now) (sym w.self-is)
          (skips before after moves m rest c.args.self.now t had w.in_default.is)
    ]

pub replace-requires-clause-there : goal.replace-requires-clause-there
replace-requires-clause-there c =
    let before : KeysOf = key_at c.args.pool.now in
    let after : KeysOf = keys_after_merge c.args.pool.now in
    let moves = c.args.moves.now in
    let i = c.loop-step.step-index in
    let m : Move = get_or moves i no_move in
    let rest : List Move = drop (i + 1) moves in
    let lt = c.loop-step-test.true in
    let t = c.loop-step.self in
    let cons : drop i moves ≡ m ∷ rest = rw add-one (drop-cons moves i no_move lt) in
    let had : IsRelocating before after moves (m ∷ rest) c.args.self.now t = subst
    (λ ms. IsRelocating before after moves ms c.args.self.now t) cons c.loop-step.invariant in
    let target = c.in-Some.target in
    let is : m.target ≡ Some target = c.in-Some.is in
    let key = c.item-item.result.key.now in
    let some : IsSome m.target = rw is refl in
    let own : had.keys m.source ≡ Some key =
    All-head (λ (l : Move). IsSome l.target → had.keys l.source ≡ before l.source) m rest had.same some
    ∙ item_key c.args.pool.now m.source (item_of c.item-item.result) (sym c.item-item.ensures.item) in
    (had.keys, had.index, key_held before after moves m rest c.args.self.now t had target is key own)

pub returns-clause-relocated : goal.returns-clause-relocated
returns-clause-relocated c =
    let after : KeysOf = keys_after_merge c.args.pool.now in
    let h = c.loop-step.invariant in
    let moves = c.args.moves.now in
    let le = c.loop-step-test.false in
    let none : drop c.loop-step.step-index moves ≡ [] = drop_of_length-le moves le in
    let can = subst (λ ms. CanRelocate h.keys after c.loop-step.self ms) none h.can in
    h.ends c.loop-step.self
    (subst (λ ms. IsRelocated h.keys after (moved_by ms) c.loop-step.self c.loop-step.self) (sym none)
    (relocated_itself h.keys after (moved_by []) c.loop-step.self h.index (λ q held. can.others q held refl)
    (λ q held. refl)))
