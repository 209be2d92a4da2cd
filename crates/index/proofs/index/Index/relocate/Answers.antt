use Rattle.std.proofs.Common.{sym, subst, List}
use Rattle.segments.specs.declared.place.Move.{Move}
use Rattle.segments.specs.Places.{moved_by}
use Rattle.index.specs.Keys.{KeysOf}
use Rattle.segments.specs.Pools.{key_at}
use Rattle.index.specs.Relocating.{IsRelocated, CanRelocate, forget_lost, keys_after_merge}
use Rattle.index.proofs.RelocatedTables.{composed}
use Rattle.index.proofs.LostAndKeptMoves.{can_still, lost_out, lost_and_moved}
use Rattle.index.proofs.index.Index.relocate.Goals as goal

pub move_kept-requires-clause-can : goal.move_kept-requires-clause-can
move_kept-requires-clause-can c =
    let before : KeysOf = key_at c.args.pool.now in
    let after : KeysOf = keys_after_merge c.args.pool.now in
    let can = subst (λ (ms : List Move). CanRelocate before after c.args.self.now ms)
    (sym c.moves-moves.ensures.planned) c.requires.can in
    can_still before after c.moves-moves.result.now c.args.self.now c.drop_lost.new.self can c.requires.index
    c.drop_lost.ensures.relocated c.drop_lost.ensures.size.layout

pub move_kept-requires-clause-lost : goal.move_kept-requires-clause-lost
move_kept-requires-clause-lost c =
    let before : KeysOf = key_at c.args.pool.now in
    let after : KeysOf = keys_after_merge c.args.pool.now in
    let can = subst (λ (ms : List Move). CanRelocate before after c.args.self.now ms)
    (sym c.moves-moves.ensures.planned) c.requires.can in
    lost_out before after c.moves-moves.result.now c.args.self.now c.drop_lost.new.self can c.requires.index
    c.drop_lost.ensures.relocated c.drop_lost.ensures.size.layout

pub returns-clause-relocated : goal.returns-clause-relocated
returns-clause-relocated c =
    let before : KeysOf = key_at c.args.pool.now in
    let after : KeysOf = keys_after_merge c.args.pool.now in
    let moves = c.moves-moves.result.now in
    let can = subst (λ (ms : List Move). CanRelocate before after c.args.self.now ms)
    (sym c.moves-moves.ensures.planned) c.requires.can in
    subst (λ (ms : List Move). IsRelocated before after (moved_by ms) c.args.self.now c.move_kept.new.self)
    c.moves-moves.ensures.planned
    (composed before before after (forget_lost moves) (moved_by moves)
    (moved_by moves) c.args.self.now c.drop_lost.new.self c.move_kept.new.self c.drop_lost.ensures.relocated
    c.move_kept.ensures.relocated
    (λ p held. lost_and_moved moves p can.in_turn))
