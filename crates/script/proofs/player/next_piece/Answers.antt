use Rattle.std.proofs.Common.{◌≡◌, ℕ, ◌-◌, take, length, min, ap, ◌∙◌, arith}
use Rattle.std.proofs.lemmas.List.{take_min}
use Rattle.std.proofs.lemmas.Result.{IfOk-weaker}
use Rattle.script.proofs.player.next_piece.Goals as goal

pub returns : goal.returns
returns c =
    let bytes = c.args.bytes.now in
    let n_is : c.min.result - 0 ≡ min 16384 (length bytes) = omega (arith, c.min.ensures, c.len.ensures.value) in
    IfOk-weaker c.slice.result _ _ (λ piece is. is ∙ ap (λ (n : ℕ). take n bytes) n_is ∙ take_min 16384 bytes) c.slice.ensures.ok
