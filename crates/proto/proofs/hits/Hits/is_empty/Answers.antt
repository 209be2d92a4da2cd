use Rattle.std.proofs.Common.{◌≡◌, [], ap, sym, ◌∙◌, length, IsTrue, arith}
use Rattle.std.specs.List.{flat_map}
use Rattle.proto.specs.Hits.{hit_bytes}
use Rattle.proto.proofs.HitTexts.{no_text}
use Rattle.proto.proofs.hits.Hits.is_empty.Goals as goal

pub returns : goal.returns
returns c =
    let text = c.self.invariant.0 in
    let shown = c.self.view_is in (
      (λ (h : IsTrue c.is_empty.result).
          let e : length c.self.inside.text.items ≡ 0 = grind (arith, c.is_empty.ensures, h) in
          sym shown ∙ no_text c.self.inside.shown.items (sym (ap length text) ∙ e)),
      (λ (e : c.args.self.now ≡ []).
          let none : c.self.inside.text.items ≡ [] =
          text ∙ ap (flat_map hit_bytes) (shown ∙ e) in
          grind (arith, c.is_empty.ensures, none)),
    )
