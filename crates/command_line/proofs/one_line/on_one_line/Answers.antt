use Rattle.std.proofs.Common.{◌≡◌, ℕ, ◌+◌, ◌<◌, List, ◌++◌, length, get_or, drop, sym, ap, ◌∙◌, append_assoc, append-nil, arith}
use Rattle.std.specs.Prelude.{string_bytes, flat_map}
use Rattle.std.specs.Str.{chars}
use Rattle.std.proofs.lemmas.Iterator.{YieldsList-from_chars}
use Rattle.std.proofs.lemmas.Iterator.Consumers.{YieldsList-turn, YieldsList-end}
use Rattle.std.proofs.lemmas.List.{at_drop_more, at_drop_all, length_push}
use Rattle.command_line.specs.OneLine.{shown_char}
use Rattle.command_line.proofs.one_line.on_one_line.Goals as goal

-- what is shown of the characters from one on
shown_from : (cs : List ℕ) (n c : ℕ) → (n < length cs) × (c ≡ get_or cs n c)
    → flat_map shown_char (drop n cs) ≡ shown_char c ++ flat_map shown_char (drop (n + 1) cs)
shown_from cs n c h = at_drop_more (flat_map shown_char) cs n c h.0
    ∙ ap (λ x. shown_char x ++ flat_map shown_char (drop (n + 1) cs)) (sym h.1)

pub loop-character-preserved : goal.loop-character-preserved
loop-character-preserved c =
    let t = YieldsList-turn (YieldsList-from_chars c.args.text.now c.utf8.text cc) c.loop-character.yielded _ c.loop-character.yielded_by _ _
    c.in-Some.character c.in-Some.is c.next.ensures.steps in
    let line = string_bytes c.loop-character.line in
    let rest = flat_map shown_char (drop (length c.loop-character.yielded + 1) (chars c.args.text.now)) in
    ap (λ k. string_bytes c.push_shown.new.line ++ flat_map shown_char (drop k (chars c.args.text.now)))
    (length_push c.loop-character.yielded c.in-Some.character)
    ∙ ap (λ (l : List ℕ). l ++ rest) c.in_ok-push_shown.ensures
    ∙ append_assoc line (shown_char c.in-Some.character) rest
    ∙ ap (λ (l : List ℕ). line ++ l) (sym (shown_from _ _ _ t))
    ∙ c.loop-character.invariant

pub returns : goal.returns
returns c =
    let t = YieldsList-end (YieldsList-from_chars c.args.text.now c.utf8.text cc) c.loop-character.yielded _ c.loop-character.yielded_by _ _
    c.in-None.is c.next.ensures.steps in
    let e = at_drop_all (flat_map shown_char) (chars c.args.text.now) (length c.loop-character.yielded) (omega (arith, t.1)) in
    let line = string_bytes c.loop-character.line in
    sym (append-nil line) ∙ ap (λ (l : List ℕ). line ++ l) (sym e) ∙ c.loop-character.invariant
