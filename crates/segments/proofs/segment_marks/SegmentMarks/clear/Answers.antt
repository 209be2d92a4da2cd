use Rattle.std.proofs.Common.{ℕ, List, Bool, false, length, ◌≡◌, sym, ap, subst, ◌∙◌, arith}
use Rattle.std.specs.Prelude.{vec_len, replicate}
use Rattle.segments.specs.MarkBits.{bits_of, AreMarkBits}
use Rattle.segments.proofs.MarkCounts.{none_marked}
use Rattle.segments.proofs.MarkBitLemmas.{length-bits, no_bits, marks_cleared}
use Rattle.segments.proofs.segment_marks.SegmentMarks.clear.Goals as goal

pub invariant_of-self : goal.invariant_of-self
invariant_of-self c =
    subst (λ (ws : List ℕ). AreMarkBits ws c.self.inside.len 0) (sym (c.fill.ensures.items (λ y e. e)))
    (marks_cleared c.self.inside.words.items (vec_len c.self.inside.words) c.self.inside.len c.self.inside.count
    (sym c.self.inside.words.ok.0) c.self.invariant)

pub returns-then-self-gt0 : goal.returns-then-self-gt0
returns-then-self-gt0 c =
    ap (bits_of c.self.inside.len) (c.fill.ensures.items (λ y e. e))
    ∙ no_bits c.self.inside.len (vec_len c.self.inside.words)
    ∙ ap (λ (n : ℕ). replicate n false) (sym (length-bits c.self.inside.len c.self.inside.words.items) ∙ ap length c.self.view_is)

pub returns-else-self-gt0 : goal.returns-else-self-gt0
returns-else-self-gt0 c =
    let counted = c.self.invariant.counted.counted in
    let none = c.if-self-gt0.false in
    subst (λ (bs : List Bool). bs ≡ replicate (length bs) false) c.self.view_is
    (none_marked _ (omega (arith, counted, none)))
