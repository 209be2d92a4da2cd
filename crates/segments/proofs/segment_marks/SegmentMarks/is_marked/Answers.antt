use Rattle.std.proofs.Common.{◌∙◌, ℕ, List, Bool, false, get_or, sym, ap, arith}
use Rattle.std.proofs.lemmas.Bool.{le-ltb}
use Rattle.std.proofs.lemmas.List.{get_or_past}
use Rattle.segments.specs.MarkBits.{bit_of, bits_of}
use Rattle.segments.proofs.MarkBitLemmas.{length-bits, bit_there}
use Rattle.segments.proofs.segment_marks.SegmentMarks.is_marked.Goals as goal

pub returns-then-n-self : goal.returns-then-n-self
returns-then-n-self c =
    c.has_bit.ensures ∙ ap (λ (ws : List ℕ). bit_of ws c.args.n) c.as_slice.ensures.value
    ∙ sym (bit_there c.self.inside.len c.self.inside.words.items c.args.n c.if-n-self.true)
    ∙ ap (λ (bs : List Bool). get_or bs c.args.n false) c.self.view_is

pub returns-else-n-self : goal.returns-else-n-self
returns-else-n-self c =
    let long = length-bits c.self.inside.len c.self.inside.words.items in
    let past = c.if-n-self.false in
    le-ltb c.args.n c.self.inside.len past
    ∙ sym (get_or_past (bits_of c.self.inside.len c.self.inside.words.items) c.args.n false (omega (arith, long, past)))
    ∙ ap (λ (bs : List Bool). get_or bs c.args.n false) c.self.view_is
