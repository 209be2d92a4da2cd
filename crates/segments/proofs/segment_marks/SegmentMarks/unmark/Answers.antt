use Rattle.std.proofs.Common.{◌∙◌, ◌/◌, ℕ, List, Bool, false, get_or, sym, ap, arith}
use Rattle.std.proofs.Math.ListN.{set}
use Rattle.std.proofs.lemmas.List.{length-set}
use Rattle.segments.specs.MarkBits.{bit_of}
use Rattle.segments.proofs.MarkBitLemmas.{in_row, bit_there, set_there, bit_cleared, bits_written, marks_unmarked}
use Rattle.segments.proofs.segment_marks.SegmentMarks.unmark.Goals as goal

pub overflow_sub-self : goal.overflow_sub-self
overflow_sub-self c =
    let lt = in_row c.self.inside.len c.self.inside.words.items c.args.self.now c.args.n c.self.view_is c.requires in
    let enough = c.self.invariant.enough in
    (marks_unmarked c.self.inside.words.items _ c.self.inside.len c.self.inside.count c.args.n c.self.invariant lt
    (ap (λ (ws : List ℕ). bit_of ws c.args.n) (sym c.as_slice.ensures.value) ∙ sym c.has_bit.ensures ∙ c.if-not-has_bit.false)
    (bit_cleared c.self.inside.words.items c.args.n c.index_mut.result.now (omega (arith, lt, enough)) c.index_mut.ensures.value)
    (length-set c.self.inside.words.items (c.args.n / 64) _)).0

pub invariant_of-self : goal.invariant_of-self
invariant_of-self c =
    let lt = in_row c.self.inside.len c.self.inside.words.items c.args.self.now c.args.n c.self.view_is c.requires in
    let enough = c.self.invariant.enough in
    (marks_unmarked c.self.inside.words.items _ c.self.inside.len c.self.inside.count c.args.n c.self.invariant lt
    (ap (λ (ws : List ℕ). bit_of ws c.args.n) (sym c.as_slice.ensures.value) ∙ sym c.has_bit.ensures ∙ c.if-not-has_bit.false)
    (bit_cleared c.self.inside.words.items c.args.n c.index_mut.result.now (omega (arith, lt, enough)) c.index_mut.ensures.value)
    (length-set c.self.inside.words.items (c.args.n / 64) _)).1

pub returns : goal.returns
returns c =
    let lt = in_row c.self.inside.len c.self.inside.words.items c.args.self.now c.args.n c.self.view_is c.requires in
    let enough = c.self.invariant.enough in
    bits_written c.self.inside.len c.self.inside.words.items _ c.args.n false
    (bit_cleared c.self.inside.words.items c.args.n c.index_mut.result.now (omega (arith, lt, enough)) c.index_mut.ensures.value) lt
    ∙ ap (λ (bs : List Bool). set bs c.args.n false) c.self.view_is

pub returns-then-not-has_bit : goal.returns-then-not-has_bit
returns-then-not-has_bit c =
    let lt = in_row c.self.inside.len c.self.inside.words.items c.args.self.now c.args.n c.self.view_is c.requires in
    set_there c.args.self.now c.args.n false
    (ap (λ (bs : List Bool). get_or bs c.args.n false) (sym c.self.view_is)
    ∙ bit_there c.self.inside.len c.self.inside.words.items c.args.n lt
    ∙ ap (λ (ws : List ℕ). bit_of ws c.args.n) (sym c.as_slice.ensures.value) ∙ sym c.has_bit.ensures ∙ c.if-not-has_bit.true)

pub index_mut-requires : goal.index_mut-requires
index_mut-requires c =
    let lt = in_row c.self.inside.len c.self.inside.words.items c.args.self.now c.args.n c.self.view_is c.requires in
    let enough = c.self.invariant.enough in
    omega (arith, lt, enough)
