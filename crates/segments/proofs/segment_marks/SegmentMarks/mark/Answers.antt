use Rattle.std.proofs.Common.{◌∙◌, ◌/◌, ℕ, List, Bool, false, true, get_or, sym, ap, arith}
use Rattle.std.proofs.Math.ListN.{set}
use Rattle.std.proofs.lemmas.List.{length-set}
use Rattle.segments.specs.MarkBits.{bit_of, bits_of}
use Rattle.segments.proofs.MarkCounts.{marked_few}
use Rattle.segments.proofs.MarkBitLemmas.{in_row, bit_there, set_there, bit_set, bits_written, marks_marked}
use Rattle.segments.proofs.segment_marks.SegmentMarks.mark.Goals as goal

pub overflow_add-self : goal.overflow_add-self
overflow_add-self c =
    let k = c.self.invariant.counted in
    let m = marked_few (bits_of c.self.inside.len c.self.inside.words.items) in
    let e = k.counted in
    let f = k.few in
    omega (arith, m, e, f)

pub invariant_of-self : goal.invariant_of-self
invariant_of-self c =
    let lt = in_row c.self.inside.len c.self.inside.words.items c.args.self.now c.args.n c.self.view_is c.requires in
    let enough = c.self.invariant.enough in
    marks_marked c.self.inside.words.items _ c.self.inside.len c.self.inside.count c.args.n
    c.self.invariant lt
    (ap (λ (ws : List ℕ). bit_of ws c.args.n) (sym c.as_slice.ensures.value) ∙ sym c.has_bit.ensures ∙ c.if-has_bit.false)
    (bit_set c.self.inside.words.items c.args.n c.index_mut.result.now (omega (arith, lt, enough)) c.index_mut.ensures.value)
    (length-set c.self.inside.words.items (c.args.n / 64) _)

pub returns : goal.returns
returns c =
    let lt = in_row c.self.inside.len c.self.inside.words.items c.args.self.now c.args.n c.self.view_is c.requires in
    let enough = c.self.invariant.enough in
    bits_written c.self.inside.len c.self.inside.words.items _ c.args.n true
    (bit_set c.self.inside.words.items c.args.n c.index_mut.result.now (omega (arith, lt, enough)) c.index_mut.ensures.value) lt
    ∙ ap (λ (bs : List Bool). set bs c.args.n true) c.self.view_is

pub returns-then-has_bit : goal.returns-then-has_bit
returns-then-has_bit c =
    let lt = in_row c.self.inside.len c.self.inside.words.items c.args.self.now c.args.n c.self.view_is c.requires in
    set_there c.args.self.now c.args.n true
    (ap (λ (bs : List Bool). get_or bs c.args.n false) (sym c.self.view_is)
    ∙ bit_there c.self.inside.len c.self.inside.words.items c.args.n lt
    ∙ ap (λ (ws : List ℕ). bit_of ws c.args.n) (sym c.as_slice.ensures.value) ∙ sym c.has_bit.ensures ∙ c.if-has_bit.true)

pub index_mut-requires : goal.index_mut-requires
index_mut-requires c =
    let lt = in_row c.self.inside.len c.self.inside.words.items c.args.self.now c.args.n c.self.view_is c.requires in
    let enough = c.self.invariant.enough in
    omega (arith, lt, enough)
