use Rattle.std.proofs.Common.{arith}
use Rattle.segments.specs.Shown.{item_of}
use Rattle.segments.proofs.ItemLayout.{item_written, padding}
use Rattle.segments.proofs.packed.write_item_over.Goals as goal

pub returns-clause-value : goal.returns-clause-value
returns-clause-value c =
    let s1 = rw c.header_of.ensures at c.write_over.ensures.value in
    let room = c.requires.room in
    item_written (item_of c.args.item) _ _ _ _ _ _ c.args.at (omega (arith, room))
    (padding (item_of c.args.item) c.padding_of.result c.padding_of.ensures.value c.padding_of.ensures.few)
    s1 c.write_over-2.ensures.value c.write_over-3.ensures.value c.write_over-4.ensures.value
