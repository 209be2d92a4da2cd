use Rattle.std.proofs.Common.{refl}
use Rattle.std.specs.Prelude.{replicate}
use Rattle.segments.specs.Shown.{item_of}
use Rattle.segments.proofs.ItemLayout.{header_written}
use Rattle.segments.proofs.packed.header_of.Goals as goal

pub returns : goal.returns
returns c =
    let s1 = rw c.to_le_bytes.ensures at c.write_over.ensures.value in
    let s2 = rw c.to_le_bytes-2.ensures at c.write_over-2.ensures.value in
    let s3 = rw c.to_le_bytes-3.ensures at c.write_over-3.ensures.value in
    let s5 = rw c.to_le_bytes-4.ensures at c.write_over-5.ensures.value in
    let s6 = rw c.to_le_bytes-5.ensures at c.write_over-6.ensures.value in
    header_written (item_of c.args.item) (replicate 24 0) _ _ _ _ _ _ refl s1 s2 s3 c.write_over-4.ensures.value s5 s6
