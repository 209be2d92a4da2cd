use Rattle.std.proofs.Common.{◌≡◌, ℕ, length, sym, ap, subst, ◌∙◌}
use Rattle.std.specs.Prelude.{List, vec_capacity}
use Rattle.segments.specs.Items.{Item, IsStorable, items_in, put_at}
use Rattle.segments.specs.Packing.{Packing}
use Rattle.segments.specs.Shown.{item_of}
use Rattle.segments.proofs.PackingLemmas.{put_over, over_within, storable_within, written_back}
use Rattle.segments.proofs.packed.Packed.overwrite.Goals as goal

pub write_item_over-requires-clause-storable : goal.write_item_over-requires-clause-storable
write_item_over-requires-clause-storable c =
    let largest = c.self.invariant.largest in
    storable_within c.self.inside.size 1048576 (item_of c.args.item) largest
    (subst (λ (p : Packing). IsStorable p.size (item_of c.args.item)) (sym c.self.view_is) c.requires.storable)

pub write_item_over-requires-clause-room : goal.write_item_over-requires-clause-room
write_item_over-requires-clause-room c =
    rw c.as_mut_slice.ensures.value (over_within c.args.self.now c.self.inside.size (vec_capacity c.self.inside.bytes)
    c.self.inside.bytes.items c.args.offset (item_of c.args.item) c.self.view_is c.self.invariant c.requires.fits)

pub invariant_of-self : goal.invariant_of-self
invariant_of-self c =
    let bytes = c.self.inside.bytes in
    let after = c.write_item_over.new.bytes in
    let q = put_over c.args.self.now c.self.inside.size (vec_capacity bytes) bytes.items after c.args.offset
    (item_of c.args.item) c.self.view_is c.self.invariant c.requires.storable c.requires.fits
    (rw c.as_mut_slice.ensures.value at c.write_item_over.ensures.value) in
    let long : length after ≡ bytes.len =
    c.write_item_over.ensures.len ∙ ap length c.as_mut_slice.ensures.value ∙ sym bytes.ok.0 in
    rw (written_back bytes.items after bytes.len long) q.packing

pub returns : goal.returns
returns c =
    let bytes = c.self.inside.bytes in
    let after = c.write_item_over.new.bytes in
    let q = put_over c.args.self.now c.self.inside.size (vec_capacity bytes) bytes.items after c.args.offset
    (item_of c.args.item) c.self.view_is c.self.invariant c.requires.storable c.requires.fits
    (rw c.as_mut_slice.ensures.value at c.write_item_over.ensures.value) in
    let long : length after ≡ bytes.len =
    c.write_item_over.ensures.len ∙ ap length c.as_mut_slice.ensures.value ∙ sym bytes.ok.0 in
    ap (λ (xs : List ℕ). record { size = c.self.inside.size; items = items_in xs })
    (written_back bytes.items after bytes.len long)
    ∙ ap (λ (xs : List Item). record { size = c.self.inside.size; items = xs }) q.items_are
    ∙ ap (λ (p : Packing). record { size = p.size; items = put_at (item_of c.args.item) p.items c.args.offset }) c.self.view_is
