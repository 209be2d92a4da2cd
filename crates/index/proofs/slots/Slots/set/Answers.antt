use Rattle.std.proofs.Common.{◌≡◌, ap, ◌∙◌, List}
use Rattle.std.specs.Prelude.{slice_set}
use Rattle.index.specs.declared.slots.Slot.{Slot}
use Rattle.index.specs.Layouts.{SlotArray, slot_of, packed_of}
use Rattle.index.proofs.PackedSlots.{word_slot}
use Rattle.index.proofs.slots.Slots.set.Goals as goal

pub returns : goal.returns
returns c =
    let l = c.args.self.now.layout in
    let view : c.self.inside.layout ≡ l = ap (λ (r : SlotArray). r.layout) c.self.view_is in
    let is : slot_of l c.packed_of-packed.result ≡ c.args.slot =
    ap (slot_of l) (c.packed_of-packed.ensures.value ∙ ap (λ y. packed_of y c.args.slot) view)
    ∙ word_slot l c.args.slot c.requires.slot in
    c.set_packed.ensures ∙ ap (λ (s : Slot). array_with c.args.self.now (slice_set c.args.self.now.slots c.args.at s)) is
  where
    array_with : SlotArray → List Slot → SlotArray
    array_with r s = record r { slots = s }
