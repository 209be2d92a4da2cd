use Rattle.std.proofs.Common.{◌≡◌, ◌⊎◌, ◌+◌, ◌-◌, ◌<◌, false, List, length, inl, inr, sym, ap, ◌∙◌, arith}
use Rattle.index.specs.declared.slots.Slot.{Slot}
use Rattle.index.specs.Keys.{KeysOf}
use Rattle.segments.specs.Pools.{key_at}
use Rattle.index.specs.Layouts.{SlotArray}
use Rattle.index.specs.Reinserting.{AreNear}
use Rattle.index.specs.Slots.{used_in, is_used, slot_at}
use Rattle.index.specs.Table.{hashing, places_in}
use Rattle.index.proofs.ShiftedSlots.{homes_in_row}
use Rattle.index.proofs.OneSlotMore.{longer, longer_length, longer_used, longer_places, same_slot, near_front, near_split}
use Rattle.index.proofs.growing.grow.Goals as goal
use Rattle.index.proofs.growing.grow.Goals.{then-is_used, else-is_used}

pub reinsert-requires : goal.reinsert-requires
reinsert-requires c =
    let slots : List Slot = c.args.slots.now.slots in
    let l = c.args.slots.now.layout in
    let keys : KeysOf = key_at c.args.pool.now in
    let n = c.len-count.ensures in
    let gap = c.requires.gap in
    let slots_are : c.push.new.self.slots ≡ longer slots = ap (λ (r : SlotArray). r.slots) c.push.ensures in
    let layout_is : c.push.new.self.layout ≡ l = ap (λ (r : SlotArray). r.layout) c.push.ensures in
    let long : length c.push.new.self.slots ≡ length slots + 1 = ap length slots_are ∙ longer_length slots in
    let used : used_in c.push.new.self.slots ≡ used_in slots = ap used_in slots_are ∙ longer_used slots in
    let end_in : length slots - 1 < length slots = omega (arith, gap) in
    let end_is : c.get.result ≡ slot_at slots (length slots - 1) =
    c.get.ensures ∙ ap (λ (m : List Slot). slot_at m (c.len-count.result - 1)) slots_are
    ∙ ap (λ m. slot_at (longer slots) (m - 1)) n ∙ same_slot slots (length slots - 1) end_in in
    let begins : (c.if-is_used.front ≡ 0) ⊎ (is_used (slot_at slots (length slots - 1)) ≡ false) =
    elim c.if-is_used.branch [
      | then-is_used w ↦ inl w.front-is
      | else-is_used w ↦ inr (ap is_used (sym end_is) ∙ sym c.is_used.ensures ∙ w.if-is_used.false)
    ] in
    let near : AreNear (hashing (length slots) l c.args.hasher) keys (longer slots) c.if-is_used.front =
    near_front (hashing (length slots) l c.args.hasher) keys slots c.if-is_used.front
    (homes_in_row (length slots) l c.args.hasher (omega (arith, gap))) c.requires.indexed begins in
    record {
      from = omega (arith, long);
      some = omega (arith, n, gap);
      count = omega (arith, n, long);
      gap = omega (arith, long, used, gap);
      near = rw (n, layout_is, slots_are) near;
    }

pub reinsert-requires-2-clause-near : goal.reinsert-requires-2-clause-near
reinsert-requires-2-clause-near c =
    let n = c.len-count.ensures in
    let gap = c.requires.gap in
    let slots_are : c.push.new.self.slots ≡ longer c.args.slots.now.slots = ap (λ (r : SlotArray). r.slots) c.push.ensures in
    let more : c.len-more.result ≡ c.len-count.result + 1 =
    c.len-more.ensures ∙ c.reinsert.ensures.count ∙ ap length slots_are ∙ longer_length c.args.slots.now.slots
    ∙ ap (λ m. m + 1) (sym n) in
    rw (more, c.reinsert.ensures.same.layout, c.split_home.ensures.value)
    (near_split c.len-count.result c.push.new.self.layout c.args.hasher (key_at c.args.pool.now) c.reinsert.new.slots.slots
    (omega (arith, n, gap)) c.reinsert.ensures.indexed)

pub returns-clause-same : goal.returns-clause-same
returns-clause-same c =
    let keys : KeysOf = key_at c.args.pool.now in
    let slots : List Slot = c.args.slots.now.slots in
    let one = c.reinsert.ensures.same in
    let two = c.reinsert-2.ensures.same in record {
      places = two.places ∙ one.places ∙ ap (λ (r : SlotArray). places_in keys r.slots) c.push.ensures
          ∙ longer_places keys slots;
      used = two.used ∙ one.used ∙ ap (λ (r : SlotArray). used_in r.slots) c.push.ensures ∙ longer_used slots;
      layout = two.layout ∙ one.layout ∙ ap (λ (r : SlotArray). r.layout) c.push.ensures;
      room = two.room ∙ one.room ∙ ap (λ (r : SlotArray). r.room) c.push.ensures;
    }
