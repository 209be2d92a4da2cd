use Rattle.std.proofs.Common.{◌≡◌, ℕ, ◌<◌, ◌≤◌, true, false, List, length, Some, sym, ap, ◌∙◌, refl, arith, subst}
use Rattle.std.specs.Prelude.{slice_set}
use Rattle.std.proofs.Common.{get_or-set_other, length-set}
use Rattle.std.proofs.lemmas.List.{set-set}
use Rattle.index.specs.declared.slots.Slot.{Slot}
use Rattle.index.specs.Layouts.{SlotArray}
use Rattle.index.specs.Keys.{KeysOf, home_of, hash_of}
use Rattle.segments.specs.Pools.{key_at}
use Rattle.index.specs.Slots.{is_used, slot_at, place_of, distance, next_slot, empty_slot}
use Rattle.index.specs.Table.{hashing, Hashing}
use Rattle.index.proofs.ShiftedSlots.{IsShifting, IsNearlyFound, nearly, begins, shifting_shortens, stayed, moved, finished, homes_in_row, emptied_others}
use Rattle.index.proofs.backward_shift.delete.Goals as goal
use Rattle.index.proofs.backward_shift.delete.Goals.{then-distance, else-distance}

pub scan-init : goal.scan-init
scan-init c =
    let old = c.args.slots.now.slots in
    let at = c.args.at in
    let keys : KeysOf = key_at c.args.pool.now in
    let h : Hashing = hashing (length old) c.args.slots.now.layout c.args.hasher in
    let r = c.requires.at in
    let in_row = homes_in_row (length old) c.args.slots.now.layout c.args.hasher (omega (arith, r)) in
    let f = c.requires.indexed.each at r c.requires.used in
    rw (c.next_slot-next.ensures.value, c.len-count.ensures) (
      f.0,
      f.1.of_key,
      begins h keys old in_row at f.0 r c.requires.used f.1.of_key c.requires.indexed
          c.requires.gap,
      refl,
      refl,
      c.requires.used,
    )

pub scan-smaller : goal.scan-smaller
scan-smaller c =
    let old = c.args.slots.now.slots in
    let keys : KeysOf = key_at c.args.pool.now in
    let h : Hashing = hashing (length old) c.args.slots.now.layout c.args.hasher in
    let r = c.requires.at in
    let in_row = homes_in_row (length old) c.args.slots.now.layout c.args.hasher (omega (arith, r)) in
    let inv = c.scan.invariant in
    let slots = slice_set c.scan.slots.slots c.scan.hole empty_slot in
    let same = emptied_others c.scan.slots.slots c.scan.hole c.scan.next inv.2.ahead in
    let used : is_used (slot_at slots c.scan.next) ≡ true =
    ap is_used same ∙ ap is_used (sym c.get.ensures) ∙ sym c.is_used.ensures ∙ c.scan-test.true in
    rw (c.next_slot-next-in-scan.ensures.value, c.len-count.ensures)
    (shifting_shortens h keys old in_row slots c.args.at c.scan.hole c.scan.next inv.0 inv.2 used)

pub home_in-home-requires : goal.home_in-home-requires
home_in-home-requires c =
    let old = c.args.slots.now.slots in
    let keys : KeysOf = key_at c.args.pool.now in
    let h : Hashing = hashing (length old) c.args.slots.now.layout c.args.hasher in
    let inv = c.scan.invariant in
    let row = c.scan.slots.slots in
    let hole = c.scan.hole in
    let next = c.scan.next in
    let same = emptied_others row hole next inv.2.ahead in
    let used : is_used (slot_at (slice_set row hole empty_slot) next) ≡ true =
    ap is_used same ∙ ap is_used (sym c.get.ensures) ∙ sym c.is_used.ensures ∙ c.scan-test.true in
    let f = inv.2.each next inv.2.next_range used in
    let long : length row ≡ length old = sym (length-set row hole empty_slot) ∙ inv.2.len in
    let in_row = inv.2.next_range in
    record {
      at = omega (arith, long, in_row);
      found = (
        f.0,
        rw (long, inv.3) (nearly h keys row hole next f.0 (omega (arith, long, in_row)) inv.2.ahead inv.5
            (subst (λ (n : ℕ). IsNearlyFound h keys n (slice_set row hole empty_slot) hole next next f.0) (sym long) f.1)),
      );
    }

pub scan-preserved : goal.scan-preserved
scan-preserved c =
    let old = c.args.slots.now.slots in
    let keys : KeysOf = key_at c.args.pool.now in
    let h : Hashing = hashing (length old) c.args.slots.now.layout c.args.hasher in
    let r = c.requires.at in
    let in_row = homes_in_row (length old) c.args.slots.now.layout c.args.hasher (omega (arith, r)) in
    let inv = c.scan.invariant in
    let hole = c.scan.hole in
    let next = c.scan.next in
    let slots = slice_set c.scan.slots.slots hole empty_slot in
    let same = emptied_others c.scan.slots.slots hole next inv.2.ahead in
    let used : is_used (slot_at slots next) ≡ true =
    ap is_used same ∙ ap is_used (sym c.get.ensures) ∙ sym c.is_used.ensures ∙ c.scan-test.true in
    let f = inv.2.each next inv.2.next_range used in
    let is : keys (place_of (slot_at c.scan.slots.slots next)) ≡ Some f.0 =
    ap (λ (s : Slot). keys (place_of s)) (sym same) ∙ f.1.of_key in
    let long : length c.scan.slots.slots ≡ length old =
    sym (length-set c.scan.slots.slots hole empty_slot) ∙ inv.2.len in
    let home_is : c.home_in-home.result ≡ h.home f.0 =
    rw is at c.home_in-home.ensures.value
    ∙ ap (λ (n : ℕ). home_of n (hash_of c.args.hasher f.0)) long in
    let d = c.distance.ensures in
    let e = c.distance-in-scan.ensures in
    let near : c.distance.result ≡ distance (length old) hole next =
    d ∙ ap (λ (n : ℕ). distance n hole next) c.len-count.ensures in
    let far : c.distance-in-scan.result ≡ distance (length old) (h.home f.0) next = e
    ∙ ap (λ (n : ℕ). distance n c.home_in-home.result next) c.len-count.ensures
    ∙ ap (λ (x : ℕ). distance (length old) x next) home_is in
    elim c.if-distance.branch [
      | then-distance w ↦
          let le = w.if-distance.true in
          let goes : distance (length old) hole next ≤ distance (length old) (h.home f.0) next =
          omega (arith, le, near, far) in
          let new = slice_set c.if-distance.slots.slots c.if-distance.hole empty_slot in
          let slots_are : c.if-distance.slots.slots
          ≡ slice_set c.scan.slots.slots hole (slot_at c.scan.slots.slots next) =
          ap (λ (r : SlotArray). r.slots) (w.slots-is ∙ w.copy.ensures) in
          let layout : c.if-distance.slots.layout ≡ c.args.slots.now.layout =
          ap (λ (r : SlotArray). r.layout) (w.slots-is ∙ w.copy.ensures) ∙ inv.3 in
          let room : c.if-distance.slots.room ≡ c.args.slots.now.room =
          ap (λ (r : SlotArray). r.room) (w.slots-is ∙ w.copy.ensures) ∙ inv.4 in
          let stays_used : is_used (slot_at c.if-distance.slots.slots next) ≡ true =
          ap (λ (l : List Slot). is_used (slot_at l next)) slots_are
          ∙ ap is_used (get_or-set_other c.scan.slots.slots hole next (slot_at c.scan.slots.slots next) empty_slot inv.2.ahead)
          ∙ ap is_used (sym same) ∙ used in
          let new_is : new ≡ slice_set (slice_set slots hole (slot_at slots next)) next empty_slot =
          ap (λ (l : List Slot). slice_set l c.if-distance.hole empty_slot) slots_are
          ∙ ap (λ (i : ℕ). slice_set (slice_set c.scan.slots.slots hole (slot_at c.scan.slots.slots next)) i empty_slot)
          w.hole-is
          ∙ ap (λ (s : Slot). slice_set (slice_set c.scan.slots.slots hole s) next empty_slot) (sym same)
          ∙ ap (λ (l : List Slot). slice_set l next empty_slot)
          (sym (set-set c.scan.slots.slots hole empty_slot (slot_at slots next))) in
          rw (c.next_slot-next-in-scan.ensures.value, c.len-count.ensures) (
            inv.0,
            inv.1,
            subst (λ (i : ℕ). IsShifting h keys old new c.args.at i (next_slot (length old) next) inv.0) (sym w.hole-is)
                (moved h keys old in_row slots c.args.at hole next inv.0 inv.2 used new new_is f.0 f.1.of_key goes),
            layout,
            room,
            subst (λ (i : ℕ). is_used (slot_at c.if-distance.slots.slots i) ≡ true) (sym w.hole-is) stays_used,
          )
      | else-distance w ↦
          let lt = w.if-distance.false in
          let stays : distance (length old) (h.home f.0) next < distance (length old) hole next =
          omega (arith, lt, near, far) in
          rw (c.next_slot-next-in-scan.ensures.value, c.len-count.ensures, w.slots-is, w.hole-is) (
            inv.0,
            inv.1,
            stayed h keys old in_row slots c.args.at hole next inv.0 inv.2 used f.0 f.1.of_key
                stays,
            inv.3,
            inv.4,
            inv.5,
          )
    ]

pub returns-clause-without : goal.returns-clause-without
returns-clause-without c =
    let old = c.args.slots.now.slots in
    let keys : KeysOf = key_at c.args.pool.now in
    let h : Hashing = hashing (length old) c.args.slots.now.layout c.args.hasher in
    let r = c.requires.at in
    let in_row = homes_in_row (length old) c.args.slots.now.layout c.args.hasher (omega (arith, r)) in
    let inv = c.scan.invariant in
    let hole = c.scan.hole in
    let next = c.scan.next in
    let slots = slice_set c.scan.slots.slots hole empty_slot in
    let same = emptied_others c.scan.slots.slots hole next inv.2.ahead in
    let ended : is_used (slot_at slots next) ≡ false =
    ap is_used same ∙ ap is_used (sym c.get.ensures) ∙ sym c.is_used.ensures ∙ c.scan-test.false in
    rw (c.empty.ensures, inv.1) (finished h keys old in_row slots c.args.at hole next inv.0 inv.2 ended
    c.requires.indexed)

pub returns-clause-layout : goal.returns-clause-layout
returns-clause-layout c = ap (λ (r : SlotArray). r.layout) c.empty.ensures ∙ c.scan.invariant.3

pub returns-clause-room : goal.returns-clause-room
returns-clause-room c = ap (λ (r : SlotArray). r.room) c.empty.ensures ∙ c.scan.invariant.4

pub returns-clause-count : goal.returns-clause-count
returns-clause-count c =
    let is : length c.empty.new.self.slots ≡ length (slice_set c.scan.slots.slots c.scan.hole empty_slot) =
    ap (λ (r : SlotArray). length r.slots) c.empty.ensures in
    is ∙ c.scan.invariant.2.len
