use Rattle.std.proofs.Common.{◌≡◌, ℕ, ◌+◌, ◌*◌, ◌<◌, true, false, List, length, refl, sym, ap, ◌∙◌, arith, subst}
use Rattle.std.specs.Prelude.{slice_set}
use Rattle.index.specs.declared.slots.Slot.{Slot}
use Rattle.index.specs.Layouts.{SlotArray}
use Rattle.index.specs.Keys.{KeysOf}
use Rattle.segments.specs.Pools.{key_at}
use Rattle.index.specs.Slots.{is_used, slot_at, distance, next_slot, empty_slot, used_in, AreUsedUpTo}
use Rattle.index.specs.Reinserting.{IsFirstStop}
use Rattle.index.specs.Table.{hashing, Hashing}
use Rattle.index.proofs.ShiftedSlots.{homes_in_row}
use Rattle.index.proofs.ReinsertedKeys.{IsStep, step_stays, step_moves, stretch_begins, stretch_stays, cluster_ends, spread, gap_index}
use Rattle.index.proofs.growing.reinsert.Goals as goal
use Rattle.index.proofs.growing.reinsert.Goals.{then-gap-at, else-gap-at}

-- how the keys are hashed
abbrev hashing_of : goal.After-next_slot-at → Hashing
hashing_of c = hashing c.args.count c.args.slots.now.layout c.args.hasher

-- what an iteration does
step : (c : goal.After-next_slot-at)
    → IsStep (hashing_of c) (key_at c.args.pool.now) c.cluster.slots.slots c.if-gap-at.slots.slots c.cluster.at
step c =
    let h : Hashing = hashing_of c in
    let keys : KeysOf = key_at c.args.pool.now in
    let slots : List Slot = c.cluster.slots.slots in
    let at = c.cluster.at in
    let inv = c.cluster.invariant in
    let len = inv.len in
    let range = inv.at_range in
    let r : at < length slots = omega (arith, range, len) in
    let same = inv.same.used in
    let gap_left = c.requires.gap in
    let less : used_in slots < length slots = omega (arith, same, len, gap_left) in
    let used : is_used (slot_at slots at) ≡ true =
    ap is_used (sym c.get.ensures) ∙ sym c.is_used.ensures ∙ c.cluster-test.true in
    let f = inv.near.each at r used in
    let home_is : c.home_at-home.result ≡ h.home f.0 =
    rw f.1.of_key at (rw c.get-in-cluster.ensures at c.home_at-home.ensures.value) in
    let stop : IsFirstStop slots (h.home f.0) at c.search-known.result.end =
    rw home_is at c.search-known.ensures.stop in
    elim c.if-gap-at.branch [
      | then-gap-at w ↦
          let count = c.requires.count in
          let in_row : (k : List ℕ) → h.home k < length slots =
          λ k. (let b = homes_in_row c.args.count c.args.slots.now.layout c.args.hasher c.requires.some k in
          omega (arith, b, count, len)) in
          let slots_are : c.if-gap-at.slots.slots
          ≡ slice_set (slice_set slots c.search-known.result.end (slot_at slots at)) at empty_slot =
          ap (λ (r : SlotArray). r.slots) (w.slots-is ∙ w.empty.ensures)
          ∙ ap (λ (r : SlotArray). slice_set r.slots at empty_slot) w.copy.ensures in
          step_moves h keys slots c.if-gap-at.slots.slots at c.search-known.result.end f.0 inv.near r used less in_row
          f.1.of_key stop w.if-gap-at.true slots_are
      | else-gap-at w ↦
          let up : AreUsedUpTo slots (h.home f.0) at =
          subst (λ (x : ℕ). AreUsedUpTo slots (h.home f.0) x) w.if-gap-at.false stop.up_to in
          subst (λ (l : SlotArray). IsStep h keys slots l.slots at) (sym w.slots-is)
          (step_stays h keys slots at f.0 inv.near r used less f.1.of_key up)
    ]

-- the layout and the room stay
kept : (c : goal.After-next_slot-at)
    → (c.if-gap-at.slots.layout ≡ c.args.slots.now.layout) × (c.if-gap-at.slots.room ≡ c.args.slots.now.room)
kept c =
    elim c.if-gap-at.branch [
      | then-gap-at w ↦ (
        ap (λ (r : SlotArray). r.layout) (w.slots-is ∙ w.empty.ensures) ∙ ap (λ (r : SlotArray). r.layout) w.copy.ensures
            ∙ c.cluster.invariant.same.layout,
        ap (λ (r : SlotArray). r.room) (w.slots-is ∙ w.empty.ensures) ∙ ap (λ (r : SlotArray). r.room) w.copy.ensures
            ∙ c.cluster.invariant.same.room,
      )
      | else-gap-at w ↦ (
        ap (λ (r : SlotArray). r.layout) w.slots-is ∙ c.cluster.invariant.same.layout,
        ap (λ (r : SlotArray). r.room) w.slots-is ∙ c.cluster.invariant.same.room,
      )
    ]

pub cluster-init : goal.cluster-init
cluster-init c = record {
  at_range = c.requires.from;
  near = c.requires.near;
  known = stretch_begins c.args.slots.now.slots c.args.from c.requires.from;
  same = record { places = refl; used = refl; layout = refl; room = refl };
  len = refl;
}

pub cluster-smaller : goal.cluster-smaller
cluster-smaller c =
    let s = step c in
    let n = length c.args.slots.now.slots in
    let len = c.cluster.invariant.len in
    let next : c.next_slot-at.result ≡ next_slot n c.cluster.at =
    c.next_slot-at.ensures.value ∙ ap (λ (m : ℕ). next_slot m c.cluster.at) (c.len.ensures ∙ s.len ∙ len) in
    let falls = subst (λ (m : ℕ). spread (hashing_of c) (key_at c.args.pool.now) m 0 c.if-gap-at.slots.slots * m
    + distance m (next_slot m c.cluster.at) (gap_index c.if-gap-at.slots.slots)
    < spread (hashing_of c) (key_at c.args.pool.now) m 0 c.cluster.slots.slots * m
    + distance m c.cluster.at (gap_index c.cluster.slots.slots)) len s.falls in
    rw next falls

pub cluster-preserved : goal.cluster-preserved
cluster-preserved c =
    let s = step c in
    let inv = c.cluster.invariant in
    let next : c.next_slot-at.result ≡ next_slot (length c.cluster.slots.slots) c.cluster.at =
    c.next_slot-at.ensures.value ∙ ap (λ (m : ℕ). next_slot m c.cluster.at) (c.len.ensures ∙ s.len) in
    let range = c.next_slot-at.ensures.in_range in
    let long = c.len.ensures in
    let len = s.len in
    let was = inv.len in
    record {
      at_range = omega (arith, range, long, len, was);
      near = rw next s.near;
      known = record {
        first = (let r = c.search-known.ensures.first in let l = s.len in omega (arith, r, l));
        end = (let r = c.search-known.ensures.used.in_range in let l = s.len in omega (arith, r, l));
        used = stretch_stays c.cluster.slots.slots c.if-gap-at.slots.slots c.cluster.at c.search-known.result.first c.search-known.result.end
            s.len s.keeps c.search-known.ensures.used.up_to c.search-known.ensures.used.near;
      };
      same = record {
        places = s.places ∙ inv.same.places;
        used = s.used ∙ inv.same.used;
        layout = (kept c).0;
        room = (kept c).1;
      };
      len = s.len ∙ inv.len;
    }

pub returns-clause-indexed : goal.returns-clause-indexed
returns-clause-indexed c =
    let inv = c.cluster.invariant in
    let len = inv.len in
    let range = inv.at_range in
    let ended : is_used (slot_at c.cluster.slots.slots c.cluster.at) ≡ false =
    ap is_used (sym c.get.ensures) ∙ sym c.is_used.ensures ∙ c.cluster-test.false in
    cluster_ends (hashing c.args.count c.args.slots.now.layout c.args.hasher) (key_at c.args.pool.now) c.cluster.slots.slots c.cluster.at
    inv.near (omega (arith, range, len)) ended
