use Rattle.std.proofs.Common.{◌≡◌, true, false, sym, ◌∙◌, Some, refl, arith}
use Rattle.std.proofs.lemmas.Bool.Decides.{nat_tests}
use Rattle.std.proofs.Common.{ap}
use Rattle.index.specs.declared.slots.Slot.{Slot}
use Rattle.segments.specs.Pools.{key_at}
use Rattle.index.specs.Slots.{is_used, place_of, slot_at}
use Rattle.index.proofs.SearchesUpToGap.{way_begins, way_goes_on, way_shortens, way_keeps, none_passed, other_key}
use Rattle.index.proofs.search.find_key.Goals as goal
use Rattle.index.proofs.search.find_key.Goals.{else-slot-tag-via-then-slot-tag+else-eq, else-slot-tag-via-else-slot-tag}

-- a slot whose tag isn't 0 has a place
tag_used : (s : Slot) → (s.tag ≡ 0 → ⊥) → is_used s ≡ true
tag_used s some = grind (arith, nat_tests, some)

-- and one whose tag is 0 has none
tag_unused : (s : Slot) → s.tag ≡ 0 → is_used s ≡ false
tag_unused s none = rw none refl

pub loop-key-init : goal.loop-key-init
loop-key-init c = record {
  way = way_begins c.args.slots.now.slots c.args.home c.requires.home;
  passed = λ x i less. none_passed (λ x. (slot_at c.args.slots.now.slots x).tag ≡ c.args.tag
      → ¬ (key_at c.args.pool.now (place_of (slot_at c.args.slots.now.slots x)) ≡ Some c.args.key.now)) _ _ x less;
}

pub loop-key-smaller : goal.loop-key-smaller
loop-key-smaller c =
    let used : is_used (slot_at c.args.slots.now.slots c.loop-key.at) ≡ true =
    tag_used (slot_at c.args.slots.now.slots c.loop-key.at)
    (λ none. c.if-slot-eq0.false (ap (λ (s : Slot). s.tag) c.get-slot.ensures ∙ none)) in
    rw (c.next_slot-at.ensures.value, c.len.ensures)
    (way_shortens c.args.slots.now.slots c.args.home c.loop-key.at c.requires.home c.requires.gap
    c.loop-key.invariant.way used)

pub loop-key-preserved : goal.loop-key-preserved
loop-key-preserved c =
    let slots = c.args.slots.now.slots in
    let at = c.loop-key.at in
    let used : is_used (slot_at c.args.slots.now.slots c.loop-key.at) ≡ true =
    tag_used (slot_at c.args.slots.now.slots c.loop-key.at)
    (λ none. c.if-slot-eq0.false (ap (λ (s : Slot). s.tag) c.get-slot.ensures ∙ none)) in
    let here : (slot_at slots at).tag ≡ c.args.tag
    → ¬ (key_at c.args.pool.now (place_of (slot_at slots at)) ≡ Some c.args.key.now) =
    elim c.else-slot-tag.branch [
      | else-slot-tag-via-then-slot-tag+else-eq w ↦ λ tag. other_key w.key.result.now c.args.key.now
          (key_at c.args.pool.now (place_of (slot_at slots at))) w.eq.result
          (ap (λ (s : Slot). key_at c.args.pool.now (place_of s)) (sym c.get-slot.ensures) ∙ w.key.ensures)
          w.eq.ensures w.if-eq.false
      | else-slot-tag-via-else-slot-tag w ↦ λ tag. absurd (w.if-slot-tag.false (ap (λ (s : Slot). s.tag) c.get-slot.ensures ∙ tag))
    ] in
    let way = c.loop-key.invariant.way in
    rw (c.next_slot-at.ensures.value, c.len.ensures) record {
      way = way_goes_on slots c.args.home at c.requires.home c.requires.gap way used;
      passed = way_keeps (λ x. (slot_at slots x).tag ≡ c.args.tag → ¬ (key_at c.args.pool.now
          (place_of (slot_at slots x)) ≡ Some c.args.key.now)) slots c.args.home at c.requires.home c.requires.gap way
          used c.loop-key.invariant.passed here;
    }
