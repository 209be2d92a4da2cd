use Rattle.std.proofs.Common.{◌≡◌, ◌≤◌, ◌+◌, ◌++◌, [], length, sym, refl, append_assoc, codes, decimal, arith, vec_len, vec_capacity}
use Rattle.std.specs.Option.{option_map_or}
use Rattle.std.proofs.lemmas.List.{append-nil, flat_map_more}
use Rattle.proto.specs.Hits.{hit_bytes}
use Rattle.proto.specs.SeenHits.{seen_hit}
use Rattle.std.proofs.Common.{List, ℕ, ◌∷◌, ap, ◌∙◌, length-append}
use Rattle.std.specs.List.{flat_map}
use Rattle.proto.proofs.HitTexts.{few_hits}
use Rattle.proto.proofs.hits.HitWriter.push.Goals as goal
use Rattle.proto.proofs.hits.HitWriter.push.Goals.{in-Some, in_default}

pub invariant_of-self : goal.invariant_of-self
invariant_of-self c =
    let cas : c.match-hit.self-inside.text.items
    ≡ c.push_number-2.new.text.items ++ option_map_or (λ n. codes " " ++ decimal n) c.args.hit.cas [] =
    elim c.match-hit.branch [
      | in-Some w ↦ rw (w.self-inside-is, w.push_number-in-Some.ensures.items, w.in-Some.is) (simp append_assoc)
      | in_default w ↦ rw (w.self-inside-is, w.in_default.is) (sym (append-nil _))
    ] in
    let shown : c.match-hit.self-inside.shown.items ≡ c.self.inside.shown.items =
    elim c.match-hit.branch [ in-Some w ↦ rw w.self-inside-is refl | in_default w ↦ rw w.self-inside-is refl ] in
    let room : c.match-hit.self-inside.room ≡ c.self.inside.room =
    elim c.match-hit.branch [ in-Some w ↦ rw w.self-inside-is refl | in_default w ↦ rw w.self-inside-is refl ] in
    let count : c.match-hit.self-inside.count ≡ c.self.inside.count + 1 =
    elim c.match-hit.branch [ in-Some w ↦ rw w.self-inside-is refl | in_default w ↦ rw w.self-inside-is refl ] in
    let grown : length (c.self.inside.shown.items ++ seen_hit c.args.hit ∷ []) ≡ length c.self.inside.shown.items + 1 =
    length-append c.self.inside.shown.items (seen_hit c.args.hit ∷ []) ∙ omega arith in
    let counted = c.self.invariant.2 in
    let size : (vec_len c.match-hit.self-inside.text ≤ vec_len c.push_number-2.new.text + 21)
    × (vec_capacity c.push_number-2.new.text ≤ vec_capacity c.match-hit.self-inside.text) =
    elim c.match-hit.branch [
      | in-Some w ↦ rw w.self-inside-is (w.push_number-in-Some.ensures.len, w.push_number-in-Some.ensures.room)
      | in_default w ↦ rw w.self-inside-is (omega arith, omega arith)
    ] in
    let need : length c.args.hit.key.now + length c.args.hit.value.now + 80 ≤ c.self.inside.room = rw (← c.self.view_is) at c.requires in
    let text : c.extend_from_slice-5.new.self.items ≡ c.self.inside.text.items ++ hit_bytes (seen_hit c.args.hit) =
    rw (
      c.extend_from_slice-5.ensures.items,
      c.unwrap-5.ensures,
      c.extend_from_slice-4.ensures.items,
      c.unwrap-4.ensures,
      c.extend_from_slice-3.ensures.items,
      c.unwrap-3.ensures,
      cas,
      c.push_number-2.ensures.items,
      c.push_number.ensures.items,
      c.extend_from_slice-2.ensures.items,
      c.unwrap-2.ensures,
      c.extend_from_slice.ensures.items,
      c.unwrap.ensures,
      c.from.ensures,
    )
    (simp append_assoc) in (
      rw (text, c.self.invariant.0, c.note_as.ensures, shown)
          (flat_map_more hit_bytes [] c.self.inside.shown.items (seen_hit c.args.hit)),
      omega (
        arith,
        need,
        room,
        size,
        c.self.invariant.1,
        rw c.unwrap.ensures at c.extend_from_slice.ensures.len,
        rw c.unwrap-2.ensures at c.extend_from_slice-2.ensures.len,
        c.push_number.ensures.len,
        c.push_number-2.ensures.len,
        rw c.unwrap-3.ensures at c.extend_from_slice-3.ensures.len,
        rw c.unwrap-4.ensures at c.extend_from_slice-4.ensures.len,
        rw c.unwrap-5.ensures at c.extend_from_slice-5.ensures.len,
        c.extend_from_slice.ensures.capacity,
        c.extend_from_slice-2.ensures.capacity,
        c.push_number.ensures.room,
        c.push_number-2.ensures.room,
        c.extend_from_slice-3.ensures.capacity,
        c.extend_from_slice-4.ensures.capacity,
        c.extend_from_slice-5.ensures.capacity,
      ),
      rw (count, c.note_as.ensures, shown) (omega (arith, grown, counted)),
    )

pub overflow_add-self : goal.overflow_add-self
overflow_add-self c =
    let few = few_hits c.self.inside.shown.items in
    let counted = c.self.invariant.2 in
    let text : length c.self.inside.text.items ≡ length (flat_map hit_bytes c.self.inside.shown.items) =
    ap (λ (l : List ℕ). length l) c.self.invariant.0 in
    let ok = c.self.inside.text.ok in
    let small = c.self.inside.text.small in
    omega (arith, few, counted, text, ok, small)
