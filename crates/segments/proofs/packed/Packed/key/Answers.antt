use Rattle.std.proofs.Common.{◌≡◌, ◌+◌, ◌≤◌, length, take, drop, sym, ap, ◌∙◌, arith, Some}
use Rattle.std.specs.Prelude.{vec_capacity, slice_index}
use Rattle.std.specs.Int.{from_le_bytes, w32}
use Rattle.segments.specs.Items.{Item, item_at, first_item}
use Rattle.segments.proofs.PackingLemmas.{located}
use Rattle.segments.proofs.packed.Packed.key.Goals as goal

pub split_at-requires : goal.split_at-requires
split_at-requires c =
    let l = located c.args.self.now c.self.inside.size
    (vec_capacity c.self.inside.bytes) c.self.inside.bytes.items c.args.offset c.self.view_is c.self.invariant
    c.requires in
    rw c.as_slice.ensures.value l.within

pub split_at-requires-2 : goal.split_at-requires-2
split_at-requires-2 c =
    let l = located c.args.self.now c.self.inside.size
    (vec_capacity c.self.inside.bytes) c.self.inside.bytes.items c.args.offset c.self.view_is c.self.invariant
    c.requires in
    rw (c.split_at.ensures.back, c.as_slice.ensures.value) l.header

pub split_at-requires-3 : goal.split_at-requires-3
split_at-requires-3 c =
    let l = located c.args.self.now c.self.inside.size
    (vec_capacity c.self.inside.bytes) c.self.inside.bytes.items c.args.offset c.self.view_is c.self.invariant
    c.requires in
    let item = c.split_at.result.1.now in
    let is : item ≡ drop c.args.offset c.self.inside.bytes.items =
    c.split_at.ensures.back ∙ ap (drop c.args.offset) c.as_slice.ensures.value in
    let whole : 24 + slice_index item 16 + from_le_bytes w32 (take 4 (drop 12 item)) ≤ length item = rw is l.whole in
    let rest = c.split_at-2.ensures.back_len in
    omega (arith, whole, rest)

pub returns : goal.returns
unfolding first_item
returns c =
    let l = located c.args.self.now c.self.inside.size
    (vec_capacity c.self.inside.bytes) c.self.inside.bytes.items c.args.offset c.self.view_is c.self.invariant
    c.requires in
    let here : item_at c.args.self.now.items c.args.offset ≡ Some l.item =
    ap (λ p. item_at p.items c.args.offset) (sym c.self.view_is) ∙ l.is_at in
    rw (
      here,
      c.split_at-3.ensures.front,
      c.split_at-2.ensures.back,
      c.split_at.ensures.back,
      c.as_slice.ensures.value,
    )
    (ap (λ (i : Item). Some i.key) (sym l.item_seen))
