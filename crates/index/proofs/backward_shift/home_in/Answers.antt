use Rattle.std.proofs.Common.{◌≡◌, ℕ, ◌+◌, ◌*◌, ◌%◌, ◌^◌, ◌≤◌, length, sym, ap, ◌∙◌, arith}
use Rattle.index.specs.declared.slots.Slot.{Slot}
use Rattle.index.specs.declared.layout.Layout.{Layout}
use Rattle.index.specs.Keys.{KeysOf, hash_of}
use Rattle.segments.specs.Pools.{key_at}
use Rattle.index.specs.Layouts.{home_bits, low_in}
use Rattle.index.specs.Table.{hashing, Hashing}
use Rattle.std.proofs.lemmas.Nat.{one_shl}
use Rattle.index.proofs.SplitHomes.{home_below, low_home}
use Rattle.index.proofs.NearestHomes.{home_near}
use Rattle.index.proofs.PackedSlots.{some_tag, tag_low}
use Rattle.index.proofs.backward_shift.home_in.Goals as goal

pub low_in-requires-clause-some : goal.low_in-requires-clause-some
low_in-requires-clause-some c =
    let f = c.requires.found in
    rw (c.get-slot.ensures, f.1.tag) (some_tag c.args.slots.now.layout (hash_of c.args.hasher f.0))

pub returns-then-has_gap-clause-value : goal.returns-then-has_gap-clause-value
returns-then-has_gap-clause-value c =
    let slots = c.args.slots.now.slots in
    let l = c.args.slots.now.layout in
    let keys : KeysOf = key_at c.args.pool.now in
    let h : Hashing = hashing (length slots) l c.args.hasher in
    let f = c.requires.found in
    let hash : ℕ = hash_of c.args.hasher f.0 in
    let r = c.requires.at in
    let b = c.home_bits-bits.result in
    let few = c.home_bits-bits.ensures.few in
    let next : ℕ = c.back_to_low-back.result + 1 * 2 ^ b % 2 ^ 64 in
    let power : 1 * 2 ^ b % 2 ^ 64 ≡ 2 ^ b = one_shl b 64 (omega (arith, few)) in
    let room : next ≤ c.args.at = c.if-next-at.true in
    let bits : b ≡ home_bits l = c.home_bits-bits.ensures.value ∙ ap home_bits c.layout-layout.ensures.value in
    let enough : 2 ^ b ≤ length slots = omega (arith, room, power, r) in
    let low_is : c.low_in.result ≡ h.home f.0 % 2 ^ b =
    c.low_in.ensures.value
    ∙ ap (λ (y : Layout). low_in y c.get-slot.result.tag) c.layout-layout.ensures.value
    ∙ ap (low_in l) (ap (λ (s : Slot). s.tag) c.get-slot.ensures ∙ f.1.tag)
    ∙ tag_low l hash
    ∙ ap (λ i. hash % 2 ^ i) (sym bits)
    ∙ sym (low_home (length slots) hash b enough) in
    rw f.1.of_key
    (sym (home_near h keys slots c.args.at f.0 b c.low_in.result c.back_to_low-back.result next r
    (home_below (length slots) hash (omega (arith, r))) f.1 low_is c.back_to_low-back.ensures
    (ap (λ i. c.back_to_low-back.result + i) power) room (c.has_gap.ensures c.if-has_gap.true)))
