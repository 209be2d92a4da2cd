-- The places of a pool are in its layout.
use Rattle.std.proofs.Common.{◌≡◌, ℕ, ◌+◌, ◌-◌, ◌*◌, ◌/◌, ◌^◌, ◌<◌, ◌≤◌, List, [], ◌∷◌, length, Some, None, refl}
use Rattle.std.proofs.Common.{sym, ◌∙◌, arith, inl, inr}
use Rattle.std.proofs.lemmas.Bool.{cases_eq, cases_lt}
use Rattle.std.proofs.lemmas.Nat.{mul-le}
use Rattle.segments.specs.declared.place.Place.{Place}
use Rattle.segments.specs.Items.{Item, size_of_item, item_at}
use Rattle.segments.specs.Pools.{PoolState, IsPool, items_of, segment_at, item_in}
use Rattle.segments.proofs.ItemChanges.{at_within, at_behind}
use Rattle.segments.proofs.Places.{item_ends, item_large, item_storable, mark_within}
use Rattle.segments.specs.Places.{IsAppended}
use Rattle.segments.proofs.MovedPlaces.{same_place_itself}
use Rattle.proto.specs.Sizes.{item_limit}
use Rattle.index.specs.declared.layout.Layout.{Layout}
use Rattle.index.specs.Layouts.{IsInLayout, IsLayoutOf}

-- a number is a multiple of eight where it is one after a multiple of eight was taken off
behind_one : (x k n : ℕ) → n ≤ x → n ≡ 8 * k → 8 * ((x - n) / 8) ≡ x - n → 8 * (x / 8) ≡ x
behind_one x k n le e h = omega (arith, le, e, h)

-- items begin at multiples of eight bytes
aligned : (items : List Item) (x : ℕ) (i : Item) → item_at items x ≡ Some i → 8 * (x / 8) ≡ x
aligned [] x i e = cc
aligned (k ∷ items) x i e =
    elim (cases_eq x 0) [
      | inl z ↦ rw z refl
      | inr z ↦
          elim (cases_lt x (size_of_item k)) [
            | inl within ↦ (let gone : None ≡ Some i = sym (at_within k items x z within) ∙ e in cc)
            | inr after ↦
                behind_one x ((24 + length k.key + length k.value + 7) / 8) (size_of_item k) after refl
                (aligned items (x - size_of_item k) i (sym (at_behind k items x after) ∙ e))
          ]
    ]

-- a place of a pool in the numbers of the pool's sizes
in_sizes : (segment offset segments size offsets places : ℕ) → segment < segments → offset + 32 ≤ size
    → size ≤ 8 * offsets → segments * offsets ≤ places
    → (offset / 8 < offsets) × (segment * offsets + offset / 8 + 1 < places)
in_sizes segment offset segments size offsets places lt ends fits all =
    let step : offset / 8 + 4 ≤ offsets = omega (arith, ends, fits) in
    let h : (segment + 1) * offsets ≤ segments * offsets =
    mul-le (segment + 1) offsets segments offsets (omega (arith, lt)) (omega arith) in
    let f : (segment + 1) * offsets ≡ segment * offsets + offsets = omega arith in
    (omega (arith, step), omega (arith, step, h, f, all))

-- a place where an item of the pool begins
pub place_in_layout : (p : PoolState) (l : Layout) (q : Place) (i : Item) → IsPool p → IsLayoutOf p.sizes l
    → item_in p q ≡ Some i → IsInLayout l q
place_in_layout p l q i k of e =
    let large = item_large (item_limit p.sizes) i (item_storable p q i k e) in
    let ends = item_ends p q i k e in
    let within = (mark_within p q i k e).0 in
    let most = k.geometry.most in
    let n = in_sizes q.segment q.offset p.sizes.segments p.sizes.segment_size (2 ^ l.offset_bits)
    (2 ^ l.place_bits) within (omega (arith, large, ends))
    of.offsets of.places in
    record {
      segment = omega (arith, within, most);
      aligned = aligned (items_of (segment_at p q.segment)) q.offset i e;
      offset = n.0;
      number = n.1;
    }

-- a place to which an item was appended
pub appended_in_layout : (p after : PoolState) (bucket t : ℕ) (i : Item) (place : Place) (l : Layout) → IsPool after
    → IsAppended p bucket t i after place
    → IsLayoutOf p.sizes l → IsInLayout l place
appended_in_layout p after bucket t i place l k a of =
    let new : item_in after place ≡ Some i = a.items place ∙ (let z = same_place_itself place in rw z refl) in
    place_in_layout after l place i k (rw a.sizes of) new
