-- The home of a key that is found, by the lowest bits of its hash: those of the home itself.
use Rattle.std.proofs.Common.{◌≡◌, ◌⊎◌, ℕ, ◌+◌, ◌-◌, ◌*◌, ◌/◌, ◌%◌, ◌^◌, ◌<◌, ◌≤◌, List, length, sym, ap}
use Rattle.std.proofs.Common.{◌∙◌, inl, inr, arith}
use Rattle.std.proofs.Math.Nat.{add-mul-mod_self_left}
use Rattle.std.proofs.lemmas.Nat.{mod_below, div-add-mod', mul-le, pow_pos}
use Rattle.std.proofs.lemmas.Bool.Decides.{leb_tells}
use Rattle.index.specs.declared.slots.Slot.{Slot}
use Rattle.index.specs.Keys.{KeysOf}
use Rattle.index.specs.Slots.{distance}
use Rattle.index.specs.Searches.{HasGap}
use Rattle.index.specs.Table.{Hashing, IsSlotFound}
use Rattle.index.proofs.RowDistances.{distance_cases}
use Rattle.index.proofs.ShiftedSlots.{true_false}

-- how far the nearest slot with the remainder of a home is, and how far the home is
remainder : (at home m : ℕ) → 1 ≤ m → home ≤ at → (at % m + m - home % m) % m ≡ (at - home) % m
remainder at home m some le =
    let a = div-add-mod' at m in
    let h = div-add-mod' home m in
    let below = mod_below home m some in
    let x : ℕ = at % m + m - home % m in
    let same : x + m * (at / m) ≡ at - home + m * (home / m + 1) = omega (arith, a, h, le, below) in
    sym (add-mul-mod_self_left x m (at / m)) ∙ ap (λ n. n % m) same ∙ add-mul-mod_self_left (at - home) m (home / m + 1)

-- a home at another slot with that remainder is before the slots between that one and the nearest
-- one
further : (at home m back : ℕ) → 1 ≤ m → home ≤ at → back ≡ (at % m + m - home % m) % m
    → (home ≡ at - back) ⊎ (home + back + m ≤ at)
further at home m back some le is =
    let far = is ∙ remainder at home m some le in
    let whole = div-add-mod' (at - home) m in
    let q : ℕ = (at - home) / m in
    elim (leb_tells 1 q) [
      | inl y ↦ let h : 1 * m ≤ q * m = mul-le 1 m q m y.1 (omega arith) in inr (omega (arith, h, whole, far, le))
      | inr y ↦
          let none : q ≡ 0 = (let z = y.1 in omega (arith, z)) in
          let nothing : 0 * m ≡ 0 = omega arith in
          let e : q * m ≡ 0 = ap (λ n. n * m) none ∙ nothing in
          inl (omega (arith, e, whole, far, le))
    ]

-- the nearest slot with the remainder is the home, or each slot from the next such one on is on the
-- way from the home
pub nearest : (n at home m back x : ℕ) → 1 ≤ m → at < n → home < n → back ≡ (at % m + m - home % m) % m → back + m ≤ at
    → at - back - m ≤ x → x < at - back → (home ≡ at - back) ⊎ (distance n home x < distance n home at)
nearest n at home m back x some a h is room from_on before =
    elim (leb_tells home at) [
      | inl y ↦ elim (further at home m back some y.1 is) [
        | inl near ↦ inl near
        | inr far ↦ elim (distance_cases n home x) [
          | inl p ↦ elim (distance_cases n home at) [ inl q ↦ inr (omega (arith, p, q, before)) | inr q ↦ absurd (omega (arith, y, q)) ]
          | inr p ↦ absurd (omega (arith, p, far, from_on))
        ]
      ]
      | inr y ↦ elim (distance_cases n home x) [
        | inl p ↦ absurd (omega (arith, y, p, before))
        | inr p ↦ elim (distance_cases n home at) [ inl q ↦ absurd (omega (arith, y, q)) | inr q ↦ inr (omega (arith, p, q, before, h)) ]
      ]
    ]

-- where the lowest bits of a key's home are known, and one of the slots from the next such slot on
-- is empty, the nearest such slot is the home
pub home_near : (h : Hashing) (keys : KeysOf) (slots : List Slot) (at : ℕ) (key : List ℕ) (b low back next : ℕ)
    → at < length slots → h.home key < length slots → IsSlotFound h keys slots at key
    → low ≡ h.home key % 2 ^ b → back ≡ (at % 2 ^ b + 2 ^ b - low) % 2 ^ b → next ≡ back + 2 ^ b → next ≤ at
    → HasGap slots (at - next) (at - back) → h.home key ≡ at - back
home_near h keys slots at key b low back next a r f low_is back_is next_is room gap =
    let m : ℕ = 2 ^ b in
    let is : back ≡ (at % m + m - h.home key % m) % m = back_is ∙ ap (λ i. (at % m + m - i) % m) low_is in
    let from_on = gap.from_on in
    elim (nearest (length slots) at (h.home key) m back gap.at (pow_pos b) a r is (omega (arith, room, next_is))
    (omega (arith, from_on, next_is)) gap.before) [
      | inl near ↦ near
      | inr lt ↦
          let before = gap.before in
          absurd (true_false (sym (f.up_to gap.at (omega (arith, before, a)) lt) ∙ gap.empty))
    ]
