-- The homes of hashes where the row has one slot more.
use Rattle.std.proofs.Common.{◌≡◌, ◌⊎◌, ℕ, zero, suc, ◌+◌, ◌-◌, ◌*◌, ◌/◌, ◌%◌, ◌^◌, ◌<◌, ◌≤◌, refl, sym, ap}
use Rattle.std.proofs.Common.{◌∙◌, inl, inr, arith, subst}
use Rattle.std.specs.Prelude.{bit_and}
use Rattle.std.proofs.Math.Nat.{pow-le-pow_right, pow-succ', add-mul-mod_self_left}
use Rattle.std.proofs.lemmas.Nat.{pow_pos, pow-add, mod-mul-add, mod_below, div-add-mod', and_mask}
use Rattle.std.proofs.lemmas.Bool.Decides.{leb_tells}
use Rattle.index.specs.Keys.{floor_power_from, floor_power_of_two, home_of, split_home}

-- the greatest power of two at most a number
pub record IsFloorPower (n r : ℕ) : Type 0 where
  pub exponent : ℕ
  pub power : r ≡ 2 ^ exponent
  pub within : r ≤ n
  pub next : n < 2 * r

-- a power of two that is doubled is the next one
doubled : (r k : ℕ) → r ≡ 2 ^ k → 2 * r ≡ 2 ^ suc k
doubled r k is = ap (λ n. 2 * n) is ∙ sym (pow-succ' 2 k)

-- doublings lead to it, where there are enough of them
floor_power_from_is : (d r n k : ℕ) → r ≡ 2 ^ k → r ≤ n → n ≤ r + d → IsFloorPower n (floor_power_from d r n)
unfolding floor_power_from
floor_power_from_is zero r n k power within enough =
    let some = pow_pos k in
    record { exponent = k; power = power; within = within; next = omega (arith, some, power, enough) }
floor_power_from_is (suc d) r n k power within enough =
    let some = pow_pos k in
    elim (leb_tells (2 * r) n) [
      | inl y ↦ rw y.0 (floor_power_from_is d (2 * r) n (suc k) (doubled r k power) y.1 (omega (arith, some, power, enough)))
      | inr y ↦ rw y.0 record { exponent = k; power = power; within = within; next = y.1 }
    ]

pub floor_power_is : (n : ℕ) → 1 ≤ n → IsFloorPower n (floor_power_of_two n)
unfolding floor_power_of_two
floor_power_is n some = floor_power_from_is n 1 n 0 refl some (omega arith)

-- there is only one
not_less : (n r s : ℕ) → IsFloorPower n r → IsFloorPower n s → s ≤ r
not_less n r s a b =
    elim (leb_tells b.exponent a.exponent) [
      | inl y ↦
          let le : 2 ^ b.exponent ≤ 2 ^ a.exponent = pow-le-pow_right (omega arith) y.1 in
          let p = a.power in
          let q = b.power in
          omega (arith, le, p, q)
      | inr y ↦
          let le : 2 ^ suc a.exponent ≤ 2 ^ b.exponent = pow-le-pow_right (omega arith) y.1 in
          let p = doubled r a.exponent a.power in
          let q = b.power in
          let next = a.next in
          let within = b.within in
          absurd (omega (arith, le, p, q, next, within))
    ]

pub floor_power_once : (n r s : ℕ) → IsFloorPower n r → IsFloorPower n s → r ≡ s
floor_power_once n r s a b = (let p = not_less n r s a b in let q = not_less n s r b a in omega (arith, p, q))

-- the power of two that a logarithm leads to
pub power_is_floor : (n k : ℕ) → 2 ^ k ≤ n → n < 2 * 2 ^ k → 2 ^ k ≡ floor_power_of_two n
power_is_floor n k le lt =
    floor_power_once n (2 ^ k) (floor_power_of_two n) record { exponent = k; power = refl; within = le; next = lt }
    (floor_power_is n (let some = pow_pos k in omega (arith, some, le)))

-- the power of two of a number of eight bytes
pub floor_power_small : (n : ℕ) → 1 ≤ n → n < 2 ^ 64 → floor_power_of_two n ≤ 2 ^ 63
floor_power_small n some lt =
    let is = floor_power_is n some in
    let power = is.power in
    let within = is.within in
    elim (leb_tells 64 is.exponent) [
      | inl y ↦
          let le : 2 ^ 64 ≤ 2 ^ is.exponent = pow-le-pow_right (omega arith) y.1 in
          absurd (omega (arith, le, power, within, lt))
      | inr y ↦
          let few : is.exponent ≤ 63 = omega (arith, y) in
          let le : 2 ^ is.exponent ≤ 2 ^ 63 = pow-le-pow_right (omega arith) few in
          omega (arith, le, power)
    ]

-- a mask of all numbers below twice a power of two
pub masked : (n h : ℕ) → 1 ≤ n → bit_and h (floor_power_of_two n - 1 + floor_power_of_two n) ≡ h % (2 * floor_power_of_two n)
masked n h some =
    let is = floor_power_is n some in
    let k = is.exponent in
    let twice = doubled (floor_power_of_two n) k is.power in
    let positive = pow_pos k in
    let power = is.power in
    let mask : floor_power_of_two n - 1 + floor_power_of_two n ≡ 2 ^ suc k - 1 = omega (arith, twice, positive, power) in
    ap (bit_and h) mask ∙ and_mask h (suc k) ∙ ap (λ m. h % m) (sym twice)

-- a number modulo twice another one, and modulo that one
halved : (h m : ℕ) → 1 ≤ m → ((h % (2 * m) < m) × (h % m ≡ h % (2 * m)))
    ⊎ ((m ≤ h % (2 * m)) × (h % m + m ≡ h % (2 * m)))
halved h m some =
    let whole = div-add-mod' h (2 * m) in
    let below = mod_below h (2 * m) (omega (arith, some)) in
    elim (leb_tells m (h % (2 * m))) [
      | inl y ↦
          let rest : ℕ = h % (2 * m) - m in
          let is : h ≡ (2 * (h / (2 * m)) + 1) * m + rest = omega (arith, whole, y) in
          let lt : rest < m = omega (arith, below, y) in
          let e : h % m ≡ rest = ap (λ x. x % m) is ∙ mod-mul-add (2 * (h / (2 * m)) + 1) m rest lt in
          inr (y.1, omega (arith, e, y))
      | inr y ↦
          let is : h ≡ 2 * (h / (2 * m)) * m + h % (2 * m) = omega (arith, whole) in
          inl (y.1, ap (λ x. x % m) is ∙ mod-mul-add (2 * (h / (2 * m))) m (h % (2 * m)) y.1)
    ]

-- a home, with the power of two and the remainder that it comes from
pub home_cases : (n h : ℕ) → ((h % (2 * floor_power_of_two n) < n) × (home_of n h ≡ h % (2 * floor_power_of_two n)))
    ⊎ ((n ≤ h % (2 * floor_power_of_two n)) × (home_of n h ≡ h % (2 * floor_power_of_two n) - floor_power_of_two n))
unfolding home_of
home_cases n h =
    elim (leb_tells (suc (h % (2 * floor_power_of_two n))) n) [
      | inl y ↦ inl (omega (arith, y), rw y.0 refl)
      | inr y ↦ inr (omega (arith, y), rw y.0 refl)
    ]

-- a home is one of the slots
pub home_below : (n h : ℕ) → 1 ≤ n → home_of n h < n
home_below n h some =
    let is = floor_power_is n some in
    let within = is.within in
    let next = is.next in
    let below = mod_below h (2 * floor_power_of_two n) (omega (arith, some, next)) in
    elim (home_cases n h) [ inl y ↦ omega (arith, y) | inr y ↦ omega (arith, y, below, within, next) ]

-- a hash has the same home with one slot more, or it goes from the home that is split to the new
-- slot
pub home_grown : (n h : ℕ) → 1 ≤ n → (home_of (n + 1) h ≡ home_of n h)
    ⊎ ((home_of n h ≡ split_home n) × (home_of (n + 1) h ≡ n))
home_grown n h some =
    let is = floor_power_is n some in
    let more = floor_power_is (n + 1) (omega arith) in
    let r = floor_power_of_two n in
    elim (leb_tells (2 * r) (n + 1)) [
      | inl y ↦
          let next = is.next in
          let full : n + 1 ≡ 2 * r = omega (arith, y, next) in
          let twice : floor_power_of_two (n + 1) ≡ 2 * r = floor_power_once (n + 1) (floor_power_of_two (n + 1)) (2 * r) more
          record {
            exponent = suc is.exponent;
            power = doubled r is.exponent is.power;
            within = y.1;
            next = omega (arith, full);
          } in
          let half = halved h (2 * r) (omega (arith, full)) in
          let a = home_cases n h in
          let b = subst (λ (s : ℕ). ((h % (2 * s) < n + 1) × (home_of (n + 1) h ≡ h % (2 * s)))
          ⊎ ((n + 1 ≤ h % (2 * s)) × (home_of (n + 1) h ≡ h % (2 * s) - s))) twice (home_cases (n + 1) h) in
          let below = mod_below h (2 * r) (omega (arith, full)) in
          elim half [
            | inl s ↦ elim a [
              | inl p ↦ elim b [ inl q ↦ inl (omega (arith, p, q, s, full)) | inr q ↦ absurd (omega (arith, q, s, full)) ]
              | inr p ↦ elim b [
                | inl q ↦ inr (omega (arith, p, below, full), omega (arith, p, q, s, below, full))
                | inr q ↦ absurd (omega (arith, q, s, full))
              ]
            ]
            | inr s ↦ elim a [
              | inl p ↦ elim b [ inl q ↦ absurd (omega (arith, q, s, full)) | inr q ↦ inl (omega (arith, p, q, s, full)) ]
              | inr p ↦ elim b [
                | inl q ↦ absurd (omega (arith, q, s, full))
                | inr q ↦ inr (omega (arith, p, below, full), omega (arith, p, q, s, below, full))
              ]
            ]
          ]
      | inr y ↦
          let within = is.within in
          let same : floor_power_of_two (n + 1) ≡ r = floor_power_once (n + 1) (floor_power_of_two (n + 1)) r more
          record { exponent = is.exponent; power = is.power; within = omega (arith, within); next = y.1 } in
          let a = home_cases n h in
          let b = subst (λ (s : ℕ). ((h % (2 * s) < n + 1) × (home_of (n + 1) h ≡ h % (2 * s)))
          ⊎ ((n + 1 ≤ h % (2 * s)) × (home_of (n + 1) h ≡ h % (2 * s) - s))) same (home_cases (n + 1) h) in
          elim a [
            | inl p ↦ elim b [ inl q ↦ inl (omega (arith, p, q)) | inr q ↦ absurd (omega (arith, p, q)) ]
            | inr p ↦ elim b [
              | inl q ↦ inr (omega (arith, p, q), omega (arith, p, q))
              | inr q ↦ inl (omega (arith, p, q))
            ]
          ]
    ]

-- a number modulo a multiple of another one, and modulo that one
mod_down : (h m w : ℕ) → h % (2 * (m * w)) % m ≡ h % m
mod_down h m w =
    let rest = h % (2 * (m * w)) in
    let whole = div-add-mod' h (2 * (m * w)) in
    let is : rest + m * (2 * w * (h / (2 * (m * w)))) ≡ h = omega (arith, whole) in
    sym (add-mul-mod_self_left rest m (2 * w * (h / (2 * (m * w))))) ∙ ap (λ n. n % m) is

-- a home has the lowest bits of its hash, where there are slots enough
pub low_home : (n h b : ℕ) → 2 ^ b ≤ n → home_of n h % 2 ^ b ≡ h % 2 ^ b
low_home n h b enough =
    let some = pow_pos b in
    let is = floor_power_is n (omega (arith, some, enough)) in
    let k = is.exponent in
    let twice = doubled (floor_power_of_two n) k is.power in
    let next = is.next in
    let within = is.within in
    let less : b ≤ k =
    elim (leb_tells b k) [
      | inl y ↦ y.1
      | inr y ↦
          let le : 2 ^ suc k ≤ 2 ^ b = pow-le-pow_right (omega arith) (let q = y.1 in omega (arith, q)) in
          absurd (omega (arith, le, enough, next, twice))
    ] in
    let sum : b + (k - b) ≡ k = omega (arith, less) in
    let w : ℕ = 2 ^ (k - b) in
    let m : ℕ = 2 ^ b in
    let r : floor_power_of_two n ≡ m * w = is.power ∙ ap (λ i. 2 ^ i) (sym sum) ∙ pow-add 2 b (k - b) in
    let down : h % (2 * floor_power_of_two n) % m ≡ h % m = ap (λ i. h % (2 * i) % m) r ∙ mod_down h m w in
    elim (home_cases n h) [
      | inl y ↦ ap (λ i. i % m) y.1 ∙ down
      | inr y ↦
          let home : ℕ = home_of n h in
          let full : home + m * w ≡ h % (2 * floor_power_of_two n) = omega (arith, y, within, r) in
          sym (add-mul-mod_self_left home m w) ∙ ap (λ i. i % m) full ∙ down
    ]
