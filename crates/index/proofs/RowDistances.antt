-- Distances in a row whose first slot is after its last.
use Rattle.std.proofs.Common.{◌≡◌, ◌≢◌, ℕ, ◌+◌, ◌-◌, ◌<◌, ◌≤◌, refl, inl, inr, ◌⊎◌, arith}
use Rattle.std.proofs.lemmas.Bool.Decides.{leb_tells, eqb_tells}
use Rattle.index.specs.Slots.{distance, next_slot}

-- the distance, and on which side the other one stands
pub distance_cases : (n from to : ℕ) → ((from ≤ to) × (distance n from to ≡ to - from))
    ⊎ ((to < from) × (distance n from to ≡ to + n - from))
unfolding distance
distance_cases n from to =
    elim (leb_tells from to) [ inl y ↦ inl (y.1, rw y.0 refl) | inr y ↦ inr (y.1, rw y.0 refl) ]

-- after the last slot comes the first one, and after any other slot the one with the next number
pub next_slot_cases : (n i : ℕ) → ((i + 1 ≡ n) × (next_slot n i ≡ 0)) ⊎ ((i + 1 ≢ n) × (next_slot n i ≡ i + 1))
next_slot_cases n i = elim (eqb_tells (i + 1) n) [ inl y ↦ inl (y.1, rw y.0 refl) | inr y ↦ inr (y.1, rw y.0 refl) ]

-- the distance between two slots of a row is less than the number of slots
pub distance_below : (n from to : ℕ) → from < n → to < n → distance n from to < n
distance_below n from to f t = elim (distance_cases n from to) [ inl y ↦ omega (arith, y) | inr y ↦ omega (arith, y) ]

-- a slot is at the distance 0 from itself
pub distance_itself : (n i : ℕ) → distance n i i ≡ 0
distance_itself n i = elim (distance_cases n i i) [ inl y ↦ omega (arith, y) | inr y ↦ omega (arith, y) ]

-- only one slot is as far away
pub distance_once : (n from a b : ℕ) → from < n → a < n → b < n → distance n from a ≡ distance n from b → a ≡ b
distance_once n from a b f x y same =
    elim (distance_cases n from a) [
      | inl p ↦ elim (distance_cases n from b) [ inl q ↦ omega (arith, p, q) | inr q ↦ omega (arith, p, q) ]
      | inr p ↦ elim (distance_cases n from b) [ inl q ↦ omega (arith, p, q) | inr q ↦ omega (arith, p, q) ]
    ]

-- the next slot is one further, where a slot stands further away
pub distance_to_next : (n from at far : ℕ) → from < n → at < n → far < n → distance n from at < distance n from far
    → distance n from (next_slot n at) ≡ distance n from at + 1
distance_to_next n from at far f a r lt =
    elim (next_slot_cases n at) [
      | inl b ↦ elim (distance_cases n from at) [
        | inl p ↦ elim (distance_cases n from far) [
          | inl q ↦ absurd (omega (arith, b, p, q))
          | inr q ↦ elim (distance_cases n from (next_slot n at))
              [ inl s ↦ omega (arith, b, p, q, s) | inr s ↦ omega (arith, b, p, q, s) ]
        ]
        | inr p ↦ absurd (omega (arith, b, p))
      ]
      | inr b ↦ elim (distance_cases n from at) [
        | inl p ↦ elim (distance_cases n from (next_slot n at))
            [ inl s ↦ omega (arith, b, p, s) | inr s ↦ absurd (omega (arith, b, p, s)) ]
        | inr p ↦ elim (distance_cases n from far) [
          | inl q ↦ absurd (omega (arith, b, p, q))
          | inr q ↦ elim (distance_cases n from (next_slot n at))
              [ inl s ↦ omega (arith, b, p, q, s) | inr s ↦ omega (arith, b, p, q, s) ]
        ]
      ]
    ]

-- the slot after a slot of the row is one of the row
pub next_slot_below : (n at : ℕ) → at < n → next_slot n at < n
next_slot_below n at a = elim (next_slot_cases n at) [ inl b ↦ omega (arith, b) | inr b ↦ omega (arith, b) ]

-- what is less far than the next slot is less far than this one, or it is this one
pub distance_upto : (n from at x far : ℕ) → from < n → at < n → x < n → far < n
    → distance n from at < distance n from far
    → distance n from x < distance n from (next_slot n at) → (distance n from x < distance n from at) ⊎ (x ≡ at)
distance_upto n from at x far f a i r lt less =
    let step = distance_to_next n from at far f a r lt in
    elim (leb_tells (distance n from at) (distance n from x)) [
      | inl y ↦ let same : distance n from x ≡ distance n from at = omega (arith, y, step, less) in
          inr (distance_once n from x at f i a same)
      | inr y ↦ inl y.1
    ]

-- from a by b to c it is as far as from a to c, or once around the row further
distance_by : (n a b c : ℕ) → a < n → b < n → c < n → (distance n a c ≡ distance n a b + distance n b c)
    ⊎ (distance n a c + n ≡ distance n a b + distance n b c)
distance_by n a b c x y z =
    elim (distance_cases n a b) [
      | inl p ↦ elim (distance_cases n a c) [
        | inl q ↦ elim (distance_cases n b c) [ inl r ↦ inl (omega (arith, p, q, r)) | inr r ↦ inr (omega (arith, p, q, r)) ]
        | inr q ↦ elim (distance_cases n b c) [ inl r ↦ inl (omega (arith, p, q, r)) | inr r ↦ inl (omega (arith, p, q, r)) ]
      ]
      | inr p ↦ elim (distance_cases n a c) [
        | inl q ↦ elim (distance_cases n b c) [ inl r ↦ inr (omega (arith, p, q, r)) | inr r ↦ inl (omega (arith, p, q, r)) ]
        | inr q ↦ elim (distance_cases n b c) [ inl r ↦ inl (omega (arith, p, q, r)) | inr r ↦ inr (omega (arith, p, q, r)) ]
      ]
    ]

-- a slot on the way to another one
pub distance_add : (n a b c : ℕ) → a < n → b < n → c < n → distance n a b ≤ distance n a c
    → distance n a c ≡ distance n a b + distance n b c
distance_add n a b c x y z le =
    let lt = distance_below n b c y z in
    elim (distance_by n a b c x y z) [ inl e ↦ e | inr e ↦ omega (arith, e, le, lt) ]

-- where the ways from a to b and from b to c are together shorter than the row, they are together
-- as long as the way from a to c
pub distance_sum : (n a b c : ℕ) → a < n → b < n → c < n → distance n a b + distance n b c < n
    → distance n a c ≡ distance n a b + distance n b c
distance_sum n a b c x y z lt =
    elim (distance_by n a b c x y z) [ inl e ↦ e | inr e ↦ omega (arith, e, lt) ]

-- where b is at most as far from c as a is, it is on the way from a to c
pub distance_within : (n a b c : ℕ) → a < n → b < n → c < n → distance n b c ≤ distance n a c
    → distance n a c ≡ distance n a b + distance n b c
distance_within n a b c x y z le =
    let lt = distance_below n a b x y in
    elim (distance_by n a b c x y z) [ inl e ↦ e | inr e ↦ omega (arith, e, le, lt) ]

-- two slots that aren't the same are apart
pub distance_apart : (n a b : ℕ) → a < n → b < n → b ≢ a → 0 < distance n a b
distance_apart n a b x y differ = elim (distance_cases n a b) [ inl p ↦ omega (arith, p) | inr p ↦ omega (arith, p) ]

-- a slot is one further from a slot than from the one after that
pub distance_next : (n at x : ℕ) → at < n → x < n → x ≢ at
    → distance n at x ≡ distance n (next_slot n at) x + 1
distance_next n at x a i differ =
    elim (next_slot_cases n at) [
      | inl b ↦ elim (distance_cases n at x) [
        | inl p ↦ elim (distance_cases n (next_slot n at) x) [ inl q ↦ omega (arith, b, p, q) | inr q ↦ omega (arith, b, p, q) ]
        | inr p ↦ elim (distance_cases n (next_slot n at) x) [ inl q ↦ omega (arith, b, p, q) | inr q ↦ omega (arith, b, p, q) ]
      ]
      | inr b ↦ elim (distance_cases n at x) [
        | inl p ↦ elim (distance_cases n (next_slot n at) x) [ inl q ↦ omega (arith, b, p, q) | inr q ↦ omega (arith, b, p, q) ]
        | inr p ↦ elim (distance_cases n (next_slot n at) x) [ inl q ↦ omega (arith, b, p, q) | inr q ↦ omega (arith, b, p, q) ]
      ]
    ]

-- a slot is the last one from the slot after it on
pub distance_last : (n at : ℕ) → at < n → distance n (next_slot n at) at + 1 ≡ n
distance_last n at a =
    elim (next_slot_cases n at) [
      | inl b ↦ elim (distance_cases n (next_slot n at) at) [ inl q ↦ omega (arith, b, q) | inr q ↦ omega (arith, b, q) ]
      | inr b ↦ elim (distance_cases n (next_slot n at) at) [ inl q ↦ omega (arith, b, q) | inr q ↦ omega (arith, b, q) ]
    ]
