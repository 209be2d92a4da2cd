-- Slots that are kept in one number, and places that go into it.
use Rattle.std.proofs.Common.{◌≡◌, ℕ, ◌+◌, ◌-◌, ◌*◌, ◌/◌, ◌%◌, ◌^◌, ◌<◌, ◌≤◌, true, refl, sym, ap, ◌∙◌, inl}
use Rattle.std.proofs.Common.{inr, arith, subst}
use Rattle.std.specs.Prelude.{nat_le, bit_and}
use Rattle.std.proofs.Math.Nat.{mod-eq_of_lt, pow-le-pow_right, div-le_self, min-le_left, min-le_right}
use Rattle.std.proofs.lemmas.Nat.{pow_pos, pow-add, one_shl, and_mask, div-mul-add, mod-mul-add, mod_below, shr_below, mul-le, div_below}
use Rattle.std.proofs.lemmas.Bool.{cases_Bool}
use Rattle.std.proofs.lemmas.Bool.Decides.{leb_tells, eqb_tells}
use Rattle.segments.specs.declared.place.Place.{Place}
use Rattle.index.specs.declared.slots.Slot.{Slot}
use Rattle.index.specs.declared.layout.Layout.{Layout}
use Rattle.index.specs.Slots.{slot_with}
use Rattle.index.specs.Layouts.{IsLayout, IsInLayout, CanHold, packed_limit, tag_shift, tag_of, home_bits, low_in, slot_of, packed_of}

-- a number is below 2^64 whatever the layout
pub limit_whole : (l : Layout) → packed_limit l ≤ 2 ^ 64
limit_whole l =
    elim (cases_Bool (nat_le l.place_bits 32)) [
      | inl y ↦ rw y (omega arith)
      | inr y ↦ rw y (omega arith)
    ]

-- where m goes into k after a, a number below m that is added to a gives one below k
below : (a b m k : ℕ) → a + m ≤ k → b < m → a + b < k
below a b m k h lt = omega (arith, h, lt)

-- the number of a slot is within its limit
pub word_below : (l : Layout) (s : Slot) → CanHold l s → packed_of l s < packed_limit l
unfolding packed_of
word_below l s c =
    below ((s.tag - 1) * 2 ^ l.place_bits) (s.place.segment * 2 ^ l.offset_bits + s.place.offset / 8 + 1) (2 ^ l.place_bits)
    (packed_limit l) c.tag c.place.number

-- slots with equal tags, segments and offsets are equal
same_slot : (t u g h o p : ℕ) → t ≡ u → g ≡ h → o ≡ p
    → ◌≡◌ {A = Slot} record { tag = t; place = record { segment = g; offset = o } }
    record { tag = u; place = record { segment = h; offset = p } }
same_slot t u g h o p e f d = rw (e, f, d) refl

-- a number without its last one
less_one : (n : ℕ) → n + 1 - 1 ≡ n
less_one n = omega arith

-- a number that isn't 0 is one more than the number before it
one_more : (n : ℕ) → 1 ≤ n → n - 1 + 1 ≡ n
one_more n h = omega (arith, h)

-- the number of a slot stands for it
pub word_slot : (l : Layout) (s : Slot) → CanHold l s → slot_of l (packed_of l s) ≡ s
unfolding packed_of slot_of
word_slot l s c =
    let high = s.tag - 1 in
    let places = 2 ^ l.place_bits in
    let offsets = 2 ^ l.offset_bits in
    let step = s.place.offset / 8 in
    let number = s.place.segment * offsets + step in
    let packed = high * places + (number + 1) in
    let over : packed / places ≡ high = div-mul-add high places (number + 1) c.place.number in
    let under : packed % places - 1 ≡ number =
    ap (λ n. n - 1) (mod-mul-add high places (number + 1) c.place.number) ∙ less_one number in
    let segment : (packed % places - 1) / offsets % 2 ^ 16 ≡ s.place.segment = ap (λ n. n / offsets % 2 ^ 16) under
    ∙ ap (λ n. n % 2 ^ 16) (div-mul-add s.place.segment offsets step c.place.offset) ∙ mod-eq_of_lt c.place.segment in
    let offset : 8 * ((packed % places - 1) % offsets) ≡ s.place.offset = ap (λ n. 8 * (n % offsets)) under
    ∙ ap (λ n. 8 * n) (mod-mul-add s.place.segment offsets step c.place.offset) ∙ c.place.aligned in
    elim (eqb_tells packed 0) [
      | inl y ↦ absurd (let e = y.1 in omega (arith, e))
      | inr y ↦ rw y.0 (same_slot (packed / places + 1) s.tag _ s.place.segment _ s.place.offset
          (ap (λ n. n + 1) over ∙ one_more s.tag c.some) segment offset)
    ]

-- of 2^j stretches of m numbers each, counted from 0, every one ends within the whole
full_row : (x r j m : ℕ) → r ≡ 2 ^ j * m → x < 2 ^ j → (x + 1 - 1) * m + m ≤ r
full_row x r j m e lt =
    let h : (x + 1) * m ≤ 2 ^ j * m = mul-le (x + 1) m (2 ^ j) m (omega (arith, lt)) (omega arith) in
    let f : (x + 1) * m ≡ x * m + m = omega arith in
    let g : x + 1 - 1 ≡ x = less_one x in
    rw g (omega (arith, h, f, e))

-- a hash's lowest bits that stand in a slot go into the bits beside a place
home_bits_narrow : (l : Layout) → nat_le l.place_bits 32 ≡ true → home_bits l ≤ 32 - l.place_bits
home_bits_narrow l e =
    let half = min-le_left ((32 - l.place_bits) / 2) 4 in
    rw e (omega (arith, half))

-- and they are few
pub home_bits_few : (l : Layout) → home_bits l ≤ 4
home_bits_few l =
    elim (cases_Bool (nat_le l.place_bits 32)) [
      | inl y ↦ rw y (min-le_right ((32 - l.place_bits) / 2) 4)
      | inr y ↦ rw y (omega arith)
    ]

-- the upper bits of a hash and some of its lowest ones, together as many as there is room for
mixed : (upper low shift b j : ℕ) → upper < 2 ^ 32 → shift + j ≡ 32 → b ≤ j → low < 2 ^ b
    → upper / 2 ^ (shift + b) * 2 ^ b + low < 2 ^ j
mixed upper low shift b j lt sum few less =
    let rest : j - b + (shift + b) ≡ 32 = omega (arith, sum, few) in
    let high : upper / 2 ^ (shift + b) < 2 ^ (j - b) =
    shr_below upper (j - b) (shift + b) (subst (λ n. upper < 2 ^ n) (sym rest) lt) in
    let all : j - b + b ≡ j = omega (arith, few) in
    let whole : 2 ^ j ≡ 2 ^ (j - b) * 2 ^ b = ap (λ n. 2 ^ n) (sym all) ∙ pow-add 2 (j - b) b in
    let h : (upper / 2 ^ (shift + b) + 1) * 2 ^ b ≤ 2 ^ (j - b) * 2 ^ b =
    mul-le (upper / 2 ^ (shift + b) + 1) (2 ^ b) (2 ^ (j - b)) (2 ^ b) (omega (arith, high)) (omega arith) in
    let f : (upper / 2 ^ (shift + b) + 1) * 2 ^ b ≡ upper / 2 ^ (shift + b) * 2 ^ b + 2 ^ b = omega arith in
    omega (arith, h, f, whole, less)

-- the tag of a hash goes into the bits beside a place
pub tag_room : (l : Layout) (hash : ℕ) → IsLayout l → hash < 2 ^ 64
    → (tag_of l hash - 1) * 2 ^ l.place_bits + 2 ^ l.place_bits ≤ packed_limit l
unfolding tag_of
tag_room l hash k lt =
    let upper : hash / 2 ^ 32 < 2 ^ 32 = div_below hash (2 ^ 32) (2 ^ 32) (omega arith) (omega (arith, lt)) in
    let most = k.places in
    let b = home_bits l in
    let low = mod_below hash (2 ^ b) (pow_pos b) in
    elim (leb_tells l.place_bits 32) [
      | inl y ↦
          let few = y.1 in
          let j = 32 - l.place_bits in
          let sum : l.place_bits + j ≡ 32 = omega (arith, few) in
          let whole : 2 ^ 32 ≡ 2 ^ j * 2 ^ l.place_bits =
          ap (λ n. 2 ^ n) (let s : 32 ≡ j + l.place_bits = omega (arith, few) in s) ∙ pow-add 2 j l.place_bits in
          let high = mixed (hash / 2 ^ 32) (hash % 2 ^ b) l.place_bits b j upper sum (home_bits_narrow l y.0) low in
          let is : tag_shift l ≡ l.place_bits = rw y.0 refl in
          let limit : packed_limit l ≡ 2 ^ 32 = rw y.0 refl in
          rw (is, limit)
          (full_row (hash / 2 ^ 32 / 2 ^ (l.place_bits + b) * 2 ^ b + hash % 2 ^ b) (2 ^ 32) j (2 ^ l.place_bits) whole high)
      | inr y ↦
          let many = y.1 in
          let j = 64 - l.place_bits in
          let sum : l.place_bits - 32 + j ≡ 32 = omega (arith, many, most) in
          let whole : 2 ^ 64 ≡ 2 ^ j * 2 ^ l.place_bits =
          ap (λ n. 2 ^ n) (let s : 64 ≡ j + l.place_bits = omega (arith, many, most) in s) ∙ pow-add 2 j l.place_bits in
          let four = home_bits_few l in
          let high = mixed (hash / 2 ^ 32) (hash % 2 ^ b) (l.place_bits - 32) b j upper sum (omega (arith, four, most)) low in
          let is : tag_shift l ≡ l.place_bits - 32 = rw y.0 refl in
          let limit : packed_limit l ≡ 2 ^ 64 = rw y.0 refl in
          rw (is, limit)
          (full_row (hash / 2 ^ 32 / 2 ^ (l.place_bits - 32 + b) * 2 ^ b + hash % 2 ^ b) (2 ^ 64) j (2 ^ l.place_bits) whole high)
    ]

-- the lowest bits of a hash, from its tag
pub tag_low : (l : Layout) (hash : ℕ) → low_in l (tag_of l hash) ≡ hash % 2 ^ home_bits l
unfolding tag_of low_in
tag_low l hash =
    let b = home_bits l in
    let upper = hash / 2 ^ 32 / 2 ^ (tag_shift l + b) in
    ap (λ n. n % 2 ^ b) (less_one (upper * 2 ^ b + hash % 2 ^ b))
    ∙ mod-mul-add upper (2 ^ b) (hash % 2 ^ b) (mod_below hash (2 ^ b) (pow_pos b))

-- tags are counted from 1
pub some_tag : (l : Layout) (hash : ℕ) → 1 ≤ tag_of l hash
unfolding tag_of
some_tag l hash = omega arith

-- a place in the layout may stand in a slot with the tag of a hash
pub can_hold : (l : Layout) (hash : ℕ) (place : Place) → IsLayout l → hash < 2 ^ 64 → IsInLayout l place
    → CanHold l (slot_with (tag_of l hash) place)
can_hold l hash place k lt inside = record { place = inside; some = some_tag l hash; tag = tag_room l hash k lt }

-- a mask of k ones leaves what is below
pub low_bits : (n k : ℕ) → k < 64 → bit_and n (1 * 2 ^ k % 2 ^ 64 - 1) ≡ n % 2 ^ k
low_bits n k lt = ap (λ m. bit_and n (m - 1)) (one_shl k 64 lt) ∙ and_mask n k

-- the tag of a hash, as shifts and masks make it
pub tag_said : (hash shift b : ℕ) → hash < 2 ^ 64 → b ≤ 4
    → hash / 2 ^ 32 / 2 ^ (shift + b) * 2 ^ b % 2 ^ 64 + bit_and hash (1 * 2 ^ b % 2 ^ 64 - 1) + 1
    ≡ hash / 2 ^ 32 / 2 ^ (shift + b) * 2 ^ b + hash % 2 ^ b + 1
tag_said hash shift b lt few =
    let upper : hash / 2 ^ 32 < 2 ^ 32 = div_below hash (2 ^ 32) (2 ^ 32) (omega arith) (omega (arith, lt)) in
    let high : ℕ = hash / 2 ^ 32 / 2 ^ (shift + b) in
    let le : high ≤ hash / 2 ^ 32 = div-le_self (hash / 2 ^ 32) (2 ^ (shift + b)) in
    let sixteen : 2 ^ b ≤ 2 ^ 4 = pow-le-pow_right (omega arith) few in
    let h : high * 2 ^ b ≤ 2 ^ 32 * 2 ^ 4 = mul-le high (2 ^ b) (2 ^ 32) (2 ^ 4) (omega (arith, le, upper)) sixteen in
    let whole : high * 2 ^ b % 2 ^ 64 ≡ high * 2 ^ b = mod-eq_of_lt (omega (arith, h)) in
    rw (whole, low_bits hash b (omega (arith, few))) refl

-- an offset goes into four bytes
pub offset_small : (n k : ℕ) → k ≤ 17 → 8 * (n % 2 ^ k) < 2 ^ 32
offset_small n k le =
    let lt = mod_below n (2 ^ k) (pow_pos k) in
    let most : 2 ^ k ≤ 2 ^ 17 = pow-le-pow_right (omega arith) le in
    omega (arith, lt, most)

-- the bits above a place are few enough to count from 1
pub tag_counts : (n k : ℕ) → 1 ≤ k → n < 2 ^ 64 → n / 2 ^ k + 1 < 2 ^ 64
tag_counts n k some lt =
    let two : 2 ^ 1 ≤ 2 ^ k = pow-le-pow_right (omega arith) some in
    let half : n / 2 ^ k < 2 ^ 63 = div_below n (2 ^ k) (2 ^ 63) (pow_pos k)
    (let h : 2 ^ 63 * 2 ^ 1 ≤ 2 ^ 63 * 2 ^ k = mul-le (2 ^ 63) (2 ^ 1) (2 ^ 63) (2 ^ k) (omega arith) two in
    omega (arith, h, lt)) in
    omega (arith, half)

-- a shift to the left loses nothing where the number stays below its limit
pub shl_kept : (n k : ℕ) → n * 2 ^ k < 2 ^ 64 → n * 2 ^ k % 2 ^ 64 ≡ n * 2 ^ k
shl_kept n k lt = mod-eq_of_lt lt

-- the number of a slot, as shifts make it
pub word_said : (l : Layout) (s : Slot) → CanHold l s
    → (s.tag - 1) * 2 ^ l.place_bits % 2 ^ 64 + (s.place.segment * 2 ^ l.offset_bits % 2 ^ 64 + s.place.offset / 8 + 1)
    ≡ packed_of l s
unfolding packed_of
word_said l s c =
    let limit = limit_whole l in
    let room = c.tag in
    let number = c.place.number in
    let high : (s.tag - 1) * 2 ^ l.place_bits < 2 ^ 64 = omega (arith, limit, room, number) in
    let low : s.place.segment * 2 ^ l.offset_bits < 2 ^ 64 = omega (arith, limit, room, number) in
    rw (mod-eq_of_lt high, mod-eq_of_lt low) refl
