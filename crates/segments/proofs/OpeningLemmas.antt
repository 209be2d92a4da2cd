-- Opening moments: how far they are rounded down, and that a segment that was just opened takes
-- items.
use Rattle.std.proofs.Common.{◌≡◌, ℕ, zero, suc, ◌+◌, ◌-◌, ◌*◌, ◌/◌, ◌%◌, ◌<◌, ◌≤◌, Bool, true, false, refl, ap, arith, inl, inr}
use Rattle.std.specs.Prelude.{◌==◌, ◌||◌, not, if◌then◌else◌, max, nat_le, nat_lt}
use Rattle.std.proofs.lemmas.Bool.{cases_Bool, or_from, or_parts, lt-leb, eqb-false}
use Rattle.std.proofs.lemmas.Nat.{div-add-mod', le-div, mul-le}
use Rattle.proto.specs.Buckets.{width_of, lower_end}
use Rattle.proto.specs.declared.eviction.Eviction.{Eviction}
use Rattle.proto.specs.declared.eviction.Eviction.TheVariants.{Oldest, LeastRead}
use Rattle.segments.specs.Pools.{is_sealed, lasting}
use Rattle.segments.specs.Rules.{opening_moment}

-- a segment that was opened less than a life and a width ago isn't closed
closed_by : (l : Bool) (o life width t : ℕ) → t < o + life → t < o + width
    → (if l then false else (nat_le (o + life) t || nat_le (o + width) t)) ≡ false
closed_by true o life width t a b = refl
closed_by false o life width t a b = or_from _ _ (lt-leb (o + life) t a) (lt-leb (o + width) t b)

-- ---- what rounding takes off

-- a number without its rest is no later, and less than the divisor is taken off
rest_off : (t h : ℕ) → 0 < h → t < t - t % h + h
rest_off t h some = omega arith

-- of two numbers the later one stays the later one without its rest
rest_later : (t u h : ℕ) → 0 < h → t ≤ u → t - t % h ≤ u - u % h
rest_later t u h some le =
    let a : t / h * h + t % h ≡ t = div-add-mod' t h in
    let b : u / h * h + u % h ≡ u = div-add-mod' u h in
    let q : t / h ≤ u / h = le-div (t / h) u h some (omega (arith, a)) in
    let p : t / h * h ≤ u / h * h = mul-le (t / h) h (u / h) h q (omega arith) in
    omega (arith, a, b, p)

-- ---- the bucket's width

-- a bucket's width, and the life at which it begins, if that isn't 0
record HasGrain (bucket : ℕ) : Type 0 where
  some : 2 ≤ width_of bucket
  small : (lower_end bucket == 0) ≡ false → width_of bucket ≤ lower_end bucket

-- a multiple of a number is 0 or at least that number
long_enough : (w k : ℕ) → (w * k == 0) ≡ false → w ≤ w * k
long_enough w zero f = absurd (eqb-false (w * 0) 0 f (omega arith))
long_enough w (suc k) f = grind arith

grain : (bucket : ℕ) → HasGrain bucket
grain bucket =
    elim (cases_Bool (nat_lt bucket 256)) [
      | inl a ↦ record { some = rw a (omega arith); small = rw a (long_enough 8 bucket) }
      | inr a ↦ elim (cases_Bool (nat_lt bucket 512)) [
        | inl b ↦ record { some = rw (a, b) (omega arith); small = rw (a, b) (long_enough 128 (bucket - 256)) }
        | inr b ↦ elim (cases_Bool (nat_lt bucket 768)) [
          | inl c ↦ record { some = rw (a, b, c) (omega arith); small = rw (a, b, c) (long_enough 2048 (bucket - 512)) }
          | inr c ↦ record { some = rw (a, b, c) (omega arith); small = rw (a, b, c) (long_enough 32768 (bucket - 768)) }
        ]
      ]
    ]

-- half a width is some, and no more than the width
half_some : (w : ℕ) → 2 ≤ w → 0 < w / 2
half_some w h = omega arith

half_less : (w : ℕ) → w / 2 ≤ w
half_less w = omega arith

-- ---- opening moments

-- an opening moment by whether it is rounded
abbrev moment_if : Bool → ℕ → ℕ → ℕ
moment_if b h t = if b then t else t - t % h

-- it is no later than the write
if_le : (b : Bool) (h t : ℕ) → moment_if b h t ≤ t
if_le true h t = omega arith
if_le false h t = omega arith

pub opening_le : (e : Eviction) (bucket t : ℕ) → opening_moment e bucket t ≤ t
opening_le Oldest bucket t = omega arith
opening_le LeastRead bucket t = if_le ((bucket == lasting) || (lower_end bucket == 0)) (width_of bucket / 2) t

-- a later write's is no earlier
if_later : (b : Bool) (h t u : ℕ) → 0 < h → t ≤ u → moment_if b h t ≤ moment_if b h u
if_later true h t u some le = le
if_later false h t u some le = rest_later t u h some le

pub opening_later : (e : Eviction) (bucket t u : ℕ) → t ≤ u → opening_moment e bucket t ≤ opening_moment e bucket u
opening_later Oldest bucket t u le = le
opening_later LeastRead bucket t u le =
    if_later ((bucket == lasting) || (lower_end bucket == 0)) (width_of bucket / 2) t u
    (half_some (width_of bucket) (grain bucket).some) le

-- a segment that is opened for a write at a moment isn't closed at that moment
if_open : (b : Bool) (bucket t : ℕ) → ((bucket == lasting) || (lower_end bucket == 0)) ≡ b
    → is_sealed bucket (moment_if b (width_of bucket / 2) t) t ≡ false
if_open true bucket t e =
    let some = (grain bucket).some in
    closed_by (bucket == lasting) t (max 1 (lower_end bucket)) (width_of bucket) t (omega arith) (omega arith)
if_open false bucket t e =
    let g = grain bucket in
    let some = half_some (width_of bucket) g.some in
    let less = half_less (width_of bucket) in
    let off = rest_off t (width_of bucket / 2) some in
    let small = g.small (or_parts (bucket == lasting) (lower_end bucket == 0) e).1 in
    closed_by (bucket == lasting) (t - t % (width_of bucket / 2)) (max 1 (lower_end bucket)) (width_of bucket) t
    (omega arith) (omega arith)

pub opening_open : (e : Eviction) (bucket t : ℕ) → is_sealed bucket (opening_moment e bucket t) t ≡ false
opening_open Oldest bucket t =
    let some = (grain bucket).some in
    closed_by (bucket == lasting) t (max 1 (lower_end bucket)) (width_of bucket) t (omega arith) (omega arith)
opening_open LeastRead bucket t = if_open ((bucket == lasting) || (lower_end bucket == 0)) bucket t refl

-- any item may go into a tail that is open
pub open_joins : (own sealed : Bool) → sealed ≡ false → own || not sealed ≡ true
open_joins true sealed e = refl
open_joins false sealed e = ap not e
