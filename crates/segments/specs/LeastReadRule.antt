-- The rule of the least read: the first places of the order are looked at, and what it notes to
-- find a mate.
use Rattle.std.specs.Prelude.{◌≡◌, ℕ, ◌-◌, ◌/◌, ◌<◌, ◌≤◌, ◌%◌, Bool, true, false, ◌||◌, List, [], ◌∷◌, length, take, drop, min}
use Rattle.std.specs.Prelude.{◌==◌, slice_index_or, if◌then◌else◌, Option, IsTrue, IsFalse}
use Rattle.segments.specs.declared.merge.Choice.{Choice}
use Rattle.segments.specs.declared.rules.least_read.Rest.{Rest}
use Rattle.segments.specs.declared.rules.least_read.Rest.TheVariants.{Nothing, Tail, More}
use Rattle.proto.specs.Buckets.{width_of, lower_end}
use Rattle.segments.specs.Pools.{bucket_count, lasting, PoolState, Used, in_bucket, chain_in}
use Rattle.segments.specs.Chains.{opened_in, number_at, qualifies_in}

-- The moment, rounded down to a multiple of half the bucket's width. It isn't rounded for lives
-- that have no end or begin at 0.
abbrev pub rounded_moment : ℕ → ℕ → ℕ
rounded_moment bucket t =
    if (bucket == lasting) || (lower_end bucket == 0) then t else t - t % (width_of bucket / 2)

-- a third of all segments
abbrev pub third : PoolState → ℕ
third p = p.sizes.segments / 3

-- how many places of the order are looked at, from the front on
abbrev pub look_count : PoolState → ℕ
look_count p = min (third p) (length p.order)

-- the segments at the places looked at
abbrev pub candidates : PoolState → List ℕ
candidates p = take (look_count p) p.order

-- the segment at a place of the order has no mate behind it: its chain can't be merged from there
-- on
abbrev pub HasNoMate : List (Option Used) → List ℕ → ℕ → Type 0
HasNoMate us order k =
    (b : ℕ) → in_bucket us b (number_at order k) ≡ true → IsFalse (qualifies_in us (drop k order) b)

-- none of the places from `low` on and before `high` has one
abbrev pub NoneBetween : List (Option Used) → List ℕ → ℕ → ℕ → Type 0
NoneBetween us order low high = (k : ℕ) → low ≤ k → k < high → HasNoMate us order k

-- the first of these places whose segment has one
pub record IsFirstBetween (us : List (Option Used)) (order : List ℕ) (low high : ℕ) (c : Choice) : Type 0 where
  pub in_range : c.bucket < bucket_count
  pub stands : in_bucket us c.bucket (number_at order c.from) ≡ true
  pub qualifying : IsTrue (qualifies_in us (drop c.from order) c.bucket)
  pub behind : low ≤ c.from
  pub before : c.from < high
  pub first : NoneBetween us order low c.from

-- a number put before another one
abbrev pub put_before : ℕ → ℕ → List ℕ → List ℕ
put_before next n [] = n ∷ []
put_before next n (m ∷ later) = if m == next then n ∷ m ∷ later else m ∷ put_before next n later

-- a number moved up to directly before another one that stands behind it
abbrev pub moved_before : ℕ → ℕ → List ℕ → List ℕ
moved_before next n [] = []
moved_before next n (m ∷ later) = if m == n then put_before next n later else m ∷ moved_before next n later

-- what a chain has from a place on: nothing, its tail alone, or more, of which the first was opened
-- at a moment
abbrev pub rest_of : List (Option Used) → List ℕ → Rest
rest_of us [] = Nothing
rest_of us (n ∷ []) = Tail
rest_of us (n ∷ m ∷ numbers) = More (opened_in us n)

-- that with a segment in front of it that was opened at a moment
abbrev pub with_front : Rest → ℕ → Rest
with_front Nothing moment = Tail
with_front Tail moment = More moment
with_front (More next) moment = More moment

-- whether a segment of the bucket that was opened at a moment can become one with the first of them
abbrev pub has_mate : Rest → ℕ → ℕ → Bool
has_mate Nothing bucket moment = false
has_mate Tail bucket moment = false
has_mate (More next) bucket moment = (bucket == lasting) || (next == moment)

-- the table says what each chain has from a place of the order on
abbrev pub AreRests : List (Option Used) → List ℕ → List Rest → Type 0
AreRests us order rests =
    (b : ℕ) → b < bucket_count → slice_index_or rests b Nothing ≡ rest_of us (chain_in us order b)
