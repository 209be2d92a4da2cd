-- The rules of eviction: what each of them says. What only one of them speaks of stands in its own
-- file.
use Rattle.std.specs.Prelude.{◌≡◌, ℕ, ◌≤◌, Bool, true, false, ◌==◌, List, [], take, if◌then◌else◌, Option, Some}
use Rattle.proto.specs.declared.eviction.Eviction.{Eviction}
use Rattle.proto.specs.declared.eviction.Eviction.TheVariants.{Oldest, LeastRead}
use Rattle.segments.specs.declared.merge.Choice.{Choice}
use Rattle.segments.specs.Hits.{HitCounts, IsFewest}
use Rattle.segments.specs.Pools.{lasting, PoolState, Used, oldest}
use Rattle.segments.specs.Chains.{opened_at, bucket_in}
use Rattle.segments.specs.OldestRule.{IsNextIn, NoneIn}
use Rattle.segments.specs.LeastReadRule.{rounded_moment, NoneBetween, IsFirstBetween, moved_before, look_count}

-- the opening moment of a segment that is opened for a write at the moment t: by the rule of the
-- oldest t itself, by that of the least read t rounded down
abbrev pub opening_moment : Eviction → ℕ → ℕ → ℕ
opening_moment Oldest bucket t = t
opening_moment LeastRead bucket t = rounded_moment bucket t

-- whether a rule lets an item go over the one of its key; both do where items have deadlines of
-- their own
abbrev pub goes_over_by : Eviction → Bool → Bool
goes_over_by Oldest exact = exact
goes_over_by LeastRead exact = true

-- whether items with deadlines of their own stand in the chain of those without one, whatever their
-- times to live: by the rule of the least read, where items have such deadlines
abbrev pub shares_one_chain : Eviction → Bool → Bool
shares_one_chain Oldest exact = false
shares_one_chain LeastRead exact = exact

-- what a rule merges next: of the first chain from the cursor on that can be merged its front; or
-- of the places looked at the first whose segment has a mate
abbrev pub IsNextBy : Eviction → List (Option Used) → List ℕ → ℕ → ℕ → Choice → Type 0
IsNextBy Oldest us order cursor looked c = (c.from ≡ 0) × IsNextIn us order cursor c.bucket
IsNextBy LeastRead us order cursor looked c = IsFirstBetween us order 0 looked c

-- it merges nothing
abbrev pub NoneBy : Eviction → List (Option Used) → List ℕ → ℕ → Type 0
NoneBy Oldest us order looked = NoneIn us order
NoneBy LeastRead us order looked = NoneBetween us order 0 looked

-- the most segments of a bucket that a rule merges into one
abbrev pub most_merged : Eviction → ℕ → ℕ
most_merged Oldest bucket = 4
most_merged LeastRead bucket = if bucket == lasting then 2 else 3

-- where a rule lets the segment stand that a merge fills: in its place, or directly before the one
-- behind the front
abbrev pub order_by : Eviction → ℕ → ℕ → List ℕ → List ℕ
order_by Oldest next n order = order
order_by LeastRead next n order = moved_before next n order

-- The one segment's opening moment is no later than the other's, which stands behind it: by the
-- rule of the oldest always, by that of the least read where both are of one bucket, whose items
-- have deadlines.
abbrev pub OpensNoLater : Eviction → PoolState → ℕ → ℕ → Type 0
OpensNoLater Oldest p n m = opened_at p n ≤ opened_at p m
OpensNoLater LeastRead p n m =
    bucket_in p n ≡ bucket_in p m → (bucket_in p n == lasting) ≡ false → opened_at p n ≤ opened_at p m

-- the segment that is evicted: the one that was opened first, or of those at the places looked at
-- the one with the fewest hits
abbrev pub IsVictimOf : Eviction → ℕ → List ℕ → HitCounts → ℕ → Type 0
IsVictimOf Oldest looked order hits n = oldest order ≡ Some n
IsVictimOf LeastRead looked order hits n = IsFewest hits (take looked order) n

abbrev pub IsVictimBy : Eviction → PoolState → ℕ → Type 0
IsVictimBy e p n = IsVictimOf e (look_count p) p.order p.hits n

-- none stands where the rule looks for it
abbrev pub NoVictimOf : Eviction → ℕ → List ℕ → Type 0
NoVictimOf Oldest looked order = order ≡ []
NoVictimOf LeastRead looked order = take looked order ≡ []
