-- The rule of the oldest: chains take turns, each with its front, and what it notes to find the
-- next one.
use Rattle.std.specs.Prelude.{◌≡◌, ℕ, ◌+◌, ◌-◌, ◌<◌, ◌%◌, List, [], ◌∷◌, slice_index_or, if◌then◌else◌, Option, IsTrue, IsFalse}
use Rattle.segments.specs.declared.rules.oldest.Start.{Start}
use Rattle.segments.specs.declared.rules.oldest.Start.TheVariants.{Empty, One, Apart, Pair, Mergeable}
use Rattle.segments.specs.Pools.{bucket_count, Used, chain_in}
use Rattle.segments.specs.Chains.{opened_in, go_together, qualifies_in}

-- how far the bucket is from the cursor, upward and after the last from the first on
abbrev pub bucket_distance : ℕ → ℕ → ℕ
bucket_distance cursor bucket = (bucket + bucket_count - cursor) % bucket_count

-- the first bucket from the cursor on whose chain can be merged
pub record IsNextIn (us : List (Option Used)) (order : List ℕ) (cursor bucket : ℕ) : Type 0 where
  pub in_range : bucket < bucket_count
  pub qualifying : IsTrue (qualifies_in us order bucket)
  pub first : (b : ℕ) → b < bucket_count → bucket_distance cursor b < bucket_distance cursor bucket
      → IsFalse (qualifies_in us order b)

abbrev pub NoneIn : List (Option Used) → List ℕ → Type 0
NoneIn us order = (b : ℕ) → b < bucket_count → IsFalse (qualifies_in us order b)

-- how a chain of these segments starts
abbrev pub start_of : List (Option Used) → ℕ → List ℕ → Start
start_of us bucket [] = Empty
start_of us bucket (n ∷ []) = One (opened_in us n)
start_of us bucket (n ∷ m ∷ []) = if go_together us bucket n m then Pair else Apart
start_of us bucket (n ∷ m ∷ k ∷ numbers) = if go_together us bucket n m then Mergeable else Apart

-- the table says how each chain starts
abbrev pub AreStarts : List (Option Used) → List ℕ → List Start → Type 0
AreStarts us order starts =
    (b : ℕ) → b < bucket_count → slice_index_or starts b Empty ≡ start_of us b (chain_in us order b)
