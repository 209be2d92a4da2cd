-- Chains: their fronts, of which segments become one by either rule, and what is behind.
use Rattle.std.specs.Prelude.{ℕ, Bool, ◌||◌, List, [], ◌∷◌, length, take, drop, take_while, nat_le, ◌==◌, slice_index_or}
use Rattle.std.specs.Prelude.{if◌then◌else◌, Option, None}
use Rattle.std.specs.Option.{option_map_or}
use Rattle.segments.specs.declared.merge.Choice.{Choice}
use Rattle.segments.specs.Pools.{lasting, PoolState, Used, segment_at, chain_in}

-- the moment at which a segment was opened
abbrev pub opened_in : List (Option Used) → ℕ → ℕ
opened_in us n = option_map_or (λ s. s.opened) (slice_index_or us n None) 0

abbrev pub opened_at : PoolState → ℕ → ℕ
opened_at p n = opened_in p.segments n

-- whether two segments of a bucket have one opening moment, or have items with no deadline
abbrev pub go_together : List (Option Used) → ℕ → ℕ → ℕ → Bool
go_together us bucket n m = (bucket == lasting) || (opened_in us m == opened_in us n)

-- of a chain all but the tail, and of a bucket with deadlines only the first ones of one opening
-- moment
abbrev pub front_of : List (Option Used) → ℕ → List ℕ → List ℕ
front_of us bucket [] = []
front_of us bucket (first ∷ rest) =
    let untailed = take (length rest) (first ∷ rest) in
    if bucket == lasting then untailed else take_while (λ n. opened_in us n == opened_in us first) untailed

abbrev pub front_in : List (Option Used) → List ℕ → ℕ → List ℕ
front_in us order bucket = front_of us bucket (chain_in us order bucket)

-- the chain of a choice: that of its bucket from its place of the order on
abbrev pub chain_of : PoolState → Choice → List ℕ
chain_of p c = chain_in p.segments (drop c.from p.order) c.bucket

abbrev pub front : PoolState → Choice → List ℕ
front p c = front_of p.segments c.bucket (chain_of p c)

-- a chain can be merged where its front has two segments
abbrev pub qualifies_in : List (Option Used) → List ℕ → ℕ → Bool
qualifies_in us order bucket = nat_le 2 (length (front_in us order bucket))

abbrev pub qualifies : PoolState → Choice → Bool
qualifies p c = nat_le 2 (length (front p c))

-- the number that stands at a place of the order
abbrev pub number_at : List ℕ → ℕ → ℕ
number_at order k = slice_index_or order k 0

-- the segment of a chain that follows its front: the first that can't become one with those of the
-- front, or the tail
abbrev pub behind_front : List (Option Used) → ℕ → List ℕ → ℕ
behind_front us bucket chain = number_at chain (length (front_of us bucket chain))

abbrev pub bucket_in : PoolState → ℕ → ℕ
bucket_in p n = option_map_or (λ s. s.bucket) (segment_at p n) lasting
