-- In which bucket a pool puts an item.
use Rattle.std.specs.Prelude.{ℕ, ◌&&◌, if◌then◌else◌, Option}
use Rattle.proto.specs.Buckets.{bucket_of, time_to_live}
use Rattle.engine.specs.Deadlines.{is_storable_deadline}
use Rattle.segments.specs.Pools.{PoolState, lasting}
use Rattle.segments.specs.Rules.{shares_one_chain}

-- One that asks for the deadline at the moment t goes to the bucket of its time to live. But where
-- all stand in one chain, and it can have that deadline as its own, it goes to the bucket of what
-- has no deadline.
abbrev pub bucket_for : PoolState → ℕ → Option ℕ → ℕ
bucket_for p t deadline =
    if shares_one_chain p.eviction p.exact && is_storable_deadline deadline then lasting
    else bucket_of (time_to_live deadline t)
