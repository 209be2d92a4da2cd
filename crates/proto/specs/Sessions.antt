-- How many sessions a worker opens in a run.
use Rattle.std.specs.Prelude.{ℕ}
use Rattle.proto.specs.declared.dialect.Dialect.{Dialect}
use Rattle.proto.specs.declared.dialect.Dialect.TheVariants.{Strict, Lenient}

-- the most sessions that a worker opens in a run: 2^24, and leniently 2^62
abbrev pub most_sessions : Dialect → ℕ
most_sessions Strict = 16777216
most_sessions (Lenient limit) = 4611686018427387904
