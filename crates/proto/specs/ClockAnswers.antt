-- What a clock answered.
use Rattle.std.specs.Prelude.{◌≡◌, ℕ, ◌+◌, ◌-◌, ◌/◌, List, [], ◌∷◌, Option, Some}
use Rattle.std.specs.Option.{option_map_or}
use Rattle.std.specs.Time.{system_time_nanos, instant_nanos}
use Rattle.std.specs.declared.time.SystemTime.{SystemTime}
use Rattle.std.specs.declared.time.Instant.{Instant}
use Rattle.proto.specs.declared.logged_clock.ClockStart.{ClockStart}
use Rattle.proto.specs.declared.logged_clock.ClockReading.{ClockReading}

-- an answer in seconds, and the reading of the system's clock by which it was given, if it was
pub record GivenAnswer : Type 0 where
  pub seconds : ℕ
  pub read : List ClockReading

-- the whole seconds from 1970 to a reading of the system's Unix time, 0 where it couldn't be read
abbrev pub unix_seconds : Option SystemTime → ℕ
unix_seconds reading = option_map_or (λ (time : SystemTime). system_time_nanos time / 1000000000) reading 0

-- the whole seconds between two readings of the monotonic clock, 0 where one of them couldn't be
-- read
abbrev pub seconds_between : Option Instant → Option Instant → ℕ
seconds_between (Some first) (Some now) = (instant_nanos now - instant_nanos first) / 1000000000
seconds_between _ _ = 0

-- the Unix seconds of the start, and the whole seconds that the monotonic clock has counted since
abbrev pub seconds_since : ClockStart → Option Instant → ℕ
seconds_since start now =
    option_map_or (λ (time : SystemTime). system_time_nanos time / 1000000000) start.unix 0 + seconds_between start.monotonic now

-- the answer is the seconds of one reading of the system's clock, counted from this start
abbrev pub IsRead : ClockStart → GivenAnswer → Type 0
IsRead start answer =
    (now : Option Instant) × (answer.read ≡ record { start = start; now = now } ∷ []) × (answer.seconds ≡ seconds_since start now)

-- what was read off the system's clock: at the start, and since, None where it couldn't be read
pub record ClockLog : Type 0 where
  pub start : ClockStart
  pub readings : List (Option Instant)
