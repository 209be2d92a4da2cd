-- Deadlines that items have of their own.
use Rattle.std.specs.Prelude.{ℕ, Bool, nat_le, nat_lt, if◌then◌else◌, Option, Some, None}

-- the deadline asked for, if an item can have it as its own, in six bytes; else 0
abbrev pub storable_or_zero : Option ℕ → ℕ
storable_or_zero None = 0
storable_or_zero (Some deadline) = if nat_lt deadline 281474976710656 then deadline else 0

-- the deadline of its own that an item gets, which asks for one, where items have their own; else 0
abbrev pub own_deadline_by : Bool → Option ℕ → ℕ
own_deadline_by exact asked = if exact then storable_or_zero asked else 0

-- Whether an item may expire at the moment t in a segment with this deadline: from that on. Where
-- items have deadlines of their own, and the segment has none, one may at any moment.
abbrev pub may_expire : Bool → Option ℕ → ℕ → Bool
may_expire exact None t = exact
may_expire exact (Some shared) t = nat_le shared t
