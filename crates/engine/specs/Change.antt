-- What `incr` and `decr` do to a number, and `append` and `prepend` to a value.
use Rattle.std.specs.Prelude.{ℕ, ◌+◌, ◌-◌, ◌%◌, ◌^◌, Bool, true, false, List, ◌++◌}
use Rattle.engine.specs.declared.number.Change.{Change}
use Rattle.engine.specs.declared.number.Change.TheVariants.{Add, Subtract}

-- a sum begins again at 0 after the greatest 64-bit number, and a difference stops at 0
abbrev pub changed_by : Change → ℕ → ℕ
changed_by (Add amount) n = (n + amount) % 2 ^ 64
changed_by (Subtract amount) n = n - amount

-- the bytes behind a value, or before it
abbrev pub joined_by : Bool → List ℕ → List ℕ → List ℕ
joined_by true more value = value ++ more
joined_by false more value = more ++ value
