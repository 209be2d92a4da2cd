-- How a probe of the server begins.
use Rattle.std.specs.Prelude.{ℕ, List, Bool, codes, ◌==◌, ◌||◌}
use Rattle.std.specs.List.{starts_with}

-- the bytes begin with the text
abbrev pub begins_as : List ℕ → List ℕ → Bool
begins_as text bytes = starts_with (λ a b. a == b) bytes text

-- the bytes begin as the health check that any dialect answers, or as what monitors ask
abbrev pub is_probe : List ℕ → Bool
is_probe bytes =
    begins_as (codes "get health") bytes || begins_as (codes "version") bytes || begins_as (codes "stats") bytes
