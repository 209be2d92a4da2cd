-- How long an entry is there that was set with a time to live, or with none.
use Rattle.std.specs.Prelude.{◌≡◌, ℕ, ◌+◌, ◌*◌, ◌≤◌, min, pos, false, Some, None}
use Rattle.std.specs.FinMap as map
use Rattle.proto.specs.declared.message.Put.{Put}
use Rattle.proto.specs.declared.message.Request.TheVariants.{Set}
use Rattle.proto.specs.declared.message.Reply.TheVariants.{Stored}
use Rattle.proto.specs.Sizes.{Sizes}
use Rattle.proto.specs.Cache.{Entry, Entries, Cache, found_at, has_arrived, deadline_of}
use Rattle.proto.specs.Buckets.{life_width}
use Rattle.proto.specs.Steps.{Step}

-- what was put is there, with its value and flags
pub record HasPut (entries : Entries) (p : Put) : Type 0 where
  pub entry : Entry
  pub there : map.get entries p.key ≡ Some entry
  pub value : entry.value ≡ p.value
  pub flags : entry.flags ≡ p.flags

-- What was set at the moment t to live for some seconds is there at t, and at each later moment u
-- until at most two widths of its bucket before its life is over (a life above the longest is
-- promised as the longest); from the end of its life on it isn't. That is what a request at u
-- finds, where none came in between and no flush has come.
abbrev pub LivesItsTime : Type 0
LivesItsTime =
    (sizes : Sizes) (before after : Cache) (t life u : ℕ) (p : Put)
    → 1 ≤ life → deadline_of p.exptime t ≡ Some (t + life) → Step sizes t before (Set p) Stored after
    → has_arrived after.pending u ≡ false
    → (u ≡ t → HasPut (found_at after u).entries p)
    × (u + 2 * life_width life ≤ t + min life 8388608 → HasPut (found_at after u).entries p)
    × (t + life ≤ u → map.get (found_at after u).entries p.key ≡ None)

-- what was set with no deadline is there at each moment
abbrev pub LivesForGood : Type 0
LivesForGood =
    (sizes : Sizes) (before after : Cache) (t u : ℕ) (p : Put)
    → p.exptime ≡ pos 0 → Step sizes t before (Set p) Stored after → has_arrived after.pending u ≡ false
    → HasPut (found_at after u).entries p
