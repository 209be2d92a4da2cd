-- How a plain map writes, and what a read of it, or a touch, leaves.
use Rattle.std.specs.Prelude.{◌≡◌, ℕ, Bool, true, false, ◌==◌, List, Option, Some, None}
use Rattle.std.specs.FinMap as map
use Rattle.proto.specs.Cache.{Entry}
use Rattle.reference.specs.declared.plain_map.PlainMap.{PlainMap}
use Rattle.reference.specs.PlainEntries.{plain_entries}

-- the entry as it is, and nothing forgotten
abbrev pub WritesPlainly : PlainMap → List ℕ → Entry → PlainMap → Type 0
WritesPlainly old key entry new = plain_entries new ≡ map.insert (plain_entries old) key entry

-- no read or touch is counted
abbrev pub ReadsPlainly : PlainMap → List ℕ → PlainMap → Type 0
ReadsPlainly old key new = new ≡ old

-- whether two deadlines are the same
abbrev pub same_deadline : Option ℕ → Option ℕ → Bool
same_deadline None None = true
same_deadline (Some asked) (Some given) = asked == given
same_deadline _ _ = false
