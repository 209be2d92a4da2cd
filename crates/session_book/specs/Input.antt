-- The unread bytes of a session, and what they begin with.
use Rattle.std.specs.Prelude.{◌≡◌, ℕ, ◌+◌, ◌-◌, ◌<◌, ◌≤◌, ◌⊎◌, List, [], ◌++◌, length, take, drop, max, nat_lt, if◌then◌else◌}
use Rattle.std.specs.Prelude.{Option, IfSome, Result, Ok, Err}
use Rattle.proto.specs.declared.dialect.Dialect.{Dialect}
use Rattle.proto.specs.declared.message.Message.{Message}
use Rattle.proto.specs.declared.message.Message.TheVariants.{Ask}
use Rattle.proto.specs.declared.no_memory.NoMemory.{NoMemory}
use Rattle.proto.specs.Grammar.{most_kept, Spells}
use Rattle.proto.specs.Needs.{IsUnfinished}
use Rattle.session_book.specs.declared.input.Found.{Found}
use Rattle.session_book.specs.declared.input.Found.TheVariants as found

-- the dialect of the lines, the bytes, and how many there have to be before the parser is asked
-- again
pub record InputState : Type 0 where
  pub dialect : Dialect
  pub unread : List ℕ
  pub need : ℕ

-- the most unread bytes of a session that are kept: 262,144, but where its next message is kept and
-- needs more than 196,608, 65,536 more than that needs
abbrev pub max_unread : Dialect → ℕ → ℕ
max_unread d need = if nat_lt (most_kept d) need then 262144 else max 262144 (need + 65536)

-- How many of the unread bytes are kept. If more are needed than a message has that is kept, the
-- bytes of one that is too large are dropped as they come: then those behind it.
abbrev pub kept_length : Dialect → List ℕ → ℕ → ℕ
kept_length d unread need = if nat_lt (most_kept d) need then length unread - need else length unread

-- The bytes gone are the first of this message, and nothing is kept before all of these have come.
pub record IsDropping (d : Dialect) (gone kept : List ℕ) (need : ℕ) (m : Message) : Type 0 where
  pub large : most_kept d < need
  pub within : length gone ≤ need
  pub nothing_kept : length gone < need → kept ≡ []
  pub spells : (more : List ℕ) → length (gone ++ more) ≡ need → Spells d (gone ++ more) m

-- bytes are dropped, or none are
abbrev pub MayDrop : Dialect → List ℕ → List ℕ → ℕ → Message → Type 0
MayDrop d gone kept need m = IsDropping d gone kept need m ⊎ ((need ≤ most_kept d) × (gone ≡ []))

-- the first n bytes spell the message
pub record Begins (i : InputState) (m : Message) (n : ℕ) : Type 0 where
  pub within : n ≤ length i.unread
  pub spells : Spells i.dialect (take n i.unread) m

-- if a message is held, as many of the unread bytes as are held with it spell it
pub record HoldsMessage (d : Dialect) (unread : List ℕ) (held : Option (Message × ℕ)) : Type 0 where
  pub spells : IfSome held (λ (h : Message × ℕ). (h.1 ≤ length unread) × Spells d (take h.1 unread) h.0)

-- the first n bytes, which spell the message, are taken away
pub record Takes (before : InputState) (m : Message) (n : ℕ) (after : InputState) : Type 0 where
  pub begins : Begins before m n
  pub taken : after ≡ record before { unread = drop n before.unread; need = 1 }

-- A message is found, which may be taken, or none is there yet and more bytes are needed; or there
-- was no memory for its copy.
abbrev pub Finds : InputState → Result Found NoMemory → InputState → Type 0
Finds before (Ok (found.Copied m n)) after = Begins before m n × (after ≡ before)
Finds before (Ok (found.Taken q quiet n)) after = Takes before (Ask q quiet) n after
Finds before (Ok found.Nothing) after =
    IsUnfinished before.dialect before.unread after.need × (after ≡ record before { need = after.need })
Finds before (Err e) after = after ≡ before
