-- What is forgotten where room is made, and what an item that is written leaves.
use Rattle.std.specs.Prelude.{◌≡◌, ℕ, ◌≤◌, ◌⊎◌, Bool, true, List, [], Option, None}
use Rattle.std.specs.FinMap as finite
use Rattle.proto.specs.Sizes.{Sizes}
use Rattle.proto.specs.Cache.{Entries}
use Rattle.proto.specs.Buckets.{MayLive}
use Rattle.proto.specs.Steps.{without_keys, MayEvict}
use Rattle.segments.specs.Items.{Item}
use Rattle.segments.specs.Pools.{PoolState}
use Rattle.segments.specs.Places.{HasFree}
use Rattle.index.specs.Table.{Table}
use Rattle.segcache.specs.Shown.{current, shown_entries, kept_entry}
use Rattle.segcache.specs.Invariants.{IsPast}
use Rattle.engine.specs.Deadlines.{is_storable_deadline}

-- the entries were kept but for some that had to be forgotten
pub record AreKept (sizes : Sizes) (old new : Entries) : Type 0 where
  pub forgotten : List (List ℕ)
  pub evicted : (forgotten ≡ []) ⊎ MayEvict sizes old forgotten
  pub entries : new ≡ without_keys old forgotten

-- At the moment t no fewer entries are shown than there are segments.
pub record IsCrowded (p : PoolState) (index : Table) (t : ℕ) : Type 0 where
  pub past : IsPast p t
  pub many : p.sizes.segments ≤ finite.len (shown_entries p index t)

-- A segment is free at the moment t, no key came, and what isn't shown any more was forgotten.
pub record IsRoomMade (p : PoolState) (index : Table) (t : ℕ) (after : PoolState) (found : Table) : Type 0 where
  pub sizes : after.sizes ≡ p.sizes
  pub rule : after.eviction ≡ p.eviction
  pub exact : after.exact ≡ p.exact
  pub past : IsPast after t
  pub free : HasFree after
  pub absent : (key : List ℕ) → finite.get (current p index) key ≡ None → finite.get (current after found) key ≡ None
  pub kept : AreKept p.sizes (shown_entries p index t) (shown_entries after found t)

-- The item was written at the moment t with a deadline that it may get in place of the one asked
-- for, or with that, beside these other entries, of which some may have been forgotten.
pub record IsPutBeside (others : Entries) (s : Sizes) (exact : Bool) (t : ℕ) (i : Item) (asked : Option ℕ) (after : PoolState)
    (found : Table) : Type 0 where
  pub sizes : after.sizes ≡ s
  pub exact_is : after.exact ≡ exact
  pub past : IsPast after t
  pub deadline : Option ℕ
  pub may_live : MayLive t asked deadline
  pub exactly : exact ≡ true → is_storable_deadline asked ≡ true → deadline ≡ asked
  pub kept : Entries
  pub are_kept : AreKept s others kept
  pub entries : shown_entries after found t ≡ finite.insert kept i.key (kept_entry deadline i)

-- beside the entries before it
abbrev pub IsPut : PoolState → Table → ℕ → Item → Option ℕ → PoolState → Table → Type 0
IsPut p index t i asked after found = IsPutBeside (shown_entries p index t) p.sizes p.exact t i asked after found

-- in place of its key's
abbrev pub IsPutOver : PoolState → Table → ℕ → Item → Option ℕ → PoolState → Table → Type 0
IsPutOver p index t i asked after found =
    IsPutBeside (finite.remove (shown_entries p index t) i.key) p.sizes p.exact t i asked after found
