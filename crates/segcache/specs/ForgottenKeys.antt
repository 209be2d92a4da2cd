-- Which keys are forgotten where an item is written.
use mathlib.Core.Logic.{inl, inr}
use Rattle.std.specs.Prelude.{◌≡◌, ℕ, List, [], map, filter, not, Some}
use Rattle.std.specs.FinMap as finite
use Rattle.proto.specs.Steps.{without_keys}
use Rattle.segments.specs.declared.place.Place.{Place}
use Rattle.segments.specs.Items.{Item}
use Rattle.segments.specs.Pools.{PoolState, Liveness, live_standing}
use Rattle.segments.specs.Merges.{Evicts}
use Rattle.index.specs.Table.{Table}
use Rattle.segcache.specs.Shown.{current, shown_entries, entry_at}
use Rattle.segcache.specs.Allocation.{MakesRoom, IsWrittenTo}
use Rattle.segcache.specs.Allocation.MakesRoom.{has_room, gives_back, evicts}

-- the keys of the items that a merge doesn't keep, or of the live items of the segment that was
-- cleared
abbrev pub keys_evicted : (lives : Liveness) (p after : PoolState) → Evicts lives p after → List (List ℕ)
keys_evicted lives p after (inl m) = map (λ j. j.item.key) (filter (λ j. not j.is_kept) m.judged)
keys_evicted lives p after (inr c) = map (λ s. s.item.key) (live_standing lives p c.segment)

-- the keys that are forgotten for room: none where none is needed or some is given back
abbrev pub keys_forgotten : (lives : Liveness) (p : PoolState) (bucket t : ℕ) (i : Item) (after : PoolState)
    → MakesRoom lives p bucket t i after → List (List ℕ)
keys_forgotten lives p bucket t i _ (has_room room) = []
keys_forgotten lives p bucket t i _ (gives_back after full dead given) = []
keys_forgotten lives p bucket t i _ (evicts after full none evicted) = keys_evicted lives p after evicted

-- Something was evicted at the moment t, and of what was shown exactly its keys are forgotten.
pub record IsEvicted (lives : Liveness) (p : PoolState) (index : Table) (t : ℕ) (after : PoolState)
    (found : Table) : Type 0 where
  pub evicted : Evicts lives p after
  pub entries : shown_entries after found t
      ≡ without_keys (shown_entries p index t) (keys_evicted lives p after evicted)

-- Room was made for an item at the moment t, and of what was shown exactly the keys are forgotten
-- that had to be.
pub record HasMadeRoom (lives : Liveness) (p : PoolState) (index : Table) (bucket t : ℕ) (i : Item) (after : PoolState)
    (found : Table) : Type 0 where
  pub room : MakesRoom lives p bucket t i after
  pub entries : shown_entries after found t
      ≡ without_keys (shown_entries p index t) (keys_forgotten lives p bucket t i after room)

-- The item was written at the moment t and stands at its key's place; of what was shown exactly the
-- keys are forgotten that had to be.
pub record PlacesItem (lives : Liveness) (p : PoolState) (index : Table) (bucket t : ℕ) (i : Item) (after : PoolState)
    (found : Table) : Type 0 where
  pub place : Place
  pub stands : finite.get (current after found) i.key ≡ Some place
  pub written : IsWrittenTo lives p bucket t i after place
  pub entries : shown_entries after found t ≡
      finite.insert (without_keys (shown_entries p index t)
      (keys_forgotten lives p bucket t i written.roomy written.room))
      i.key (entry_at after place)
