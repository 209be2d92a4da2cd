-- Places of keys that leave.
use Rattle.std.specs.Prelude.{◌≡◌, ◌≢◌, ℕ, Bool, true, false, List, Option, Some, None}
use Rattle.std.specs.FinMap as finite
use Rattle.segments.specs.declared.place.Place.{Place}
use Rattle.proto.specs.Cache.{has_arrived}
use Rattle.segments.specs.Items.{Item}
use Rattle.segments.specs.Pools.{PoolState, item_in, place_deadline}
use Rattle.segments.specs.Marks.{Marks, with_mark}
use Rattle.index.specs.Table.{Places}

-- exactly the keys with a place in the segment have left
pub record HasLeft (segment : ℕ) (old new : Places) : Type 0 where
  pub before : (key : List ℕ) (place : Place) → finite.get new key ≡ Some place → finite.get old key ≡ Some place
  pub elsewhere : (key : List ℕ) (place : Place) → finite.get new key ≡ Some place → place.segment ≢ segment
  pub others : (key : List ℕ) (place : Place) → finite.get old key ≡ Some place → place.segment ≢ segment
      → finite.get new key ≡ Some place

-- exactly the keys have left with a place in the segment whose deadline is at or before the moment
-- t
pub record HaveArrivedLeft (p : PoolState) (t segment : ℕ) (old new : Places) : Type 0 where
  pub before : (key : List ℕ) (place : Place) → finite.get new key ≡ Some place → finite.get old key ≡ Some place
  pub waiting : (key : List ℕ) (place : Place) → finite.get new key ≡ Some place → place.segment ≡ segment
      → has_arrived (place_deadline p place) t ≡ false
  pub others : (key : List ℕ) (place : Place) → finite.get old key ≡ Some place
      → (place.segment ≡ segment → has_arrived (place_deadline p place) t ≡ false) → finite.get new key ≡ Some place

-- no item of a segment has a deadline at or before the moment t
abbrev pub AllWaitIn : PoolState → ℕ → ℕ → Type 0
AllWaitIn p t segment = (place : Place) (i : Item) → item_in p place ≡ Some i → place.segment ≡ segment
    → has_arrived (place_deadline p place) t ≡ false

-- exactly the keys have left with a place in one of these segments whose deadline is at or before
-- the moment t
pub record HaveExpiredLeft (p : PoolState) (t : ℕ) (among : ℕ → Bool) (old new : Places) : Type 0 where
  pub before : (key : List ℕ) (place : Place) → finite.get new key ≡ Some place → finite.get old key ≡ Some place
  pub waiting : (key : List ℕ) (place : Place) → finite.get new key ≡ Some place → among place.segment ≡ true
      → has_arrived (place_deadline p place) t ≡ false
  pub others : (key : List ℕ) (place : Place) → finite.get old key ≡ Some place
      → (among place.segment ≡ true → has_arrived (place_deadline p place) t ≡ false) → finite.get new key ≡ Some place

-- the marks where a place has one in place of another
abbrev pub marked_instead : Marks → Option Place → Place → Marks
marked_instead t None place = with_mark true t place
marked_instead t (Some source) place = with_mark true (with_mark false t source) place
