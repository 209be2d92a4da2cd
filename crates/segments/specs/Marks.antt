-- Marks at places, one for each 32 bytes of each segment.
use Rattle.std.specs.Prelude.{◌≡◌, ℕ, ◌+◌, ◌/◌, ◌<◌, ◌≤◌, Bool, true, false, ◌&&◌, List, [], ◌∷◌, length, ◌==◌}
use Rattle.std.specs.Prelude.{if◌then◌else◌, replicate, slice_index_or, slice_set, Option, Some, None, All}
use Rattle.std.specs.List.{fold, list_any}
use Rattle.proto.specs.Sizes.{Sizes}
use Rattle.segments.specs.declared.place.Place.{Place}
use Rattle.segments.specs.declared.place.Move.{Move}
use Rattle.segments.specs.Pools.{PoolState, IsPool, Liveness, standing}

-- how many marks are set
abbrev pub mark_count : List Bool → ℕ
mark_count [] = 0
mark_count (b ∷ bs) = (if b then 1 else 0) + mark_count bs

-- the count is that of the marks, of which there are not too many
pub record AreMarksCounted (count : ℕ) (marks : List Bool) : Type 0 where
  pub counted : count ≡ mark_count marks
  pub few : length marks ≤ 32768

-- the sizes of the pool, and for each segment its marks
pub record Marks : Type 0 where
  pub sizes : Sizes
  pub rows : List (List Bool)

unfoldable pub no_marks : Sizes → Marks
no_marks sizes = record { sizes = sizes; rows = replicate sizes.segments (replicate (sizes.segment_size / 32) false) }

-- the place has a mark of its own
pub record IsWithin (sizes : Sizes) (place : Place) : Type 0 where
  pub segment : place.segment < sizes.segments
  pub offset : place.offset / 32 < sizes.segment_size / 32

abbrev pub row_of : Marks → ℕ → List Bool
row_of t n = slice_index_or t.rows n []

abbrev pub mark_at : Marks → ℕ → ℕ → Bool
mark_at t n k = slice_index_or (row_of t n) k false

-- whether a place has the mark k of the segment n
abbrev pub is_mark_of : Place → ℕ → ℕ → Bool
is_mark_of place n k = (n == place.segment) && (k == place.offset / 32)

abbrev pub is_marked : Marks → Place → Bool
is_marked t place = mark_at t place.segment (place.offset / 32)

abbrev pub with_mark : Bool → Marks → Place → Marks
with_mark b t place = record t {
  rows = slice_set t.rows place.segment
      (slice_set (row_of t place.segment) (place.offset / 32) b);
}

abbrev pub without_marks : Marks → ℕ → Marks
without_marks t n = record t { rows = slice_set t.rows n (replicate (length (row_of t n)) false) }

-- the sources' marks are taken away, and then the targets' marks set
abbrev pub unmarked_sources : Marks → List Move → Marks
unmarked_sources t moves = fold (λ u m. with_mark false u m.source) t moves

abbrev pub mark_target : Marks → Option Place → Marks
mark_target t None = t
mark_target t (Some place) = with_mark true t place

abbrev pub marked_targets : Marks → List Move → Marks
marked_targets t moves = fold (λ u m. mark_target u m.target) t moves

abbrev pub carried_marks : Marks → List Move → Marks
carried_marks t moves = marked_targets (unmarked_sources t moves) moves

-- which items are live: those at marked places
abbrev pub lives_by : Marks → Liveness
lives_by t place item deadline = is_marked t place

-- whether an item of the pool has the mark k of the segment n
abbrev pub has_mark : PoolState → ℕ → ℕ → Bool
has_mark p n k = list_any (λ s. s.place.offset / 32 == k) (standing p n)

-- each segment has as many marks as it has 32 bytes
pub record AreMarksSized (t : Marks) : Type 0 where
  pub count : length t.rows ≡ t.sizes.segments
  pub long : All (λ r. length r ≡ t.sizes.segment_size / 32) t.rows

-- each mark is that of an item
pub record KnowsPool (t : Marks) (p : PoolState) : Type 0 where
  pub pool : IsPool p
  pub sizes : t.sizes ≡ p.sizes
  pub sized : AreMarksSized t
  pub each : (n k : ℕ) → mark_at t n k ≡ true → has_mark p n k ≡ true
