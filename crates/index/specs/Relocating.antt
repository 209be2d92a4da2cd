-- Tables whose places moved or were forgotten, many at once.
use Rattle.std.specs.Prelude.{◌≡◌, ◌≢◌, ℕ, ⊤, true, false, List, [], ◌∷◌, Option, Some, None, if◌then◌else◌, option_and_then, All}
use Rattle.std.specs.Prelude.{IfSome, IsSome, is_some, not, ◌&&◌}
use Rattle.std.specs.List.{list_any}
use Rattle.std.specs.Option.{option_map_or}
use Rattle.segments.specs.declared.place.Place.{Place}
use Rattle.segments.specs.declared.place.Move.{Move}
use Rattle.segments.specs.Items.{Item}
use Rattle.segments.specs.Pools.{PoolState, Liveness, item_in, place_deadline}
use Rattle.segments.specs.Merges.{carried_out}
use Rattle.segments.specs.Places.{same_place}
use Rattle.index.specs.Keys.{KeysOf}
use Rattle.segments.specs.Pools.{key_at}
use Rattle.index.specs.Layouts.{IsInLayout}
use Rattle.index.specs.Table.{Table, IsIndex, HasPlace, place_at}

-- each place of the old table went where `to` says, or was forgotten, and no other key has a place
pub record IsRelocated (before after : KeysOf) (to : Place → Option Place) (old new : Table) : Type 0 where
  pub index : IsIndex after new
  pub places : (key : List ℕ) → place_at after new key ≡ option_and_then to (place_at before old key)

-- one place is forgotten
abbrev pub forget_place : Place → Place → Option Place
forget_place place p = if same_place place p then None else Some p

-- no move starts where an earlier one started or put its item
abbrev pub AreInTurn : List Move → Type 0
AreInTurn [] = ⊤
AreInTurn (m ∷ moves) = All (λ l. (m.source ≢ l.source) × (m.target ≢ Some l.source)) moves × AreInTurn moves

-- the places at which moves that forget their items start are forgotten
abbrev pub forget_lost : List Move → Place → Option Place
forget_lost moves p = if list_any (λ m. not (is_some m.target) && same_place m.source p) moves then None else Some p

-- the keys of the places after the merge that is planned
abbrev pub keys_after_merge : PoolState → KeysOf
keys_after_merge p = option_map_or (λ plan. key_at (carried_out p plan)) p.plan (key_at p)

-- Moves by which a table can be relocated: each that keeps its item starts at a place of the table,
-- and its target has the key of its source; no place of the table at which none starts gets another
-- key.
pub record CanRelocate (before after : KeysOf) (t : Table) (moves : List Move) : Type 0 where
  pub held : All (λ m. IsSome m.target → HasPlace t m.source) moves
  pub in_turn : AreInTurn moves
  pub moved : All (λ m. IfSome m.target (λ place. after place ≡ before m.source)) moves
  pub inside : All (λ m. IfSome m.target (IsInLayout t.layout)) moves
  pub others : (p : Place) → HasPlace t p → list_any (λ m. same_place m.source p) moves ≡ false → after p ≡ before p

-- the places of the table are those of the live items
pub record HoldsLive (lives : Liveness) (p : PoolState) (t : Table) : Type 0 where
  pub live : (q : Place) (i : Item) → HasPlace t q → item_in p q ≡ Some i → lives q i (place_deadline p q) ≡ true
  pub held : (q : Place) (i : Item) → item_in p q ≡ Some i → lives q i (place_deadline p q) ≡ true → HasPlace t q
