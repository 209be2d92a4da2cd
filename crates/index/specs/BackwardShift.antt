-- How a slot is emptied by backward shift: each place after it is still found.
use Rattle.std.specs.Prelude.{◌≡◌, ℕ, ◌+◌, List}
use Rattle.std.specs.FinMap as map
use Rattle.index.specs.declared.slots.Slot.{Slot}
use Rattle.index.specs.Keys.{KeysOf}
use Rattle.index.specs.Slots.{used_in}
use Rattle.index.specs.Table.{Hashing, AreIndexed, places_in}

-- the slots without the place of a key
pub record IsWithout (h : Hashing) (keys : KeysOf) (before after : List Slot) (key : List ℕ) : Type 0 where
  pub indexed : AreIndexed h keys after
  pub places_are : places_in keys after ≡ map.remove (places_in keys before) key
  pub count : used_in after + 1 ≡ used_in before
