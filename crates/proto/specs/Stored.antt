-- The items that requests store: how many bytes in all, and in how many buckets.
use Rattle.std.specs.Prelude.{ℕ, ◌+◌, Bool, true, false, List, [], ◌∷◌, length, map, ◌==◌, if◌then◌else◌, Option, Some, None, sum_by}
use Rattle.std.specs.List.{list_any}
use Rattle.std.specs.FinMap as finite
use Rattle.proto.specs.declared.message.Reply.{Reply}
use Rattle.proto.specs.declared.message.Reply.TheVariants.{NoMemory}
use Rattle.proto.specs.Sizes.{item_size}
use Rattle.proto.specs.Cache.{Entry}
use Rattle.proto.specs.Commands.{Outcome}
use Rattle.proto.specs.Buckets.{time_to_live, bucket_of}

-- an item that was stored: its size, and the bucket of the time to live that it asks for
pub record StoredItem : Type 0 where
  pub size : ℕ
  pub bucket : ℕ

-- the item that keeps the entry at the key, as a list of one, or no item
abbrev pub stored_item_of : ℕ → List ℕ → Option Entry → List StoredItem
stored_item_of t key None = []
stored_item_of t key (Some e) =
    record { size = item_size (length key) (length e.value); bucket = bucket_of (time_to_live e.deadline t) } ∷ []

-- the item under the key that was stored
abbrev pub item_stored : ℕ → Outcome → Option (List ℕ) → List StoredItem
item_stored t done None = []
item_stored t done (Some key) = stored_item_of t key (finite.get done.entries key)

abbrev pub is_no_memory : Reply → Bool
is_no_memory NoMemory = true
is_no_memory _ = false

-- how many different numbers there are
abbrev pub different : List ℕ → ℕ
different [] = 0
different (n ∷ ns) = if list_any (λ m. m == n) ns then different ns else 1 + different ns

-- the sizes of the items in sum
abbrev pub written : List StoredItem → ℕ
written items = sum_by (λ i. i.size) items

-- the number of different buckets among them
abbrev pub spread : List StoredItem → ℕ
spread items = different (map (λ i. i.bucket) items)
