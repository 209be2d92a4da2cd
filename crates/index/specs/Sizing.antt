-- How many slots an index has.
use Rattle.std.specs.Prelude.{ℕ, ◌*◌, ◌/◌}
use Rattle.proto.specs.Sizes.{Sizes}

-- as many items as stand in a pool of these sizes at most, since an item has at least 32 bytes
abbrev pub most_items : Sizes → ℕ
most_items sizes = sizes.segments * (sizes.segment_size / 32)
