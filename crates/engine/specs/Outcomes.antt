-- What a request does, and whether it needs memory.
use Rattle.std.specs.Prelude.{ℕ, Bool, ◌||◌, ◌&&◌, is_some}
use Rattle.proto.specs.declared.message.Request.{Request}
use Rattle.proto.specs.Sizes.{Sizes, item_limit}
use Rattle.proto.specs.Cache.{Cache, found_at}
use Rattle.proto.specs.Commands.{Outcome, act}
use Rattle.proto.specs.Steps.{has_hits}

abbrev pub outcome_at : Sizes → Cache → ℕ → Request → Outcome
outcome_at sizes before t q = act (item_limit sizes) (found_at before t) t q

-- Whether the outcome needs memory: an item is stored, where writes may want some, or a hit is
-- shown. Nothing else does: not `delete` nor `flush_all`, no look-up that finds nothing, no write
-- that has expired already, and no refusal.
abbrev pub needs_memory : Bool → Outcome → Bool
needs_memory may_refuse done = (may_refuse && is_some done.stored) || has_hits done.reply
