-- Steps in which nothing is forgotten and each entry has exactly the deadline that it asks for.
use Rattle.std.specs.Prelude.{◌≡◌, ℕ, ◌⊎◌}
use Rattle.proto.specs.declared.message.Request.{Request}
use Rattle.proto.specs.declared.message.Reply.{Reply}
use Rattle.proto.specs.Sizes.{Sizes}
use Rattle.proto.specs.Cache.{Cache, found_at}
use Rattle.proto.specs.Commands.{Outcome, cache_of}
use Rattle.proto.specs.Steps.{IsRefused}
use Rattle.engine.specs.Outcomes.{outcome_at}
use Rattle.reference.specs.PlainState.{plain_sizes, plain_cache}
use Rattle.engine.specs.declared.commands.Engine.{Engine}
use Rattle.reference.specs.declared.plain_map.PlainMap.{PlainMap}

-- the reply and the cache are those of the outcome, and no others
pub record IsExact (done : Outcome) (reply : Reply) (after : Cache) : Type 0 where
  pub reply_is : reply ≡ done.reply
  pub cache_is : after ≡ cache_of done

-- a step of the cache that forgets nothing and gives the stored entry the deadline that it asks for
abbrev pub IsPlain : Sizes → Cache → ℕ → Request → Reply → Cache → Type 0
IsPlain sizes before t q reply after =
    let done = outcome_at sizes before t q in
    IsExact done reply after ⊎ IsRefused (found_at before t) done reply after

-- a plain store makes such a step
abbrev pub HandlesPlainly : Engine PlainMap → ℕ → Request → Reply → Engine PlainMap → Type 0
HandlesPlainly before t q reply after = IsPlain (plain_sizes before) (plain_cache before) t q reply (plain_cache after)
