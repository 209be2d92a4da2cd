-- Histories in which each entry has the deadline that was asked for.
use Rattle.std.specs.Prelude.{◌≡◌, Bool, true, List}
use Rattle.proto.specs.declared.history.Answered.{Answered}
use Rattle.proto.specs.Sizes.{Sizes}
use Rattle.proto.specs.Cache.{Cache, empty_cache}
use Rattle.proto.specs.History.{Chain}
use Rattle.engine.specs.Deadlines.{IsExactStep}
use Rattle.engine.specs.Reaching.{last_cache}

-- A chain of steps that store entries as asked leads through the history to this cache, over a
-- store that goes on so.
pub record LeadsAsAsked (sizes : Sizes) (history : List Answered) (cache : Cache) (exact : Bool) : Type 0 where
  pub goes_on : exact ≡ true
  pub caches : List Cache
  pub chain : Chain (IsExactStep sizes) (empty_cache 0) history caches
  pub cache_is : last_cache (empty_cache 0) caches ≡ cache
