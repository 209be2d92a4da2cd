-- A store in which nothing was stored yet.
use Rattle.std.specs.Prelude.{◌≡◌, ℕ, Bool, []}
use Rattle.proto.specs.declared.dialect.Dialect.{Dialect}
use Rattle.proto.specs.declared.eviction.Eviction.{Eviction}
use Rattle.proto.specs.Sizes.{Sizes}
use Rattle.proto.specs.Cache.{empty_cache}
use Rattle.segcache.specs.StoreState.{Store, sizes_in, segmented_cache, last_moment}
use Rattle.segcache.specs.Keeping.{KeepsStored}
use Rattle.segcache.specs.Promises.{IsMadeFor}

-- It hashes this seed before each key, changes values in place or writes them anew, keeps the limit
-- of this dialect's answers, evicts by this rule, and its items have deadlines of their own or not.
pub record IsNewStore (sizes : Sizes) (seed : ℕ) (in_place : Bool) (d : Dialect) (eviction : Eviction) (exact : Bool) (store : Store)
    : Type 0 where
  pub sizes_are : sizes_in store ≡ sizes
  pub in_place_is : store.in_place ≡ in_place
  pub dialect_is : store.dialect ≡ d
  pub made : IsMadeFor sizes seed eviction exact store.map
  pub empty : segmented_cache store ≡ empty_cache 0
  pub moment : last_moment store ≡ 0
  pub keeps : KeepsStored store.map []
