-- A history that goes on with each entry as its request asks.
use Rattle.std.proofs.Common.{◌≡◌, Bool, true, List, [], ◌∷◌, ◌++◌, refl, sym, subst, ◌∙◌}
use Rattle.proto.specs.declared.history.Answered.{Answered}
use Rattle.proto.specs.Sizes.{Sizes}
use Rattle.proto.specs.Cache.{Cache, empty_cache}
use Rattle.engine.specs.Deadlines.{IsExactStep}
use Rattle.engine.proofs.ReachingLemmas.{IsDoneBy, chain_more, last_more}
use Rattle.storage_thread.specs.Deadlines.{LeadsAsAsked}

-- before the first request
pub dated_first : (sizes : Sizes) (h : List Answered) (cache : Cache) (exact : Bool) → h ≡ [] → cache ≡ empty_cache 0
    → exact ≡ true → LeadsAsAsked sizes h cache exact
dated_first sizes h cache exact none is on =
    subst (λ (z : List Answered × Cache). LeadsAsAsked sizes z.0 z.1 exact) (λ i. (sym none i, sym is i))
    record { goes_on = on; caches = []; chain = tt; cache_is = refl }

-- one more request
pub dated_more : (sizes : Sizes) (h : List Answered) (c after : Cache) (e : Answered) (old new : Bool)
    → LeadsAsAsked sizes h c old → new ≡ old → (old ≡ true → IsDoneBy (IsExactStep sizes) c e after)
    → LeadsAsAsked sizes (h ++ e ∷ []) after new
dated_more sizes h c after e old new l same stores = record {
  goes_on = same ∙ l.goes_on;
  caches = l.caches ++ after ∷ [];
  chain = chain_more (IsExactStep sizes) (empty_cache 0) h l.caches e after l.chain
      (subst (λ (z : Cache). IsDoneBy (IsExactStep sizes) z e after) (sym l.cache_is) (stores l.goes_on));
  cache_is = last_more (empty_cache 0) l.caches after;
}
