-- Where a history leads, and the moments that a clock's answers give its requests.
use Rattle.std.specs.Prelude.{◌≡◌, ℕ, ◌≤◌, max, min, List, [], ◌∷◌, map}
use Rattle.proto.specs.declared.history.Answered.{Answered}
use Rattle.proto.specs.Sizes.{Sizes}
use Rattle.proto.specs.Cache.{Cache, empty_cache}
use Rattle.proto.specs.Steps.{Step}
use Rattle.proto.specs.Tallies.{no_counts, CountsFrom}
use Rattle.proto.specs.History.{max_moment, MomentsFrom, Chain, NumbersFrom, worker_share}

-- the moments of requests: each is the clock's answer, up to the greatest moment, or the moment
-- before where that is greater
abbrev pub moments_after : ℕ → List ℕ → List ℕ
moments_after last [] = []
moments_after last (answer ∷ answers) =
    let moment = max last (min answer max_moment) in moment ∷ moments_after moment answers

-- the last number of a list, or another one where it is empty
abbrev pub last_or : ℕ → List ℕ → ℕ
last_or n [] = n
last_or n (x ∷ xs) = last_or x xs

-- the last of the caches, or the one before them where there are none
abbrev pub last_cache : Cache → List Cache → Cache
last_cache before [] = before
last_cache before (after ∷ caches) = last_cache after caches

-- The history is legal, and leads from the empty cache to this cache and this moment.
pub record Reaches (sizes : Sizes) (history : List Answered) (cache : Cache) (moment : ℕ) : Type 0 where
  pub caches : List Cache
  pub chain : Chain (Step sizes) (empty_cache 0) history caches
  pub cache_is : last_cache (empty_cache 0) caches ≡ cache
  pub moments_are : MomentsFrom [] 0 history
  pub moment_is : last_or 0 (map (λ e. e.moment) history) ≡ moment
  pub small : moment ≤ max_moment
  pub numbers : (worker : ℕ) → NumbersFrom 1 (worker_share history worker)
  pub counts : CountsFrom no_counts history
