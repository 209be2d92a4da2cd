-- Keys that were found in a map, and where their entries stand.
use Rattle.std.specs.Prelude.{◌≡◌, Bool, List, ℕ, map, IsSome, All}
use Rattle.std.specs.FinMap as finite
use Rattle.proto.specs.Commands.{hits_of}
use Rattle.engine.specs.declared.showing.Found.{Found}
use Rattle.engine.specs.Members.{MapOf}

-- the keys of what was found
abbrev pub keys_found : {P : Type 0} → List (Found P) → List (List ℕ)
keys_found found = map (λ f. f.key.now) found

-- the key is there, and its entry stands at the place
pub record IsFound {M P S : Type 0} (m : MapOf M P S) (entries : M) (f : Found P) : Type 0 where
  pub there : IsSome (finite.get (m.entries entries) f.key.now)
  pub stands : m.stands entries f.key.now f.place

abbrev pub AreFound : {M P S : Type 0} → MapOf M P S → M → List (Found P) → Type 0
AreFound m entries found = All (IsFound m entries) found

-- what was found is there, and has the hits of the keys
pub record HasFound {M P S : Type 0} (m : MapOf M P S) (with_cas : Bool) (entries : M) (keys : List (List ℕ))
    (found : List (Found P)) : Type 0 where
  pub are_found : AreFound m entries found
  pub hits : hits_of with_cas (m.entries entries) (keys_found found) ≡ hits_of with_cas (m.entries entries) keys
