-- Which reads are counted, and what stays alike.
use Rattle.std.specs.Prelude.{◌≡◌, ℕ, List, [], ◌∷◌, map}
use Rattle.proto.specs.declared.hits.Hit.{Hit}
use Rattle.proto.specs.declared.message.Reply.{Reply}
use Rattle.proto.specs.declared.message.Reply.TheVariants.{Values}

-- a read of each of the keys, one after the other
abbrev pub CountsEach : {M : Type 0} → (M → List ℕ → M → Type 0) → M → List (List ℕ) → M → Type 0
CountsEach reads old [] new = new ≡ old
CountsEach reads old (key ∷ keys) new = (next : _) × reads old key next × CountsEach reads next keys new

abbrev pub keys_of : List Hit → List (List ℕ)
keys_of hits = map (λ (h : Hit). h.key) hits

-- what was alike with the old map is alike with the new one
abbrev pub StaysAlike : {M : Type 0} → (M → M → Type 0) → M → M → Type 0
StaysAlike alike old new = (first : _) → alike first old → alike first new

-- one read of each hit that is shown, in order; where the reply shows none, the map stays alike
abbrev pub CountsShown : {M : Type 0} → (M → List ℕ → M → Type 0) → (M → M → Type 0) → M → Reply → M → Type 0
CountsShown reads alike old (Values hits) new = CountsEach reads old (keys_of hits) new
CountsShown reads alike old _ new = StaysAlike alike old new
