-- Reads that are counted one after the other.
use Rattle.std.proofs.Common.{ℕ, List, [], ◌∷◌, ◌++◌, refl, sym, subst}
use Rattle.std.proofs.lemmas.List.{map-append}
use Rattle.proto.specs.declared.hits.Hit.{Hit}
use Rattle.engine.specs.Counting.{CountsEach, keys_of}

-- one more read
counts_more : {M : Type 0} (reads : M → List ℕ → M → Type 0) (old : M) (keys : List (List ℕ)) (next : M) (key : List ℕ)
    (new : M)
    → CountsEach reads old keys next → reads next key new → CountsEach reads old (keys ++ key ∷ []) new
counts_more reads old [] next key new is read = (new, subst (λ m. reads m key new) is read, refl)
counts_more reads old (k ∷ keys) next key new is read = (is.0, is.1, counts_more reads is.0 keys next key new is.2 read)

-- one more hit, whose read was counted
pub counts_hit : {M : Type 0} (reads : M → List ℕ → M → Type 0) (old : M) (hits : List Hit) (next : M) (hit : Hit)
    (new : M)
    → CountsEach reads old (keys_of hits) next → reads next hit.key new
    → CountsEach reads old (keys_of (hits ++ hit ∷ [])) new
counts_hit reads old hits next hit new counted read =
    subst (λ (keys : List (List ℕ)). CountsEach reads old keys new)
    (sym (map-append (λ (h : Hit). h.key) hits (hit ∷ [])))
    (counts_more reads old (keys_of hits) next hit.key new counted read)
