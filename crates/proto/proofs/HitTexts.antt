-- The text of hits.
use Rattle.std.proofs.Common.{◌+◌, ◌<◌, ◌++◌, length-append, ◌≡◌, ◌≤◌, List, [], ◌∷◌, length, refl, arith}
use Rattle.std.specs.List.{flat_map}
use Rattle.proto.specs.declared.hits.Hit.{Hit}
use Rattle.proto.specs.Hits.{hit_bytes}

-- only no hits have no text
pub no_text : (hits : List Hit) → length (flat_map hit_bytes hits) ≡ 0 → hits ≡ []
no_text [] e = refl
no_text (h ∷ hits) e = absurd (omega (arith, e))

-- there are no more hits than bytes of their text
pub few_hits : (hits : List Hit) → length hits ≤ length (flat_map hit_bytes hits)
few_hits [] = omega arith
few_hits (h ∷ hits) =
    let few = few_hits hits in
    let some : 0 < length (hit_bytes h) = omega arith in
    let both : length (hit_bytes h ++ flat_map hit_bytes hits) ≡ length (hit_bytes h) + length (flat_map hit_bytes hits) =
    length-append (hit_bytes h) (flat_map hit_bytes hits) in
    omega (arith, few, some, both)
