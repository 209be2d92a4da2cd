-- The hits of some keys, the first one apart.
use Rattle.std.proofs.Common.{◌≡◌, ℕ, ◌+◌, ◌-◌, ◌<◌, ◌≤◌, Bool, List, [], ◌∷◌, ◌++◌, Some, None, refl, sym, ap, ◌∙◌}
use Rattle.std.proofs.Common.{◌^◌, Option, arith, append_assoc, length-append}
use Rattle.std.proofs.Common.{length, drop, get_or, add-one, drop-cons}
use Rattle.std.specs.Prelude.{sum_by, option_map, IsSome, if◌then◌else◌, codes, decimal}
use Rattle.std.specs.Option.{option_map_or}
use Rattle.std.proofs.lemmas.Fmt.{length-decimal-le}
use Rattle.std.specs.FinMap as map
use Rattle.std.proofs.lemmas.List.{map-append}
use Rattle.std.proofs.lemmas.List.Elements.{All-push, filter_map-append}
use Rattle.std.proofs.lemmas.List.Sums.{sum_by-append, sum_by-cons}
use Rattle.proto.specs.Hits.{hit_bytes, hit_room}
use Rattle.proto.specs.declared.hits.Hit.{Hit}
use Rattle.proto.specs.Cache.{Entry, Entries}
use Rattle.proto.specs.Commands.{hits_of}
use Rattle.engine.specs.declared.showing.Found.{Found}
use Rattle.engine.specs.Finding.{IsFound, AreFound, keys_found}
use Rattle.engine.specs.Members.{MapOf}

-- the hit of an entry at a key
abbrev pub hit_of : Bool → List ℕ → Entry → Hit
hit_of c key e = record { key = key; flags = e.flags; value = e.value; cas = if c then Some e.cas else None }

-- the first key is there
pub hits_there : (c : Bool) (m : Entries) (keys rest : List (List ℕ)) (key : List ℕ) (e : Entry) → keys ≡ key ∷ rest
    → Some e ≡ map.get m key
    → hits_of c m keys ≡ hit_of c key e ∷ hits_of c m rest
hits_there c m keys rest key e is there =
    let first : hits_of c m (key ∷ rest) ≡ hit_of c key e ∷ hits_of c m rest = rw (sym there) refl in
    ap (hits_of c m) is ∙ first

-- the hits of what was found, from one key on
pub found_there : {P : Type 0} (c : Bool) (m : Entries) (found : List (Found P)) (i : ℕ) (d : Found P) (e : Entry)
    → i < length found → Some e ≡ map.get m (get_or found i d).key.now
    → hits_of c m (keys_found (drop i found))
    ≡ hit_of c (get_or found i d).key.now e ∷ hits_of c m (keys_found (drop (i + 1) found))
found_there c m found i d e lt there =
    let cut : drop i found ≡ get_or found i d ∷ drop (i + 1) found = rw (add-one, drop-cons found i d) refl in
    hits_there c m (keys_found (drop i found)) (keys_found (drop (i + 1) found)) (get_or found i d).key.now e
    (ap keys_found cut) there

-- one more that was found is there too
pub found_more : {M P S : Type 0} (m : MapOf M P S) (entries : M) (found : List (Found P)) (f : Found P) (e : Entry)
    → AreFound m entries found → Some e ≡ map.get (m.entries entries) f.key.now → m.stands entries f.key.now f.place
    → AreFound m entries (found ++ f ∷ [])
found_more m entries found f e are there stands =
    let is : IsSome (map.get (m.entries entries) f.key.now) = rw (sym there) refl in
    All-push (IsFound m entries) found f are (record { there = is; stands = stands })

-- the hits of what was found, with one key more
pub hits_found_more : {P : Type 0} (c : Bool) (m : Entries) (found : List (Found P)) (f : Found P) (words rest : List (List ℕ))
    (e : Entry)
    → words ≡ f.key.now ∷ rest → Some e ≡ map.get m f.key.now
    → hits_of c m (keys_found (found ++ f ∷ [])) ++ hits_of c m rest ≡ hits_of c m (keys_found found) ++ hits_of c m words
hits_found_more c m found f words rest e is there =
    let hit = λ (key : List ℕ). option_map (hit_of c key) (map.get m key) in
    let keys : keys_found (found ++ f ∷ []) ≡ keys_found found ++ f.key.now ∷ [] =
    map-append (λ (x : Found _). x.key.now) found (f ∷ []) in
    let parts : hits_of c m (keys_found (found ++ f ∷ []))
    ≡ hits_of c m (keys_found found) ++ hits_of c m (f.key.now ∷ []) =
    ap (hits_of c m) keys ∙ filter_map-append hit (keys_found found) (f.key.now ∷ []) in
    let one : hits_of c m (f.key.now ∷ []) ≡ hit_of c f.key.now e ∷ [] = rw (sym there) refl in
    let all = hits_there c m words rest f.key.now e is there in
    ap (λ (hs : List Hit). hs ++ hits_of c m rest)
    (parts ∙ ap (λ (hs : List Hit). hits_of c m (keys_found found) ++ hs) one)
    ∙ append_assoc (hits_of c m (keys_found found)) (hit_of c f.key.now e ∷ []) (hits_of c m rest)
    ∙ ap (λ (hs : List Hit). hits_of c m (keys_found found) ++ hs) (sym all)

-- the hits so far, with one more
pub hits_more : (old : List Hit) (hit : Hit) (rest all : List Hit) → old ++ (hit ∷ rest) ≡ all
    → (old ++ hit ∷ []) ++ rest ≡ all
hits_more old hit rest all is = append_assoc old (hit ∷ []) rest ∙ is

-- the room that is left after it
pub room_less : (room : ℕ) (hit : Hit) (rest : List Hit) → room ≡ sum_by hit_room (hit ∷ rest)
    → room - hit_room hit ≡ sum_by hit_room rest
room_less room hit rest is =
    let parts : sum_by hit_room (hit ∷ rest) ≡ sum_by hit_room (hit ∷ []) + sum_by hit_room rest =
    sum_by-append hit_room (hit ∷ []) rest in
    omega (arith, is, parts)

-- the first of some hits has room
pub room_first : (room : ℕ) (hit : Hit) (rest : List Hit) → room ≡ sum_by hit_room (hit ∷ rest)
    → hit_room hit ≤ room
room_first room hit rest is =
    let parts = sum_by-cons hit_room hit rest in
    omega (arith, is, parts)

-- ---- the bytes that show a hit

-- a number of 64 bits has at most 20 digits
few_digits : (n : ℕ) → n < 2 ^ 64 → length (decimal n) ≤ 20
few_digits n lt = length-decimal-le 20 n (omega arith) (omega (arith, lt)) lt

-- a cas number that is shown has a space before it
cas_length : (cas : Option ℕ) → ((n : ℕ) → cas ≡ Some n → n < 2 ^ 64)
    → length (option_map_or (λ (n : ℕ). codes " " ++ decimal n) cas []) ≤ 21
cas_length None small = omega arith
cas_length (Some n) small = let d = few_digits n (small n refl) in omega (arith, d)

-- the room of a hit is enough for the bytes that show it
pub hit_within : (h : Hit) → h.flags < 2 ^ 64 → length h.value < 2 ^ 64 → ((n : ℕ) → h.cas ≡ Some n → n < 2 ^ 64)
    → length (hit_bytes h) ≤ hit_room h
hit_within h flags value cas =
    let f = few_digits h.flags flags in
    let v = few_digits (length h.value) value in
    let c = cas_length h.cas cas in
    simp length-append (omega arith)
