-- Candidates that are kept by their ranks, as a merge's choice says it of items.
use Rattle.std.proofs.Common.{◌≡◌, ℕ, ◌+◌, Bool, leb, List, [], ◌∷◌, ◌++◌, map, refl, sym, ap, subst, ◌∙◌, arith}
use Rattle.std.specs.Prelude.{⊤, not, ◌&&◌, ◌||◌, ◌==◌, nat_le, nat_lt, if◌then◌else◌}
use Rattle.std.proofs.lemmas.List.{map-append}
use Rattle.std.proofs.lemmas.List.Sums.{sum_by-cons}
use Rattle.segments.specs.declared.merge.Candidate.{Candidate}
use Rattle.segments.specs.Items.{Item, size_of_item}
use Rattle.segments.specs.Merges.{outranks, Judged, kept_size, AreJudged}
use Rattle.segments.specs.Choosing.{candidate_in, weight}

-- one candidate ranks above another, whatever their places are
abbrev pub ranks_above : Candidate → Candidate → Bool
ranks_above a b = nat_lt b.reads a.reads || ((a.reads == b.reads) && nat_lt b.cas a.cas)

-- each is kept exactly where its size and the sizes of the kept ones ranked before it are within
-- the limit
abbrev pub AreKeptByRank : ℕ → List Candidate → List Candidate → Type 0
AreKeptByRank limit earlier [] = ⊤
AreKeptByRank limit earlier (c ∷ later) =
    (c.is_kept ≡ nat_le (c.size + weight (λ b. not (ranks_above c b)) earlier
    + weight (λ b. ranks_above b c) later) limit)
    × AreKeptByRank limit (earlier ++ c ∷ []) later

-- the kept items that pass a test weigh as much as the kept candidates
kept_is : (test : Item → Bool) (other : Candidate → Bool) (js : List Judged)
    → ((j : Judged) → other (candidate_in j) ≡ test j.item) → weight other (map candidate_in js) ≡ kept_size test js
kept_is test other [] same = refl
kept_is test other (j ∷ js) same =
    let r = kept_is test other js same in
    let h : (if j.is_kept && other (candidate_in j) then size_of_item j.item else 0)
    ≡ (if j.is_kept && test j.item then size_of_item j.item else 0) =
    ap (λ (b : Bool). if j.is_kept && b then size_of_item j.item else 0) (same j) in
    sum_by-cons (λ (c : Candidate). if c.is_kept && other c then c.size else 0) (candidate_in j) (map candidate_in js)
    ∙ omega arith
    ∙ sym (sum_by-cons (λ (x : Judged). if x.is_kept && test x.item then size_of_item x.item else 0) j js)

-- where candidates are kept by rank, so are the items of which they are
pub judged_by : (limit : ℕ) (earlier js : List Judged) → AreKeptByRank limit (map candidate_in earlier) (map candidate_in js)
    → AreJudged limit earlier js
judged_by limit earlier [] c = tt
judged_by limit earlier (j ∷ js) c = (
  c.0 ∙ ap (λ n. leb (size_of_item j.item + n
      + weight (λ b. ranks_above b (candidate_in j)) (map candidate_in js)) limit)
      (kept_is (λ i. not (outranks j.item i)) (λ b. not (ranks_above (candidate_in j) b)) earlier (λ x. refl))
      ∙ ap (λ n. leb (size_of_item j.item + kept_size (λ i. not (outranks j.item i)) earlier + n) limit)
      (kept_is (λ i. outranks i j.item) (λ b. ranks_above b (candidate_in j)) js (λ x. refl)),
  judged_by limit (earlier ++ j ∷ []) js
      (subst (λ e. AreKeptByRank limit e (map candidate_in js)) (sym (map-append candidate_in earlier (j ∷ []))) c.1),
)
