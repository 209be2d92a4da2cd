-- What chains have from a place of the order on, and whose segment can be merged there.
use Rattle.std.proofs.Common.{◌≡◌, ℕ, suc, ◌+◌, ◌<◌, ◌≤◌, Bool, true, false, cond, List, [], ◌∷◌, length}
use Rattle.std.proofs.Common.{get_or, drop, Option, Some, None, refl, sym, ap, subst, ◌∙◌, arith, inl, inr}
use Rattle.std.specs.Prelude.{filter, if◌then◌else◌, IsFalse, IsTrue, MatchOption, nat_le}
use Rattle.std.proofs.Math.ListN.{set}
use Rattle.std.proofs.Math.Seq.{drop-cons}
use Rattle.std.proofs.lemmas.Bool.{cases_eq, eq-eqb, ne_eqb, eqb-true, false≢true, leb-true}
use Rattle.std.proofs.lemmas.List.{get_or-set_same, get_or-set_other, length-take, length-drop}
use Rattle.std.proofs.lemmas.List.Sums.{length-filter, count_by-le-length}
use Rattle.proto.specs.declared.eviction.Eviction.{Eviction}
use Rattle.proto.specs.declared.eviction.Eviction.TheVariants.{Oldest, LeastRead}
use Rattle.segments.specs.declared.segment.Segment.{Segment}
use Rattle.segments.specs.declared.segment.Opening.{Opening}
use Rattle.segments.specs.declared.merge.Choice.{Choice}
use Rattle.segments.specs.declared.rules.least_read.Rest.{Rest}
use Rattle.segments.specs.declared.rules.least_read.Rest.TheVariants.{Nothing}
use Rattle.segments.specs.declared.rules.oldest.Start.TheVariants.{One, Apart, Mergeable}
use Rattle.segments.specs.Pools.{Used, bucket_count, in_bucket, chain_in}
use Rattle.segments.specs.Inside.{shown_segments}
use Rattle.segments.specs.Chains.{opened_in, front_of, front_in, go_together, qualifies_in}
use Rattle.segments.specs.LeastReadRule.{HasNoMate, NoneBetween}
use Rattle.segments.specs.LeastReadRule.{IsFirstBetween}
use Rattle.segments.specs.Rules.{IsNextBy}
use Rattle.segments.specs.LeastReadRule.{rest_of, with_front, has_mate, AreRests}
use Rattle.segments.proofs.LinkLemmas.{of_opened, of_free}
use Rattle.segments.proofs.FrontLemmas.{front_short}
use Rattle.segments.proofs.StartLemmas.{opened_is, can_merge, cannot_merge, together_if, not_pair}

-- ---- the table of what chains have from a place on

-- what a chain has from a place on, with one more segment in front
front_more : (us : List (Option Used)) (n : ℕ) (xs : List ℕ)
    → with_front (rest_of us xs) (opened_in us n) ≡ rest_of us (n ∷ xs)
front_more us n [] = refl
front_more us n (m ∷ []) = refl
front_more us n (m ∷ k ∷ xs) = refl

-- a chain from a place on, with the segment of the place or without
chain_by : (us : List (Option Used)) (order : List ℕ) (b k : ℕ) → k < length order
    → chain_in us (drop k order) b
    ≡ cond (in_bucket us b (get_or order k 0)) (get_or order k 0 ∷ chain_in us (drop (suc k) order) b)
    (chain_in us (drop (suc k) order) b)
chain_by us order b k lt = ap (filter (in_bucket us b)) (drop-cons order k 0 lt)

-- a chain with the segment of a place
pub chain_with : (us : List (Option Used)) (order : List ℕ) (b k : ℕ) → k < length order
    → in_bucket us b (get_or order k 0) ≡ true
    → chain_in us (drop k order) b ≡ get_or order k 0 ∷ chain_in us (drop (suc k) order) b
chain_with us order b k lt h =
    let n = get_or order k 0 in
    let rest = chain_in us (drop (suc k) order) b in
    chain_by us order b k lt ∙ ap (λ t. cond t (n ∷ rest) rest) h

-- a chain without it
pub chain_without : (us : List (Option Used)) (order : List ℕ) (b k : ℕ) → k < length order
    → in_bucket us b (get_or order k 0) ≡ false
    → chain_in us (drop k order) b ≡ chain_in us (drop (suc k) order) b
chain_without us order b k lt h =
    let n = get_or order k 0 in
    let rest = chain_in us (drop (suc k) order) b in
    chain_by us order b k lt ∙ ap (λ t. cond t (n ∷ rest) rest) h

-- an opened segment makes its bucket's chain longer by one in the table
pub rests_more : (segments : List Segment) (order : List ℕ) (rests : List Rest) (k : ℕ) (d : Segment) (o : Opening)
    → k < length order → get_or order k 0 < length segments → (get_or segments (get_or order k 0) d).opening ≡ Some o
    → length rests ≡ bucket_count → o.bucket < bucket_count
    → AreRests (shown_segments segments) (drop (suc k) order) rests
    → AreRests (shown_segments segments) (drop k order)
    (set rests o.bucket (with_front (get_or rests o.bucket Nothing) o.moment))
rests_more segments order rests k d o lt ln h count small a b below =
    let us = shown_segments segments in
    let n = get_or order k 0 in
    let next = with_front (get_or rests o.bucket Nothing) o.moment in
    let rest = chain_in us (drop (suc k) order) o.bucket in
    elim (cases_eq b o.bucket) [
      | inl e ↦
          let is : in_bucket us o.bucket n ≡ true =
          of_opened segments o.bucket n d o ln h ∙ eq-eqb o.bucket o.bucket refl in
          let here : next ≡ rest_of us (n ∷ rest) = ap (λ r. with_front r o.moment) (a o.bucket small)
          ∙ ap (with_front (rest_of us rest)) (sym (opened_is segments n d o ln h)) ∙ front_more us n rest in
          ap (λ j. get_or (set rests o.bucket next) j Nothing) e
          ∙ get_or-set_same rests o.bucket next Nothing (omega arith) ∙ here
          ∙ ap (rest_of us) (sym (chain_with us order o.bucket k lt is))
          ∙ ap (λ j. rest_of us (chain_in us (drop k order) j)) (sym e)
      | inr e ↦
          let isnt : in_bucket us b n ≡ false = of_opened segments b n d o ln h ∙ ne_eqb o.bucket b (λ x. e (sym x)) in
          get_or-set_other rests o.bucket b next Nothing e ∙ a b below
          ∙ ap (rest_of us) (sym (chain_without us order b k lt isnt))
    ]

-- a free segment leaves the table
pub rests_same : (segments : List Segment) (order : List ℕ) (rests : List Rest) (k : ℕ) (d : Segment)
    → k < length order → get_or order k 0 < length segments → (get_or segments (get_or order k 0) d).opening ≡ None
    → AreRests (shown_segments segments) (drop (suc k) order) rests
    → AreRests (shown_segments segments) (drop k order) rests
rests_same segments order rests k d lt ln h a b below =
    let us = shown_segments segments in
    a b below ∙ ap (rest_of us) (sym (chain_without us order b k lt (of_free segments b (get_or order k 0) d ln h)))

-- ---- whose segment has a mate

-- three segments or more can be merged exactly where the first two go together
mate_by : (us : List (Option Used)) (b n m k : ℕ) (xs : List ℕ) (g : Bool) → go_together us b n m ≡ g
    → g ≡ nat_le 2 (length (front_of us b (n ∷ m ∷ k ∷ xs)))
mate_by us b n m k xs true e =
    sym (can_merge us b (n ∷ m ∷ k ∷ xs) (ap (λ (g : Bool). if g then Mergeable else Apart) e))
mate_by us b n m k xs false e =
    sym (cannot_merge us b (n ∷ m ∷ k ∷ xs) (λ q. false≢true (sym e ∙ together_if (go_together us b n m) q)))

-- a segment in front of a chain has a mate exactly where the chain can be merged with it
mate_front : (us : List (Option Used)) (b n : ℕ) (xs : List ℕ)
    → has_mate (rest_of us xs) b (opened_in us n) ≡ nat_le 2 (length (front_of us b (n ∷ xs)))
mate_front us b n [] =
    sym (cannot_merge us b (n ∷ []) (λ e. absurd (let f : One (opened_in us n) ≡ Mergeable = e in cc)))
mate_front us b n (m ∷ []) = sym (cannot_merge us b (n ∷ m ∷ []) (not_pair (go_together us b n m)))
mate_front us b n (m ∷ k ∷ xs) = mate_by us b n m k xs (go_together us b n m) refl

-- the segment of a place has a mate exactly where its bucket's chain can be merged from there on
mate_at : (us : List (Option Used)) (order : List ℕ) (b k : ℕ) (r : Rest) (moment : ℕ) → k < length order
    → in_bucket us b (get_or order k 0) ≡ true → opened_in us (get_or order k 0) ≡ moment
    → r ≡ rest_of us (chain_in us (drop (suc k) order) b)
    → has_mate r b moment ≡ qualifies_in us (drop k order) b
mate_at us order b k r moment lt h m e =
    let n = get_or order k 0 in
    let rest = chain_in us (drop (suc k) order) b in
    ap (λ x. has_mate x b moment) e ∙ ap (has_mate (rest_of us rest) b) (sym m) ∙ mate_front us b n rest
    ∙ ap (λ xs. nat_le 2 (length (front_of us b xs))) (sym (chain_with us order b k lt h))

-- ---- the first place

-- what was found so far of the places up to one
abbrev pub IsFirstMate : List (Option Used) → List ℕ → ℕ → ℕ → Option Choice → Type 0
IsFirstMate us order low high found = MatchOption found (NoneBetween us order low high) (IsFirstBetween us order low high)

-- none from a place on, and none at it, is none from it on
none_more : (us : List (Option Used)) (order : List ℕ) (k high : ℕ) → (k < high → HasNoMate us order k)
    → NoneBetween us order (suc k) high → NoneBetween us order k high
none_more us order k high here none j le lt =
    elim (cases_eq j k) [
      | inl e ↦ (let low : k < high = omega arith in subst (HasNoMate us order) (sym e) (here low))
      | inr e ↦ none j (omega (arith, le, e)) lt
    ]

-- what was found stays where a place has none
pub found_same : (us : List (Option Used)) (order : List ℕ) (k high : ℕ) (found : Option Choice)
    → (k < high → HasNoMate us order k) → IsFirstMate us order (suc k) high found → IsFirstMate us order k high found
found_same us order k high None here none = none_more us order k high here none
found_same us order k high (Some c) here f =
    let before = f.before in
    let behind = f.behind in
    record {
      in_range = f.in_range;
      stands = f.stands;
      qualifying = f.qualifying;
      behind = omega arith;
      before = f.before;
      first = none_more us order k c.from (λ lt. here (omega arith)) f.first;
    }

-- a free segment has no mate
pub free_mate : (segments : List Segment) (order : List ℕ) (k : ℕ) (d : Segment)
    → get_or order k 0 < length segments → (get_or segments (get_or order k 0) d).opening ≡ None
    → HasNoMate (shown_segments segments) order k
free_mate segments order k d ln h b stands =
    absurd (false≢true (sym (of_free segments b (get_or order k 0) d ln h) ∙ stands))

-- an opened segment whose bucket's chain can't be merged from there on has none
pub no_mate : (segments : List Segment) (order : List ℕ) (rests : List Rest) (k : ℕ) (d : Segment) (o : Opening)
    (r : Rest)
    → k < length order → get_or order k 0 < length segments → (get_or segments (get_or order k 0) d).opening ≡ Some o
    → o.bucket < bucket_count → AreRests (shown_segments segments) (drop (suc k) order) rests
    → r ≡ get_or rests o.bucket Nothing → has_mate r o.bucket o.moment ≡ false
    → HasNoMate (shown_segments segments) order k
no_mate segments order rests k d o r lt ln h small a e none b stands =
    let us = shown_segments segments in
    let same : o.bucket ≡ b = eqb-true o.bucket b (sym (of_opened segments b (get_or order k 0) d o ln h) ∙ stands) in
    let is : in_bucket us o.bucket (get_or order k 0) ≡ true = ap (λ x. in_bucket us x (get_or order k 0)) same ∙ stands in
    subst (λ x. IsFalse (qualifies_in us (drop k order) x)) same
    (sym (mate_at us order o.bucket k r o.moment lt is (opened_is segments (get_or order k 0) d o ln h)
    (e ∙ a o.bucket small)) ∙ none)

-- one whose chain can be is the first one found
pub found_here : (segments : List Segment) (order : List ℕ) (rests : List Rest) (k high : ℕ) (d : Segment) (o : Opening)
    (r : Rest)
    → k < length order → get_or order k 0 < length segments → (get_or segments (get_or order k 0) d).opening ≡ Some o
    → o.bucket < bucket_count → AreRests (shown_segments segments) (drop (suc k) order) rests
    → r ≡ get_or rests o.bucket Nothing → has_mate r o.bucket o.moment ≡ true → k < high
    → IsFirstBetween (shown_segments segments) order k high (record { bucket = o.bucket; from = k })
found_here segments order rests k high d o r lt ln h small a e mate near =
    let us = shown_segments segments in
    let is : in_bucket us o.bucket (get_or order k 0) ≡ true =
    of_opened segments o.bucket (get_or order k 0) d o ln h ∙ eq-eqb o.bucket o.bucket refl in
    record {
      in_range = small;
      stands = is;
      qualifying = sym (mate_at us order o.bucket k r o.moment lt is (opened_is segments (get_or order k 0) d o ln h)
          (e ∙ a o.bucket small)) ∙ mate;
      behind = omega arith;
      before = near;
      first = λ j le less. absurd (omega (arith, le, less));
    }

-- ---- what a choice is sure of

-- what a rule merges next has a bucket, and can be merged
pub next_parts : (e : Eviction) (us : List (Option Used)) (order : List ℕ) (cursor looked : ℕ) (c : Choice)
    → IsNextBy e us order cursor looked c
    → (c.bucket < bucket_count) × IsTrue (qualifies_in us (drop c.from order) c.bucket)
next_parts Oldest us order cursor looked c h = (
  h.1.in_range,
  subst (λ k. IsTrue (qualifies_in us (drop k order) c.bucket)) (sym h.0) h.1.qualifying,
)
next_parts LeastRead us order cursor looked c h = (h.in_range, h.qualifying)

-- two segments at least follow the place of a chain that can be merged from there on
pub within_order : (us : List (Option Used)) (order : List ℕ) (k b : ℕ) → IsTrue (qualifies_in us (drop k order) b)
    → k + 2 ≤ length order
within_order us order k b h =
    let long = leb-true 2 (length (front_in us (drop k order) b)) h in
    let four = length-take 4 (front_in us (drop k order) b) in
    let short = front_short 4 us b (chain_in us (drop k order) b) in
    let chained = length-filter (in_bucket us b) (drop k order) in
    let fewer = count_by-le-length (in_bucket us b) (drop k order) in
    let left = length-drop k order in
    omega (arith, long, four, short, chained, fewer, left)
