-- The hits of segments.
use Rattle.std.proofs.Common.{◌≡◌, ℕ, ◌+◌, ◌*◌, ◌/◌, ◌<◌, ◌≤◌, Bool, true, false, List, [], ◌∷◌, ◌++◌}
use Rattle.std.proofs.Common.{length, map, get_or, refl, sym, ap, subst, ◌∙◌, arith, add-one, append_assoc}
use Rattle.std.specs.Prelude.{All, if◌then◌else◌, nat_le, sum_by, min}
use Rattle.std.proofs.Math.ListN.{set}
use Rattle.std.proofs.Math.Seq.{get_or-append_seam}
use Rattle.std.proofs.lemmas.List.{length-set, length-map, length-append}
use Rattle.std.proofs.lemmas.List.Sums.{sum_by_push}
use Rattle.std.proofs.lemmas.List.Elements.{All-nil, All-cons, All-append, All-weaker, All-same, All-push}
use Rattle.segments.specs.Items.{Item}
use Rattle.segments.specs.Hits.{HitCounts, segment_hits, with_opened, IsFewest, reads_of, most_hits}

-- as many counts are left by either answer of a test
opened_by : (b : Bool) (x y z : HitCounts) (n : ℕ) → z ≡ (if b then x else y) → length x.counts ≡ n
    → length y.counts ≡ n → length z.counts ≡ n
opened_by true x y z n is e f = ap (λ (h : HitCounts). length h.counts) is ∙ e
opened_by false x y z n is e f = ap (λ (h : HitCounts). length h.counts) is ∙ f

-- a segment that is opened leaves as many counts
pub opened_length : (h : HitCounts) (n : ℕ) → length (with_opened h n).counts ≡ length h.counts
opened_length h n =
    let counts = set h.counts n 0 in
    opened_by (nat_le (length counts) (2 * (h.opens + 1))) (record { counts = map (λ k. k / 2) counts; opens = 0 })
    (record { counts = counts; opens = h.opens + 1 }) (with_opened h n) (length h.counts) refl
    (length-map counts (λ k. k / 2) ∙ length-set h.counts n 0) (length-set h.counts n 0)

-- ---- the fewest hits

-- of one segment it is the one with the fewest hits
pub fewest_one : (h : HitCounts) (n : ℕ) → IsFewest h (n ∷ []) n
fewest_one h n =
    record {
      before = [];
      after = [];
      whole = refl;
      earlier = All-nil (λ m. segment_hits h n < segment_hits h m);
      later = All-nil (λ m. segment_hits h n ≤ segment_hits h m);
    }

-- what is said of each of some segments is said of the one with the fewest hits
pub fewest_among : (P : ℕ → Type 0) (h : HitCounts) (numbers : List ℕ) (n : ℕ) → IsFewest h numbers n → All P numbers → P n
fewest_among P h numbers n f all =
    let at : get_or numbers (length f.before) 0 ≡ n =
    ap (λ xs. get_or xs (length f.before) 0) f.whole ∙ get_or-append_seam f.before n f.after 0 in
    let long : length numbers ≡ length f.before + length (n ∷ f.after) =
    ap length f.whole ∙ length-append f.before (n ∷ f.after) in
    subst P at (all (length f.before) 0 (omega (arith, long, add-one (length f.after))))

-- one segment more with fewer hits is the one with the fewest
pub fewest_less : (h : HitCounts) (numbers : List ℕ) (n m : ℕ) → IsFewest h numbers n → segment_hits h m < segment_hits h n
    → IsFewest h (numbers ++ m ∷ []) m
fewest_less h numbers n m f lt =
    let less : ℕ → Type 0 = λ k. segment_hits h m < segment_hits h k in
    let before = All-weaker (λ k. segment_hits h n < segment_hits h k) less (λ k l. omega arith) f.before f.earlier in
    let after = All-weaker (λ k. segment_hits h n ≤ segment_hits h k) less (λ k l. omega arith) f.after f.later in
    record {
      before = numbers;
      after = [];
      whole = refl;
      earlier = All-same less numbers (f.before ++ n ∷ f.after) f.whole
          (All-append less f.before (n ∷ f.after) before (All-cons less n f.after lt after));
      later = All-nil (λ k. segment_hits h m ≤ segment_hits h k);
    }

-- one segment more with as many hits changes nothing
pub fewest_more : (h : HitCounts) (numbers : List ℕ) (n m : ℕ) → IsFewest h numbers n → segment_hits h n ≤ segment_hits h m
    → IsFewest h (numbers ++ m ∷ []) n
fewest_more h numbers n m f le =
    record {
      before = f.before;
      after = f.after ++ m ∷ [];
      whole = ap (λ xs. xs ++ m ∷ []) f.whole ∙ append_assoc f.before (n ∷ f.after) (m ∷ []);
      earlier = f.earlier;
      later = All-push (λ k. segment_hits h n ≤ segment_hits h k) f.after m f.later le;
    }

-- ---- read counts in sum

-- a sum that is cut off may be cut off before
capped : (s r most : ℕ) → min (min s most + r) most ≡ min (s + r) most
capped s r most = omega arith

-- one item more adds its read count
pub reads_push : (items : List Item) (i : Item) (reads : ℕ) → reads ≡ reads_of items
    → min (reads + i.reads) most_hits ≡ reads_of (items ++ i ∷ [])
reads_push items i reads e =
    ap (λ r. min (r + i.reads) most_hits) e ∙ capped (sum_by (λ (j : Item). j.reads) items) i.reads most_hits
    ∙ ap (λ s. min s most_hits) (sym (sum_by_push (λ (j : Item). j.reads) items i))
