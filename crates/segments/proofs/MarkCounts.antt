-- How many marks are set.
use Rattle.std.proofs.Common.{◌≡◌, ℕ, zero, suc, ◌+◌, ◌-◌, ◌<◌, ◌≤◌, Bool, true, false, List, [], ◌∷◌, length, get_or, refl}
use Rattle.std.proofs.Common.{sym, ◌∙◌, ap, arith, add-one}
use Rattle.std.specs.Prelude.{if◌then◌else◌, replicate}
use Rattle.std.proofs.Math.ListN.{set}
use Rattle.std.proofs.lemmas.Bool.{false≢true}
use Rattle.std.proofs.lemmas.List.{length-set, length-replicate, get_or_default}
use Rattle.segments.specs.Marks.{mark_count, AreMarksCounted}

-- no more marks are set than there are
pub marked_few : (bs : List Bool) → mark_count bs ≤ length bs
marked_few [] = omega arith
marked_few (true ∷ bs) = let r = marked_few bs in omega (arith, r, add-one (length bs))
marked_few (false ∷ bs) = let r = marked_few bs in omega (arith, r, add-one (length bs))

-- sums whose parts stand in another order
swap : (a b m n k : ℕ) → m + b ≡ n + k → (a + m) + b ≡ (a + n) + k
swap a b m n k e = omega arith

-- how many are set once one of them is written
pub marked_set : (bs : List Bool) (n : ℕ) (b : Bool) → n < length bs
    → mark_count (set bs n b) + (if get_or bs n false then 1 else 0) ≡ mark_count bs + (if b then 1 else 0)
marked_set [] n b lt = absurd (omega (arith, lt))
marked_set (x ∷ bs) zero b lt = omega arith
marked_set (x ∷ bs) (suc n) b lt =
    let r = marked_set bs n b (omega (arith, lt, add-one n, add-one (length bs))) in
    swap (if x then 1 else 0) _ (mark_count (set bs n b)) (mark_count bs) _ r

-- of cleared marks none is set
pub marked_none : (n : ℕ) → mark_count (replicate n false) ≡ 0
marked_none zero = refl
marked_none (suc n) = let r = marked_none n in omega arith

-- where none is counted, none is set
pub none_marked : (bs : List Bool) → mark_count bs ≡ 0 → bs ≡ replicate (length bs) false
none_marked [] e = refl
none_marked (true ∷ bs) e = absurd (omega (arith, e))
none_marked (false ∷ bs) e = ap (false ∷◌) (none_marked bs (omega (arith, e)))

-- where one is set, at least one is counted
pub marked_at : (bs : List Bool) (k : ℕ) → get_or bs k false ≡ true → 1 ≤ mark_count bs
marked_at [] k e = absurd (false≢true e)
marked_at (true ∷ bs) zero e = omega arith
marked_at (false ∷ bs) zero e = absurd (false≢true e)
marked_at (x ∷ bs) (suc k) e = let r = marked_at bs k e in omega arith

-- where some are counted, one is set
pub marked_some : (bs : List Bool) → 0 < mark_count bs → (k : ℕ) × (get_or bs k false ≡ true)
marked_some [] h = absurd (omega (arith, h))
marked_some (true ∷ bs) h = (0, refl)
marked_some (false ∷ bs) h = let r = marked_some bs (omega (arith, h)) in (suc r.0, r.1)

-- a cleared mark counts nothing
is_zero : (b : Bool) → b ≡ false → ◌≡◌ {A = ℕ} (if b then 1 else 0) 0
is_zero true e = absurd (false≢true (sym e))
is_zero false e = refl

-- a set mark counts one
is_one : (b : Bool) → b ≡ true → ◌≡◌ {A = ℕ} (if b then 1 else 0) 1
is_one true e = refl
is_one false e = absurd (false≢true e)

-- cleared marks have the count 0
pub counted_none : (n : ℕ) → n ≤ 32768 → AreMarksCounted 0 (replicate n false)
counted_none n small = let len = length-replicate n false in record { counted = sym (marked_none n); few = omega arith }

-- a mark that is set counts one more
pub counted_more : (count n : ℕ) (bs : List Bool) → AreMarksCounted count bs → n < length bs → get_or bs n false ≡ false
    → AreMarksCounted (count + 1) (set bs n true)
counted_more count n bs k lt e =
    let s = marked_set bs n true lt in
    let was = is_zero (get_or bs n false) e in
    let c = k.counted in
    let f = k.few in
    let len = length-set bs n true in
    record { counted = omega arith; few = omega arith }

-- a mark that is cleared counts one less
pub counted_less : (count n : ℕ) (bs : List Bool) → AreMarksCounted count bs → n < length bs → get_or bs n false ≡ true
    → (1 ≤ count)
    × AreMarksCounted (count - 1) (set bs n false)
counted_less count n bs k lt e =
    let s = marked_set bs n false lt in
    let was = is_one (get_or bs n false) e in
    let c = k.counted in
    let f = k.few in
    let some = marked_at bs n e in
    let len = length-set bs n false in
    (omega arith, record { counted = omega arith; few = omega arith })

-- what indexing gave, with another default
pub read_at : (bs : List Bool) (n : ℕ) (d : Bool) → n < length bs → d ≡ get_or bs n d → get_or bs n false ≡ d
read_at bs n d lt e = get_or_default bs n false d lt ∙ sym e
