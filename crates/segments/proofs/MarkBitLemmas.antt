-- Marks as bits in words.
use Rattle.std.proofs.Common.{◌≡◌, ℕ, ◌+◌, ◌-◌, ◌/◌, ◌%◌, ◌<◌, ◌≤◌, Bool, true, false, List, length, get_or, sym}
use Rattle.std.proofs.Common.{ap, subst, ◌∙◌, arith, inl, inr, ◌*◌, ◌^◌, w64}
use Rattle.std.specs.Prelude.{◌≢◌, ◌==◌, if◌then◌else◌, replicate, bit_and, bit_or}
use Rattle.std.specs.Int.{bit_at, bit_not}
use Rattle.std.specs.List.{range_with_len}
use Rattle.std.proofs.Math.ListN.{set}
use Rattle.std.proofs.lemmas.Bool.{cases_lt, cases_eq, eq-eqb, ne_eqb}
use Rattle.std.proofs.lemmas.List.{length-map, length-set, length-replicate, ext_get_or, set-get_or, get_or-set_same}
use Rattle.std.proofs.lemmas.List.{get_or-set_other, get_or-replicate, get_or_past, get_or_default}
use Rattle.std.proofs.lemmas.List.FromFn.{length-range_with_len, get_or-map-range_with_len}
use Rattle.std.proofs.lemmas.Nat.Bits.{bit_at-zero, bit_at_set_same, bit_at_set_other, bit_at_clear_same, bit_at_clear_other}
use Rattle.segments.specs.Marks.{AreMarksCounted}
use Rattle.segments.specs.MarkBits.{bit_of, bits_of, AreMarkBits}
use Rattle.segments.proofs.MarkCounts.{counted_none, counted_more, counted_less}

-- there are n
pub length-bits : (n : ℕ) (words : List ℕ) → length (bits_of n words) ≡ n
length-bits n words = length-map (range_with_len 0 n) (bit_of words) ∙ length-range_with_len 0 n

-- one of them
pub bit_there : (n : ℕ) (words : List ℕ) (k : ℕ) → k < n → get_or (bits_of n words) k false ≡ bit_of words k
bit_there n words k lt = get_or-map-range_with_len (bit_of words) 0 n k k false lt (omega arith)

-- a word is written
pub bit_written : (words : List ℕ) (n w v k : ℕ) → n / 64 < length words → bit_at w (n % 64) ≡ v
    → ((i : ℕ) → i < 64 → i ≢ n % 64 → bit_at w i ≡ bit_at (get_or words (n / 64) 0) i)
    → bit_of (set words (n / 64) w) k ≡ (if k == n then v == 1 else bit_of words k)
bit_written words n w v k lt same others =
    let new = set words (n / 64) w in
    elim (cases_eq k n) [
      | inl e ↦
          (let t = eq-eqb k n e in
          rw t (ap (bit_of new) e ∙ ap (λ (x : ℕ). bit_at x (n % 64) == 1) (get_or-set_same words (n / 64) w 0 lt)
          ∙ ap (λ (x : ℕ). x == 1) same))
      | inr e ↦
          (let f = ne_eqb k n e in
          rw f (elim (cases_eq (k / 64) (n / 64)) [
            | inl d ↦
                (ap (λ (j : ℕ). bit_at (get_or new j 0) (k % 64) == 1) d
                ∙ ap (λ (x : ℕ). bit_at x (k % 64) == 1) (get_or-set_same words (n / 64) w 0 lt)
                ∙ ap (λ (x : ℕ). x == 1) (others (k % 64) (omega arith) (omega arith))
                ∙ ap (λ (j : ℕ). bit_at (get_or words j 0) (k % 64) == 1) (sym d))
            | inr d ↦ (ap (λ (x : ℕ). bit_at x (k % 64) == 1) (get_or-set_other words (n / 64) (k / 64) w 0 d))
          ]))
    ]

-- a bit is set in its word
pub bit_set : (words : List ℕ) (n x : ℕ) → n < 64 * length words → x ≡ get_or words (n / 64) x
    → (k : ℕ) → bit_of (set words (n / 64) (bit_or x (1 * 2 ^ (n % 64) % 2 ^ 64))) k ≡ (if k == n then true else bit_of words k)
bit_set words n x lt is =
    let within : n / 64 < length words = omega (arith, lt) in
    let in_word : n % 64 < 64 = omega arith in
    let word : x ≡ get_or words (n / 64) 0 = is ∙ get_or_default words (n / 64) x 0 within in
    λ k. bit_written words n _ 1 k within (bit_at_set_same w64 x (n % 64) in_word)
    (λ i low apart. bit_at_set_other w64 x (n % 64) in_word i apart ∙ ap (λ (w : ℕ). bit_at w i) word)

-- a bit is taken away from its word
pub bit_cleared : (words : List ℕ) (n x : ℕ) → n < 64 * length words → x ≡ get_or words (n / 64) x
    → (k : ℕ) → bit_of (set words (n / 64) (bit_and x (bit_not w64 (1 * 2 ^ (n % 64) % 2 ^ 64)))) k
    ≡ (if k == n then false else bit_of words k)
bit_cleared words n x lt is =
    let within : n / 64 < length words = omega (arith, lt) in
    let in_word : n % 64 < 64 = omega arith in
    let word : x ≡ get_or words (n / 64) 0 = is ∙ get_or_default words (n / 64) x 0 within in
    λ k. bit_written words n _ 0 k within (bit_at_clear_same w64 x (n % 64) in_word)
    (λ i low apart. bit_at_clear_other w64 x (n % 64) in_word i low apart ∙ ap (λ (w : ℕ). bit_at w i) word)

-- one bit is written
pub bits_written : (n : ℕ) (old new : List ℕ) (j : ℕ) (b : Bool)
    → ((k : ℕ) → bit_of new k ≡ (if k == j then b else bit_of old k)) → j < n
    → bits_of n new ≡ set (bits_of n old) j b
bits_written n old new j b each lt =
    let bits = bits_of n old in
    let long = length-bits n old in
    let longer = length-bits n new in
    let len = length-set bits j b in
    ext_get_or false (bits_of n new) (set bits j b) (omega arith) (λ k below.
    let within : k < n = omega (arith, below, longer) in
    bit_there n new k within ∙ each k ∙ elim (cases_eq k j) [
      | inl e ↦
          (let t = eq-eqb k j e in
          rw t (sym (ap (λ (i : ℕ). get_or (set bits j b) i false) e ∙ get_or-set_same bits j b false (omega arith))))
      | inr e ↦
          (let f = ne_eqb k j e in
          rw f (sym (get_or-set_other bits j k b false e ∙ bit_there n old k within)))
    ])

-- words of zeros have no bit
no_bit : (m k : ℕ) → bit_of (replicate m 0) k ≡ false
no_bit m k =
    let none : get_or (replicate m 0) (k / 64) 0 ≡ 0 = elim (cases_lt (k / 64) m) [
      | inl lt ↦ (get_or-replicate m (k / 64) 0 0 lt)
      | inr le ↦ (let len : length (replicate {A = ℕ} m 0) ≡ m = length-replicate m 0 in get_or_past (replicate m 0) (k / 64) 0 (omega (arith, len, le)))
    ] in
    ap (λ (x : ℕ). bit_at x (k % 64) == 1) none ∙ ap (λ (x : ℕ). x == 1) (bit_at-zero (k % 64))

pub no_bits : (n m : ℕ) → bits_of n (replicate m 0) ≡ replicate n false
no_bits n m =
    let long = length-bits n (replicate m 0) in
    let len = length-replicate n false in
    ext_get_or false (bits_of n (replicate m 0)) (replicate n false) (omega arith) (λ k below.
    let within : k < n = omega (arith, below, long) in
    bit_there n (replicate m 0) k within ∙ no_bit m k ∙ sym (get_or-replicate n k false false within))

-- a place of a row
pub in_row : (len : ℕ) (words : List ℕ) (bs : List Bool) (n : ℕ) → bits_of len words ≡ bs → n < length bs → n < len
in_row len words bs n is lt = let long = length-bits len words in let same = ap length is in omega (arith, long, same, lt)

-- a row with one more mark
pub marks_marked : (old new : List ℕ) (len count n : ℕ) → AreMarkBits old len count → n < len → bit_of old n ≡ false
    → ((k : ℕ) → bit_of new k ≡ (if k == n then true else bit_of old k)) → length new ≡ length old
    → AreMarkBits new len (count + 1)
marks_marked old new len count n r lt none each same =
    let long = length-bits len old in
    let enough = r.enough in
    record {
      enough = omega (arith, enough, same);
      counted = subst (AreMarksCounted (count + 1)) (sym (bits_written len old new n true each lt))
          (counted_more count n (bits_of len old) r.counted (omega (arith, long, lt)) (bit_there len old n lt ∙ none));
    }

-- a row with one mark less
pub marks_unmarked : (old new : List ℕ) (len count n : ℕ) → AreMarkBits old len count → n < len → bit_of old n ≡ true
    → ((k : ℕ) → bit_of new k ≡ (if k == n then false else bit_of old k)) → length new ≡ length old
    → (1 ≤ count) × AreMarkBits new len (count - 1)
marks_unmarked old new len count n r lt some each same =
    let long = length-bits len old in
    let enough = r.enough in
    let less = counted_less count n (bits_of len old) r.counted (omega (arith, long, lt)) (bit_there len old n lt ∙ some) in (
      less.0,
      record {
        enough = omega (arith, enough, same);
        counted = subst (AreMarksCounted (count - 1)) (sym (bits_written len old new n false each lt)) less.1;
      },
    )

-- a row without marks
pub marks_cleared : (old : List ℕ) (m len count : ℕ) → length old ≡ m → AreMarkBits old len count → AreMarkBits (replicate m 0) len 0
marks_cleared old m len count is r =
    let same : length (replicate {A = ℕ} m 0) ≡ m = length-replicate m 0 in
    let enough = r.enough in
    let few = r.counted.few in
    let long = length-bits len old in
    record {
      enough = omega (arith, enough, same, is);
      counted = subst (AreMarksCounted 0) (sym (no_bits len m)) (counted_none len (omega (arith, few, long)));
    }

-- what is there already is written
pub set_there : (bs : List Bool) (n : ℕ) (b : Bool) → get_or bs n false ≡ b → bs ≡ set bs n b
set_there bs n b e = sym (ap (set bs n) (sym e) ∙ set-get_or bs n false)
