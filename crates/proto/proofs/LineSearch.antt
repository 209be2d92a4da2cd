-- A search for a line end, from one byte 13 to the next.
use Rattle.std.proofs.Common.{◌≡◌, ℕ, zero, suc, ◌+◌, ◌-◌, ◌<◌, ◌≤◌, List, length, get_or, take, drop, refl, sym, ap, ◌∙◌, arith, inl, inr, length-drop}
use Rattle.std.proofs.Common.{add-zero}
use Rattle.std.specs.Prelude.{nat_le, min}
use Rattle.std.proofs.Math.Nat.{min-le_left, min-le_right}
use Rattle.std.proofs.lemmas.Bool.{cases_Bool, leb-true, leb-false, eqb-true}
use Rattle.std.proofs.lemmas.List.{get_or-drop, get_or-take, length-take, length-take-le, take-take}
use Rattle.memchr.specs.Find.{Nowhere, NoneBefore, OccursAt, Passes, is_byte}
use Rattle.proto.specs.Lines.{line_end, IsSearched}
use Rattle.proto.proofs.FirstLine.{no_end_place, no_end_take}

-- no line end begins below a place, where none begins up to `from` and no byte behind is 13
further : (b back : List ℕ) (from i : ℕ) → back ≡ drop from b → Nowhere (Passes (is_byte 13) back) 0 i
    → Nowhere (OccursAt b line_end) 0 from → Nowhere (OccursAt b line_end) 0 (from + i)
further b back from i back-is none before k low high occurs =
    elim (cases_Bool (nat_le from k)) [
      | inl behind ↦
          let least = leb-true from k behind in
          let place : from + (k - from) ≡ k = omega arith in
          let same : get_or back (k - from) 0 ≡ get_or b k 0 = rw (back-is, get_or-drop, place) refl in
          let here : get_or b k 0 ≡ 13 = rw add-zero at (occurs.reads 0 (omega arith)) in
          none (k - from) (omega arith) (omega arith) (rw (same, here) refl)
      | inr front ↦ before k low (leb-false from k front) occurs
    ]

-- no byte from here on is 13
pub search_ends : (b back : List ℕ) (from : ℕ) → back ≡ drop from b → Nowhere (Passes (is_byte 13) back) 0 (length back)
    → Nowhere (OccursAt b line_end) 0 from
    → Nowhere (OccursAt b line_end) 0 (length b + 1)
search_ends b back from back-is none before k low high occurs =
    let len : length back ≡ length b - from = ap length back-is ∙ length-drop from b in
    let fits = occurs.fits in
    further b back from (length back) back-is none before k low (omega (arith, len, fits)) occurs

-- 13 and 10 stand where a line end begins
pub two_bytes : (b : List ℕ) (k j : ℕ) → get_or b k 0 ≡ 13 → get_or b (k + 1) 0 ≡ 10 → j < 2
    → get_or b (k + j) 0 ≡ get_or line_end j 0
two_bytes b k zero here ahead lt = rw add-zero here
two_bytes b k (suc zero) here ahead lt = ahead
two_bytes b k (suc (suc j)) here ahead lt = absurd (omega arith)

-- a 10 stands after the next byte that is 13
pub search_finds : (b back : List ℕ) (from i : ℕ) → back ≡ drop from b
    → NoneBefore (Passes (is_byte 13) back) 0 (length back) i × Passes (is_byte 13) back i
    → Nowhere (OccursAt b line_end) 0 from → (from + i) + 1 < length b → get_or b ((from + i) + 1) 0 ≡ 10
    → NoneBefore (OccursAt b line_end) 0 (length b + 1) (from + i) × OccursAt b line_end (from + i)
search_finds b back from i back-is found before fits ahead =
    let there : get_or back i 0 ≡ 13 = eqb-true _ _ found.1 in
    let here : get_or b (from + i) 0 ≡ 13 = rw (back-is, get_or-drop) at there in (
      record { low = omega arith; high = omega arith; before = further b back from i back-is found.0.before before },
      record { fits = omega arith; reads = λ j lt. two_bytes b (from + i) j here ahead lt },
    )

-- another byte stands after it, or nothing
pub search_goes_on : (b back : List ℕ) (from i : ℕ) → back ≡ drop from b
    → NoneBefore (Passes (is_byte 13) back) 0 (length back) i × Passes (is_byte 13) back i
    → Nowhere (OccursAt b line_end) 0 from → ((from + i) + 1 < length b → get_or b ((from + i) + 1) 0 ≡ 10 → ⊥)
    → Nowhere (OccursAt b line_end) 0 ((from + i) + 1)
search_goes_on b back from i back-is found before other k low high occurs =
    elim (cases_Bool (nat_le (from + i) k)) [
      | inl at ↦
          let least = leb-true (from + i) k at in
          let place : k ≡ from + i = omega arith in
          let fits = occurs.fits in
          let ahead : get_or b (k + 1) 0 ≡ 10 = occurs.reads 1 (omega arith) in
          other (omega (arith, fits)) (rw place at ahead)
      | inr below ↦ further b back from i back-is found.0.before before k low (leb-false (from + i) k below) occurs
    ]

-- no line end begins before the last of the bytes that were searched
pub search_begins : (b : List ℕ) (n : ℕ) → IsSearched b n → Nowhere (OccursAt b line_end) 0 (n - 1)
search_begins b n h k low high occurs =
    let within = h.within in
    let here : get_or b k 0 ≡ 13 = rw add-zero at (occurs.reads 0 (omega arith)) in
    let ahead : get_or b (k + 1) 0 ≡ 10 = occurs.reads 1 (omega arith) in
    let len : length (take n b) ≡ n = length-take-le n b within in
    no_end_place (take n b) k h.no_end (omega (arith, len))
    (rw (get_or-take n b k 0 (omega arith)) here) (rw (get_or-take n b (k + 1) 0 (omega arith)) ahead)

-- what was searched of the bytes was searched of the first of them
pub searched_front : (b : List ℕ) (most n : ℕ) → IsSearched b n
    → IsSearched (take most b) (min n (length (take most b)))
searched_front b most n h =
    let least = min n (length (take most b)) in
    let fits : least ≤ length (take most b) = min-le_right n (length (take most b)) in
    let fewer : least ≤ n = min-le_left n (length (take most b)) in
    let within : least ≤ most = omega (arith, fits, length-take most b) in
    let same : take least (take most b) ≡ take least (take n b) =
    take-take least most b within ∙ sym (take-take least n b fewer) in
    record { within = fits; no_end = rw same (no_end_take least (take n b) h.no_end) }
