-- What is given back, and what is shown then.
use Rattle.std.proofs.Common.{◌≡◌, ℕ, ◌+◌, ◌<◌, ◌≤◌, Bool, true, List, [], ◌∷◌, refl, sym, ap, subst, ◌∙◌, inl, inr}
use Rattle.std.proofs.Common.{arith}
use Rattle.std.specs.Prelude.{IsSome, is_some, not, count_by, if◌then◌else◌}
use Rattle.std.proofs.lemmas.Bool.{cases_Bool, cases_eq, ne_eqb}
use Rattle.std.proofs.lemmas.List.Sums.{sum_by-cons}
use Rattle.proto.specs.Counts.{times}
use Rattle.segments.specs.Pools.{PoolState, IsPool, segment_at, has_live, Liveness}
use Rattle.segments.specs.Changes.{IsPoolFull, IsGivenBack, dead_segments}

-- where no segment is free, the order has one
pub some_order : (p : PoolState) → IsPool p → IsPoolFull p → p.order ≡ [] → ⊥
some_order p pool full empty =
    let fewest = pool.geometry.fewest in
    let some : is_some (segment_at p 0) ≡ true = full 0 (omega (arith, fewest)) in
    let named : times 0 p.order ≡ (if is_some (segment_at p 0) then 1 else 0) = pool.named 0 in
    let one : times 0 p.order ≡ 1 = named ∙ rw some refl in
    let zero_times : times 0 p.order ≡ 0 = ap (times 0) empty in
    omega (arith, one, zero_times)

-- where no number of a list fails a test, each number that stands in the list passes it
no_dead : (f : ℕ → Bool) (xs : List ℕ) (n : ℕ) → count_by (λ m. not (f m)) xs ≡ 0 → 1 ≤ times n xs → f n ≡ true
no_dead f [] n e h = absurd (omega (arith, h))
no_dead f (x ∷ xs) n e h =
    let count = sum_by-cons (λ (m : ℕ). if not (f m) then 1 else 0) x xs in
    elim (cases_Bool (f x)) [
      | inl y ↦
          let zero_here : ◌≡◌ {A = ℕ} (if not (f x) then 1 else 0) 0 = rw y refl in
          elim (cases_eq x n) [
            | inl same ↦ ap f (sym same) ∙ y
            | inr other ↦
                (let z = ne_eqb x n other in let l : times n (x ∷ xs) ≡ 0 + times n xs = rw z refl in
                no_dead f xs n (omega (arith, e, count, zero_here)) (omega (arith, h, l)))
          ]
      | inr z ↦
          let one_here : ◌≡◌ {A = ℕ} (if not (f x) then 1 else 0) 1 = rw z refl in
          absurd (omega (arith, e, count, one_here))
    ]

-- where none is dead, each segment of a chain has a live item
pub all_alive : (lives : Liveness) (p : PoolState) (n : ℕ) → IsPool p → dead_segments lives p ≡ 0
    → IsSome (segment_at p n) → has_live lives p n ≡ true
all_alive lives p n pool none some =
    let named : times n p.order ≡ 1 = pool.named n ∙ rw some refl in
    no_dead (has_live lives p) p.order n none (omega (arith, named))

-- and none was given back
pub full_given : (lives : Liveness) (p after : PoolState) → IsPool p → IsPoolFull p → IsGivenBack lives p after
    → dead_segments lives p ≡ 0 → IsPoolFull after
full_given lives p after pool full g none n lt =
    let within : n < p.sizes.segments = subst (λ s. n < s.segments) g.sizes lt in
    let alive = all_alive lives p n pool none (full n within) in
    let e : segment_at after n ≡ segment_at p n = g.segments n ∙ rw alive refl in
    subst IsSome (sym e) (full n within)
