-- The moves of a merge, in an order in which a table can be relocated by them.
use Rattle.std.proofs.Common.{◌≡◌, ◌≢◌, ℕ, ◌+◌, ◌<◌, ◌≤◌, Bool, true, false, List, [], ◌∷◌, ◌++◌, get_or, map, filter}
use Rattle.std.proofs.Common.{Option, Some, None, refl, sym, ap, subst, ◌∙◌, inl, inr, arith}
use Rattle.std.specs.Prelude.{⊤, All}
use Rattle.std.proofs.lemmas.Bool.{cases_Bool, cases_eq, eq-eqb, ne_eqb, le-ltb, false≢true}
use Rattle.std.proofs.lemmas.List.Elements.{All-nil, All-cons, All-head, All-tail, All-append, All-filter}
use Rattle.segments.specs.declared.place.Place.{Place}
use Rattle.segments.specs.Items.{Item, size_of_item}
use Rattle.proto.specs.Counts.{times}
use Rattle.segments.specs.Pools.{PoolState, Plan, IsPool, Liveness, Standing, segment_at, items_of, deadline_in, standing, standing_from, live_standing}
use Rattle.segments.specs.Merges.{IsPlan, Judged, moves_into, merged_segments, live_items, contains_number, first_of_list}
use Rattle.segments.proofs.ItemLayout.{some_size}
use Rattle.segments.proofs.AgreeingTests.{in_segment}
use Rattle.segments.proofs.PlanLemmas.{standing_in}
use Rattle.segments.proofs.MergingLemmas.{contains_is}
use Rattle.segments.proofs.MovedPlaces.{merged_once, in_numbers}
use Rattle.index.specs.Relocating.{AreInTurn}
use Rattle.segments.specs.Items.{item_deadline}

-- One item stands before another: at lower bytes where both are in one segment; and none stands in
-- the first segment after one that doesn't.
pub record IsBefore (first : ℕ) (s r : Standing) : Type 0 where
  pub below : s.place.segment ≡ r.place.segment → s.place.offset + size_of_item s.item ≤ r.place.offset
  pub led : r.place.segment ≡ first → s.place.segment ≡ first

-- each stands before those after it
abbrev pub AreLaid : ℕ → List Standing → Type 0
AreLaid first [] = ⊤
AreLaid first (s ∷ ss) = All (IsBefore first s) ss × AreLaid first ss

-- ---- the live items of segments

-- items of a segment from an offset on stand there
at_offset : (n off : ℕ) (items : List Item) → All (λ s. off ≤ s.place.offset) (standing_from n off items)
at_offset n off [] = All-nil (λ s. off ≤ s.place.offset)
at_offset n off (i ∷ items) =
    All-cons (λ s. off ≤ s.place.offset) (record { place = record { segment = n; offset = off }; item = i })
    (standing_from n (off + size_of_item i) items) (omega arith)
    (λ k d lt. let h = at_offset n (off + size_of_item i) items k d lt in omega arith)

-- the items of a segment stand each before those after it
segment_laid : (first n off : ℕ) (items : List Item) → AreLaid first (standing_from n off items)
segment_laid first n off [] = tt
segment_laid first n off (i ∷ items) = (
  λ k d lt. record {
    below = λ _. at_offset n (off + size_of_item i) items k d lt;
    led = λ e. sym (in_segment n (off + size_of_item i) items k d lt) ∙ e;
  },
  segment_laid first n (off + size_of_item i) items,
)

-- items that stand each before those after it still do where some are left out
filter_laid : (first : ℕ) (p : Standing → Bool) (ss : List Standing) → AreLaid first ss → AreLaid first (filter p ss)
filter_laid first p [] h = tt
filter_laid first p (s ∷ ss) h =
    elim (cases_Bool (p s)) [
      | inl t ↦ rw t (All-filter p (IsBefore first s) ss h.0, filter_laid first p ss h.1)
      | inr f ↦ rw f (filter_laid first p ss h.1)
    ]

-- two lists of items that stand in order make one in order, where each item of the first list
-- stands before all of the second
append_laid : (first : ℕ) (xs ys : List Standing) → AreLaid first xs → AreLaid first ys
    → All (λ x. All (IsBefore first x) ys) xs → AreLaid first (xs ++ ys)
append_laid first [] ys h k cross = k
append_laid first (x ∷ xs) ys h k cross = (
  All-append (IsBefore first x) xs ys h.0 (All-head (λ z. All (IsBefore first z) ys) x xs cross),
  append_laid first xs ys h.1 k (All-tail (λ z. All (IsBefore first z) ys) x xs cross),
)

-- no number stands twice
abbrev pub AreOnce : List ℕ → Type 0
AreOnce [] = ⊤
AreOnce (n ∷ numbers) = (contains_number numbers n ≡ false) × AreOnce numbers

-- no number stands twice in a list in which each is counted once at most
once_from : (numbers : List ℕ) → ((m : ℕ) → times m numbers ≤ 1) → AreOnce numbers
once_from [] h = tt
once_from (n ∷ numbers) h =
    let z = eq-eqb n n refl in
    let here : times n (n ∷ numbers) ≡ 1 + times n numbers = rw z refl in
    let one = h n in (
      contains_is numbers n ∙ le-ltb 0 (times n numbers) (omega arith),
      once_from numbers (λ m. let part = more m in let all = h m in omega arith),
    )
  where
    more : (m : ℕ) → times m numbers ≤ times m (n ∷ numbers)
    more m =
        elim (cases_eq n m) [
          | inl e ↦ (let z = eq-eqb n m e in let whole : times m (n ∷ numbers) ≡ 1 + times m numbers = rw z refl in
              omega arith)
          | inr e ↦ (let z = ne_eqb n m e in let whole : times m (n ∷ numbers) ≡ 0 + times m numbers = rw z refl in
              omega arith)
        ]

-- the live items of a segment stand in it
in_one : (lives : Liveness) (p : PoolState) (n : ℕ) → All (λ s. s.place.segment ≡ n) (live_standing lives p n)
in_one lives p n =
    All-filter (λ s. lives s.place s.item (item_deadline s.item (deadline_in (segment_at p n)))) (λ s. s.place.segment ≡ n) (standing p n)
    (in_segment n 0 (items_of (segment_at p n)))

-- the live items of a segment stand before those of later ones
cons_laid : (lives : Liveness) (p : PoolState) (first n : ℕ) (numbers : List ℕ) → contains_number numbers first ≡ false
    → contains_number numbers n ≡ false
    → AreLaid first (live_items lives p numbers) → AreLaid first (live_items lives p (n ∷ numbers))
cons_laid lives p first n numbers none once later =
    append_laid first (live_standing lives p n) (live_items lives p numbers)
    (filter_laid first (λ s. lives s.place s.item (item_deadline s.item (deadline_in (segment_at p n)))) (standing p n)
    (segment_laid first n 0 (items_of (segment_at p n))))
    later
    (λ k d lt i e below.
    let y = (get_or (live_items lives p numbers) i e).place.segment in
    let among : contains_number numbers y ≡ true = in_numbers lives p numbers i e below in
    record {
      below = λ same. absurd (false≢true
          (sym once ∙ ap (contains_number numbers) (sym (in_one lives p n k d lt) ∙ same) ∙ among));
      led = λ is. absurd (false≢true (sym none ∙ ap (contains_number numbers) (sym is) ∙ among));
    })

-- those of segments among which the first one isn't
others_laid : (lives : Liveness) (p : PoolState) (first : ℕ) (numbers : List ℕ) → contains_number numbers first ≡ false
    → AreOnce numbers
    → AreLaid first (live_items lives p numbers)
others_laid lives p first [] none once = tt
others_laid lives p first (m ∷ numbers) none once =
    elim (cases_eq m first) [
      | inl e ↦ (let z = eq-eqb m first e in absurd (false≢true (sym none ∙ rw z refl)))
      | inr e ↦
          let z = ne_eqb m first e in
          let rest : contains_number numbers first ≡ false = rw z at none in
          cons_laid lives p first m numbers rest once.0 (others_laid lives p first numbers rest once.1)
    ]

-- ---- the moves

-- what holds of each item where it stands, in a list without the judgements, holds of each judged
-- item where it stands
standing_all : (P : Standing → Type 0) (js : List Judged) → All P (map standing_in js) → All (λ j. P (standing_in j)) js
standing_all P [] all = All-nil (λ j. P (standing_in j))
standing_all P (j ∷ js) all =
    All-cons (λ x. P (standing_in x)) j js (All-head P (standing_in j) (map standing_in js) all)
    (standing_all P js (All-tail P (standing_in j) (map standing_in js) all))

-- what holds of each item's place holds where each move starts
starts_all : (P : Place → Type 0) (n off : ℕ) (js : List Judged) → All (λ j. P j.place) js
    → All (λ m. P m.source) (moves_into n off js)
starts_all P n off [] all = All-nil (λ m. P m.source)
starts_all P n off (j ∷ js) all =
    elim (cases_Bool j.is_kept) [
      | inl t ↦
          rw t (All-cons (λ m. P m.source)
          (record { source = j.place; target = Some (record { segment = n; offset = off }) })
          (moves_into n (off + size_of_item j.item) js)
          (All-head (λ x. P x.place) j js all)
          (starts_all P n (off + size_of_item j.item) js (All-tail (λ x. P x.place) j js all)))
      | inr f ↦
          rw f (All-cons (λ m. P m.source) (record { source = j.place; target = None }) (moves_into n off js)
          (All-head (λ x. P x.place) j js all) (starts_all P n off js (All-tail (λ x. P x.place) j js all)))
    ]

-- moves of items that are laid one before the other are in turn
moves_in_turn : (first off : ℕ) (js : List Judged) → AreLaid first (map standing_in js)
    → All (λ j. j.place.segment ≡ first → off ≤ j.place.offset) js
    → AreInTurn (moves_into first off js)
moves_in_turn first off [] laid ahead = tt
moves_in_turn first off (j ∷ js) laid ahead =
    elim (cases_Bool j.is_kept) [
      | inl t ↦ rw t (
        starts_all (λ q. (j.place ≢ q) × (Some (record { segment = first; offset = off }) ≢ Some q)) first
            (off + size_of_item j.item) js
            (λ k d lt. (apart (get_or js k d) (before k d lt), λ same. free (get_or js k d) (before k d lt) cc)),
        moves_in_turn first (off + size_of_item j.item) js laid.1
            (λ k d lt is.
            let h = before k d lt in
            let own = h.led is in
            let le = h.below (own ∙ sym is) in
            let from = All-head (λ x. x.place.segment ≡ first → off ≤ x.place.offset) j js ahead own in
            omega (arith, le, from)),
      )
      | inr f ↦ rw f (
        starts_all (λ q. (j.place ≢ q) × (◌≡◌ {A = Option Place} None (Some q) → ⊥)) first off js
            (λ k d lt. (apart (get_or js k d) (before k d lt), λ same. cc)),
        moves_in_turn first off js laid.1 (All-tail (λ x. x.place.segment ≡ first → off ≤ x.place.offset) j js ahead),
      )
    ]
  where
    size : 0 < size_of_item j.item
    size = (let s = some_size j.item in omega (arith, s))

    before : All (λ r. IsBefore first (standing_in j) (standing_in r)) js
    before = standing_all (IsBefore first (standing_in j)) js laid.0

    apart : (r : Judged) → IsBefore first (standing_in j) (standing_in r) → j.place ≢ r.place
    apart r h e =
        let offset = ap (λ (q : Place). q.offset) e in
        let le = h.below (ap (λ (q : Place). q.segment) e) in
        absurd (omega (arith, size, offset, le))

    free : (r : Judged) → IsBefore first (standing_in j) (standing_in r)
        → record { segment = first; offset = off } ≢ r.place
    free r h e =
        let segment : first ≡ r.place.segment = ap (λ (q : Place). q.segment) e in
        let offset : off ≡ r.place.offset = ap (λ (q : Place). q.offset) e in
        let own = h.led (sym segment) in
        let le = h.below (own ∙ segment) in
        let from = All-head (λ x. x.place.segment ≡ first → off ≤ x.place.offset) j js ahead own in
        absurd (omega (arith, size, offset, le, from))

-- no move of a plan starts where an earlier one started or put its item
pub plan_in_turn : (lives : Liveness) (p : PoolState) (plan : Plan) → IsPool p → IsPlan lives p plan
    → AreInTurn plan.moves
plan_in_turn lives p plan k h =
    subst AreInTurn (sym h.moves_are)
    (moves_in_turn (first_of_list (merged_segments p plan.choice)) 0 h.judged
    (subst (AreLaid (first_of_list (merged_segments p plan.choice))) (sym h.is_judged.all_live)
    (by (merged_segments p plan.choice)
    (once_from (merged_segments p plan.choice) (λ m. merged_once p plan.choice m k))))
    (λ i d lt is. zero_le (get_or h.judged i d).place.offset))
  where
    zero_le : (n : ℕ) → 0 ≤ n
    zero_le n = omega arith

    by : (ns : List ℕ) → AreOnce ns → AreLaid (first_of_list ns) (live_items lives p ns)
    by [] once = tt
    by (n ∷ ns) once = cons_laid lives p n n ns once.0 once.0 (others_laid lives p n ns once.0 once.1)
