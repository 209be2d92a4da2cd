-- An item that is written where little is held: nothing is given back or evicted for it, and
-- segments stay filled.
use Rattle.std.proofs.Common.{◌≡◌, ℕ, ◌+◌, ◌-◌, ◌*◌, ◌≤◌, Bool, true, false, List, [], ◌∷◌, ◌++◌, map, Option}
use Rattle.std.proofs.Common.{Some, refl, sym, ap, subst, ◌∙◌, inl, inr, arith}
use Rattle.std.specs.Prelude.{◌⊎◌, ◌==◌, ◌||◌, if◌then◌else◌}
use Rattle.std.specs.List.{list_any, AllByRecursion}
use Rattle.std.specs.Option.{option_map_or}
use Rattle.std.specs.FinMap as finite
use Rattle.std.proofs.lemmas.Bool.{cases_Bool, eq-eqb, eqb-true, and_from, or_left, or_right}
use Rattle.std.proofs.lemmas.List.Sums.{sum_by_push}
use Rattle.proto.specs.Sizes.{item_limit}
use Rattle.proto.specs.Cache.{Entries}
use Rattle.proto.specs.Steps.{without_keys}
use Rattle.proto.specs.Stored.{StoredItem, written, spread}
use Rattle.proto.proofs.CacheLemmas.{without-nil}
use Rattle.segments.specs.declared.place.Place.{Place}
use Rattle.segments.specs.Items.{Item, size_of_item, IsStorable}
use Rattle.segments.specs.Pools.{PoolState, IsPool, Used, Liveness, segment_at, lasting}
use Rattle.segments.specs.Rules.{opening_moment}
use Rattle.segments.specs.Changes.{HasNoRoom, IsAddedToTail, IsAddedToFree}
use Rattle.segments.specs.Filling.{IsFilled, HoldsLittle, held_size, Series, series_for, series_of, same_series, series_among, series_with}
use Rattle.segments.proofs.FilledLemmas.{keeps_append}
use Rattle.segments.proofs.SeriesLemmas.{AreUsed, has_space, order_used}
use Rattle.index.specs.Table.{Table}
use Rattle.segcache.specs.Shown.{shown_entries, entry_at}
use Rattle.segcache.specs.Invariants.{IsPast}
use Rattle.segcache.specs.Allocation.{MakesRoom}
use Rattle.segcache.specs.Allocation.MakesRoom.{has_room, gives_back, evicts}
use Rattle.segcache.specs.ForgottenKeys.{keys_forgotten, PlacesItem}
use Rattle.segcache.specs.Keeping.{AllLast}
use Rattle.segcache.proofs.OpeningMoments.{in_time_past}
use Rattle.segcache.proofs.AppendedItems.{in_segment}

-- where there is room, none is made, and nothing is forgotten for it
record IsUnmade (lives : Liveness) (p : PoolState) (bucket t : ℕ) (i : Item) (after : PoolState)
    (room : MakesRoom lives p bucket t i after) : Type 0 where
  same : after ≡ p
  nothing : keys_forgotten lives p bucket t i after room ≡ []

-- where an item has room, to make room for it leaves the pool as it was and forgets no key
room_there : (lives : Liveness) (p : PoolState) (bucket t : ℕ) (i : Item) (after : PoolState)
    (room : MakesRoom lives p bucket t i after)
    → (HasNoRoom p bucket t i → ⊥)
    → IsUnmade lives p bucket t i after room
room_there lives p bucket t i after (has_room there) fits = record { same = refl; nothing = refl }
room_there lives p bucket t i _ (gives_back after full dead given) fits = absurd (fits full)
room_there lives p bucket t i _ (evicts after full none evicted) fits = absurd (fits full)

-- What an item leaves at its place that was written where little was held: nothing was given back,
-- evicted or forgotten for it, segments stay filled, and what is held grows by the item.
pub record IsKeptWith (p : PoolState) (index : Table) (bucket t : ℕ) (i : Item) (after : PoolState) (found : Table)
    (place : Place) : Type 0 where
  pub added : IsAddedToTail p bucket t i after place ⊎ IsAddedToFree p bucket t i after place
  pub entries : shown_entries after found t ≡ finite.insert (shown_entries p index t) i.key (entry_at after place)
  pub filled : IsFilled after
  pub held : held_size after ≡ held_size p + size_of_item i

-- so it is with an item that was placed where little was held
pub kept_with : (lives : Liveness) (p : PoolState) (index : Table) (bucket t : ℕ) (i : Item) (after : PoolState)
    (found : Table)
    → IsPool p → IsPast p t → IsStorable (item_limit p.sizes) i → IsFilled p → HoldsLittle p bucket t
    → (x : PlacesItem lives p index bucket t i after found) → IsKeptWith p index bucket t i after found x.place
kept_with lives p index bucket t i after found pool past storable filled little x =
    let time = in_time_past p t pool past in
    let there = room_there lives p bucket t i x.written.roomy x.written.room
    (has_space p bucket t i pool time filled little storable) in
    let added : IsAddedToTail p bucket t i after x.place ⊎ IsAddedToFree p bucket t i after x.place =
    subst (λ (q : PoolState). IsAddedToTail q bucket t i after x.place ⊎ IsAddedToFree q bucket t i after x.place)
    there.same x.written.added in
    let kept = keeps_append p bucket t i after x.place pool storable
    (record { filled = filled; in_time = time }) added in
    record {
      added = added;
      entries = x.entries ∙ ap (λ (keys : List (List ℕ)). finite.insert
          (without_keys (shown_entries p index t) keys) i.key
          (entry_at after x.place)) there.nothing
          ∙ ap (λ (e : Entries). finite.insert e i.key (entry_at after x.place))
          (without-nil (shown_entries p index t));
      filled = kept.0.filled;
      held = kept.1;
    }

-- ---- one series

-- segments that are all of the bucket without deadlines are of one series
abbrev AreOf : Series → List Series → Type 0
AreOf g series = AllByRecursion (λ (h : Series). h ≡ g) series

-- series that are all the same count as one
series_of_one : (g : Series) (series : List Series) → AreOf g series → series_among (g ∷ series) ≡ 1
series_of_one g [] all = refl
series_of_one g (h ∷ series) all =
    let same : same_series g h ≡ true = ap (same_series g) all.0 ∙ same_itself g in
    let any : list_any (same_series g) (h ∷ series) ≡ true =
    ap (λ (b : Bool). b || list_any (same_series g) series) same in
    let rest : series_among (h ∷ series) ≡ 1 =
    ap (λ (x : Series). series_among (x ∷ series)) all.0 ∙ series_of_one g series all.1 in
    ap (λ (b : Bool). (if b then 0 else 1) + series_among (h ∷ series)) any ∙ zero_more (series_among (h ∷ series)) rest
  where
    zero_more : (n : ℕ) → n ≡ 1 → 0 + n ≡ 1
    zero_more n e = omega arith

    same_itself : (g : Series) → same_series g g ≡ true
    same_itself g = and_from (g.bucket == g.bucket) (g.opened == g.opened) (eq-eqb g.bucket g.bucket refl)
        (eq-eqb g.opened g.opened refl)

-- where each segment is of the bucket of what has no deadline, segments of chains are all of that
-- bucket's one series
series_last : (p : PoolState) (t : ℕ) (numbers : List ℕ) → AreUsed p numbers → AllLast p
    → AreOf (series_for lasting t) (map (series_of p) numbers)
series_last p t [] used all = tt
series_last p t (n ∷ later) used all =
    let u = used.0.0 in
    let is : series_of p n ≡ series_for u.bucket u.opened =
    ap (λ (o : Option Used). series_for (option_map_or (λ (s : Used). s.bucket) o lasting)
    (option_map_or (λ (s : Used). s.opened) o 0)) used.0.1 in
    (is ∙ ap (λ (b : ℕ). series_for b u.opened) (all n u used.0.1), series_last p t later used.1 all)

-- where all is of that bucket, an item of it goes to the one series
pub one_series : (p : PoolState) (t : ℕ) → IsPool p → AllLast p → series_with p lasting t ≡ 1
one_series p t pool all =
    let k = opening_moment p.eviction lasting t in
    series_of_one (series_for lasting k) (map (series_of p) p.order) (series_last p k p.order (order_used p pool) all)

-- ---- items without deadlines

-- these stored items are all of the bucket of what has no deadline
abbrev AreLast : List StoredItem → Type 0
AreLast items = AllByRecursion (λ (i : StoredItem). i.bucket ≡ lasting) items

-- stored items without deadlines, of which there is at least one, are all in one bucket
spread_last : (items : List StoredItem) (one : StoredItem) → AreLast items → one.bucket ≡ lasting
    → spread (items ++ one ∷ []) ≡ 1
spread_last [] one all is = refl
spread_last (i ∷ items) one all is =
    let rest : spread (items ++ one ∷ []) ≡ 1 = spread_last items one all.1 is in
    let any = any_last items one i.bucket all.1 (is ∙ sym all.0) in
    rw any rest
  where
    any_last : (items : List StoredItem) (one : StoredItem) (b : ℕ) → AreLast items → one.bucket ≡ b
        → list_any (λ (m : ℕ). m == b) (map (λ (i : StoredItem). i.bucket) (items ++ one ∷ [])) ≡ true
    any_last [] one b all e = or_left (one.bucket == b) false (eq-eqb one.bucket b e)
    any_last (i ∷ items) one b all e = or_right (i.bucket == b) _ (any_last items one b all.1 e)

-- with one stored item more the bytes that were written grow by its size
pub written_more : (items : List StoredItem) (one : StoredItem) → written (items ++ one ∷ []) ≡ written items + one.size
written_more items one = sum_by_push (λ (i : StoredItem). i.size) items one

-- with one more that has no deadline, stored items without deadlines still have none
pub all_last : (items : List StoredItem) (one : StoredItem) → AreLast items → one.bucket ≡ lasting
    → AreLast (items ++ one ∷ [])
all_last [] one all is = (is, tt)
all_last (i ∷ items) one all is = (all.0, all_last items one all.1 is)

-- what is, with something added, no more than all but one of some equal parts is with one part no
-- more than all of them
within_bound : (held d more s one : ℕ) → one ≡ 1 → 1 ≤ s → held + more ≤ (s - one) * d → held + 1 * d ≤ s * d
within_bound held d more s one is some h = grind arith

-- Where all that was written is within the bound together with an item, so little is held that the
-- item has room.
pub holds_little : (p : PoolState) (t : ℕ) (items : List StoredItem) (one : StoredItem) → IsPool p → AllLast p
    → AreLast items → one.bucket ≡ lasting → held_size p ≤ written items
    → written (items ++ one ∷ []) ≤ (p.sizes.segments - spread
    (items ++ one ∷ [])) * (p.sizes.segment_size - item_limit p.sizes) → HoldsLittle p lasting t
holds_little p t items one pool all last is held bound =
    let series = one_series p t pool all in
    let spread_is = spread_last items one last is in
    let more = written_more items one in
    let some = pool.geometry.fewest in
    let d = p.sizes.segment_size - item_limit p.sizes in
    subst (λ (k : ℕ). held_size p + k * d ≤ p.sizes.segments * d) (sym series)
    (within_bound (held_size p) d one.size p.sizes.segments (spread (items ++ one ∷ [])) spread_is (omega arith)
    (omega arith))

-- ---- the bucket of what has no deadline

-- an item of that bucket leaves all segments of it
pub last_appended : (p : PoolState) (t : ℕ) (i : Item) (after : PoolState) (place : Place) → IsPool p → IsPast p t
    → IsAddedToTail p lasting t i after place ⊎ IsAddedToFree p lasting t i after place
    → AllLast p → AllLast after
last_appended p t i after place pool past added all n u e =
    let x = in_segment p lasting t i after place pool past added in
    elim (cases_Bool (n == place.segment)) [
      | inl y ↦
          let one : Some u ≡ Some x.used = sym e ∙ ap (segment_at after) (eqb-true n place.segment y) ∙ x.is_at in
          let is : u ≡ x.used = cc in
          ap (λ (s : Used). s.bucket) is ∙ x.of_bucket
      | inr f ↦ all n u (sym (x.others n f) ∙ e)
    ]
