-- When segments were opened, after each change of a pool.
use Rattle.std.proofs.Common.{◌≡◌, ℕ, ◌≤◌, Bool, true, false, List, [], ◌∷◌, Option, Some, None, refl, sym, ap, subst, ◌∙◌, inl, inr}
use Rattle.std.proofs.Common.{le_trans}
use Rattle.std.specs.Prelude.{option_map, IsSome, All, ◌==◌, if◌then◌else◌}
use Rattle.std.specs.Option.{option_map_or}
use Rattle.std.proofs.lemmas.List.Elements.{All-nil, All-cons}
use Rattle.std.proofs.lemmas.Bool.{cases_Bool}
use Rattle.std.proofs.lemmas.Option.{none-some}
use Rattle.segments.specs.declared.place.Place.{Place}
use Rattle.segments.specs.Pools.{PoolState, IsPool, Used, Liveness, segment_at, has_live, lasting}
use Rattle.segments.specs.Rules.{opening_moment}
use Rattle.segments.specs.Items.{Item}
use Rattle.segments.specs.Changes.{with_change, with_segment_hit, change_in, without_segment, IsGivenBack}
use Rattle.segments.specs.Chains.{opened_at}
use Rattle.proto.specs.declared.eviction.Eviction.{Eviction}
use Rattle.segments.specs.Filling.{IsInTime, IsOpenedBy}
use Rattle.segments.specs.Chains.{bucket_in}
use Rattle.segments.proofs.OpeningLemmas.{opening_later}
use Rattle.segments.proofs.Places.{changed_segment, cleared_segment}
use Rattle.segments.proofs.SeriesLemmas.{AreUsed, order_used}
use Rattle.segments.proofs.InTimeLemmas.{order_changed, order_same, order_part, part_given, part_cleared}
use Rattle.segments.specs.Pools.{item_in}
use Rattle.segcache.specs.Invariants.{IsPast}
use Rattle.segcache.specs.Invariants.{IsDatedIn}
use Rattle.segments.proofs.ItemChanges.{KeepsSize, some_kept}
use Rattle.segments.proofs.Places.{changed_item, changed_shared, cleared_item, cleared_shared, given_item, given_shared}
use Rattle.segments.specs.Places.{same_place}
use Rattle.segments.proofs.MovedPlaces.{same_place_is}
use Rattle.segments.specs.Pools.{shared_at}

-- where segments stand in order and none was opened after a moment, it is so at each later moment
-- within the limit
pub past_later : (p : PoolState) (t u : ℕ) → IsPast p t → t ≤ u → u ≤ 4611686018427387904 → IsPast p u
past_later p t u past le within = record {
  within = within;
  opened = λ n s e. le_trans (past.opened n s e) (opening_later p.eviction s.bucket t u le);
  in_order = past.in_order;
  dated = past.dated;
}

-- a segment that is there once one of its items was changed was there before, of the same bucket,
-- opened at the same moment
pub was_opened : (change : Item → Item) (o : Option Used) (offset : ℕ) (u : Used)
    → option_map (change_in change offset) o ≡ Some u
    → (s : Used) × (o ≡ Some s) × (u.opened ≡ s.opened) × (u.bucket ≡ s.bucket)
was_opened change None offset u e = absurd (none-some u e)
was_opened change (Some s) offset u e =
    let f : change_in change offset s ≡ u = cc in
    (s, refl, sym (ap (λ (x : Used). x.opened) f), sym (ap (λ (x : Used). x.bucket) f))

-- of two segments of one bucket with one opening moment both could be opened by a moment, or none
pub earlier : (e : Eviction) (t : ℕ) (s u : Used) → u.opened ≡ s.opened → u.bucket ≡ s.bucket
    → s.opened ≤ opening_moment e s.bucket t → u.opened ≤ opening_moment e u.bucket t
earlier e t s u moment bucket le =
    subst (λ (x : ℕ). x ≤ opening_moment e u.bucket t) (sym moment)
    (subst (λ (b : ℕ). s.opened ≤ opening_moment e b t) (sym bucket) le)

-- where an item is changed, segments still stand in order, and none was opened after the moment
pub past_changed : (change : Item → Item) (p : PoolState) (t : ℕ) (place : Place) → IsPast p t
    → KeepsSize change (item_in p place)
    → ((i : Item) → item_in p place ≡ Some i → IsDatedIn p.exact (shared_at p place) (change i))
    → IsPast (with_change change p place) t
past_changed change p t place past k each =
    let some = some_kept change (item_in p place) k in
    record {
      within = past.within;
      opened = λ n u e.
          (let at = changed_segment change p place n some in
          elim (cases_Bool (n == place.segment)) [
            | inl y ↦
                let r = was_opened change (segment_at p place.segment) place.offset u (sym (at ∙ rw y refl) ∙ e) in
                earlier p.eviction t r.0 u r.2 r.3 (past.opened place.segment r.0 r.1)
            | inr f ↦ past.opened n u (sym (at ∙ rw f refl) ∙ e)
          ]);
      in_order = order_changed change p place some past.in_order;
      dated = λ r j e.
          (let now = changed_item change p place r k in
          let shared = changed_shared change p place r some in
          elim (cases_Bool (same_place r place)) [
            | inl y ↦
                let there : r ≡ place = same_place_is r place y in
                let was : item_in p r ≡ Some k.item = ap (item_in p) there ∙ k.is in
                let changed : option_map change (item_in p r) ≡ Some (change k.item) = ap (option_map change) was in
                let one : Some j ≡ Some (change k.item) = sym e ∙ now ∙ rw y changed in
                let is : j ≡ change k.item = cc in
                subst (λ (d : Option ℕ). IsDatedIn p.exact d j) (sym (shared ∙ ap (shared_at p) there))
                (subst (IsDatedIn p.exact (shared_at p place)) (sym is) (each k.item k.is))
            | inr n ↦
                let was : item_in p r ≡ Some j = sym (now ∙ rw n refl) ∙ e in
                subst (λ (d : Option ℕ). IsDatedIn p.exact d j) (sym shared) (past.dated r j was)
          ]);
    }

-- where only a hit of a segment is counted, nothing changes of that
pub past_hit : (p after : PoolState) (t n : ℕ) → after ≡ with_segment_hit p n → IsPast p t → IsPast after t
past_hit p after t n is past =
    subst (λ (q : PoolState). IsPast q t) (sym is)
    (record {
      within = past.within;
      opened = past.opened;
      in_order = order_same p (with_segment_hit p n) refl refl refl past.in_order;
      dated = past.dated;
    })

-- a segment that is kept where a test holds, and is there, is the one that was there
part_of : (b : Bool) (o : Option Used) (u : Used) → (if b then o else None) ≡ Some u → o ≡ Some u
part_of true o u e = e
part_of false o u e = absurd (none-some u e)

-- where segments are given back, the others still stand in order, and none was opened after the
-- moment
pub past_given : (lives : Liveness) (p after : PoolState) (t : ℕ) → IsPast p t → IsGivenBack lives p after
    → IsPast after t
past_given lives p after t past g =
    record {
      within = past.within;
      opened = λ n u e. subst (λ (k : Eviction). u.opened ≤ opening_moment k u.bucket t) (sym g.eviction)
          (past.opened n u (part_of (has_live lives p n) (segment_at p n) u (sym (g.segments n) ∙ e)));
      in_order = order_part p after (part_given lives p after g) past.in_order;
      dated = λ r j e.
          elim (cases_Bool (has_live lives p r.segment)) [
            | inl y ↦
                let was : item_in p r ≡ Some j = sym (given_item lives p after r g ∙ rw y refl) ∙ e in
                let shared : shared_at after r ≡ shared_at p r = given_shared lives p after r g ∙ rw y refl in
                subst (λ (b : Bool). IsDatedIn b (shared_at after r) j) (sym g.exact)
                (subst (λ (d : Option ℕ). IsDatedIn p.exact d j) (sym shared) (past.dated r j was))
            | inr n ↦
                let none : item_in after r ≡ None = given_item lives p after r g ∙ rw n refl in
                absurd (none-some j (sym none ∙ e))
          ];
    }

-- a segment that is taken away where a test holds, and is there, is the one that was there
other_part : (b : Bool) (o : Option Used) (u : Used) → (if b then None else o) ≡ Some u → o ≡ Some u
other_part true o u e = absurd (none-some u e)
other_part false o u e = e

-- where a segment is cleared, the others still stand in order, and none was opened after the moment
pub past_cleared : (p : PoolState) (t n : ℕ) → IsPast p t → IsSome (segment_at p n) → IsPast (without_segment p n) t
past_cleared p t n past some =
    record {
      within = past.within;
      opened = λ m u e. past.opened m u (other_part (m == n) (segment_at p m) u (sym (cleared_segment p n m some) ∙ e));
      in_order = order_part p (without_segment p n) (part_cleared p n some) past.in_order;
      dated = λ r j e.
          elim (cases_Bool (r.segment == n)) [
            | inl y ↦
                let none : item_in (without_segment p n) r ≡ None = cleared_item p n r some ∙ rw y refl in
                absurd (none-some j (sym none ∙ e))
            | inr f ↦
                let was : item_in p r ≡ Some j = sym (cleared_item p n r some ∙ rw f refl) ∙ e in
                let shared : shared_at (without_segment p n) r ≡ shared_at p r =
                cleared_shared p n r some ∙ rw f refl in
                subst (λ (d : Option ℕ). IsDatedIn p.exact d j) (sym shared) (past.dated r j was)
          ];
    }

-- the segments of chains were opened in time
opened_all : (p : PoolState) (t : ℕ) (numbers : List ℕ) → AreUsed p numbers → IsPast p t
    → All (IsOpenedBy p.eviction p t) numbers
opened_all p t [] used past = All-nil (IsOpenedBy p.eviction p t)
opened_all p t (n ∷ later) used past =
    let u = used.0.0 in
    let is : opened_at p n ≡ u.opened = ap (λ (o : Option Used). option_map_or (λ (s : Used). s.opened) o 0) used.0.1 in
    let of : bucket_in p n ≡ u.bucket =
    ap (λ (o : Option Used). option_map_or (λ (s : Used). s.bucket) o lasting) used.0.1 in
    All-cons (IsOpenedBy p.eviction p t) n later
    (subst (λ (x : ℕ). x ≤ opening_moment p.eviction (bucket_in p n) t) (sym is)
    (subst (λ (b : ℕ). u.opened ≤ opening_moment p.eviction b t) (sym of) (past.opened n u used.0.1)))
    (opened_all p t later used.1 past)

-- where no segment was opened after a moment, none that the pool's order names was, and they stand
-- in the order of opening
pub in_time_past : (p : PoolState) (t : ℕ) → IsPool p → IsPast p t → IsInTime p t
in_time_past p t pool past = record { order = past.in_order; past = opened_all p t p.order (order_used p pool) past }
