-- The keys of a pool's places where an item is appended.
use Rattle.std.proofs.Common.{◌≡◌, ◌≢◌, ℕ, ◌-◌, ◌<◌, List, [], ◌∷◌, ◌++◌, length, refl, sym, ap, ◌∙◌, inl, inr, ◌⊎◌}
use Rattle.std.proofs.Common.{arith, Option, Some, None, get_or-set_same, get_or-set_other}
use Rattle.std.specs.Prelude.{option_map, slice_index_or, IsSome, nat_lt}
use Rattle.std.proofs.lemmas.Bool.{cases_Bool}
use Rattle.std.proofs.lemmas.Bool.Decides.{leb_tells, eqb_tells}
use Rattle.std.proofs.Math.ListN.{get_or-eq_default}
use Rattle.segments.specs.declared.place.Place.{Place}
use Rattle.segments.specs.Items.{Item, item_at, size_of_item}
use Rattle.segments.specs.Pools.{PoolState, Used, segment_at, items_of, item_in, IsPool}
use Rattle.segments.specs.Rules.{opening_moment}
use Rattle.segments.specs.Changes.{with_segment, with_item, IsAddedToTail, IsAddedToFree}
use Rattle.segments.proofs.WalkLemmas.{item_behind}
use Rattle.index.specs.Keys.{IsKeyAdded}
use Rattle.segments.specs.Pools.{key_at}

-- an item stays where it is when one is put after all
item_at-append : (items : List Item) (offset : ℕ) (more : List Item) → IsSome (item_at items offset)
    → item_at (items ++ more) offset ≡ item_at items offset
item_at-append [] offset more some = cc
item_at-append (i ∷ items) offset more some =
    elim (eqb_tells offset 0) [
      | inl y ↦ rw y.0 refl
      | inr y ↦ elim (cases_Bool (nat_lt offset (size_of_item i))) [
        | inl z ↦ rw (y.0, z) refl
        | inr z ↦ rw (y.0, z) (item_at-append items (offset - size_of_item i) more (rw (y.0, z) at some))
      ]
    ]

-- a segment that is in use has a number below the count of segments
in_range : (us : List (Option Used)) (n : ℕ) (s : Used) → slice_index_or us n None ≡ Some s → n < length us
in_range us n s is =
    elim (leb_tells (length us) n) [
      | inl y ↦ (let e : None ≡ Some s = sym (get_or-eq_default us None y.1) ∙ is in cc)
      | inr y ↦ y.1
    ]

-- where a key is, an item is
pub some_key : (p : PoolState) (q : Place) → IsSome (key_at p q) → IsSome (item_in p q)
unfolding key_at
some_key p q some = by (item_in p q) some
  where
    by : (o : Option Item) → IsSome (option_map (λ (i : Item). i.key) o) → IsSome o
    by None h = h
    by (Some i) h = refl

-- where a segment of the pool is written, it is what was written
written : (p : PoolState) (n : ℕ) (s : Option Used) → n < length p.segments → segment_at (with_segment p n s) n ≡ s
written p n s r = get_or-set_same p.segments n s None r

-- where a segment of the pool is written, the others stay as they are
others : (p : PoolState) (n m : ℕ) (s : Option Used) → m ≢ n → segment_at (with_segment p n s) m ≡ segment_at p m
others p n m s differ = get_or-set_other p.segments n m s None differ

-- where an item goes after those of its bucket's tail, its place gets its key, and every other
-- place with a key keeps it
to_tail : (p after : PoolState) (bucket t : ℕ) (i : Item) (place : Place) → IsPool p
    → IsAddedToTail p bucket t i after place → IsKeyAdded p after place i.key
unfolding key_at
to_tail p after bucket t i place pool h =
    let n = place.segment in
    let s = h.segment in
    let r = in_range p.segments n s h.is_tail in
    let at : segment_at after n ≡ Some (with_item i s) =
    ap (λ (q : PoolState). segment_at q n) h.after_is ∙ written p n (Some (with_item i s)) r in
    record {
      new = rw (at, h.offset, item_behind s.items i []) refl;
      kept = λ q some. elim (eqb_tells q.segment n) [
        | inl y ↦
            let was : IsSome (item_at s.items q.offset) = rw (y.1, h.is_tail) at (some_key p q some) in
            rw (y.1, at, h.is_tail, item_at-append s.items q.offset (i ∷ []) was) refl
        | inr y ↦
            let same : segment_at after q.segment ≡ segment_at p q.segment =
            ap (λ (r : PoolState). segment_at r q.segment) h.after_is
            ∙ others p n q.segment (Some (with_item i s)) y.1 in
            rw same refl
      ];
      segment = (let c = pool.count in let g = pool.geometry.most in omega (arith, r, c, g));
    }

-- where a free segment is opened for an item, its place gets its key, and every other place with a
-- key keeps it
to_free : (p after : PoolState) (bucket t : ℕ) (i : Item) (place : Place) → IsPool p
    → IsAddedToFree p bucket t i after place → IsKeyAdded p after place i.key
unfolding key_at
to_free p after bucket t i place pool h =
    let n = place.segment in
    let s : Used = record { bucket = bucket; opened = opening_moment p.eviction bucket t; items = i ∷ [] } in
    let r : n < length p.segments = (let c = pool.count in let k = h.in_range in omega (arith, c, k)) in
    let at : segment_at after n ≡ Some s = ap (λ (q : PoolState). segment_at q n) h.after_is ∙ written p n (Some s) r in
    record {
      new = rw (at, h.offset) refl;
      kept = λ q some. elim (eqb_tells q.segment n) [
        | inl y ↦
            let was : IsSome (item_at (items_of None) q.offset) = rw (y.1, h.free) at (some_key p q some) in
            cc
        | inr y ↦
            let same : segment_at after q.segment ≡ segment_at p q.segment =
            ap (λ (r : PoolState). segment_at r q.segment) h.after_is ∙ others p n q.segment (Some s) y.1 in
            rw same refl
      ];
      segment = (let k = h.in_range in let g = pool.geometry.most in omega (arith, k, g));
    }

-- where an item goes into a tail or a free segment, its place gets its key, and every other place
-- with a key keeps it
pub key_added : (p after : PoolState) (bucket t : ℕ) (i : Item) (place : Place) → IsPool p
    → IsAddedToTail p bucket t i after place ⊎ IsAddedToFree p bucket t i after place → IsKeyAdded p after place i.key
key_added p after bucket t i place pool (inl h) = to_tail p after bucket t i place pool h
key_added p after bucket t i place pool (inr h) = to_free p after bucket t i place pool h

-- the key of an item that stands at a place
pub item_key : (p : PoolState) (q : Place) (i : Item) → item_in p q ≡ Some i → key_at p q ≡ Some i.key
unfolding key_at
item_key p q i e = ap (option_map (λ (x : Item). x.key)) e
