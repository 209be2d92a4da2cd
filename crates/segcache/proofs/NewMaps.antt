-- Pool, index and marks that were just made.
use Rattle.std.proofs.Common.{◌≡◌, ℕ, zero, suc, ◌≤◌, ◌*◌, ◌/◌, false, get_or, replicate, [], None, refl, sym, ap, subst, ◌∙◌}
use Rattle.std.proofs.Common.{arith}
use Rattle.std.specs.FinMap as finite
use Rattle.std.specs.Ordering.{nat_cmp}
use Rattle.std.specs.Cmp.Lexicographic.{slice_cmp}
use Rattle.std.proofs.lemmas.Bool.{false≢true}
use Rattle.std.proofs.lemmas.Option.{none-some}
use Rattle.proto.specs.Sizes.{Sizes}
use Rattle.segments.specs.Pools.{PoolState, IsPool, segment_at}
use Rattle.proto.specs.declared.eviction.Eviction.{Eviction}
use Rattle.segments.specs.Changes.{new_pool, with_eviction}
use Rattle.segments.specs.Filling.{IsInTimeOrder}
use Rattle.segments.specs.Marks.{Marks, KnowsPool, no_marks, mark_at}
use Rattle.segments.proofs.MarkedPlaces.{knows_none, nothing_at}
use Rattle.segments.specs.Pools.{key_at}
use Rattle.index.specs.Layouts.{IsLayoutOf}
use Rattle.index.specs.Table.{Table, Places, IsMap}
use Rattle.segcache.specs.Invariants.{IsTied, IsPast}
use Rattle.segcache.specs.StoreState.{Store}
use Rattle.segcache.specs.NewStores.{IsNewStore}
use Rattle.proto.specs.declared.dialect.Dialect.{Dialect}
use Rattle.std.proofs.Common.{Bool, Option}
use Rattle.segments.specs.Pools.{Used, item_in, items_of}
use Rattle.segments.specs.Items.{item_at}

-- with no marks and no keys all is tied
no_mark : (s : Sizes) (p : PoolState) (t : Marks) (n k : ℕ) → t ≡ no_marks s → mark_at t n k ≡ false
unfolding no_marks
no_mark s p t n k is = ap (λ (u : Marks). mark_at u n k) is ∙ rows s.segments n
  where
    rows : (count m : ℕ) → get_or (get_or (replicate count (replicate (s.segment_size / 32) false)) m []) k
        false ≡ false
    rows zero m = refl
    rows (suc count) zero = nothing_at false (s.segment_size / 32) k
    rows (suc count) (suc m) = rows count m

-- an index without a key, with slots enough, and marks of which none is set are tied to a pool of
-- their sizes
pub tied_start : (p : PoolState) (index : Table) (t : Marks) → IsPool p → t ≡ no_marks p.sizes
    → IsMap (key_at p) index finite.empty
    → 2 * (p.sizes.segments * (p.sizes.segment_size / 32)) ≤ index.room → IsLayoutOf p.sizes index.layout
    → IsTied p index t
tied_start p index t pool is m roomy layout =
    record {
      known = subst (λ (u : Marks). KnowsPool u p) (sym is) (knows_none p pool);
      indexed = m.index;
      held = λ q r h. absurd (none-some r
          (sym (ap (λ (n : Places). finite.get n q) m.places_are ∙ finite.get-empty (slice_cmp nat_cmp) q) ∙ h));
      marked = λ r i e h. absurd (false≢true (sym (no_mark p.sizes p t r.segment (r.offset / 32) is) ∙ h));
      roomy = roomy;
      layout = layout;
    }

-- no segment is open
pub past_start : (p : PoolState) (sizes : Sizes) (eviction : Eviction) (exact : Bool)
    → p ≡ with_eviction (new_pool sizes) eviction exact
    → IsPast p 0
unfolding new_pool
past_start p sizes eviction exact is =
    record {
      within = omega arith;
      opened = λ n u e. absurd (none-some u
          (sym (ap (λ (q : PoolState). segment_at q n) is ∙ nothing_at None sizes.segments n) ∙ e));
      in_order = subst IsInTimeOrder (sym is) tt;
      dated = λ r j e.
          (let none : item_in p r ≡ None = ap (λ (q : PoolState). item_in q r) is
          ∙ ap (λ (o : Option Used). item_at (items_of o) r.offset) (nothing_at None sizes.segments r.segment) in
          absurd (none-some j (sym none ∙ e)));
    }

-- the items of a new store have deadlines of their own where that was asked for
pub exact_of : (sizes : Sizes) (seed : ℕ) (in_place : Bool) (d : Dialect) (eviction : Eviction) (exact : Bool) (store : Store)
    → IsNewStore sizes seed in_place d eviction exact store → store.map.pool.exact ≡ exact
exact_of sizes seed in_place d eviction exact store new = ap (λ (p : PoolState). p.exact) new.made.pool_is
