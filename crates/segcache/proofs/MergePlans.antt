-- Pools that got another plan: all else is as it was.
use Rattle.std.proofs.Common.{◌≡◌, ℕ, Option, refl, sym, ap, subst, ◌∙◌}
use Rattle.std.specs.Prelude.{IsSome}
use Rattle.std.specs.FinMap as finite
use Rattle.segments.specs.declared.place.Place.{Place}
use Rattle.segments.specs.Pools.{PoolState, Plan, Liveness, IsPool, item_in}
use Rattle.segments.specs.Merges.{IsPlan, with_merge_planned}
use Rattle.segments.specs.Marks.{Marks}
use Rattle.segments.proofs.MarkedPlaces.{knows_after}
use Rattle.segments.proofs.InTimeLemmas.{order_same}
use Rattle.segments.specs.Pools.{key_at}
use Rattle.index.specs.Table.{Table, Places}
use Rattle.segcache.specs.Shown.{current, shown_entries, live_entries, entry_at}
use Rattle.segcache.specs.Invariants.{IsTied, IsPast}
use Rattle.segcache.specs.Room.{IsCrowded, IsRoomMade}
use Rattle.segcache.specs.PlannedMerges.{HasPlan}
use Rattle.segcache.proofs.ShownItems.{shown_same}
use Rattle.segcache.proofs.TiedParts.{tied_same}
use Rattle.segcache.proofs.MergedMarks.{planned_again}
use Rattle.segcache.proofs.RoomMade.{IsSwept, swept_evicted, crowded_left}

-- the pool with another plan
abbrev pub with_plan : PoolState → Option Plan → PoolState
with_plan p o = record p { plan = o }

-- keys and entries stay
same_key : (p after : PoolState) (o : Option Plan) (r : Place) → after ≡ with_plan p o → key_at after r ≡ key_at p r
unfolding key_at
same_key p after o r is = ap (λ (a : PoolState). key_at a r) is

-- with another plan each place shows the same entry
same_entry : (p after : PoolState) (o : Option Plan) (r : Place) → after ≡ with_plan p o
    → entry_at after r ≡ entry_at p r
unfolding entry_at
same_entry p after o r is = ap (λ (a : PoolState). entry_at a r) is

-- all stays tied
pub tied_replanned : (p after : PoolState) (o : Option Plan) (index : Table) (marks : Marks) → IsTied p index marks
    → IsPool after → after ≡ with_plan p o
    → IsTied after index marks × (current after index ≡ current p index)
tied_replanned p after o index marks tied pool is =
    let sizes : after.sizes ≡ p.sizes = ap (λ (a : PoolState). a.sizes) is in
    tied_same p after index marks tied
    (knows_after marks p after tied.known pool sizes
    (λ r h some. subst (λ (a : PoolState). IsSome (item_in a r)) (sym is) some))
    sizes (λ r h. same_key p after o r is)

-- the same is shown
pub shown_replanned : (p after : PoolState) (o : Option Plan) (index : Table) (marks : Marks) (t : ℕ)
    → IsTied p index marks → IsPool after
    → after ≡ with_plan p o → shown_entries after index t ≡ shown_entries p index t
shown_replanned p after o index marks t tied pool is =
    ap (λ (m : Places). live_entries after m t) (tied_replanned p after o index marks tied pool is).1
    ∙ shown_same p after (current p index) t (λ q r e. same_entry p after o r is)

-- the same is found
swept_replanned : (p after : PoolState) (o : Option Plan) (index : Table) (marks : Marks) (t : ℕ) → IsTied p index marks
    → IsPool after
    → after ≡ with_plan p o → IsCrowded p index t
    → IsSwept p index t after index marks
swept_replanned p after o index marks t tied pool is crowded =
    let same = tied_replanned p after o index marks tied pool is in
    record {
      sizes = ap (λ (a : PoolState). a.sizes) is;
      rule = ap (λ (a : PoolState). a.eviction) is;
      exact = ap (λ (a : PoolState). a.exact) is;
      past = subst (λ (a : PoolState). IsPast a t) (sym is)
          (record {
            within = crowded.past.within;
            opened = crowded.past.opened;
            in_order = order_same p (with_plan p o) refl refl refl crowded.past.in_order;
            dated = crowded.past.dated;
          });
      tied = same.0;
      absent = λ q none. ap (λ (m : Places). finite.get m q) same.1 ∙ none;
      entries = shown_replanned p after o index marks t tied pool is;
    }

-- it is as crowded
pub crowded_replanned : (p after : PoolState) (o : Option Plan) (index : Table) (marks : Marks) (t : ℕ)
    → IsTied p index marks → IsPool after
    → after ≡ with_plan p o → IsCrowded p index t
    → IsCrowded after index t
crowded_replanned p after o index marks t tied pool is crowded =
    crowded_left p index t after index marks (swept_replanned p after o index marks t tied pool is crowded) crowded

-- so room that is made then is made
pub made_replanned : (p mid : PoolState) (o : Option Plan) (index : Table) (marks : Marks) (t : ℕ) (after : PoolState)
    (found : Table)
    → IsTied p index marks → IsPool mid → mid ≡ with_plan p o
    → IsCrowded p index t → IsRoomMade mid index t after found
    → IsRoomMade p index t after found
made_replanned p mid o index marks t after found tied pool is crowded made =
    swept_evicted p index t mid index marks after found (swept_replanned p mid o index marks t tied pool is crowded) made

-- the plan is that of the live items
pub has_plan : (lives : Liveness) (p after : PoolState) (plan : Plan) → IsPlan lives p plan
    → after ≡ with_merge_planned p plan → HasPlan lives after
has_plan lives p after plan h is = subst (λ (a : PoolState). HasPlan lives a) (sym is)
    (record { plan = plan; planned = refl; is_plan = planned_again lives p plan h })
