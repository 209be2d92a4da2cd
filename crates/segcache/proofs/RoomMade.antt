-- Room that was made in several steps, and an item put there.
use Rattle.std.proofs.Common.{◌≡◌, ℕ, ◌<◌, ◌≤◌, Bool, true, List, [], Option, Some, None, refl, sym, ap, subst, ◌∙◌, inl}
use Rattle.std.specs.FinMap as finite
use Rattle.std.proofs.lemmas.Option.{none-some}
use Rattle.proto.specs.Sizes.{Sizes}
use Rattle.proto.specs.Cache.{Entries}
use Rattle.proto.proofs.CacheLemmas.{without-nil}
use Rattle.segments.specs.declared.place.Place.{Place}
use Rattle.segments.specs.Items.{Item}
use Rattle.segments.specs.Pools.{PoolState, IsPool, Liveness, Used, Standing, item_in, items_of, deadline_in, place_deadline, segment_at, has_live}
use Rattle.segments.specs.Pools.{standing_from}
use Rattle.std.specs.List.{list_any}
use Rattle.segments.specs.Changes.{IsPoolFull, IsGivenBack, dead_segments}
use Rattle.segments.specs.Places.{HasFree}
use Rattle.segments.proofs.Places.{live_given}
use Rattle.segments.specs.Marks.{Marks, lives_by}
use Rattle.index.specs.Table.{Table, Places}
use Rattle.segcache.specs.Shown.{current, shown_entries, live_entries, kept_entry}
use Rattle.segcache.specs.Invariants.{IsTied, IsPast}
use Rattle.segcache.specs.State.{MapState, IsSegmentedMap}
use Rattle.segcache.specs.Removals.{HaveExpiredLeft}
use Rattle.segcache.specs.Room.{IsCrowded, IsRoomMade, AreKept}
use Rattle.segcache.specs.LiveItems.{live_marks}
use Rattle.segcache.proofs.ShownItems.{shown_same, shown_left, entry_is}
use Rattle.segcache.proofs.TiedParts.{current_item, tied_given}
use Rattle.segcache.proofs.OpeningMoments.{past_given}
use Rattle.segcache.proofs.GivenBack.{all_alive}
use Rattle.segcache.proofs.EvictedKeys.{many_shown, still_none}
use Rattle.segments.specs.Items.{item_deadline}

-- What was found where expired keys left and segments were given back: the same is shown, and no
-- key came.
pub record IsSwept (p : PoolState) (index : Table) (t : ℕ) (after : PoolState) (found : Table)
    (marks : Marks) : Type 0 where
  pub sizes : after.sizes ≡ p.sizes
  pub rule : after.eviction ≡ p.eviction
  pub exact : after.exact ≡ p.exact
  pub past : IsPast after t
  pub tied : IsTied after found marks
  pub absent : (key : List ℕ) → finite.get (current p index) key ≡ None → finite.get (current after found) key ≡ None
  pub entries : shown_entries after found t ≡ shown_entries p index t

-- where expired keys have left and segments without a current item were given back, the same is
-- shown, and no key came
pub swept : (p after : PoolState) (index found : Table) (marks : Marks) (t : ℕ) (among : ℕ → Bool) → IsPast p t
    → IsTied p found marks → IsPool after
    → IsGivenBack (lives_by marks) p after
    → HaveExpiredLeft p t among (current p index) (current p found) → IsSwept p index t after found marks
swept p after index found marks t among past tied pool g left =
    let same = tied_given p after found marks tied pool g in
    let stays : (q : List ℕ) (r : Place) → finite.get (current p found) q ≡ Some r → (i : Item) × (item_in p r ≡ Some i)
    × (item_in after r ≡ Some i) × (place_deadline after r ≡ place_deadline p r) =
    λ q r e. let x = current_item p found q r e in
    let l = live_given (lives_by marks) p after r x.0 g x.1 (tied.held q r e) in (x.0, x.1, l.0, l.1) in
    record {
      sizes = g.sizes;
      rule = g.eviction;
      exact = g.exact;
      past = past_given (lives_by marks) p after t past g;
      tied = same.0;
      absent = λ q none. ap (λ (m : Places). finite.get m q) same.1
          ∙ still_none (current p found) q (λ r e. none-some r (sym none ∙ left.before q r e));
      entries = ap (λ (m : Places). live_entries after m t) same.1
          ∙ shown_same p after (current p found) t (λ q r e. (let x = stays q r e in
          entry_is after r x.0 x.2 ∙ ap (λ (d : Option ℕ). kept_entry d x.0) x.3 ∙ sym (entry_is p r x.0 x.1)))
          ∙ shown_left p t among (current p index) (current p found) left;
    }

-- so it is where expired keys have left a pool that stays
pub swept_left : (p : PoolState) (index found : Table) (marks : Marks) (t : ℕ) (among : ℕ → Bool) → IsPast p t
    → IsTied p found marks
    → HaveExpiredLeft p t among (current p index) (current p found) → IsSwept p index t p found marks
swept_left p index found marks t among past tied left =
    record {
      sizes = refl;
      rule = refl;
      exact = refl;
      past = past;
      tied = tied;
      absent = λ q none. still_none (current p found) q (λ r e. none-some r (sym none ∙ left.before q r e));
      entries = shown_left p t among (current p index) (current p found) left;
    }

-- something was given back
pub swept_made : (p : PoolState) (index : Table) (t : ℕ) (after : PoolState) (found : Table) (marks : Marks)
    → IsSwept p index t after found marks → HasFree after → IsRoomMade p index t after found
swept_made p index t after found marks s free =
    record {
      sizes = s.sizes;
      rule = s.rule;
      exact = s.exact;
      past = s.past;
      free = free;
      absent = s.absent;
      kept = record {
        forgotten = [];
        evicted = inl refl;
        entries = s.entries ∙ sym (without-nil (shown_entries p index t));
      };
    }

-- or, where nothing was, something was evicted
pub swept_crowded : (p : PoolState) (index : Table) (t : ℕ) (after : PoolState) (found : Table) (marks : Marks)
    → IsSwept p index t after found marks
    → ((n : ℕ) → n < after.sizes.segments → has_live (live_marks marks t) after n ≡ true) → IsCrowded after found t
swept_crowded p index t after found marks s live =
    record { past = s.past; many = many_shown after found marks t s.tied live }

-- where expired keys left, as many entries are shown as before
pub crowded_left : (p : PoolState) (index : Table) (t : ℕ) (after : PoolState) (found : Table) (marks : Marks)
    → IsSwept p index t after found marks → IsCrowded p index t → IsCrowded after found t
crowded_left p index t after found marks s crowded =
    record {
      past = s.past;
      many = subst (λ (e : Entries). after.sizes.segments ≤ finite.len e) (sym s.entries)
          (subst (λ (z : Sizes). z.segments ≤ finite.len (shown_entries p index t)) (sym s.sizes) crowded.many);
    }

-- what was kept of some entries was kept of equal ones, in a pool of equal sizes
kept_after : (one other : Sizes) (old mid new : Entries) → other ≡ one → mid ≡ old → AreKept other mid new
    → AreKept one old new
kept_after one other old mid new same is k =
    subst (λ (s : Sizes). AreKept s old new) same (subst (λ (e : Entries). AreKept other e new) is k)

-- room that is made once expired keys have left and segments were given back is room made of what
-- was before that
pub swept_evicted : (p : PoolState) (index : Table) (t : ℕ) (mid : PoolState) (between : Table) (marks : Marks)
    (after : PoolState)
    (found : Table) → IsSwept p index t mid between marks
    → IsRoomMade mid between t after found → IsRoomMade p index t after found
swept_evicted p index t mid between marks after found s r =
    record {
      sizes = r.sizes ∙ s.sizes;
      rule = r.rule ∙ s.rule;
      exact = r.exact ∙ s.exact;
      past = r.past;
      free = r.free;
      absent = λ q none. r.absent q (s.absent q none);
      kept = kept_after p.sizes mid.sizes (shown_entries p index t) (shown_entries mid between t)
          (shown_entries after found t) s.sizes s.entries r.kept;
    }

-- where none was given back, each segment still has a live item
pub alive_given : (lives : Liveness) (p after : PoolState) → IsPool p → IsPoolFull p
    → IsGivenBack lives p after
    → dead_segments lives p ≡ 0
    → (n : ℕ) → n < after.sizes.segments → has_live lives after n ≡ true
alive_given lives p after pool full g none n lt =
    let within : n < p.sizes.segments = subst (λ (s : Sizes). n < s.segments) g.sizes lt in
    let alive = all_alive lives p n pool none (full n within) in
    let same : segment_at after n ≡ segment_at p n = g.segments n ∙ rw alive refl in
    has_live_by lives p after n same ∙ alive
  where
    has_live_by : (lives : Liveness) (p after : PoolState) (n : ℕ) → segment_at after n ≡ segment_at p n
        → has_live lives after n ≡ has_live lives p n
    has_live_by lives p after n e = ap
        (λ (o : Option Used). list_any (λ (s : Standing). lives s.place s.item (item_deadline s.item (deadline_in o)))
        (standing_from n 0 (items_of o))) e

-- so where the pool that segments were given back in is that of the map before and after the
-- expired keys left
pub swept_given : (old left : MapState) (after : PoolState) (among : ℕ → Bool) → IsSegmentedMap old → IsSegmentedMap left
    → left.pool ≡ old.pool
    → HaveExpiredLeft old.pool old.moment among (current old.pool old.index) (current left.pool left.index)
    → IsPool after → IsGivenBack (lives_by left.marks) left.pool after
    → IsSwept old.pool old.index old.moment after left.index left.marks
swept_given old left after among was kept is gone pool g =
    swept old.pool after old.index left.index left.marks old.moment among was.past
    (subst (λ (q : PoolState). IsTied q left.index left.marks) is kept.tied) pool
    (subst (λ (q : PoolState). IsGivenBack (lives_by left.marks) q after) is g)
    (subst (λ (q : PoolState). HaveExpiredLeft old.pool old.moment among (current old.pool old.index) (current q left.index))
    is gone)
