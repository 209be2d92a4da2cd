use Rattle.std.proofs.Common.{◌≡◌, ◌≤◌, ◌*◌, ◌/◌, sym, ap, subst, ◌∙◌, arith}
use Rattle.proto.specs.Sizes.{Sizes}
use Rattle.proto.specs.declared.eviction.Eviction.{Eviction}
use Rattle.segments.specs.Changes.{new_pool, with_eviction}
use Rattle.segments.specs.Pools.{PoolState}
use Rattle.segments.specs.Marks.{no_marks}
use Rattle.segments.specs.Pools.{key_at}
use Rattle.index.specs.Table.{Places}
use Rattle.segcache.specs.Shown.{live_entries}
use Rattle.segcache.specs.State.{MapState}
use Rattle.segcache.proofs.KeptEntries.{keeps_none}
use Rattle.segcache.proofs.ShownItems.{shown_empty}
use Rattle.segcache.proofs.NewMaps.{tied_start, past_start}
use Rattle.segcache.proofs.segment_map.SegmentMapStoreMap.seeded.Goals as goal
use Rattle.std.proofs.Common.{Bool}

-- a new pool that was told how to evict
new_evicting : (s : Sizes) (e : Eviction) (x : Bool) {pool after : PoolState} → pool ≡ new_pool s
    → after ≡ with_eviction pool e x → after ≡ with_eviction (new_pool s) e x
new_evicting s e x {pool} {after} new evicts = evicts ∙ ap (λ (q : PoolState). with_eviction q e x) new

pub invariant_of-result : goal.invariant_of-result
unfolding new_pool
invariant_of-result c =
    let p = c.set_rules.new.self in
    let is : p ≡ with_eviction (new_pool c.args.geometry) c.args.eviction c.args.exact =
    new_evicting c.args.geometry c.args.eviction c.args.exact c.in_ok-pool.ensures.empty c.set_rules.ensures.evicts in
    let sizes : p.sizes ≡ c.args.geometry = ap (λ (q : PoolState). q.sizes) is in
    let room : c.in_ok-new.field-0.room ≡ c.slots_for.result = c.in_ok-new.ensures.room in
    let many = c.slots_for.ensures.1 in
    let marks : c.in_ok-new-2.field-0 ≡ no_marks p.sizes = c.in_ok-new-2.ensures ∙ ap no_marks (sym sizes) in
    record {
      tied = tied_start p c.in_ok-new.field-0 c.in_ok-new-2.field-0 c.set_rules.ensures.pool marks
          (c.in_ok-new.ensures.map (key_at p))
          (subst (λ (s : Sizes). 2 * (s.segments * (s.segment_size / 32)) ≤ c.in_ok-new.field-0.room)
          (sym sizes) (omega (arith, room, many)))
          (rw (sizes, c.in_ok-new.ensures.layout) c.layout_for.ensures.sizes);
      past = past_start p c.args.geometry c.args.eviction c.args.exact is;
    }

pub returns-clause-sizes : goal.returns-clause-sizes
unfolding new_pool
returns-clause-sizes c = ap (λ (q : PoolState). q.sizes)
    (new_evicting c.args.geometry c.args.eviction c.args.exact c.in_ok-pool.ensures.empty c.set_rules.ensures.evicts)

pub returns-clause-entries : goal.returns-clause-entries
returns-clause-entries c =
    let p = c.set_rules.new.self in
    ap (λ (m : Places). live_entries p m 0) (c.in_ok-new.ensures.map (key_at p)).places_are ∙ shown_empty p 0

pub returns-clause-keeps : goal.returns-clause-keeps
returns-clause-keeps c =
    let m : MapState = record {
      pool = c.set_rules.new.self;
      index = c.in_ok-new.field-0;
      marks = c.in_ok-new-2.field-0;
      moment = 0;
    } in
    keeps_none m c.args.geometry c.args.eviction c.args.exact
    (new_evicting c.args.geometry c.args.eviction c.args.exact c.in_ok-pool.ensures.empty c.set_rules.ensures.evicts)
