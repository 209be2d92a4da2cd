use Rattle.std.proofs.Common.{◌≡◌, ℕ, ◌<◌, List, length, sym, ap, subst, ◌∙◌}
use Rattle.std.specs.Prelude.{◌||◌, ◌==◌, slice_index_or, take}
use Rattle.segments.specs.Pools.{PoolState}
use Rattle.segments.specs.Merges.{contains_number, planned_segments}
use Rattle.segcache.specs.Removals.{HaveArrivedLeft}
use Rattle.segcache.specs.Shown.{current}
use Rattle.segcache.specs.State.{MapState}
use Rattle.segcache.proofs.LeftPlaces.{left_more}
use Rattle.segcache.proofs.PlannedSegments.{planned_within, contains_more}
use Rattle.segcache.proofs.segment_map.SegmentMap.unindex_merged.Goals as goal

pub unindex_arrived-requires : goal.unindex_arrived-requires
unindex_arrived-requires c =
    let s = c.args.self.now in
    let i = c.loop-k.invariant in
    let k = c.loop-k.k in
    let pool : c.self-in-loop-k.inside.pool ≡ s.pool = ap (λ (m : MapState). m.pool) c.self-in-loop-k.view_is ∙ i.pool in
    let numbers : c.merged.result.now ≡ planned_segments s.pool = c.merged.ensures ∙ ap planned_segments pool in
    let all : c.merged-k-end.result.now ≡ planned_segments s.pool =
    c.merged-k-end.ensures ∙ ap (λ (m : MapState). planned_segments m.pool) c.self.view_is in
    let lt : k < length (planned_segments s.pool) = subst (λ (xs : List ℕ). k < length xs) all c.loop-k-test.true in
    record {
      in_range = subst (λ (q : PoolState). slice_index_or c.merged.result.now k 0 < q.sizes.segments) (sym i.pool)
          (subst (λ (xs : List ℕ). slice_index_or xs k 0 < s.pool.sizes.segments) (sym numbers)
          (planned_within s.pool k 0 i.kept.tied.known.pool lt));
    }

pub loop-k-preserved : goal.loop-k-preserved
loop-k-preserved c =
    let s = c.args.self.now in
    let i = c.loop-k.invariant in
    let k = c.loop-k.k in
    let here = c.loop-k.self in
    let new = c.unindex_arrived.new.self in
    let all = planned_segments s.pool in
    let pool : c.self-in-loop-k.inside.pool ≡ s.pool = ap (λ (m : MapState). m.pool) c.self-in-loop-k.view_is ∙ i.pool in
    let numbers : c.merged.result.now ≡ all = c.merged.ensures ∙ ap planned_segments pool in
    let whole : c.merged-k-end.result.now ≡ all =
    c.merged-k-end.ensures ∙ ap (λ (m : MapState). planned_segments m.pool) c.self.view_is in
    let lt : k < length all = subst (λ (xs : List ℕ). k < length xs) whole c.loop-k-test.true in
    let n : ℕ = slice_index_or c.merged.result.now k 0 in
    let after : new.pool ≡ s.pool = c.unindex_arrived.ensures.same.pool ∙ i.pool in
    let left : HaveArrivedLeft s.pool s.moment n (current s.pool here.index) (current s.pool new.index) =
    subst (λ (q : PoolState). HaveArrivedLeft s.pool s.moment n (current s.pool here.index) (current q new.index)) after
    (subst (λ (t : ℕ). HaveArrivedLeft s.pool t n (current s.pool here.index) (current new.pool new.index)) i.moment
    (subst (λ (q : PoolState). HaveArrivedLeft q here.moment n (current q here.index) (current new.pool new.index)) i.pool
    c.unindex_arrived.ensures.left)) in
    record {
      kept = i.kept;
      now = c.unindex_arrived.ensures.same.kept;
      pool = after;
      moment = c.unindex_arrived.ensures.moment ∙ i.moment;
      left = left_more s.pool s.moment n (contains_number (take k all)) _ (current s.pool s.index)
          (current s.pool here.index) (current s.pool new.index) i.left left
          (λ m. contains_more all k 0 m lt
          ∙ ap (λ (xs : List ℕ). contains_number (take k all) m || (slice_index_or xs k 0 == m)) (sym numbers));
    }
