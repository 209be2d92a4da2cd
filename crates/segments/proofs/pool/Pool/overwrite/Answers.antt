use Rattle.std.proofs.Common.{List, Option, None, refl, ap, sym, ◌∙◌, subst, length, arith}
use Rattle.std.specs.Prelude.{option_map}
use Rattle.std.proofs.lemmas.List.{length-set}
use Rattle.std.proofs.lemmas.List.Elements.{All-set}
use Rattle.std.proofs.lemmas.Option.{none-some}
use Rattle.proto.specs.Sizes.{item_limit}
use Rattle.segments.specs.Items.{Item, IsStorable}
use Rattle.segments.specs.Shown.{item_of}
use Rattle.segments.specs.Hits.{HitCounts}
use Rattle.segments.specs.Pools.{segment_at, PoolState, Used}
use Rattle.segments.specs.Inside.{IsSegment, pool_of}
use Rattle.segments.specs.Changes.{with_segment, with_item_at, change_in}
use Rattle.segments.specs.declared.segment.Segment.{Segment}
use Rattle.segments.proofs.ItemChanges.{keeps_over}
use Rattle.segments.proofs.PoolLemmas.{changing, change_kept, change_shown, kept_one, linked_items, changed_shown, pool_kept}
use Rattle.segments.proofs.PackingLemmas.{storable_within}
use Rattle.segments.proofs.pool.Pool.overwrite.Goals as goal

pub count-requires : goal.count-requires
count-requires c =
    let a = c.self.inside in
    let new : Item = item_of c.args.item in
    let s : Segment = c.index_mut-segment.result.now in
    let at = c.index_mut-segment.ensures.value in
    let lt = (changing (λ _. new) a c.args.self.now c.args.place s c.self.view_is (keeps_over new _ c.requires.fits) at).within in
    let count = c.self.invariant.count in
    let hits = c.self.invariant.hit_count in
    omega arith

pub overwrite-requires-clause-storable : goal.overwrite-requires-clause-storable
overwrite-requires-clause-storable c =
    let a = c.self.inside in
    let new : Item = item_of c.args.item in
    let s : Segment = c.index_mut-segment.result.now in
    let at = c.index_mut-segment.ensures.value in
    let q = changing (λ _. new) a c.args.self.now c.args.place s c.self.view_is (keeps_over new _ c.requires.fits) at in
    let size = (kept_one a c.args.place.segment s c.self.invariant q.within at).sized in
    let storable : IsStorable (item_limit a.geometry) new =
    subst (λ (p : PoolState). IsStorable (item_limit p.sizes) new) (sym c.self.view_is) c.requires.storable in
    storable_within (item_limit a.geometry) s.packed.size new (omega (arith, size)) storable

pub invariant_of-self : goal.invariant_of-self
invariant_of-self c =
    let a = c.self.inside in
    let i = c.self.invariant in
    let new : Item = item_of c.args.item in
    let s : Segment = c.index_mut-segment.result.now in
    let t : Segment = record { opening = s.opening; packed = c.overwrite.new.self } in
    let at = c.index_mut-segment.ensures.value in
    let q = changing (λ _. new) a c.args.self.now c.args.place s c.self.view_is (keeps_over new _ c.requires.fits) at in
    let lt = q.within in
    let o = q.is_open in
    let m = i.merge_room in
    let storable : IsStorable (item_limit a.geometry) new =
    subst (λ (p : PoolState). IsStorable (item_limit p.sizes) new) (sym c.self.view_is) c.requires.storable in
    record {
      geometry = i.geometry;
      count = length-set a.segments.items c.args.place.segment t ∙ i.count;
      kept = All-set (IsSegment a.geometry) a.segments.items c.args.place.segment t
          (change_kept (λ _. new) a.geometry s t o.opening c.args.place.offset
          (kept_one a c.args.place.segment s i lt at) o.is o.is c.overwrite.ensures (λ _ _. storable) q.sized) i.kept;
      linked = linked_items a.geometry.segments a.segments.items a.free.items a.order.items a.tails.items
          c.args.place.segment s t
          o.opening i.linked lt at o.is o.is;
      cursor = i.cursor;
      hit_count = ap (λ h. length h.counts) c.count.ensures
          ∙ length-set a.hits.counts c.args.place.segment _ ∙ i.hit_count;
      order_room = i.order_room;
      free_room = i.free_room;
      merge_room = record {
        move_room = m.move_room;
        candidate_room = m.candidate_room;
        rank_room = m.rank_room;
        merged_room = m.merged_room;
        spare_sized = m.spare_sized;
        start_count = m.start_count;
        rest_count = m.rest_count;
      };
      sound = λ b h. absurd (none-some b h);
    }

pub returns-clause-overwritten : goal.returns-clause-overwritten
returns-clause-overwritten c =
    let a = c.self.inside in
    let new : Item = item_of c.args.item in
    let s : Segment = c.index_mut-segment.result.now in
    let t : Segment = record { opening = s.opening; packed = c.overwrite.new.self } in
    let at = c.index_mut-segment.ensures.value in
    let q = changing (λ _. new) a c.args.self.now c.args.place s c.self.view_is (keeps_over new _ c.requires.fits) at in
    let items = ap (λ p. p.items) c.overwrite.ensures in
    ap (λ (us : List (Option Used)). record {
      sizes = a.geometry;
      segments = us;
      order = a.order.items;
      cursor = a.cursor;
      plan = None;
      eviction = a.eviction;
      exact = a.exact;
      hits = c.count.new.self;
    })
    (changed_shown a c.args.place.segment s t (change_in (λ _. new) c.args.place.offset) q.within at
    (change_shown (λ _. new) s t c.args.place.offset refl items))
    ∙ ap (λ (h : HitCounts). record (with_segment (pool_of a) c.args.place.segment
    (option_map (change_in (λ _. new) c.args.place.offset) (segment_at (pool_of a) c.args.place.segment))) { hits = h })
    c.count.ensures
    ∙ ap (λ p. with_item_at p c.args.place new) c.self.view_is

pub returns-clause-pool : goal.returns-clause-pool
returns-clause-pool c = pool_kept _ (invariant_of-self c)
