use Rattle.std.proofs.Common.{◌≡◌, List, ℕ, true, sym, ap, subst, ◌∙◌, inl, rules}
use Rattle.proto.specs.Cache.{Entry}
use Rattle.proto.specs.Sizes.{item_limit}
use Rattle.engine.specs.Written.{IsWritten}
use Rattle.engine.specs.Keeping.{KeepsEntry}
use Rattle.engine.specs.Shown.{entry_of}
use Rattle.segments.specs.Items.{Item, IsStorable, fits_over}
use Rattle.segments.specs.Pools.{item_in}
use Rattle.segments.specs.Shown.{item_of}
use Rattle.segments.specs.Changes.{with_item_at}
use Rattle.segcache.specs.Shown.{shown_entries}
use Rattle.segcache.specs.State.{MapState}
use Rattle.segcache.specs.Keeping.{KeepsStored}
use Rattle.segcache.specs.Writes.{ChangesSegments}
use Rattle.segcache.proofs.TiedParts.{current_some}
use Rattle.segcache.proofs.ChangedItems.{AsksRewrite, storable_over, rewritten}
use Rattle.segcache.proofs.segment_map.SegmentMapLiveMap.rewrite.Goals as goal

pub item_over-item-requires : goal.item_over-item-requires
item_over-item-requires c =
    let a = c.self.inside in
    let key : List ℕ = c.args.key.now in
    let m : MapState = record { pool = a.pool; index = a.index; marks = a.marks; moment = a.moment } in
    let asks : AsksRewrite m key (entry_of c.args.entry) c.args.place =
    subst (λ (s : MapState). AsksRewrite s key (entry_of c.args.entry) c.args.place) (sym c.self.view_is) (search rules) in
    current_some a.pool a.index key c.args.place asks.stands

pub fits_over-requires-clause-storable : goal.fits_over-requires-clause-storable
fits_over-requires-clause-storable c =
    let a = c.self.inside in
    let key : List ℕ = c.args.key.now in
    let m : MapState = record { pool = a.pool; index = a.index; marks = a.marks; moment = a.moment } in
    let asks : AsksRewrite m key (entry_of c.args.entry) c.args.place =
    subst (λ (s : MapState). AsksRewrite s key (entry_of c.args.entry) c.args.place) (sym c.self.view_is) (search rules) in
    let over = c.item_over-item.ensures in
    subst (IsStorable (item_limit a.pool.sizes)) (sym over.2)
    (storable_over m key (entry_of c.args.entry) c.args.place over.0 asks c.self.invariant
    over.1 (search rules) (search rules))

pub overwrite-requires-clause-storable : goal.overwrite-requires-clause-storable
overwrite-requires-clause-storable c =
    let a = c.self.inside in
    let key : List ℕ = c.args.key.now in
    let m : MapState = record { pool = a.pool; index = a.index; marks = a.marks; moment = a.moment } in
    let asks : AsksRewrite m key (entry_of c.args.entry) c.args.place =
    subst (λ (s : MapState). AsksRewrite s key (entry_of c.args.entry) c.args.place) (sym c.self.view_is) (search rules) in
    let over = c.item_over-item.ensures in
    subst (IsStorable (item_limit a.pool.sizes)) (sym over.2)
    (storable_over m key (entry_of c.args.entry) c.args.place over.0 asks c.self.invariant
    over.1 (search rules) (search rules))

pub invariant_of-self : goal.invariant_of-self
invariant_of-self c =
    let a = c.self.inside in
    let key : List ℕ = c.args.key.now in
    let m : MapState = record { pool = a.pool; index = a.index; marks = a.marks; moment = a.moment } in
    let asks : AsksRewrite m key (entry_of c.args.entry) c.args.place =
    subst (λ (s : MapState). AsksRewrite s key (entry_of c.args.entry) c.args.place) (sym c.self.view_is) (search rules) in
    let over = c.item_over-item.ensures in
    let fits : fits_over (item_of c.item_over-item.result) (item_in a.pool c.args.place) ≡ true = search rules in
    (rewritten m key (entry_of c.args.entry) c.args.place over.0 c.overwrite.new.self asks
    c.self.invariant over.1
    (subst (λ (i : Item). fits_over i (item_in a.pool c.args.place) ≡ true) over.2 fits)
    (c.overwrite.ensures.overwritten ∙ ap (with_item_at a.pool c.args.place) over.2) c.overwrite.ensures.pool).kept

pub returns : goal.returns
returns c =
    let a = c.self.inside in
    let key : List ℕ = c.args.key.now in
    let e : Entry = entry_of c.args.entry in
    let m : MapState = record { pool = a.pool; index = a.index; marks = a.marks; moment = a.moment } in
    let asks : AsksRewrite m key e c.args.place =
    subst (λ (s : MapState). AsksRewrite s key e c.args.place) (sym c.self.view_is) (search rules) in
    let over = c.item_over-item.ensures in
    let fits : fits_over (item_of c.item_over-item.result) (item_in a.pool c.args.place) ≡ true = search rules in
    let r = rewritten m key e c.args.place over.0 c.overwrite.new.self asks c.self.invariant over.1
    (subst (λ (i : Item). fits_over i (item_in a.pool c.args.place) ≡ true) over.2 fits)
    (c.overwrite.ensures.overwritten ∙ ap (with_item_at a.pool c.args.place) over.2) c.overwrite.ensures.pool in
    let new : MapState = record m { pool = c.overwrite.new.self } in record {
      written = subst (λ (s : MapState). IsWritten s.pool.sizes s.moment (shown_entries s.pool s.index s.moment) key e
          (shown_entries new.pool new.index new.moment)) c.self.view_is r.written;
      exactly = subst (λ (s : MapState). ChangesSegments s key e new) c.self.view_is (inl r.changed);
      kept = subst (λ (s : MapState). KeepsEntry (λ (n : MapState). n.pool.sizes)
          (λ (n : MapState). shown_entries n.pool n.index n.moment) (λ (n : MapState). n.moment) KeepsStored s key e new)
          c.self.view_is r.keeps;
      refused = search rules;
      err = search rules;
      err_alike = search rules;
      err_kept = search rules;
      sizes_same = search rules;
      moment_same = search rules;
    }
