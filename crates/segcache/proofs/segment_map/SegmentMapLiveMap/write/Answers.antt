use Rattle.std.proofs.Common.{◌≡◌, ℕ, ◌<◌, ◌^◌, Bool, List, false, refl, sym, ap, subst, ◌∙◌, inl, inr, rules}
use Rattle.std.specs.Prelude.{IsTrue, MatchOption}
use Rattle.engine.specs.Written.{IsWritten}
use Rattle.engine.specs.Shown.{entry_of}
use Rattle.segments.specs.Items.{Item}
use Rattle.segments.specs.declared.place.Place.{Place}
use Rattle.segcache.specs.Shown.{shown_entries}
use Rattle.segcache.specs.Writes.{StandsAt, GoesOver, goes_over, unread}
use Rattle.segcache.specs.Room.{IsPutOver}
use Rattle.segcache.specs.State.{MapState}
use Rattle.proto.specs.Cache.{Entry}
use Rattle.segcache.specs.LiveItems.{live_others}
use Rattle.segcache.specs.ForgottenKeys.{PlacesItem}
use Rattle.segcache.specs.State.{IsSegmentedMap}
use Rattle.segcache.proofs.KeptEntries.{keeps_entry, writes_anew}
use Rattle.segcache.proofs.ItemsPutOver.{over_written, keeps_below}
use Rattle.segcache.proofs.WriteParts.{written_by, may_store}
use Rattle.segcache.proofs.segment_map.SegmentMapLiveMap.write.Goals as goal
use Rattle.segcache.specs.OwnDeadlines.{own_deadline_by}
use Rattle.segcache.specs.ItemBuckets.{bucket_for}
use Rattle.segcache.proofs.OwnDeadlines.{own_small}

-- an entry's item with this deadline of its own
abbrev item_with_own : ℕ → List ℕ → Entry → Item
item_with_own own_deadline key e =
    record { cas = e.cas; flags = e.flags; key = key; value = e.value; reads = 0; own_deadline = own_deadline }

pub write_item-requires-clause-storable : goal.write_item-requires-clause-storable
write_item-requires-clause-storable c =
    let s = c.args.self.now in
    let e = c.args.entry in
    let i : Item = record { cas = e.cas; flags = e.flags; key = c.args.key.now; value = e.value.now; reads = 0; own_deadline = c.own_deadline_by.result } in
    let own : c.own_deadline_by.result ≡ own_deadline_by s.pool.exact e.deadline = c.own_deadline_by.ensures
    ∙ ap (λ (b : Bool). own_deadline_by b e.deadline) (c.is_exact.ensures ∙ ap (λ (m : MapState). m.pool.exact) c.self.view_is) in
    let kept : IsSegmentedMap s = rw (← c.self.view_is) c.self.invariant in
    may_store s.pool s.index s.marks s.moment i kept.tied c.requires.fits (search rules) (search rules) refl
    (subst (λ (n : ℕ). n < 2 ^ 48) (sym own) (own_small s.pool.exact e.deadline))

pub place_over-requires-clause-storable : goal.place_over-requires-clause-storable
place_over-requires-clause-storable c =
    let s = c.args.self.now in
    let e = c.args.entry in
    let i : Item = record { cas = e.cas; flags = e.flags; key = c.args.key.now; value = e.value.now; reads = 0; own_deadline = c.own_deadline_by.result } in
    let own : c.own_deadline_by.result ≡ own_deadline_by s.pool.exact e.deadline = c.own_deadline_by.ensures
    ∙ ap (λ (b : Bool). own_deadline_by b e.deadline) (c.is_exact.ensures ∙ ap (λ (m : MapState). m.pool.exact) c.self.view_is) in
    let kept : IsSegmentedMap s = rw (← c.self.view_is) c.self.invariant in
    may_store s.pool s.index s.marks s.moment i kept.tied c.requires.fits (search rules) (search rules) refl
    (subst (λ (n : ℕ). n < 2 ^ 48) (sym own) (own_small s.pool.exact e.deadline))

pub put_over-requires-clause-storable : goal.put_over-requires-clause-storable
put_over-requires-clause-storable c =
    let s = c.args.self.now in
    let e = c.args.entry in
    let i : Item = record { cas = e.cas; flags = e.flags; key = c.args.key.now; value = e.value.now; reads = 0; own_deadline = c.own_deadline_by.result } in
    let own : c.own_deadline_by.result ≡ own_deadline_by s.pool.exact e.deadline = c.own_deadline_by.ensures
    ∙ ap (λ (b : Bool). own_deadline_by b e.deadline) (c.is_exact.ensures ∙ ap (λ (m : MapState). m.pool.exact) c.self.view_is) in
    let kept : IsSegmentedMap s = rw (← c.self.view_is) c.self.invariant in
    may_store s.pool s.index s.marks s.moment i kept.tied c.requires.fits (search rules) (search rules) refl
    (subst (λ (n : ℕ). n < 2 ^ 48) (sym own) (own_small s.pool.exact e.deadline))

pub write_item-requires-clause-own : goal.write_item-requires-clause-own
write_item-requires-clause-own c =
    c.own_deadline_by.ensures
    ∙ ap (λ (b : Bool). own_deadline_by b c.args.entry.deadline)
    (c.is_exact.ensures ∙ ap (λ (m : MapState). m.pool.exact) c.self.view_is)

pub put_over-requires-clause-own : goal.put_over-requires-clause-own
put_over-requires-clause-own c =
    c.own_deadline_by.ensures
    ∙ ap (λ (b : Bool). own_deadline_by b c.args.entry.deadline)
    (c.is_exact.ensures ∙ ap (λ (m : MapState). m.pool.exact) c.self.view_is)

pub returns-in-Some : goal.returns-in-Some
returns-in-Some c =
    let e = entry_of c.args.entry in
    let s = c.args.self.now in
    let kept : IsSegmentedMap s = rw (← c.self.view_is) c.self.invariant in
    let own : c.own_deadline_by.result ≡ own_deadline_by s.pool.exact e.deadline = c.own_deadline_by.ensures
    ∙ ap (λ (b : Bool). own_deadline_by b e.deadline) (c.is_exact.ensures ∙ ap (λ (m : MapState). m.pool.exact) c.self.view_is) in
    let same = ap (λ (n : ℕ). item_with_own n c.args.key.now e) own in
    let over : GoesOver s (unread s c.args.key.now e) e.deadline c.put_over.new.self =
    subst (λ (i : Item). GoesOver s i e.deadline c.put_over.new.self) same c.put_over.ensures.over in record {
      written = over_written c.args.self.now c.put_over.new.self c.args.key.now e over;
      exactly = inl over;
      kept = keeps_below c.args.self.now c.put_over.new.self c.args.key.now e over;
      refused = search rules;
      err = search rules;
      err_alike = search rules;
      err_kept = search rules;
      sizes_same = search rules;
      moment_same = search rules;
    }

pub returns : goal.returns
returns c =
    let s = c.args.self.now in
    let a = c.self.inside in
    let new = c.write_item.new.self in
    let key = c.args.key.now in
    let e = entry_of c.args.entry in
    let i = unread s key e in
    let own : c.own_deadline_by.result ≡ own_deadline_by s.pool.exact e.deadline = c.own_deadline_by.ensures
    ∙ ap (λ (b : Bool). own_deadline_by b e.deadline) (c.is_exact.ensures ∙ ap (λ (m : MapState). m.pool.exact) c.self.view_is) in
    let same = ap (λ (n : ℕ). item_with_own n key e) own in
    let kept : IsSegmentedMap s = rw (← c.self.view_is) c.self.invariant in
    let of_bucket : c.bucket_for-bucket.result ≡ bucket_for s.pool s.moment c.args.entry.deadline =
    c.bucket_for-bucket.ensures.value in
    let placed = subst
    (λ b. PlacesItem (live_others key s.marks s.moment) s.pool s.index b s.moment i new.pool new.index) of_bucket
    (subst (λ (j : Item). PlacesItem (live_others key s.marks s.moment) s.pool s.index c.bucket_for-bucket.result s.moment j
    new.pool new.index) same c.write_item.ensures.placed) in
    let storable = may_store s.pool s.index s.marks s.moment i kept.tied c.requires.fits (search rules) (search rules)
    refl (own_small s.pool.exact e.deadline) in
    let put = subst (λ (j : Item). IsPutOver s.pool s.index s.moment j e.deadline new.pool new.index) same
    c.write_item.ensures.put in
    let anew = subst (λ o. MatchOption o
    ((place : Place) → StandsAt s key place → goes_over s e.deadline i place ≡ false)
    (λ place. StandsAt s key place × IsTrue (goes_over s e.deadline i place))) c.in_default.is
    (subst (λ (j : Item). MatchOption c.place_over.result
    ((place : Place) → StandsAt s key place → goes_over s e.deadline j place ≡ false)
    (λ place. StandsAt s key place × IsTrue (goes_over s e.deadline j place))) same c.place_over.ensures) in
    let shown = shown_entries s.pool s.index s.moment in record {
      written = subst (λ (t : ℕ). IsWritten s.pool.sizes s.moment shown key e (shown_entries new.pool new.index t))
          (sym c.write_item.ensures.moment)
          (written_by s.pool.sizes s.moment shown put.kept (shown_entries new.pool new.index s.moment)
          key e put.deadline put.are_kept put.may_live put.entries);
      exactly = inr (writes_anew s new key e anew storable placed put.deadline put.may_live put.exactly put.kept put.entries);
      kept = keeps_entry (live_others key s.marks s.moment) s new key e kept.tied.known.pool kept.past storable
          c.write_item.ensures.moment placed;
      refused = search rules;
      err = search rules;
      err_alike = search rules;
      err_kept = search rules;
      sizes_same = search rules;
      moment_same = search rules;
    }
