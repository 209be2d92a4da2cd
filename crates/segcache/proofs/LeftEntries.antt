-- An entry that is left as it is where another deadline is asked for.
use Rattle.std.proofs.Common.{◌≡◌, ℕ, ◌+◌, ◌-◌, ◌*◌, ◌/◌, ◌≤◌, Bool, true, false, List, length, Option, Some, None, refl, sym, ap, subst, ◌∙◌, arith, inl, inr}
use Rattle.std.specs.Prelude.{min, nat_le, nat_lt, ◌&&◌, ◌||◌, IsSome}
use Rattle.std.specs.FinMap as finite
use Rattle.std.proofs.lemmas.Bool.{and_parts, leb-true, ltb-true, false≢true}
use Rattle.proto.specs.declared.message.Reply.TheVariants.{Touched}
use Rattle.proto.specs.Buckets.{bucket_of, time_to_live, life_width}
use Rattle.proto.specs.Steps.{MayBeDated}
use Rattle.proto.specs.Cache.{Entry}
use Rattle.proto.specs.Stored.{StoredItem}
use Rattle.proto.proofs.CacheLemmas.{entry_size}
use Rattle.proto.proofs.StepLemmas.{none_dated, insert-same}
use Rattle.engine.specs.Keeping.{KeepsEntry}
use Rattle.segments.specs.declared.place.Place.{Place}
use Rattle.segments.specs.Items.{Item}
use Rattle.segments.specs.Pools.{PoolState, IsPool, item_in, lasting, place_deadline}
use Rattle.segments.proofs.Places.{item_storable}
use Rattle.segcache.specs.Shown.{current, shown_entries, entry_at}
use Rattle.segcache.specs.State.{MapState}
use Rattle.segcache.specs.Keeping.{KeepsStored}
use Rattle.segcache.specs.Writes.{stays_as}
use Rattle.segcache.proofs.KeptEntries.{adds_none}
use Rattle.segcache.proofs.ShownItems.{shown_at, entry_is}
use Rattle.segcache.proofs.TiedParts.{current_item}
use Rattle.segcache.proofs.WritesWithRoom.{written_more, all_last}
use Rattle.std.proofs.lemmas.Bool.{cases_Bool, eqb-true}
use Rattle.proto.specs.Cache.{has_arrived}
use Rattle.engine.specs.Deadlines.{is_storable_deadline}
use Rattle.segcache.specs.Writes.{is_same, touch_leaves_by}
use Rattle.proto.proofs.DeadlineLemmas.{may_be_exact}

-- a deadline that is told to stay where another one is asked for may
pub stays_may : (t : ℕ) (asked given : Option ℕ) → stays_as t asked given ≡ true → MayBeDated t asked given Touched
stays_may t None None h = tt
stays_may t None (Some given) h = absurd (false≢true h)
stays_may t (Some asked) None h = absurd (false≢true h)
stays_may t (Some asked) (Some given) h = by_test live refl a.1
  where
    live : Bool
    live = nat_lt (min asked (t + 8388608)) (given + 2 * life_width (asked - t))

    near : Bool
    near = nat_le (asked - given) ((asked - t) / 8)

    a : ((nat_lt t given && nat_le given asked) ≡ true) × ((live || near) ≡ true)
    a = and_parts (nat_lt t given && nat_le given asked) (live || near) h

    b : (nat_lt t given ≡ true) × (nat_le given asked ≡ true)
    b = and_parts (nat_lt t given) (nat_le given asked) a.0

    by_test : (l : Bool) → live ≡ l → (l || near) ≡ true → MayBeDated t (Some asked) (Some given) Touched
    by_test true is h = inl (
      ltb-true t given b.0,
      leb-true given asked b.1,
      ltb-true (min asked (t + 8388608)) (given + 2 * life_width (asked - t)) is,
    )
    by_test false is h = inr (leb-true given asked b.1, leb-true (asked - given) ((asked - t) / 8) h)

-- deadlines that are told to be the same are
pub same_is : (one other : Option ℕ) → is_same one other ≡ true → one ≡ other
same_is None None h = refl
same_is None (Some other) h = absurd (false≢true h)
same_is (Some one) None h = absurd (false≢true h)
same_is (Some one) (Some other) h = ap Some (eqb-true one other h)

-- a deadline that was asked for may stay
same_may : (t : ℕ) (asked : Option ℕ) → has_arrived asked t ≡ false → MayBeDated t asked asked Touched
same_may t None waits = tt
same_may t (Some asked) waits = inl (may_be_exact t (Some asked) waits)

-- a deadline that is told to be kept where another one is asked for may
pub keeps_may : (exact : Bool) (t : ℕ) (asked given : Option ℕ) → has_arrived asked t ≡ false
    → touch_leaves_by exact t asked given ≡ true → MayBeDated t asked given Touched
keeps_may exact t asked given waits h =
    elim (cases_Bool (exact && is_storable_deadline asked)) [
      | inl y ↦
          let same : is_same asked given ≡ true = rw y at h in
          subst (λ (d : Option ℕ). MayBeDated t asked d Touched) (same_is asked given same) (same_may t asked waits)
      | inr n ↦ (let stays : stays_as t asked given ≡ true = rw n at h in stays_may t asked given stays)
    ]

-- an entry that is left is kept with what was
pub keeps_left : (old : MapState) (key : List ℕ) (e : Entry) (asked : Option ℕ)
    → finite.get (shown_entries old.pool old.index old.moment) key ≡ Some e → MayBeDated old.moment asked e.deadline Touched
    → KeepsEntry (λ (m : MapState). m.pool.sizes) (λ (m : MapState). shown_entries m.pool m.index m.moment)
    (λ (m : MapState). m.moment) KeepsStored old key (record e { deadline = asked }) old
keeps_left old key e asked there may items keeps adds within =
    let p = old.pool in
    let t = old.moment in
    let shown = shown_entries p old.index t in
    let new : Entry = record e { deadline = asked } in
    let none : asked ≡ None = adds_none p (current p old.index) t key new keeps.none_dated keeps.all_last adds in
    let given : e.deadline ≡ None = none_dated t asked e.deadline Touched none may in
    let same : e ≡ new = ap (λ (d : Option ℕ). record e { deadline = d }) (given ∙ sym none) in
    let bucket : bucket_of (time_to_live asked t) ≡ lasting =
    ap (λ (d : Option ℕ). bucket_of (time_to_live d t)) none in
    let one : StoredItem = record { size = entry_size key new; bucket = bucket_of (time_to_live asked t) } in
    let more = written_more items one in
    let held = keeps.held in (
      sym (ap (finite.insert shown key) (sym same) ∙ insert-same shown key e there),
      record {
        filled = keeps.filled;
        all_last = keeps.all_last;
        none_dated = keeps.none_dated;
        undated = all_last items one keeps.undated bucket;
        held = omega arith;
      },
    )

-- the deadline of a key's place is that of its entry
pub deadline_there : (m : MapState) (key : List ℕ) (place : Place) (e : Entry)
    → finite.get (current m.pool m.index) key ≡ Some place
    → finite.get (shown_entries m.pool m.index m.moment) key ≡ Some e → place_deadline m.pool place ≡ e.deadline
deadline_there m key place e stands there =
    let p = m.pool in
    let x = current_item p m.index key place stands in
    let both : Some (entry_at p place) ≡ Some e =
    shown_at p (current p m.index) m.moment key place stands (subst IsSome (sym there) refl) ∙ there in
    let is : entry_at p place ≡ e = cc in
    ap (λ (y : Entry). y.deadline) (sym (entry_is p place x.0 x.1) ∙ is)

-- a value has no more bytes than the largest item
pub value_small : (p : PoolState) (place : Place) (i : Item) (e : Entry) → IsPool p → item_in p place ≡ Some i
    → e ≡ entry_at p place → length e.value ≤ 1048576
value_small p place i e pool here is =
    let small = (item_storable p place i pool here).small in
    let value : length e.value ≡ length i.value = ap (λ (x : Entry). length x.value) (is ∙ entry_is p place i here) in
    fits (length i.key) (length i.value) (length e.value) p.sizes.segment_size p.sizes.largest_item small
    pool.geometry.largest value
  where
    fits : (k v n size limit : ℕ) → 8 * ((24 + k + v + 7) / 8) ≤ min limit size → size ≤ 1048576 → n ≡ v → n ≤ 1048576
    fits k v n size limit a b c = omega (arith, a, b, c)
