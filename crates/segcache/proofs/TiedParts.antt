-- What ties pool, index and marks together, and what changes of them leave of that.
use Rattle.std.proofs.Common.{◌≡◌, ℕ, ◌/◌, Bool, true, false, cond, List, Option, Some, None, refl, sym, ap, subst, ◌∙◌, inl, inr}
use Rattle.std.specs.Prelude.{bytes_eq, option_map, IsSome, IfSome, ◌⊎◌, ◌*◌, ◌≤◌, ◌<◌, if◌then◌else◌}
use Rattle.std.specs.FinMap as finite
use Rattle.std.specs.FinMap.{slice_cmp-IsAntisymmetric, nat_cmp-IsAntisymmetric}
use Rattle.std.specs.Cmp.Lexicographic.{nat_list_cmp_total}
use Rattle.std.proofs.lemmas.Bool.{cases_Bool, false≢true}
use Rattle.std.proofs.lemmas.Slice.Eq.{bytes_eq-Decides}
use Rattle.std.proofs.lemmas.Option.{none-some}
use Rattle.segments.specs.declared.place.Place.{Place}
use Rattle.segments.specs.Items.{Item}
use Rattle.segments.specs.Pools.{PoolState, IsPool, item_in, has_live}
use Rattle.proto.specs.Sizes.{Sizes}
use Rattle.segments.specs.Changes.{with_change, with_segment_hit, IsGivenBack}
use Rattle.segments.specs.Places.{same_place, IsAppended}
use Rattle.segments.proofs.ItemChanges.{KeepsSize}
use Rattle.segments.proofs.Places.{own_marks, changed_item, given_item, live_given}
use Rattle.segments.proofs.MovedPlaces.{same_place_is, same_place_itself}
use Rattle.segments.specs.Marks.{Marks, IsWithin, KnowsPool, is_marked, is_mark_of, with_mark, lives_by}
use Rattle.segments.proofs.MarkedPlaces.{mark_after, item_within, knows_unmark, knows_longer, knows_appended, knows_changed, knows_given}
use Rattle.index.specs.Keys.{KeysOf}
use Rattle.segments.specs.Pools.{key_at}
use Rattle.index.specs.Layouts.{IsLayoutOf}
use Rattle.index.specs.Table.{Table, Places, IsIndex, IsMap, IsSameSize, HasPlace, place_at}
use Rattle.index.proofs.SlotsAsMap.{stands_from_get, get_from_stands, stands_once, get-insert, get-remove, Stands}
use Rattle.index.proofs.KeptKeys.{keys_agree, held_key}
use Rattle.segcache.specs.Shown.{current}
use Rattle.segcache.specs.Invariants.{IsTied}
use Rattle.segcache.specs.Removals.{marked_instead}
use Rattle.index.proofs.PoolKeys.{item_key}
use Rattle.segments.proofs.MarkedPlaces.{is_of_place}
use Rattle.proto.proofs.Options.{value_there}

-- ---- items of current places

-- where there is a key of what may be an item, there is an item, and it has that key
key_from : (o : Option Item) (q : List ℕ) → option_map (λ (i : Item). i.key) o ≡ Some q
    → (i : Item) × (o ≡ Some i) × (i.key ≡ q)
key_from None q h = absurd (none-some q h)
key_from (Some i) q h = (i, refl, cc)

-- the item at a place with a key
pub keyed_item : (p : PoolState) (r : Place) (q : List ℕ) → key_at p r ≡ Some q
    → (i : Item) × (item_in p r ≡ Some i) × (i.key ≡ q)
unfolding key_at
keyed_item p r q h = key_from (item_in p r) q h

-- a current place holds an item of its key
pub current_key : (p : PoolState) (index : Table) (q : List ℕ) (r : Place) → finite.get (current p index) q ≡ Some r
    → key_at p r ≡ Some q
current_key p index q r h = (stands_from_get (key_at p) index.slots q r h).key_is

-- an item stands at the current place of a key, and has this key
pub current_item : (p : PoolState) (index : Table) (q : List ℕ) (r : Place) → finite.get (current p index) q ≡ Some r
    → (i : Item)
    × (item_in p r ≡ Some i) × (i.key ≡ q)
current_item p index q r h = keyed_item p r q (current_key p index q r h)

-- a place where an item stands isn't empty
pub some_item : (p : PoolState) (r : Place) (i : Item) → item_in p r ≡ Some i → IsSome (item_in p r)
some_item p r i h = subst IsSome (sym h) refl

-- the place of a slot is current
pub held_place : (keys : KeysOf) (t : Table) (r : Place) → IsIndex keys t → HasPlace t r
    → (q : List ℕ) × (place_at keys t q ≡ Some r)
held_place keys t r index h =
    let k = value_there (keys r) (held_key keys t index r h) in
    let st : Stands keys t.slots k.0 r =
    record { at = h.at; in_range = h.in_range; used = h.used; place_is = h.place_is; key_is = k.1 } in
    (k.0, get_from_stands keys t.slots k.0 r st (λ s. stands_once _ keys t.slots index k.0 r s st))

-- where the current places keep their keys, they stay the current ones
pub same_current : (p after : PoolState) (index : Table) → IsIndex (key_at p) index
    → ((q : List ℕ) (r : Place) → finite.get (current p index) q ≡ Some r → key_at after r ≡ key_at p r)
    → IsMap (key_at after) index (current p index)
same_current p after index indexed same =
    keys_agree (key_at p) (key_at after) index indexed
    (λ r h. let k = held_place (key_at p) index r indexed h in same k.0 r k.1)

-- ---- marks of items

-- true isn't false
true_false : true ≡ false → ⊥
true_false e = cc

-- a place has the mark of its segment with the number of the 32 bytes in which it begins
pub mark_itself : (x : Place) → is_mark_of x x.segment (x.offset / 32) ≡ true
mark_itself x = same_place_itself (record { segment = x.segment; offset = x.offset / 32 })

-- items that share a mark stand at one place
pub same_mark : (p : PoolState) (a b : Place) (i j : Item) → IsPool p → item_in p a ≡ Some i → item_in p b ≡ Some j
    → is_mark_of a b.segment (b.offset / 32) ≡ true → a ≡ b
same_mark p a b i j k e f h =
    let parts = is_of_place a b.segment (b.offset / 32) h in
    let offset = own_marks p a b i j k e f parts.0 parts.1 in
    ap (λ n. record { segment = n; offset = a.offset }) parts.0
    ∙ ap (λ n. record { segment = b.segment; offset = n }) offset

-- where a choice is true and its first side false, the second side was taken, and is true
mark_if : (b m x : Bool) → (if m then b else x) ≡ true → b ≡ false → (m ≡ false) × (x ≡ true)
mark_if b true x h e = absurd (true_false (sym h ∙ e))
mark_if b false x h e = (refl, h)

-- a mark is left where another item's was taken away
pub other_mark : (t : Marks) (p : PoolState) (place r : Place) (i j : Item) → KnowsPool t p → item_in p place ≡ Some i
    → item_in p r ≡ Some j → (place ≡ r → ⊥) → is_marked t r ≡ true
    → is_marked (with_mark false t place) r ≡ true
other_mark t p place r i j known e f differ h =
    let at = mark_after false t place r.segment (r.offset / 32) known.sized
    (item_within t p place known (some_item p place i e)) in
    elim (cases_Bool (is_mark_of place r.segment (r.offset / 32))) [
      | inl y ↦ absurd (differ (same_mark p place r i j known.pool e f y))
      | inr n ↦ at ∙ rw n h
    ]

-- and what is marked then was marked, and is another one
pub left_mark : (t : Marks) (p : PoolState) (place r : Place) (i : Item) → KnowsPool t p → item_in p place ≡ Some i
    → is_marked (with_mark false t place) r ≡ true
    → (is_marked t r ≡ true) × (place ≡ r → ⊥)
left_mark t p place r i known e h =
    let at = mark_after false t place r.segment (r.offset / 32) known.sized
    (item_within t p place known (some_item p place i e)) in
    let parts = mark_if false (is_mark_of place r.segment (r.offset / 32)) (is_marked t r) (sym at ∙ h) refl in (
      parts.1,
      λ same. false≢true (sym parts.0 ∙ ap (λ (x : Place). is_mark_of x r.segment (r.offset / 32)) same
          ∙ mark_itself r),
    )

-- ---- a current item leaves

-- a key that has a place once a key was taken out is another one, and had this place before
pub removed_at : (m : Places) (key q : List ℕ) (r : Place) → finite.get (finite.remove m key) q ≡ Some r
    → (q ≡ key → ⊥) × (finite.get m q ≡ Some r)
removed_at m key q r h = by (cases_Bool (bytes_eq q key)) (sym (get-remove m key q) ∙ h)
  where
    by : (bytes_eq q key ≡ true) ⊎ (bytes_eq q key ≡ false) → cond (bytes_eq q key) None (finite.get m q) ≡ Some r
        → (q ≡ key → ⊥) × (finite.get m q ≡ Some r)
    by (inl same) e = (let f : None ≡ Some r = rw same at e in absurd (none-some r f))
    by (inr apart) e = (λ same. true_false (sym ((bytes_eq-Decides q key).1 same) ∙ apart), rw apart at e)

-- where a key is taken out, another key keeps its place
pub removed_other : (m : Places) (key q : List ℕ) (r : Place) → (q ≡ key → ⊥) → finite.get m q ≡ Some r
    → finite.get (finite.remove m key) q ≡ Some r
removed_other m key q r differ h =
    elim (cases_Bool (bytes_eq q key)) [
      | inl same ↦ absurd (differ ((bytes_eq-Decides q key).0 same))
      | inr apart ↦ get-remove m key q ∙ rw apart h
    ]

-- a key that has a place once a key was put in is that key with its new place, or another one with
-- the place that it had
pub inserted_at : (m : Places) (key q : List ℕ) (place r : Place) → finite.get (finite.insert m key place) q ≡ Some r
    → ((q ≡ key) × (place ≡ r)) ⊎ ((q ≡ key → ⊥) × (finite.get m q ≡ Some r))
inserted_at m key q place r h = by (cases_Bool (bytes_eq q key)) (sym (get-insert m key place q) ∙ h)
  where
    by : (bytes_eq q key ≡ true) ⊎ (bytes_eq q key ≡ false)
        → cond (bytes_eq q key) (Some place) (finite.get m q) ≡ Some r
        → ((q ≡ key) × (place ≡ r)) ⊎ ((q ≡ key → ⊥) × (finite.get m q ≡ Some r))
    by (inl same) e = (let f : Some place ≡ Some r = rw same at e in inl ((bytes_eq-Decides q key).0 same, cc))
    by (inr apart) e = inr (λ same. true_false (sym ((bytes_eq-Decides q key).1 same) ∙ apart), rw apart at e)

-- where a key is put in, another key keeps its place
pub inserted_other : (m : Places) (key q : List ℕ) (place r : Place) → (q ≡ key → ⊥) → finite.get m q ≡ Some r
    → finite.get (finite.insert m key place) q ≡ Some r
inserted_other m key q place r differ h =
    elim (cases_Bool (bytes_eq q key)) [
      | inl same ↦ absurd (differ ((bytes_eq-Decides q key).0 same))
      | inr apart ↦ get-insert m key place q ∙ rw apart h
    ]

-- items at the same place have the same key
keys_same : (p : PoolState) (a b : Place) (i j : Item) → item_in p a ≡ Some i → item_in p b ≡ Some j → a ≡ b
    → j.key ≡ i.key
keys_same p a b i j e f same = (let g : Some j ≡ Some i = sym f ∙ ap (item_in p) (sym same) ∙ e in cc)

-- two places that are equal as options are equal
pub one_place : {a b : Place} → Some a ≡ Some b → a ≡ b
one_place e = cc

-- where a key is taken out of the index and the mark of its place out of the marks, all stays tied
pub tied_left : (p : PoolState) (index after : Table) (t : Marks) (key : List ℕ) (place : Place) → IsTied p index t
    → finite.get (current p index) key ≡ Some place
    → IsMap (key_at p) after (finite.remove (current p index) key) → IsSameSize index after
    → IsTied p after (with_mark false t place)
tied_left p index after t key place tied there m size =
    let x = current_item p index key place there in
    let known = tied.known in
    record {
      known = knows_unmark t p place known (item_within t p place known (some_item p place x.0 x.1));
      indexed = m.index;
      held = λ q r h.
          (let was = removed_at (current p index) key q r
          (ap (λ (n : Places). finite.get n q) (sym m.places_are) ∙ h) in
          let y = current_item p index q r was.1 in
          other_mark t p place r x.0 y.0 known x.1 y.1
          (λ same. was.0 (sym y.2 ∙ keys_same p place r x.0 y.0 x.1 y.1 same ∙ x.2)) (tied.held q r was.1));
      marked = λ r j e h.
          (let left = left_mark t p place r x.0 known x.1 h in
          let was = tied.marked r j e left.0 in
          ap (λ (n : Places). finite.get n j.key) m.places_are
          ∙ removed_other (current p index) key j.key r
          (λ same. left.1 (one_place (sym there ∙ ap (finite.get (current p index)) (sym same) ∙ was))) was);
      roomy = subst (λ (n : ℕ). 2 * (p.sizes.segments * (p.sizes.segment_size / 32)) ≤ n) (sym size.count) tied.roomy;
      layout = subst (IsLayoutOf p.sizes) (sym size.layout) tied.layout;
    }

-- ---- the pool changes

-- where each marked place keeps its key, all stays tied
pub tied_same : (p after : PoolState) (index : Table) (t : Marks) → IsTied p index t → KnowsPool t after
    → after.sizes ≡ p.sizes
    → ((r : Place) → is_marked t r ≡ true → key_at after r ≡ key_at p r)
    → IsTied after index t × (current after index ≡ current p index)
tied_same p after index t tied known sizes same =
    let m = same_current p after index tied.indexed (λ q r h. same r (tied.held q r h)) in (
      record {
        known = known;
        indexed = m.index;
        held = λ q r h. tied.held q r (ap (λ (n : Places). finite.get n q) (sym m.places_are) ∙ h);
        marked = λ r i e h.
            (let x = keyed_item p r i.key (sym (same r h) ∙ item_key after r i e) in
            ap (λ (n : Places). finite.get n i.key) m.places_are ∙ ap (finite.get (current p index)) (sym x.2)
            ∙ tied.marked r x.0 x.1 h);
        roomy = subst (λ (s : Sizes). 2 * (s.segments * (s.segment_size / 32)) ≤ index.room)
            (sym sizes) tied.roomy;
        layout = subst (λ (s : Sizes). IsLayoutOf s index.layout) (sym sizes) tied.layout;
      },
      m.places_are,
    )

-- an item that is changed keeps its key where the change leaves it, and what is no item has none
change_key : (change : Item → Item) (o : Option Item) → ((i : Item) → o ≡ Some i → (change i).key ≡ i.key)
    → option_map (λ (i : Item). i.key) (option_map change o) ≡ option_map (λ (i : Item). i.key) o
change_key change None same = refl
change_key change (Some i) same = ap Some (same i refl)

-- a change that leaves the size and the key of the item at a place
pub record KeepsKey (change : Item → Item) (p : PoolState) (place : Place) : Type 0 where
  pub sized : KeepsSize change (item_in p place)
  pub key : (i : Item) → item_in p place ≡ Some i → (change i).key ≡ i.key

-- it leaves the keys of all places
changed_key : (change : Item → Item) (p : PoolState) (place r : Place) → KeepsKey change p place
    → key_at (with_change change p place) r ≡ key_at p r
unfolding key_at
changed_key change p place r k =
    let at = changed_item change p place r k.sized in
    elim (cases_Bool (same_place r place)) [
      | inl y ↦ ap (option_map (λ (i : Item). i.key)) (at ∙ rw y refl)
          ∙ change_key change (item_in p r) (λ i e. k.key i (ap (item_in p) (sym (same_place_is r place y)) ∙ e))
      | inr n ↦ ap (option_map (λ (i : Item). i.key)) (at ∙ rw n refl)
    ]

-- so all stays tied, and the current places stay
pub tied_changed : (change : Item → Item) (p after : PoolState) (index : Table) (t : Marks) (place : Place)
    → IsTied p index t → KeepsKey change p place → IsPool after → after ≡ with_change change p place
    → IsTied after index t × (current after index ≡ current p index)
tied_changed change p after index t place tied k pool is =
    subst (λ (a : PoolState). IsTied a index t × (current a index ≡ current p index)) (sym is)
    (tied_same p (with_change change p place) index t tied
    (knows_changed change t p place tied.known (subst IsPool is pool) k.sized) refl (λ r _. changed_key change p place r k))

-- where only a hit of a segment is counted, a place has the key that it had
hit_key : (p : PoolState) (n : ℕ) (r : Place) → key_at (with_segment_hit p n) r ≡ key_at p r
unfolding key_at
hit_key p n r = refl

-- and all stays tied
pub tied_hit : (p after : PoolState) (index : Table) (t : Marks) (n : ℕ) → IsTied p index t → IsPool after
    → after ≡ with_segment_hit p n → IsTied after index t × (current after index ≡ current p index)
tied_hit p after index t n tied pool is =
    tied_same p after index t tied
    (subst (KnowsPool t) (sym is) (record {
      pool = subst IsPool is pool;
      sizes = tied.known.sizes;
      sized = tied.known.sized;
      each = tied.known.each;
    }))
    (ap (λ (q : PoolState). q.sizes) is) (λ r _. ap (λ (q : PoolState). key_at q r) is ∙ hit_key p n r)

-- where segments without a marked item are given back, a marked place keeps its key, or still has
-- none
given_key : (t : Marks) (p after : PoolState) (r : Place) (o : Option Item) → IsGivenBack (lives_by t) p after
    → item_in p r ≡ o → is_marked t r ≡ true
    → option_map (λ (i : Item). i.key) (item_in after r) ≡ option_map (λ (i : Item). i.key) o
given_key t p after r None g e h = ap (option_map (λ (i : Item). i.key))
    (given_item (lives_by t) p after r g ∙ none (has_live (lives_by t) p r.segment) (item_in p r) e)
  where
    none : (b : Bool) (o : Option Item) → o ≡ None → (if b then o else None) ≡ None
    none true o e = e
    none false o e = refl
given_key t p after r (Some i) g e h = ap (option_map (λ (i : Item). i.key))
    (live_given (lives_by t) p after r i g e h).0

-- what has no mark is given back
pub tied_given : (p after : PoolState) (index : Table) (t : Marks) → IsTied p index t → IsPool after
    → IsGivenBack (lives_by t) p after
    → IsTied after index t × (current after index ≡ current p index)
unfolding key_at
tied_given p after index t tied pool g =
    tied_same p after index t tied (knows_given t p after tied.known pool g) g.sizes
    (λ r h. given_key t p after r (item_in p r) g refl h)

-- ---- an item is appended

-- once a place was marked, a place that shares its mark is marked, and another one is if it was
marked_after : (t : Marks) (p : PoolState) (place r : Place) → KnowsPool t p → IsSome (item_in p place)
    → is_marked (with_mark true t place) r
    ≡ (if is_mark_of place r.segment (r.offset / 32) then true else is_marked t r)
marked_after t p place r known some = mark_after true t place r.segment (r.offset / 32) known.sized
    (item_within t p place known some)

-- a choice between true and what is true is true
true_or : (b x : Bool) → x ≡ true → (if b then true else x) ≡ true
true_or true x h = refl
true_or false x h = h

-- two items at different places don't share a mark
no_mark : (p : PoolState) (a b : Place) (i j : Item) → IsPool p → item_in p a ≡ Some i → item_in p b ≡ Some j
    → same_place b a ≡ false → is_mark_of a b.segment (b.offset / 32) ≡ false
no_mark p a b i j k e f n =
    elim (cases_Bool (is_mark_of a b.segment (b.offset / 32))) [
      | inl y ↦ absurd (false≢true (sym n ∙ ap (same_place b) (same_mark p a b i j k e f y) ∙ same_place_itself b))
      | inr z ↦ z
    ]

-- where an item stands at a place, its key has that place once it was inserted with it
inserted_here : (places : Places) (after : PoolState) (place r : Place) (i j : Item) → item_in after place ≡ Some i
    → item_in after r ≡ Some j → same_place r place ≡ true
    → finite.get (finite.insert places i.key place) j.key ≡ Some r
inserted_here places after place r i j here e y =
    let same = same_place_is r place y in
    let is : Some j ≡ Some i = sym e ∙ ap (item_in after) same ∙ here in
    let key : j.key ≡ i.key = cc in
    ap (finite.get (finite.insert places i.key place)) key
    ∙ get-insert places i.key place i.key
    ∙ (let z = (bytes_eq-Decides i.key i.key).1 refl in rw z refl) ∙ ap Some (sym same)

-- where an item of a key without a place is appended, its key put into the index and its place
-- marked, all stays tied
pub tied_appended : (p after : PoolState) (bucket moment : ℕ) (i : Item) (place : Place) (index found : Table)
    (t : Marks) → IsTied p index t → IsPool after
    → IsAppended p bucket moment i after place → finite.get (current p index) i.key ≡ None
    → IsMap (key_at after) found (finite.insert (current p index) i.key place) → IsSameSize index found
    → IsTied after found (with_mark true t place)
tied_appended p after bucket moment i place index found t tied pool a absent m size =
    let known = knows_longer t p bucket moment i after place tied.known pool a in
    let here : item_in after place ≡ Some i = a.items place ∙ (let s = same_place_itself place in rw s refl) in
    let some = some_item after place i here in
    record {
      known = knows_appended t p bucket moment i after place tied.known pool a;
      indexed = m.index;
      held = λ q r h.
          (let was = inserted_at (current p index) i.key q place r
          (ap (λ (n : Places). finite.get n q) (sym m.places_are) ∙ h) in
          marked_after t after place r known some ∙
          elim was [
            | inl new ↦ ap (λ (x : Place). if is_mark_of place x.segment (x.offset / 32) then true else is_marked t x)
                (sym new.1)
                ∙ (let y = mark_itself place in rw y refl)
            | inr old ↦ true_or (is_mark_of place r.segment (r.offset / 32)) (is_marked t r) (tied.held q r old.1)
          ]);
      marked = λ r j e h.
          ap (λ (n : Places). finite.get n j.key) m.places_are ∙
          elim (cases_Bool (same_place r place)) [
            | inl y ↦ inserted_here (current p index) after place r i j here e y
            | inr n ↦
                let was : item_in p r ≡ Some j = sym (a.items r ∙ rw n refl) ∙ e in
                let apart : is_mark_of place r.segment (r.offset / 32) ≡ false =
                no_mark after place r i j pool here e n in
                let mark : is_marked t r ≡ true = sym (marked_after t after place r known some ∙ rw apart refl) ∙ h in
                let old = tied.marked r j was mark in
                inserted_other (current p index) i.key j.key place r
                (λ same. none-some r (sym absent ∙ ap (finite.get (current p index)) (sym same) ∙ old)) old
          ];
      roomy = subst (λ (n : ℕ). 2 * (after.sizes.segments * (after.sizes.segment_size / 32)) ≤ n) (sym size.count)
          (subst (λ (s : Sizes). 2 * (s.segments * (s.segment_size / 32)) ≤ index.room)
          (sym a.sizes) tied.roomy);
      layout = subst (IsLayoutOf after.sizes) (sym size.layout)
          (subst (λ (s : Sizes). IsLayoutOf s index.layout) (sym a.sizes) tied.layout);
    }

-- an item is appended in place of the current one of its key
tied_replaced : (p after : PoolState) (bucket moment : ℕ) (i : Item) (place : Place) (index found : Table) (t : Marks)
    (source : Place) → IsTied p index t
    → IsPool after → IsAppended p bucket moment i after place → finite.get (current p index) i.key ≡ Some source
    → IsMap (key_at after) found (finite.insert (current p index) i.key place) → IsSameSize index found
    → IsTied after found (with_mark true (with_mark false t source) place)
tied_replaced p after bucket moment i place index found t source tied pool a there m size =
    let x = current_item p index i.key source there in
    let u : Marks = with_mark false t source in
    let known_left = knows_unmark t p source tied.known
    (item_within t p source tied.known (some_item p source x.0 x.1)) in
    let known = knows_longer u p bucket moment i after place known_left pool a in
    let here : item_in after place ≡ Some i = a.items place ∙ (let s = same_place_itself place in rw s refl) in
    let some = some_item after place i here in
    record {
      known = knows_appended u p bucket moment i after place known_left pool a;
      indexed = m.index;
      held = λ q r h.
          (let was = inserted_at (current p index) i.key q place r
          (ap (λ (n : Places). finite.get n q) (sym m.places_are) ∙ h) in
          marked_after u after place r known some ∙
          elim was [
            | inl new ↦ ap (λ (x : Place). if is_mark_of place x.segment (x.offset / 32) then true else is_marked u x)
                (sym new.1)
                ∙ (let y = mark_itself place in rw y refl)
            | inr old ↦
                let y = current_item p index q r old.1 in
                true_or (is_mark_of place r.segment (r.offset / 32)) (is_marked u r)
                (other_mark t p source r x.0 y.0 tied.known x.1 y.1
                (λ same. old.0 (sym y.2 ∙ keys_same p source r x.0 y.0 x.1 y.1 same ∙ x.2))
                (tied.held q r old.1))
          ]);
      marked = λ r j e h.
          ap (λ (n : Places). finite.get n j.key) m.places_are ∙
          elim (cases_Bool (same_place r place)) [
            | inl y ↦ inserted_here (current p index) after place r i j here e y
            | inr n ↦
                let was : item_in p r ≡ Some j = sym (a.items r ∙ rw n refl) ∙ e in
                let apart : is_mark_of place r.segment (r.offset / 32) ≡ false =
                no_mark after place r i j pool here e n in
                let mark : is_marked u r ≡ true = sym (marked_after u after place r known some ∙ rw apart refl) ∙ h in
                let left = left_mark t p source r x.0 tied.known x.1 mark in
                let old = tied.marked r j was left.0 in
                inserted_other (current p index) i.key j.key place r
                (λ same. left.1 (one_place (sym there ∙ ap (finite.get (current p index)) (sym same) ∙ old))) old
          ];
      roomy = subst (λ (n : ℕ). 2 * (after.sizes.segments * (after.sizes.segment_size / 32)) ≤ n) (sym size.count)
          (subst (λ (s : Sizes). 2 * (s.segments * (s.segment_size / 32)) ≤ index.room)
          (sym a.sizes) tied.roomy);
      layout = subst (IsLayoutOf after.sizes) (sym size.layout)
          (subst (λ (s : Sizes). IsLayoutOf s index.layout) (sym a.sizes) tied.layout);
    }

-- an item is appended, whether its key has one or not
pub tied_put : (p after : PoolState) (bucket moment : ℕ) (i : Item) (place : Place) (index found : Table) (t : Marks)
    (source : Option Place) → IsTied p index t
    → IsPool after → IsAppended p bucket moment i after place → source ≡ finite.get (current p index) i.key
    → IsMap (key_at after) found (finite.insert (current p index) i.key place) → IsSameSize index found
    → IsTied after found (marked_instead t source place)
tied_put p after bucket moment i place index found t None tied pool a is m size =
    tied_appended p after bucket moment i place index found t tied pool a (sym is) m size
tied_put p after bucket moment i place index found t (Some source) tied pool a is m size =
    tied_replaced p after bucket moment i place index found t source tied pool a (sym is) m size

-- a current place has a mark of its own
pub source_within : (p : PoolState) (index : Table) (t : Marks) (key : List ℕ) (source : Option Place)
    → IsTied p index t
    → source ≡ finite.get (current p index) key → IfSome source (IsWithin t.sizes)
source_within p index t key None tied is = tt
source_within p index t key (Some source) tied is =
    let x = current_item p index key source (sym is) in
    item_within t p source tied.known (some_item p source x.0 x.1)

-- to take out a key that isn't there changes nothing
pub removed_none : (m : Places) (key : List ℕ) → finite.get m key ≡ None → m ≡ finite.remove m key
removed_none m key none =
    finite.same_map nat_list_cmp_total (slice_cmp-IsAntisymmetric nat_cmp-IsAntisymmetric) m (finite.remove m key)
    (λ q. elim (cases_Bool (bytes_eq q key)) [
      | inl y ↦ ap (finite.get m) ((bytes_eq-Decides q key).0 y) ∙ none ∙ sym (get-remove m key q ∙ rw y refl)
      | inr n ↦ sym (get-remove m key q ∙ rw n refl)
    ])

-- an item stands at a current place
pub current_some : (p : PoolState) (index : Table) (q : List ℕ) (r : Place) → finite.get (current p index) q ≡ Some r
    → IsSome (item_in p r)
current_some p index q r h = let x = current_item p index q r h in some_item p r x.0 x.1

-- and is that of one of the pool's segments
pub current_within : (p : PoolState) (index : Table) (t : Marks) (q : List ℕ) (r : Place) → KnowsPool t p
    → finite.get (current p index) q ≡ Some r → r.segment < p.sizes.segments
current_within p index t q r known h =
    subst (λ (s : Sizes). r.segment < s.segments) known.sizes
    (item_within t p r known (current_some p index q r h)).segment
