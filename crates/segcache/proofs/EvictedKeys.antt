-- What is forgotten where room is made: keys of shown entries, of which there are as many as
-- segments, and not too many bytes of them.
use Rattle.std.proofs.Common.{◌≡◌, ℕ, zero, suc, ◌+◌, ◌-◌, ◌*◌, ◌<◌, ◌≤◌, Bool, true, false, cond, List, [], ◌∷◌, map}
use Rattle.std.proofs.Common.{Option, Some, None, refl, sym, ap, subst, ◌∙◌, inl, inr, arith}
use Rattle.std.specs.Prelude.{bytes_eq, IsSome, All, ◌||◌, ◌⊎◌, not, option_map, sum_by, filter, is_some, ◌==◌, if◌then◌else◌}
use Rattle.std.specs.List.{list_any, list_all}
use Rattle.std.specs.Option.{option_map_or}
use Rattle.std.specs.FinMap as finite
use Rattle.std.specs.Ordering.{nat_cmp}
use Rattle.std.specs.Cmp.Lexicographic.{slice_cmp, nat_list_cmp_total}
use Rattle.std.proofs.lemmas.Bool.{cases_Bool, cases_eq, ne_eqb, false≢true, and_parts, not-true}
use Rattle.std.proofs.lemmas.Slice.Eq.{bytes_eq-Decides}
use Rattle.std.proofs.lemmas.Option.{none-some}
use Rattle.std.proofs.lemmas.List.Sums.{sum_by-cons}
use Rattle.std.proofs.lemmas.List.Elements.{All-head, All-tail, All-nil, All-cons, All-filter}
use Rattle.proto.specs.Cache.{Entry, Entries}
use Rattle.proto.specs.Steps.{size_at, without_keys}
use Rattle.proto.proofs.CacheLemmas.{entry_size, contains_bytes, get-remove, if_live}
use Rattle.segments.specs.declared.place.Place.{Place}
use Rattle.segments.specs.Items.{Item, size_of_item, size_of_all}
use Rattle.segments.specs.Pools.{PoolState, IsPool, Used, Standing, item_in, place_deadline, standing, standing_from, items_of, segment_at, has_live}
use Rattle.segments.specs.Changes.{without_segment}
use Rattle.segments.specs.Places.{same_place, HasFree}
use Rattle.segments.proofs.Places.{cleared_item, cleared_deadline, cleared_free}
use Rattle.segments.proofs.MovedPlaces.{same_place_is, same_place_itself}
use Rattle.segments.proofs.MarkedPlaces.{knows_after}
use Rattle.segments.specs.Pools.{key_at}
use Rattle.segments.specs.Marks.{Marks, is_marked}
use Rattle.index.specs.Table.{Table, Places}
use Rattle.segcache.specs.Shown.{current, shown_entries, entry_at, kept_entry, dead_entry}
use Rattle.segcache.specs.Removals.{HasLeft}
use Rattle.segcache.proofs.OpeningMoments.{past_cleared}
use Rattle.segcache.specs.Invariants.{IsTied, IsPast}
use Rattle.segcache.specs.Room.{IsCrowded, IsRoomMade, AreKept}
use Rattle.segcache.specs.LiveItems.{live_marks}
use Rattle.proto.specs.Cache.{has_arrived}
use Rattle.segments.specs.Items.{item_deadline}
use Rattle.segments.specs.Pools.{deadline_in}
use Rattle.segcache.proofs.ShownItems.{get-live_in, entry_live, entry_is, shown_without}
use Rattle.segcache.proofs.TiedParts.{current_item, tied_same}
use Rattle.segcache.proofs.LeftPlaces.{is_left, standing_all, standing_left, deadline_standing}

-- ---- what is shown of current items that are live

-- an item that is its key's current one
abbrev pub IsCurrent : PoolState → Table → Standing → Type 0
IsCurrent p index s = (item_in p s.place ≡ Some s.item) × (finite.get (current p index) s.item.key ≡ Some s.place)

-- the deadline of an item's place hasn't come
abbrev pub Waits : PoolState → ℕ → Standing → Type 0
Waits p t s = has_arrived (place_deadline p s.place) t ≡ false

-- a current item whose deadline hasn't come is shown as the entry that it keeps, with its deadline
pub shown_item : (p : PoolState) (index : Table) (t : ℕ) (s : Standing) → Waits p t s
    → IsCurrent p index s
    → finite.get (shown_entries p index t) s.item.key ≡ Some (kept_entry (place_deadline p s.place) s.item)
shown_item p index t s wait c =
    get-live_in p (current p index) t s.item.key ∙ ap (λ (o : Option Place). if_live t (option_map (entry_at p) o)) c.1
    ∙ entry_live p s.place t s.item c.0 wait ∙ ap Some (entry_is p s.place s.item c.0)

-- the key of an item that stands at a place
abbrev pub key_in : Standing → List ℕ
key_in s = s.item.key

-- the bytes that an item at a place takes
abbrev pub size_in : Standing → ℕ
size_in s = size_of_item s.item

-- an entry is shown at the key of each of some current items whose deadline hasn't come
pub all_shown : (p : PoolState) (index : Table) (t : ℕ) (ss : List Standing) → All (Waits p t) ss
    → All (IsCurrent p index) ss
    → list_all (finite.contains_key (shown_entries p index t)) (map key_in ss) ≡ true
all_shown p index t [] wait all = refl
all_shown p index t (s ∷ ss) wait all =
    let here : finite.contains_key (shown_entries p index t) s.item.key ≡ true =
    ap is_some (shown_item p index t s (All-head (Waits p t) s ss wait) (All-head (IsCurrent p index) s ss all)) in
    rw here (all_shown p index t ss (All-tail (Waits p t) s ss wait) (All-tail (IsCurrent p index) s ss all))

-- the entries shown at the keys of current items whose deadline hasn't come take the bytes that
-- these items take
pub shown_sizes : (p : PoolState) (index : Table) (t : ℕ) (ss : List Standing) → All (Waits p t) ss
    → All (IsCurrent p index) ss
    → sum_by (size_at (shown_entries p index t)) (map key_in ss) ≡ sum_by size_in ss
shown_sizes p index t [] wait all = refl
shown_sizes p index t (s ∷ ss) wait all =
    let here : size_at (shown_entries p index t) s.item.key ≡ size_of_item s.item = ap
    (λ (o : Option Entry). option_map_or (entry_size s.item.key) o 0)
    (shown_item p index t s (All-head (Waits p t) s ss wait) (All-head (IsCurrent p index) s ss all)) in
    let rest = shown_sizes p index t ss (All-tail (Waits p t) s ss wait) (All-tail (IsCurrent p index) s ss all) in
    let one = sum_by-cons (size_at (shown_entries p index t)) s.item.key (map key_in ss) in
    let other = sum_by-cons size_in s ss in
    omega (arith, here, rest, one, other)

-- ---- as many entries as segments

-- a key of a segment, whose place is there
pub record HasKeyIn (m : Places) (entries : Entries) (n : ℕ) : Type 0 where
  pub key : List ℕ
  pub place : Place
  pub there : finite.get m key ≡ Some place
  pub segment : place.segment ≡ n
  pub entry : finite.contains_key entries key ≡ true

-- a map without one of its keys has one entry less
one_less : (e : Entries) (q : List ℕ) → finite.contains_key e q ≡ true
    → finite.len (finite.remove e q) + 1 ≡ finite.len e
one_less e q h =
    let l = finite.len-remove nat_list_cmp_total e q in
    elim (cases_eq (finite.len e) 0) [
      | inl z ↦
          let none : finite.get e q ≡ None = ap (λ (m : Entries). finite.get m q) (finite.empty_of_len e z)
          ∙ finite.get-empty (slice_cmp nat_cmp) q in
          absurd (false≢true (ap is_some (sym none) ∙ h))
      | inr some ↦
          let is : finite.len (finite.remove e q) ≡ finite.len e - 1 = l ∙ rw h refl in
          omega (arith, is, some)
    ]

-- where each segment below a number has a key with a place in it and an entry, there are at least
-- that many entries
pub many_keys : (k : ℕ) (m : Places) (entries : Entries) → ((n : ℕ) → n < k → HasKeyIn m entries n)
    → k ≤ finite.len entries
many_keys zero m entries h = omega arith
many_keys (suc k) m entries h =
    let x = h k (omega arith) in
    let less = many_keys k m (finite.remove entries x.key) (λ n lt. (let y = h n (omega (arith, lt)) in
    record {
      key = y.key;
      place = y.place;
      there = y.there;
      segment = y.segment;
      entry = ap is_some (get-remove entries x.key y.key) ∙ other n y x lt (cases_Bool (bytes_eq y.key x.key));
    })) in
    let one = one_less entries x.key x.entry in
    omega (arith, less, one)
  where
    other : (n : ℕ) (y : HasKeyIn m entries n) (x : HasKeyIn m entries k) → n < k
        → (bytes_eq y.key x.key ≡ true) ⊎ (bytes_eq y.key x.key ≡ false)
        → is_some (cond (bytes_eq y.key x.key) None (finite.get entries y.key)) ≡ true
    other n y x lt (inl same) =
        let e : Some y.place ≡ Some x.place =
        sym y.there ∙ ap (finite.get m) ((bytes_eq-Decides y.key x.key).0 same) ∙ x.there in
        let is : y.place ≡ x.place = cc in
        let s : n ≡ k = sym y.segment ∙ ap (λ (r : Place). r.segment) is ∙ x.segment in
        absurd (omega (arith, lt, s))
    other n y x lt (inr apart) = rw apart y.entry

-- of items that all have a property, and of which some pass a test, one passes it and has the
-- property
pub found_live : (t : Standing → Bool) (xs : List Standing) → list_any t xs ≡ true → (P : Standing → Type 0) → All P xs
    → (s : Standing) × (t s ≡ true) × P s
found_live t [] h P all = absurd (false≢true h)
found_live t (x ∷ xs) h P all =
    elim (cases_Bool (t x)) [
      | inl y ↦ (x, y, All-head P x xs all)
      | inr n ↦ (let later : list_any t xs ≡ true = rw n at h in found_live t xs later P (All-tail P x xs all))
    ]

-- where each segment has a live item, there are as many entries as segments
pub many_shown : (p : PoolState) (index : Table) (marks : Marks) (t : ℕ) → IsTied p index marks
    → ((n : ℕ) → n < p.sizes.segments → has_live (live_marks marks t) p n ≡ true)
    → p.sizes.segments ≤ finite.len (shown_entries p index t)
many_shown p index marks t tied live =
    many_keys p.sizes.segments (current p index) (shown_entries p index t)
    (λ n lt.
    let w = found_live
    (λ s. live_marks marks t s.place s.item (item_deadline s.item (deadline_in (segment_at p n)))) (standing p n)
    (live n lt)
    (λ (s : Standing). (s.place.segment ≡ n) × (item_in p s.place ≡ Some s.item)) (standing_all p n) in
    let shared = deadline_in (segment_at p n) in
    let both = and_parts (is_marked marks w.0.place) (not (has_arrived (item_deadline w.0.item shared) t)) w.1 in
    let wait : has_arrived (place_deadline p w.0.place) t ≡ false =
    ap (λ d. has_arrived d t) (sym (deadline_standing p n w.0 w.2.0 w.2.1))
    ∙ not-true (has_arrived (item_deadline w.0.item shared) t) both.1 in
    let there = tied.marked w.0.place w.0.item w.2.1 both.0 in
    record {
      key = w.0.item.key;
      place = w.0.place;
      there = there;
      segment = w.2.0;
      entry = ap is_some (shown_item p index t w.0 wait (w.2.1, there));
    })

-- ---- all that is forgotten

-- a key with a place is one of the keys of some current items exactly where its place is one of
-- theirs
key_left : (p : PoolState) (index : Table) (ss : List Standing) (q : List ℕ) (r : Place) → All (IsCurrent p index) ss
    → finite.get (current p index) q ≡ Some r
    → contains_bytes (map key_in ss) q ≡ is_left ss r
key_left p index [] q r all there = refl
key_left p index (e ∷ ss) q r all there =
    let here = All-head (IsCurrent p index) e ss all in
    let rest = key_left p index ss q r (All-tail (IsCurrent p index) e ss all) there in
    elim (cases_Bool (bytes_eq q e.item.key)) [
      | inl y ↦
          let one : Some r ≡ Some e.place =
          sym there ∙ ap (finite.get (current p index)) ((bytes_eq-Decides q e.item.key).0 y) ∙ here.1 in
          let is : r ≡ e.place = cc in
          let same : same_place e.place r ≡ true = ap (same_place e.place) is ∙ same_place_itself e.place in
          rw (y, same) refl
      | inr n ↦
          let apart : same_place e.place r ≡ false = elim (cases_Bool (same_place e.place r)) [
            | inl z ↦
                let x = current_item p index q r there in
                let one : Some e.item ≡ Some x.0 = sym here.0 ∙ ap (item_in p) (same_place_is e.place r z) ∙ x.1 in
                let key : q ≡ e.item.key = (let k : e.item ≡ x.0 = cc in sym (ap (λ (i : Item). i.key) k ∙ x.2)) in
                absurd (false≢true (sym n ∙ (bytes_eq-Decides q e.item.key).1 key))
            | inr z ↦ z
          ] in
          rw (n, apart) rest
    ]

-- Each key's place was forgotten with these items, or shows what it did, wherever it is now.
pub record HaveStayed (p : PoolState) (old : Places) (after : PoolState) (new : Places)
    (ss : List Standing) : Type 0 where
  pub none : (q : List ℕ) → finite.get old q ≡ None → finite.get new q ≡ None
  pub gone : (q : List ℕ) (r : Place) → finite.get old q ≡ Some r → is_left ss r ≡ true → finite.get new q ≡ None
  pub stays : (q : List ℕ) (r : Place) → finite.get old q ≡ Some r → is_left ss r ≡ false → (s : Place)
      × (finite.get new q ≡ Some s) × (entry_at after s ≡ entry_at p r)

-- a choice between no entry and no entry is no entry
no_entry : (b : Bool) → ◌≡◌ {A = Option Entry} None (cond b None None)
no_entry true = refl
no_entry false = refl

-- where some current items leave and the others stay, a key of theirs shows nothing, and any other
-- shows what it did
shown_but : (p : PoolState) (index : Table) (after : PoolState) (new : Places) (t : ℕ) (ss : List Standing) (q : List ℕ)
    (o : Option Place) → All (IsCurrent p index) ss
    → HaveStayed p (current p index) after new ss → finite.get (current p index) q ≡ o
    → if_live t (option_map (entry_at after) (finite.get new q))
    ≡ cond (contains_bytes (map key_in ss) q) None (if_live t (option_map (entry_at p) o))
shown_but p index after new t ss q None all h e =
    ap (λ (o : Option Place). if_live t (option_map (entry_at after) o)) (h.none q e)
    ∙ no_entry (contains_bytes (map key_in ss) q)
shown_but p index after new t ss q (Some r) all h e =
    let left = key_left p index ss q r all e in
    elim (cases_Bool (is_left ss r)) [
      | inl y ↦
          let yes : contains_bytes (map key_in ss) q ≡ true = left ∙ y in
          ap (λ (o : Option Place). if_live t (option_map (entry_at after) o)) (h.gone q r e y) ∙ rw yes refl
      | inr n ↦
          let no : contains_bytes (map key_in ss) q ≡ false = left ∙ n in
          let s = h.stays q r e n in
          ap (λ (o : Option Place). if_live t (option_map (entry_at after) o)) s.1
          ∙ ap (λ (x : Entry). if_live t (Some x)) s.2 ∙ rw no refl
    ]

-- where current items leave and the others stay, exactly their keys aren't shown any more
pub left_entries : (p : PoolState) (index : Table) (after : PoolState) (found : Table) (t : ℕ) (ss : List Standing)
    → All (IsCurrent p index) ss
    → HaveStayed p (current p index) after (current after found) ss
    → shown_entries after found t ≡ without_keys (shown_entries p index t) (map key_in ss)
left_entries p index after found t ss all stayed =
    shown_without p after (current p index) (current after found) t (map key_in ss)
    (λ q. get-live_in after (current after found) t q
    ∙ shown_but p index after (current after found) t ss q (finite.get (current p index) q) all stayed refl
    ∙ ap (cond (contains_bytes (map key_in ss) q) None) (sym (get-live_in p (current p index) t q)))

-- what is forgotten where current items of a crowded map leave whose deadline hasn't come, no more
-- than four segments' worth
pub evicted_kept : (p : PoolState) (index : Table) (after : PoolState) (found : Table) (t : ℕ) (ss : List Standing)
    → IsCrowded p index t → All (Waits p t) ss → All (IsCurrent p index) ss
    → HaveStayed p (current p index) after (current after found) ss → sum_by size_in ss ≤ 4 * p.sizes.segment_size
    → AreKept p.sizes (shown_entries p index t) (shown_entries after found t)
evicted_kept p index after found t ss crowded wait all stayed small =
    record {
      forgotten = map key_in ss;
      evicted = inr record {
        present = all_shown p index t ss wait all;
        full = crowded.many;
        bounded = (let e = shown_sizes p index t ss wait all in omega (arith, e, small));
      };
      entries = left_entries p index after found t ss all stayed;
    }

-- ---- the items of a segment

-- marked items of a segment are current
pub current_among : (p : PoolState) (index : Table) (marks : Marks) (ss : List Standing) → IsTied p index marks
    → All (λ (s : Standing). item_in p s.place ≡ Some s.item) ss
    → All (IsCurrent p index) (filter (λ (s : Standing). is_marked marks s.place) ss)
current_among p index marks [] tied all = All-nil (IsCurrent p index)
current_among p index marks (s ∷ ss) tied all =
    let here = All-head (λ (x : Standing). item_in p x.place ≡ Some x.item) s ss all in
    let rest = current_among p index marks ss tied
    (All-tail (λ (x : Standing). item_in p x.place ≡ Some x.item) s ss all) in
    elim (cases_Bool (is_marked marks s.place)) [
      | inl y ↦ rw y (All-cons (IsCurrent p index) s (filter (λ (x : Standing). is_marked marks x.place) ss)
          (here, tied.marked s.place s.item here y) rest)
      | inr n ↦ rw n rest
    ]

-- a marked place is one of those of the marked items exactly where it is one of those of all items
left_marked : (marks : Marks) (ss : List Standing) (r : Place) → is_marked marks r ≡ true
    → is_left (filter (λ (s : Standing). is_marked marks s.place) ss) r ≡ is_left ss r
left_marked marks [] r h = refl
left_marked marks (s ∷ ss) r h =
    let rest = left_marked marks ss r h in
    elim (cases_Bool (is_marked marks s.place)) [
      | inl y ↦ rw y (ap (λ (b : Bool). same_place s.place r || b) rest)
      | inr n ↦
          let apart : same_place s.place r ≡ false = elim (cases_Bool (same_place s.place r)) [
            | inl z ↦ absurd (false≢true (sym n ∙ ap (is_marked marks) (same_place_is s.place r z) ∙ h))
            | inr z ↦ z
          ] in
          rw (n, apart) rest
    ]

-- a place in another segment is none of those of a segment's items
none_left : (ss : List Standing) (n : ℕ) (r : Place) → All (λ (s : Standing). s.place.segment ≡ n) ss
    → (r.segment ≡ n → ⊥) → is_left ss r ≡ false
none_left [] n r all ne = refl
none_left (s ∷ ss) n r all ne =
    let here = All-head (λ (x : Standing). x.place.segment ≡ n) s ss all in
    let rest = none_left ss n r (All-tail (λ (x : Standing). x.place.segment ≡ n) s ss all) ne in
    elim (cases_Bool (same_place s.place r)) [
      | inl y ↦ absurd (ne (ap (λ (x : Place). x.segment) (sym (same_place_is s.place r y)) ∙ here))
      | inr f ↦ rw f rest
    ]

-- those of some items that are marked take no more bytes than all of them
marked_sizes : (marks : Marks) (ss : List Standing)
    → sum_by size_in (filter (λ (s : Standing). is_marked marks s.place) ss) ≤ sum_by size_in ss
marked_sizes marks [] = omega arith
marked_sizes marks (s ∷ ss) =
    let rest = marked_sizes marks ss in
    let whole = sum_by-cons size_in s ss in
    elim (cases_Bool (is_marked marks s.place)) [
      | inl y ↦ (let part = sum_by-cons size_in s (filter (λ (x : Standing). is_marked marks x.place) ss) in
          rw y (omega (arith, rest, whole, part)))
      | inr n ↦ rw n (omega (arith, rest, whole))
    ]

-- items that stand one after the other in a segment take as many bytes as they do in a list
pub standing_sizes : (n from : ℕ) (items : List Item) → sum_by size_in (standing_from n from items) ≡ size_of_all items
standing_sizes n from [] = refl
standing_sizes n from (i ∷ items) =
    let rest = standing_sizes n (from + size_of_item i) items in
    let one = sum_by-cons size_in (record { place = record { segment = n; offset = from }; item = i })
    (standing_from n (from + size_of_item i) items) in
    let other = sum_by-cons size_of_item i items in
    omega (arith, rest, one, other)

-- the items under a segment's number, none where it is free, take no more bytes than a segment has
size_by : (p : PoolState) (n : ℕ) (o : Option Used) → IsPool p → segment_at p n ≡ o
    → size_of_all (items_of o) ≤ p.sizes.segment_size
size_by p n None k e = omega arith
size_by p n (Some u) k e = (k.used n u e).fits

-- the items that stand in a segment take no more bytes than it has
pub segment_sizes : (p : PoolState) (n : ℕ) → IsPool p → sum_by size_in (standing p n) ≤ p.sizes.segment_size
segment_sizes p n k =
    let is = standing_sizes n 0 (items_of (segment_at p n)) in
    let small = size_by p n (segment_at p n) k refl in
    omega (arith, is, small)

-- ---- a segment is cleared whose keys have left

-- where a segment is cleared, places in other segments show what they did
cleared_entry : (p : PoolState) (n : ℕ) (r : Place) → IsSome (segment_at p n) → (r.segment ≡ n → ⊥)
    → entry_at (without_segment p n) r ≡ entry_at p r
unfolding entry_at
cleared_entry p n r some ne =
    let f = ne_eqb r.segment n ne in
    let item : item_in (without_segment p n) r ≡ item_in p r = cleared_item p n r some ∙ rw f refl in
    let deadline : place_deadline (without_segment p n) r ≡ place_deadline p r = cleared_deadline p n r some
    ∙ rw f refl in
    ap (λ (d : Option ℕ). option_map_or (kept_entry d) (item_in (without_segment p n) r) dead_entry) deadline
    ∙ ap (λ (o : Option Item). option_map_or (kept_entry (place_deadline p r)) o dead_entry) item

-- where a segment is cleared, the items in other segments stay where they stood
cleared_key : (p : PoolState) (n : ℕ) (r : Place) → IsSome (segment_at p n) → (r.segment ≡ n → ⊥)
    → item_in (without_segment p n) r ≡ item_in p r
cleared_key p n r some ne = let f = ne_eqb r.segment n ne in cleared_item p n r some ∙ rw f refl

-- where a segment is cleared in which no key has its current place, all stays tied, and the current
-- places stay
pub tied_cleared : (p after : PoolState) (n : ℕ) (index : Table) (marks : Marks) → IsTied p index marks → IsPool after
    → after ≡ without_segment p n → IsSome (segment_at p n)
    → ((q : List ℕ) (r : Place) → finite.get (current p index) q ≡ Some r → r.segment ≡ n → ⊥)
    → IsTied after index marks
    × (current after index ≡ current p index)
unfolding key_at
tied_cleared p after n index marks tied pool is some elsewhere =
    let apart : (r : Place) (i : Item) → is_marked marks r ≡ true → item_in p r ≡ Some i → r.segment ≡ n
    → ⊥ = λ r i h e. elsewhere i.key r (tied.marked r i e h) in
    let same : (r : Place) → is_marked marks r ≡ true → item_in after r ≡ item_in p r =
    λ r h. ap (λ (a : PoolState). item_in a r) is ∙ by_item p n r some (item_in p r) refl (λ i e. apart r i h e) in
    tied_same p after index marks tied
    (knows_after marks p after tied.known pool (ap (λ (a : PoolState). a.sizes) is)
    (λ r h s. subst IsSome (sym (same r h)) s))
    (ap (λ (a : PoolState). a.sizes) is) (λ r h. ap (option_map (λ (i : Item). i.key)) (same r h))
  where
    by_item : (p : PoolState) (n : ℕ) (r : Place) → IsSome (segment_at p n) → (o : Option Item) → item_in p r ≡ o
        → ((i : Item) → o ≡ Some i → r.segment ≡ n → ⊥) → item_in (without_segment p n) r ≡ item_in p r
    by_item p n r some (Some i) e ne = cleared_key p n r some (ne i refl)
    by_item p n r some None e ne = cleared_item p n r some ∙ nothing (r.segment == n) (item_in p r) e
      where
        nothing : (b : Bool) (o : Option Item) → o ≡ None → (if b then None else o) ≡ o
        nothing true o e = sym e
        nothing false o e = refl

-- no place is left where each would be one too many
pub still_none : (m : Places) (q : List ℕ) → ((r : Place) → finite.get m q ≡ Some r → ⊥) → finite.get m q ≡ None
still_none m q h = by (finite.get m q) refl
  where
    by : (o : Option Place) → finite.get m q ≡ o → finite.get m q ≡ None
    by None e = e
    by (Some r) e = absurd (h r e)

-- the marked items of a segment leave where it is cleared, and the others stay
pub cleared_stayed : (p after : PoolState) (n : ℕ) (index found : Table) (marks others : Marks) → IsTied p index marks
    → IsTied p found others → IsPool after → after ≡ without_segment p n
    → IsSome (segment_at p n) → HasLeft n (current p index) (current p found)
    → HaveStayed p (current p index) after (current after found)
    (filter (λ (s : Standing). is_marked marks s.place) (standing p n))
cleared_stayed p after n index found marks others tied left pool is some h =
    let same = (tied_cleared p after n found others left pool is some (λ q r e s. h.elsewhere q r e s)).1 in
    record {
      none = λ q none. ap (λ (m : Places). finite.get m q) same
          ∙ still_none (current p found) q (λ r e. none-some r (sym none ∙ h.before q r e));
      gone = λ q r e yes. ap (λ (m : Places). finite.get m q) same ∙ still_none (current p found) q
          (λ s f. let one : Some r ≡ Some s = sym e ∙ h.before q s f in let rs : r ≡ s = cc in
          let ne : r.segment ≡ n → ⊥ = λ z. h.elsewhere q s f (ap (λ (x : Place). x.segment) (sym rs) ∙ z) in
          let no = none_left (standing p n) n r (λ k d lt. (standing_all p n k d lt).0) ne in
          false≢true (sym no ∙ sym (left_marked marks (standing p n) r (tied.held q r e)) ∙ yes));
      stays = λ q r e no.
          (let ne : r.segment ≡ n → ⊥ = λ z.
          let x = current_item p index q r e in
          let yes : is_left (standing p n) r ≡ true =
          ap (λ m. is_left (standing p m) r) (sym z) ∙ standing_left p r x.0 x.1 in
          false≢true (sym no ∙ left_marked marks (standing p n) r (tied.held q r e) ∙ yes) in (
            r,
            ap (λ (m : Places). finite.get m q) same ∙ h.others q r e ne,
            ap (λ (a : PoolState). entry_at a r) is ∙ cleared_entry p n r some ne,
          ));
    }

-- marked items whose places are current ones that wait do so
pub all_wait : (p : PoolState) (index : Table) (t : ℕ) (n : ℕ) (ss : List Standing)
    → All (λ (s : Standing). s.place.segment ≡ n) ss → All (IsCurrent p index) ss
    → ((q : List ℕ) (r : Place) → finite.get (current p index) q ≡ Some r → r.segment ≡ n
    → has_arrived (place_deadline p r) t ≡ false) → All (Waits p t) ss
all_wait p index t n [] there all wait = All-nil (Waits p t)
all_wait p index t n (s ∷ ss) there all wait =
    let here = All-head (IsCurrent p index) s ss all in
    All-cons (Waits p t) s ss
    (wait s.item.key s.place here.1 (All-head (λ (x : Standing). x.place.segment ≡ n) s ss there))
    (all_wait p index t n ss (All-tail (λ (x : Standing). x.place.segment ≡ n) s ss there)
    (All-tail (IsCurrent p index) s ss all) wait)

-- where as many entries are shown as there are segments, clearing a segment makes room whose keys
-- have left, and of whose items the deadlines haven't come, and forgets no more than may be
-- forgotten for it
pub cleared_made : (p after : PoolState) (n : ℕ) (index found : Table) (marks others : Marks) (t : ℕ)
    → IsTied p index marks
    → IsTied p found others → IsPool after → after ≡ without_segment p n → IsSome (segment_at p n)
    → HasLeft n (current p index) (current p found)
    → ((q : List ℕ) (r : Place) → finite.get (current p index) q ≡ Some r → r.segment ≡ n
    → has_arrived (place_deadline p r) t ≡ false) → IsCrowded p index t → IsRoomMade p index t after found
cleared_made p after n index found marks others t tied left pool is some h wait crowded =
    let same = (tied_cleared p after n found others left pool is some (λ q r e s. h.elsewhere q r e s)).1 in
    let ss = filter (λ (s : Standing). is_marked marks s.place) (standing p n) in
    record {
      sizes = ap (λ (a : PoolState). a.sizes) is;
      rule = ap (λ (a : PoolState). a.eviction) is;
      exact = ap (λ (a : PoolState). a.exact) is;
      past = subst (λ (a : PoolState). IsPast a t) (sym is) (past_cleared p t n crowded.past some);
      free = subst HasFree (sym is) (cleared_free p n tied.known.pool some);
      absent = λ q none. ap (λ (m : Places). finite.get m q) same
          ∙ still_none (current p found) q (λ r e. none-some r (sym none ∙ h.before q r e));
      kept = evicted_kept p index after found t ss crowded
          (all_wait p index t n ss
          (All-filter (λ (s : Standing). is_marked marks s.place) (λ (s : Standing). s.place.segment ≡ n) (standing p n)
          (λ k d lt. (standing_all p n k d lt).0))
          (current_among p index marks (standing p n) tied (λ k d lt. (standing_all p n k d lt).1)) wait)
          (current_among p index marks (standing p n) tied (λ k d lt. (standing_all p n k d lt).1))
          (cleared_stayed p after n index found marks others tied left pool is some h)
          (let a = marked_sizes marks (standing p n) in let b = segment_sizes p n tied.known.pool in
          omega (arith, a, b));
    }
