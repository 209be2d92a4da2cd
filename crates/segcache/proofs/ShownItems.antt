-- What is shown of a pool at the places of a map, and what changes of pool and map do to it.
use Rattle.std.proofs.Common.{◌≡◌, ℕ, ◌≤◌, Bool, true, false, cond, List, [], ◌∷◌, map, Option, Some, None, refl, sym, ap, ◌∙◌, inl}
use Rattle.std.proofs.Common.{inr, arith, le-leb}
use Rattle.std.specs.Prelude.{bytes_eq, option_map, IsSome, if◌then◌else◌}
use Rattle.std.specs.Option.{option_map_or}
use Rattle.std.specs.FinMap as finite
use Rattle.std.specs.Ordering.{is_eq, nat_cmp}
use Rattle.std.specs.Cmp.Lexicographic.{slice_cmp, nat_list_cmp_total}
use Rattle.std.proofs.lemmas.Bool.{cases_Bool, false≢true}
use Rattle.std.proofs.lemmas.Option.{none-some}
use Rattle.proto.specs.Cache.{Entry, no_entries, live, has_arrived}
use Rattle.proto.specs.Steps.{without_keys}
use Rattle.proto.proofs.CacheLemmas.{contains_bytes, is_live, same_entries, get-insert, get-remove, get-no_entries, get-without, if_live, get-live, live-live}
use Rattle.segments.specs.declared.place.Place.{Place}
use Rattle.segments.specs.Items.{Item, read_again, deadline_if_there}
use Rattle.segments.specs.Pools.{PoolState, item_in, shared_at, place_deadline}
use Rattle.segments.specs.Changes.{with_change, with_read, with_segment_hit}
use Rattle.segments.specs.Places.{same_place}
use Rattle.segments.proofs.ItemChanges.{KeepsSize, keeps_read, some_kept}
use Rattle.segments.proofs.Places.{changed_item, changed_shared}
use Rattle.index.specs.Table.{Table, Places}
use Rattle.index.proofs.SlotsAsMap as mapping
use Rattle.segcache.specs.Shown.{kept_entry, dead_entry, entry_at, entries_at, live_entries, current, shown_entries}
use Rattle.segcache.specs.Removals.{HaveExpiredLeft}

-- to look up a key among the entries at places is to look up its place and take the entry there
find-map : (p : PoolState) (es : List (List ℕ × Place)) (q : List ℕ)
    → finite.find (slice_cmp nat_cmp) q (map (λ (e : List ℕ × Place). (e.0, entry_at p e.1)) es)
    ≡ option_map (entry_at p)
    (finite.find (slice_cmp nat_cmp) q es)
find-map p [] q = refl
find-map p (e ∷ es) q =
    elim (cases_Bool (is_eq (slice_cmp nat_cmp q e.0))) [
      | inl y ↦ rw y refl
      | inr n ↦ rw n (find-map p es q)
    ]

-- a map of places has at a key the entry at the key's place, and none where the key has no place
get-entries_at : (p : PoolState) (m : Places) (q : List ℕ)
    → finite.get (entries_at p m) q ≡ option_map (entry_at p) (finite.get m q)
unfolding entries_at
get-entries_at p m q =
    finite.get-from_entries nat_list_cmp_total
    (map (λ (e : List ℕ × Place). (e.0, entry_at p e.1)) (finite.entries m)) q
    ∙ find-map p (finite.entries m) q ∙ ap (option_map (entry_at p)) (sym (finite.get-entries m q))

-- what is shown at a key
pub get-live_in : (p : PoolState) (m : Places) (t : ℕ) (q : List ℕ)
    → finite.get (live_entries p m t) q ≡ if_live t (option_map (entry_at p) (finite.get m q))
get-live_in p m t q = get-live (entries_at p m) t q ∙ ap (if_live t) (get-entries_at p m q)

-- an entry that is shown only where it is live, and is shown, is that entry
shown_if : (b : Bool) (e : Entry) → IsSome (cond b (Some e) None) → Some e ≡ cond b (Some e) None
shown_if true e some = refl
shown_if false e some = absurd (false≢true some)

-- where something is shown at a key, it is the entry at the key's place
pub shown_at : (p : PoolState) (m : Places) (t : ℕ) (q : List ℕ) (r : Place) → finite.get m q ≡ Some r
    → IsSome (finite.get (live_entries p m t) q) → Some (entry_at p r) ≡ finite.get (live_entries p m t) q
shown_at p m t q r at_key there =
    let is : finite.get (live_entries p m t) q ≡ if_live t (Some (entry_at p r)) =
    get-live_in p m t q ∙ ap (λ (o : Option Place). if_live t (option_map (entry_at p) o)) at_key in
    shown_if (is_live (entry_at p r) t) (entry_at p r) (rw is at there) ∙ sym is

-- a place that shows the same in two pools gives the same entry, and no place gives none
pub same_maps : (p after : PoolState) (o : Option Place) → ((r : Place) → o ≡ Some r → entry_at after r ≡ entry_at p r)
    → option_map (entry_at after) o ≡ option_map (entry_at p) o
same_maps p after None h = refl
same_maps p after (Some r) h = ap Some (h r refl)

-- where each place of the map shows what it did, nothing changes
pub shown_same : (p after : PoolState) (m : Places) (t : ℕ)
    → ((q : List ℕ) (r : Place) → finite.get m q ≡ Some r → entry_at after r ≡ entry_at p r)
    → live_entries after m t ≡ live_entries p m t
shown_same p after m t h =
    same_entries _ _ (λ q. get-live_in after m t q ∙ ap (if_live t) (same_maps p after (finite.get m q) (h q))
    ∙ sym (get-live_in p m t q))

-- an entry that is live is shown
pub live_entry : (t : ℕ) (e : Entry) → is_live e t ≡ true → if_live t (Some e) ≡ Some e
live_entry t e waits = rw waits refl

-- a key that is put in at a place with a live entry shows this entry, another key what it showed
if_live-insert : (t : ℕ) (after : PoolState) (b : Bool) (place : Place) (e : Entry) (o : Option Place)
    (w : Option Entry)
    → entry_at after place ≡ e → is_live e t ≡ true
    → if_live t (option_map (entry_at after) o) ≡ w
    → if_live t (option_map (entry_at after) (cond b (Some place) o)) ≡ cond b (Some e) w
if_live-insert t after true place e o w is waits h = ap (λ x. if_live t (Some x)) is ∙ live_entry t e waits
if_live-insert t after false place e o w is waits h = h

-- a key is put into the map, whose other places show what they did
pub shown_insert : (p after : PoolState) (m : Places) (t : ℕ) (key : List ℕ) (place : Place) (e : Entry)
    → entry_at after place ≡ e → is_live e t ≡ true
    → ((q : List ℕ) (r : Place) → finite.get m q ≡ Some r → entry_at after r ≡ entry_at p r)
    → live_entries after (finite.insert m key place) t ≡ finite.insert (live_entries p m t) key e
shown_insert p after m t key place e is waits h =
    same_entries _ _ (λ q. get-live_in after (finite.insert m key place) t q
    ∙ ap (λ (o : Option Place). if_live t (option_map (entry_at after) o)) (mapping.get-insert m key place q)
    ∙ if_live-insert t after (bytes_eq q key) place e (finite.get m q) (finite.get (live_entries p m t) q) is waits
    (ap (if_live t) (same_maps p after (finite.get m q) (h q)) ∙ sym (get-live_in p m t q))
    ∙ sym (get-insert (live_entries p m t) key e q))

-- a key that is taken out shows nothing, another key what it showed
if_live-remove : (t : ℕ) (p : PoolState) (b : Bool) (o : Option Place)
    → if_live t (option_map (entry_at p) (cond b None o)) ≡ cond b None (if_live t (option_map (entry_at p) o))
if_live-remove t p true o = refl
if_live-remove t p false o = refl

-- a key is taken out of the map
pub shown_remove : (p : PoolState) (m : Places) (t : ℕ) (key : List ℕ)
    → live_entries p (finite.remove m key) t ≡ finite.remove (live_entries p m t) key
shown_remove p m t key =
    same_entries _ _ (λ q. get-live_in p (finite.remove m key) t q
    ∙ ap (λ (o : Option Place). if_live t (option_map (entry_at p) o)) (mapping.get-remove m key q)
    ∙ if_live-remove t p (bytes_eq q key) (finite.get m q)
    ∙ ap (cond (bytes_eq q key) None) (sym (get-live_in p m t q))
    ∙ sym (get-remove (live_entries p m t) key q))

-- an empty map shows nothing
pub shown_empty : (p : PoolState) (t : ℕ) → live_entries p finite.empty t ≡ no_entries
shown_empty p t =
    same_entries _ _ (λ q. get-live_in p finite.empty t q
    ∙ ap (λ (o : Option Place). if_live t (option_map (entry_at p) o)) (finite.get-empty (slice_cmp nat_cmp) q)
    ∙ sym (get-no_entries q))

-- time goes on
pub shown_later : (p : PoolState) (m : Places) (t u : ℕ) → t ≤ u → live_entries p m u ≡ live (live_entries p m t) u
shown_later p m t u le = sym (live-live (entries_at p m) t u le)

-- what a place shows where an item stands there
pub entry_is : (p : PoolState) (place : Place) (i : Item) → item_in p place ≡ Some i
    → entry_at p place ≡ kept_entry (place_deadline p place) i
unfolding entry_at
entry_is p place i e = rw e refl

-- what is shown of an item, if there is one, in a segment with this deadline
abbrev pub entry_in : Option ℕ → Option Item → Entry
entry_in shared o = option_map_or (kept_entry (deadline_if_there shared o)) o dead_entry

-- a place whose deadline has come shows no live entry
gone_by : (d : Option ℕ) (o : Option Item) (t : ℕ) → has_arrived d t ≡ true
    → has_arrived (option_map_or (kept_entry d) o dead_entry).deadline t ≡ true
gone_by d None t h = le-leb 0 t (omega arith)
gone_by d (Some i) t h = h

-- nothing is shown of a place whose deadline has come
pub not_live : (p : PoolState) (place : Place) (t : ℕ) → has_arrived (place_deadline p place) t ≡ true
    → if_live t (Some (entry_at p place)) ≡ None
unfolding entry_at
not_live p place t h =
    let arrived = gone_by (place_deadline p place) (item_in p place) t h in
    rw arrived refl

-- where only keys leave whose deadline has come, all that is live is still shown
left_by : (p : PoolState) (t : ℕ) (o n : Option Place) → ((r : Place) → n ≡ Some r → o ≡ Some r)
    → ((r : Place) → o ≡ Some r → has_arrived (place_deadline p r) t ≡ false → n ≡ Some r)
    → if_live t (option_map (entry_at p) n) ≡ if_live t (option_map (entry_at p) o)
left_by p t None None a b = refl
left_by p t None (Some r) a b = absurd (none-some r (a r refl))
left_by p t (Some s) (Some r) a b = ap (λ (o : Option Place). if_live t (option_map (entry_at p) o)) (sym (a r refl))
left_by p t (Some s) None a b =
    elim (cases_Bool (has_arrived (place_deadline p s) t)) [
      | inl y ↦ sym (not_live p s t y)
      | inr n ↦ absurd (none-some s (b s refl n))
    ]

-- where keys leave a map whose deadline has come, it shows at that moment what it showed with them
pub shown_left : (p : PoolState) (t : ℕ) (among : ℕ → Bool) (old new : Places) → HaveExpiredLeft p t among old new
    → live_entries p new t ≡ live_entries p old t
shown_left p t among old new h =
    same_entries _ _
    (λ q. get-live_in p new t q
    ∙ left_by p t (finite.get old q) (finite.get new q) (h.before q) (λ r e waits. h.others q r e (λ among_it. waits))
    ∙ sym (get-live_in p old t q))

-- what isn't shown any more was forgotten
pub shown_without : (p after : PoolState) (old new : Places) (t : ℕ) (forgotten : List (List ℕ))
    → ((q : List ℕ) → finite.get (live_entries after new t) q
    ≡ cond (contains_bytes forgotten q) None (finite.get (live_entries p old t) q))
    → live_entries after new t ≡ without_keys (live_entries p old t) forgotten
shown_without p after old new t forgotten h =
    same_entries _ _ (λ q. h q ∙ sym (get-without (live_entries p old t) forgotten q))

-- an item whose deadline hasn't come is shown
pub entry_live : (p : PoolState) (place : Place) (t : ℕ) (i : Item) → item_in p place ≡ Some i
    → has_arrived (place_deadline p place) t ≡ false → if_live t (Some (entry_at p place)) ≡ Some (entry_at p place)
entry_live p place t i e h =
    let is = entry_is p place i e in
    live_entry t (entry_at p place) (ap (λ (x : Entry). is_live x t) is ∙ rw h refl)

-- what is shown of a place whose item is changed, and of every other place
pub changed_entry : (change : Item → Item) (p : PoolState) (place r : Place) → KeepsSize change (item_in p place)
    → entry_at (with_change change p place) r ≡ entry_in (shared_at p r)
    (if same_place r place then option_map change (item_in p r) else item_in p r)
unfolding entry_at
changed_entry change p place r k =
    ap (λ (d : Option ℕ). entry_in d (item_in (with_change change p place) r))
    (changed_shared change p place r (some_kept change (item_in p place) k))
    ∙ ap (entry_in (shared_at p r)) (changed_item change p place r k)

-- an item that was read once more keeps the same entry
read_entry : (d : Option ℕ) (o : Option Item) → entry_in d (option_map read_again o) ≡ entry_in d o
read_entry d None = refl
read_entry d (Some i) = refl

-- a hit of a segment changes no entry
hit_entry : (p : PoolState) (n : ℕ) (r : Place) → entry_at (with_segment_hit p n) r ≡ entry_at p r
unfolding entry_at
hit_entry p n r = refl

-- so all is shown that was
pub shown_hit : (p after : PoolState) (index : Table) (t n : ℕ) → after ≡ with_segment_hit p n
    → current after index ≡ current p index → shown_entries after index t ≡ shown_entries p index t
shown_hit p after index t n is same =
    ap (λ (m : Places). live_entries after m t) same
    ∙ shown_same p after (current p index) t (λ q r h. ap (λ (x : PoolState). entry_at x r) is ∙ hit_entry p n r)

-- a read changes no entry
pub touched_entry : (p : PoolState) (place r : Place) → IsSome (item_in p place)
    → entry_at (with_read p place) r ≡ entry_at p r
unfolding entry_at
touched_entry p place r h =
    changed_entry read_again p place r (keeps_read (item_in p place) h)
    ∙ elim (cases_Bool (same_place r place)) [
      | inl y ↦ rw y (read_entry (shared_at p r) (item_in p r))
      | inr n ↦ rw n refl
    ]
