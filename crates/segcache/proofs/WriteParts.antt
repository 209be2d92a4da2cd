-- A write by what the parts of it leave.
use Rattle.std.proofs.Common.{◌≡◌, ℕ, ◌+◌, ◌*◌, ◌/◌, ◌<◌, ◌≤◌, ◌^◌, Bool, true, false, cond, List, length, Option, Some, None}
use Rattle.std.proofs.Common.{refl, sym, ap, subst, ◌∙◌, inl, inr, arith}
use Rattle.std.specs.Prelude.{bytes_eq, min, is_some, option_map, IsSome}
use Rattle.std.specs.FinMap as finite
use Rattle.std.proofs.lemmas.Bool.{cases_Bool, false≢true}
use Rattle.std.proofs.lemmas.Slice.Eq.{bytes_eq-Decides}
use Rattle.proto.specs.Sizes.{Sizes, item_limit, item_size}
use Rattle.proto.specs.Cache.{Entry, Entries}
use Rattle.proto.specs.Buckets.{MayLive}
use Rattle.proto.specs.Steps.{without_keys}
use Rattle.proto.proofs.CacheLemmas.{contains_bytes, same_entries, get-insert, get-remove, get-without, not_forgotten}
use Rattle.segments.specs.declared.place.Place.{Place}
use Rattle.segments.specs.Items.{Item, IsStorable}
use Rattle.segments.specs.Limits.{longest_key}
use Rattle.segments.specs.Pools.{PoolState}
use Rattle.segments.proofs.Places.{item_storable}
use Rattle.index.specs.Table.{Table}
use Rattle.engine.specs.Written.{IsWritten, MayBeWritten}
use Rattle.segcache.specs.Shown.{current, shown_entries, entry_at}
use Rattle.segcache.specs.Invariants.{IsTied}
use Rattle.segcache.specs.Room.{AreKept}
use Rattle.segments.specs.Marks.{Marks}
use Rattle.proto.proofs.CacheLemmas.{if_live}
use Rattle.segcache.proofs.ShownItems.{get-live_in, shown_at, entry_is}
use Rattle.segcache.proofs.TiedParts.{current_item}

-- a key put into what was kept of the other entries
inserted_kept : (e : Entries) (key : List ℕ) (w : Entry) (fs : List (List ℕ)) → contains_bytes fs key ≡ false
    → finite.insert (without_keys (finite.remove e key) fs) key w ≡ without_keys (finite.insert e key w) fs
inserted_kept e key w fs other =
    same_entries _ _ (λ q. get-insert (without_keys (finite.remove e key) fs) key w q
    ∙ ap (cond (bytes_eq q key) (Some w)) (get-without (finite.remove e key) fs q)
    ∙ elim (cases_Bool (bytes_eq q key)) [
      | inl y ↦
          let no : contains_bytes fs q ≡ false = ap (contains_bytes fs) ((bytes_eq-Decides q key).0 y) ∙ other in
          rw y (sym (get-without (finite.insert e key w) fs q ∙ rw no (get-insert e key w q ∙ rw y refl)))
      | inr n ↦
          rw n (sym (get-without (finite.insert e key w) fs q
          ∙ ap (cond (contains_bytes fs q) None) (get-insert e key w q ∙ rw n (sym (get-remove e key q ∙ rw n refl)))))
    ])

-- the old entry of a key left, some others were forgotten, and the key was written
pub written_by : (sizes : Sizes) (t : ℕ) (e kept new : Entries) (key : List ℕ) (asked : Entry) (deadline : Option ℕ)
    → AreKept sizes (finite.remove e key) kept → MayLive t asked.deadline deadline
    → new ≡ finite.insert kept key (record asked { deadline = deadline }) → IsWritten sizes t e key asked new
written_by sizes t e kept new key asked deadline k may is =
    let w : Entry = record asked { deadline = deadline } in
    let other = not_forgotten sizes e key k.forgotten k.evicted in
    record {
      deadline = deadline;
      may_live = may;
      forgotten = k.forgotten;
      may_forget = k.evicted;
      entries = is ∙ ap (λ (m : Entries). finite.insert m key w) k.entries ∙ inserted_kept e key w k.forgotten other;
    }

-- a key put where it was taken out is put
pub insert_removed : (m : Entries) (key : List ℕ) (e : Entry)
    → finite.insert (finite.remove m key) key e ≡ finite.insert m key e
insert_removed m key e =
    same_entries _ _ (λ q. get-insert (finite.remove m key) key e q
    ∙ ap (cond (bytes_eq q key) (Some e)) (get-remove m key q)
    ∙ twice (bytes_eq q key) (finite.get m q) ∙ sym (get-insert m key e q))
  where
    twice : (b : Bool) (o : Option Entry) → cond b (Some e) (cond b None o) ≡ cond b (Some e) o
    twice true o = refl
    twice false o = refl

-- ---- what may be written can be stored

-- where something is shown of what may be a place, there is a place
some_of : (o : Option Place) (p : PoolState) (t : ℕ) → is_some (if_live t (option_map (entry_at p) o)) ≡ true
    → (r : Place) × (o ≡ Some r)
some_of None p t h = absurd (false≢true h)
some_of (Some r) p t h = (r, refl)

-- a segment can hold an item that may be written, whose cas number and flags are in range, and
-- which nobody has read
pub may_store : (p : PoolState) (index : Table) (marks : Marks) (t : ℕ) (i : Item) → IsTied p index marks
    → MayBeWritten p.sizes (shown_entries p index t) i.key i.value
    → i.cas < 2 ^ 64 → i.flags < 2 ^ 32 → i.reads ≡ 0 → i.own_deadline < 2 ^ 48 → IsStorable (item_limit p.sizes) i
may_store p index marks t i tied (inl f) cas flags reads own_deadline =
    record {
      cas = cas;
      flags = flags;
      some_key = f.some_key;
      short_key = f.short_key;
      reads = omega (arith, reads);
      own_deadline = own_deadline;
      small = f.small;
    }
may_store p index marks t i tied (inr (inr f)) cas flags reads own_deadline =
    let r = some_of (finite.get (current p index) i.key) p t
    (ap is_some (sym (get-live_in p (current p index) t i.key) ∙ f.1)) in
    let x = current_item p index i.key r.0 r.1 in
    let s = item_storable p r.0 x.0 tied.known.pool x.1 in
    let shown : Some (entry_at p r.0) ≡ Some f.0 =
    shown_at p (current p index) t i.key r.0 r.1 (subst IsSome (sym f.1) refl) ∙ f.1 in
    let is : entry_at p r.0 ≡ f.0 = cc in
    let value : x.0.value ≡ i.value =
    ap (λ (e : Entry). e.value) (sym (entry_is p r.0 x.0 x.1) ∙ is) ∙ f.2 in
    record {
      cas = cas;
      flags = flags;
      some_key = subst (λ (k : List ℕ). 1 ≤ length k) x.2 s.some_key;
      short_key = subst (λ (k : List ℕ). length k ≤ longest_key) x.2 s.short_key;
      reads = omega (arith, reads);
      own_deadline = own_deadline;
      small = subst (λ (k : List ℕ). item_size (length k) (length i.value) ≤ item_limit p.sizes) x.2
          (subst (λ (v : List ℕ). item_size (length x.0.key) (length v) ≤ item_limit p.sizes) value s.small);
    }
may_store p index marks t i tied (inr (inl f)) cas flags reads own_deadline =
    let r = some_of (finite.get (current p index) i.key) p t
    (ap is_some (sym (get-live_in p (current p index) t i.key)) ∙ f.0) in
    let x = current_item p index i.key r.0 r.1 in
    let s = item_storable p r.0 x.0 tied.known.pool x.1 in
    let key : length x.0.key ≡ length i.key = ap length x.2 in
    let some = s.some_key in
    let short = s.short_key in
    let few = f.1 in
    let g = tied.known.pool.geometry.item_small in
    let size = tied.known.pool.geometry.smallest in
    record {
      cas = cas;
      flags = flags;
      some_key = omega (arith, some, key);
      short_key = omega (arith, short, key);
      reads = omega (arith, reads);
      own_deadline = own_deadline;
      small = small_number (length i.key) (length i.value) p.sizes.largest_item p.sizes.segment_size
          (omega (arith, short, key)) few g size;
    }
  where
    small_number : (k v limit size : ℕ) → k ≤ 250 → v ≤ 20 → 512 ≤ limit → 4096 ≤ size
        → 8 * ((24 + k + v + 7) / 8) ≤ min limit size
    small_number k v limit size a b c d = omega (arith, a, b, c, d)
