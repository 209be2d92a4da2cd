-- What changes of a map of pairs do to its live entries.
use Rattle.std.proofs.Common.{◌≡◌, ℕ, Bool, true, false, cond, List, [], ◌∷◌, map, Ordering, Option, Some, None, refl, sym, ap, ◌∙◌, inl}
use Rattle.std.proofs.Common.{inr}
use Rattle.std.specs.Prelude.{bytes_eq, not, Vec}
use Rattle.std.specs.Global.{Global}
use Rattle.std.specs.FinMap as finite
use Rattle.std.specs.Ordering.{is_eq, nat_cmp, eq_by_cmp}
use Rattle.std.specs.Cmp.{eq_by_cmp_equiv}
use Rattle.std.specs.Cmp.Lexicographic.{slice_cmp, nat_list_cmp_total, nat_list_eq_equiv}
use Rattle.std.specs.BTreeMap.{BTreeMap, is_at, get_by, UpdatesBy}
use Rattle.std.specs.Map.{lookup, IsKeyTest, AreApart, KeepsOthers}
use Rattle.std.proofs.lemmas.Bool.{cases_Bool}
use Rattle.std.proofs.lemmas.Map.Text.{is_eq-slice_cmp}
use Rattle.std.proofs.lemmas.Slice.Eq.{bytes_eq-Decides}
use Rattle.proto.specs.Cache.{Entry, no_entries, live, has_arrived}
use Rattle.proto.proofs.CacheLemmas.{same_entries, is_live, get-insert, get-remove, if_live, get-live}
use Rattle.reference.specs.PlainEntries.{entries_of}
use Rattle.proto.proofs.StepLemmas.{live-empty}

-- keys that are byte vectors, in order
abbrev key_cmp : Vec ℕ Global → Vec ℕ Global → Ordering
key_cmp x y = slice_cmp nat_cmp x.items y.items

-- how a key's bytes compare with a stored key
abbrev compare_to : List ℕ → Vec ℕ Global → Ordering
compare_to bytes key = slice_cmp nat_cmp bytes key.items

-- the first pair of a key is the entry that their map has for it
find-pairs : (pairs : List (Vec ℕ Global × Entry)) (q : List ℕ)
    → finite.find (slice_cmp nat_cmp) q (map (λ p. (p.0.items, p.1)) pairs) ≡ lookup (is_at (compare_to q)) pairs
find-pairs [] q = refl
find-pairs (p ∷ pairs) q = ap (cond (is_eq (slice_cmp nat_cmp q p.0.items)) (Some p.1)) (find-pairs pairs q)

-- and so is what a map's pairs have for it
pub get-entries_of : (pairs : List (Vec ℕ Global × Entry)) (q : List ℕ)
    → finite.get (entries_of pairs) q ≡ lookup (is_at (compare_to q)) pairs
get-entries_of pairs q = finite.get-from_entries nat_list_cmp_total (map (λ p. (p.0.items, p.1)) pairs) q
    ∙ find-pairs pairs q

-- what is live at a key
pub get-live_of : (pairs : List (Vec ℕ Global × Entry)) (t : ℕ) (q : List ℕ)
    → finite.get (live (entries_of pairs) t) q ≡ if_live t (lookup (is_at (compare_to q)) pairs)
get-live_of pairs t q = get-live (entries_of pairs) t q ∙ ap (if_live t) (get-entries_of pairs q)

-- an entry that is live stays
if_live-live : (t : ℕ) (e : Entry) → is_live e t ≡ true → if_live t (Some e) ≡ Some e
if_live-live t e waits = rw waits refl

-- one that isn't is none
if_live-dead : (t : ℕ) (e : Entry) → is_live e t ≡ false → if_live t (Some e) ≡ None
if_live-dead t e gone = rw gone refl

-- ---- what a look-up found

-- a key with a live entry is in the live entries
pub live_where_live : (pairs : List (Vec ℕ Global × Entry)) (t : ℕ) (q : List ℕ) (e : Entry)
    → Some e ≡ lookup (is_at (compare_to q)) pairs → is_live e t ≡ true
    → Some e ≡ finite.get (live (entries_of pairs) t) q
live_where_live pairs t q e found waits =
    sym (get-live_of pairs t q ∙ ap (if_live t) (sym found) ∙ if_live-live t e waits)

-- one whose entry isn't live is not
pub live_where_dead : (pairs : List (Vec ℕ Global × Entry)) (t : ℕ) (q : List ℕ) (e : Entry)
    → Some e ≡ lookup (is_at (compare_to q)) pairs → is_live e t ≡ false
    → None ≡ finite.get (live (entries_of pairs) t) q
live_where_dead pairs t q e found gone =
    sym (get-live_of pairs t q ∙ ap (if_live t) (sym found) ∙ if_live-dead t e gone)

-- nor is one without an entry
pub live_where_none : (pairs : List (Vec ℕ Global × Entry)) (t : ℕ) (q : List ℕ)
    → None ≡ lookup (is_at (compare_to q)) pairs → None ≡ finite.get (live (entries_of pairs) t) q
live_where_none pairs t q none = sym (get-live_of pairs t q ∙ ap (if_live t) (sym none))

-- and none of no pairs
pub live-of-nil : (pairs : List (Vec ℕ Global × Entry)) (t : ℕ) → pairs ≡ [] → live (entries_of pairs) t ≡ no_entries
live-of-nil pairs t empty = ap (λ (ps : List (Vec ℕ Global × Entry)). live (entries_of ps) t) empty ∙ live-empty t

-- ---- a change at one key

-- two keys that differ don't both compare equal with a third
apart : (bs cs ks : List ℕ) → bytes_eq bs cs ≡ false → is_eq (slice_cmp nat_cmp bs ks) ≡ true
    → is_eq (slice_cmp nat_cmp cs ks) ≡ false
apart bs cs ks other here =
    is_eq-slice_cmp cs ks ∙ nat_list_eq_equiv.symm cs ks
    ∙ sym (nat_list_eq_equiv.congr bs ks cs (sym (is_eq-slice_cmp bs ks) ∙ here)) ∙ other

-- what a change at one key leaves of the others
keeps_others : (test : Vec ℕ Global → Bool) (old new : List (Vec ℕ Global × Entry))
    → KeepsOthers (eq_by_cmp key_cmp) test old new
    → (other : Vec ℕ Global → Bool) → IsKeyTest (eq_by_cmp key_cmp) other → AreApart test other
    → lookup other new ≡ lookup other old
unfolding KeepsOthers
keeps_others test old new h = h

-- a map that was changed at one key, as entries
updated : (bytes : List ℕ) (m n : BTreeMap (Vec ℕ Global) Entry) (w : Option Entry)
    → UpdatesBy key_cmp (compare_to bytes) m n w
    → (q : List ℕ) → get_by (compare_to q) n ≡ cond (bytes_eq q bytes) w (get_by (compare_to q) m)
updated bytes m n w h q =
    elim (cases_Bool (bytes_eq q bytes)) [
      | inl same ↦
          let q-is : q ≡ bytes = (bytes_eq-Decides q bytes).0 same in
          rw same (ap (λ (b : List ℕ). get_by (compare_to b) n) q-is ∙ h.1)
      | inr other ↦
          let turned : bytes_eq bytes q ≡ false = nat_list_eq_equiv.symm bytes q ∙ other in
          rw other (keeps_others _ _ _ h.3 (is_at (compare_to q))
          (λ x y. (eq_by_cmp_equiv nat_list_cmp_total).congr q x.items y.items)
          (λ k. apart bytes q k.items turned))
    ]

-- what is live of one of two entries
if_live-cond : (t : ℕ) (b : Bool) (v w : Option Entry) → if_live t (cond b v w) ≡ cond b (if_live t v) (if_live t w)
if_live-cond t true v w = refl
if_live-cond t false v w = refl

-- the live entries of a map that was changed at one key
live-updated : (t : ℕ) (bytes : List ℕ) (m n : BTreeMap (Vec ℕ Global) Entry) (w : Option Entry)
    → UpdatesBy key_cmp (compare_to bytes) m n w
    → (q : List ℕ) → finite.get (live (entries_of n.entries) t) q
    ≡ cond (bytes_eq q bytes) (if_live t w) (finite.get (live (entries_of m.entries) t) q)
live-updated t bytes m n w h q =
    get-live_of n.entries t q
    ∙ ap (if_live t) (updated bytes m n w h q)
    ∙ if_live-cond t (bytes_eq q bytes) w (get_by (compare_to q) m)
    ∙ ap (cond (bytes_eq q bytes) (if_live t w)) (sym (get-live_of m.entries t q))

-- a live entry was stored
pub live-insert : (t : ℕ) (bytes : List ℕ) (m n : BTreeMap (Vec ℕ Global) Entry) (e : Entry) → is_live e t ≡ true
    → UpdatesBy key_cmp (compare_to bytes) m n (Some e)
    → live (entries_of n.entries) t ≡ finite.insert (live (entries_of m.entries) t) bytes e
live-insert t bytes m n e waits h =
    same_entries _ _ (λ q. live-updated t bytes m n (Some e) h q
    ∙ ap (λ (v : Option Entry). cond (bytes_eq q bytes) v (finite.get (live (entries_of m.entries) t) q))
    (if_live-live t e waits)
    ∙ sym (get-insert (live (entries_of m.entries) t) bytes e q))

-- an entry, live or not, was taken out
pub live-remove : (t : ℕ) (bytes : List ℕ) (m n : BTreeMap (Vec ℕ Global) Entry)
    → UpdatesBy key_cmp (compare_to bytes) m n None
    → live (entries_of n.entries) t ≡ finite.remove (live (entries_of m.entries) t) bytes
live-remove t bytes m n h = same_entries _ _
    (λ q. live-updated t bytes m n None h q ∙ sym (get-remove (live (entries_of m.entries) t) bytes q))

-- an entry was written that isn't gone yet
pub written_plainly : (t : ℕ) (bytes key : List ℕ) (m n : BTreeMap (Vec ℕ Global) Entry) (stored e : Entry)
    → bytes ≡ key → stored ≡ e → has_arrived e.deadline t ≡ false
    → UpdatesBy key_cmp (compare_to bytes) m n (Some stored)
    → live (entries_of n.entries) t ≡ finite.insert (live (entries_of m.entries) t) key e
written_plainly t bytes key m n stored e same is waits h =
    let lives : is_live stored t ≡ true = ap (λ (x : Entry). is_live x t) is ∙ ap not waits in
    live-insert t bytes m n stored lives h
    ∙ ap (λ (k : List ℕ). finite.insert (live (entries_of m.entries) t) k stored) same
    ∙ ap (λ (x : Entry). finite.insert (live (entries_of m.entries) t) key x) is
