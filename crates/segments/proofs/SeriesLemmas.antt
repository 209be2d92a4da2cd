-- The series of segments, each those of one bucket and one opening moment, and that all segments
-- are in chains.
use Rattle.std.proofs.Common.{◌≡◌, ℕ, suc, ◌+◌, ◌*◌, ◌<◌, ◌≤◌, Bool, true, false, eqb, List, [], ◌∷◌, ◌++◌, length}
use Rattle.std.proofs.Common.{map, Option, Some, None, refl, sym, ap, subst, ◌∙◌, arith, inl, inr, add-one}
use Rattle.std.specs.Prelude.{nat_lt, nat_le, ◌==◌, ◌&&◌, ◌||◌, if◌then◌else◌, IsTrue, All, is_some, filter, option_and_then}
use Rattle.std.specs.List.{list_any, last_or, range_with_len}
use Rattle.std.specs.Option.{option_map_or}
use Rattle.std.proofs.lemmas.List.{get_or_past}
use Rattle.std.proofs.lemmas.List.Elements.{All-head, All-tail}
use Rattle.std.proofs.lemmas.List.Folds.{list_any-append}
use Rattle.std.proofs.lemmas.Option.{none-some}
use Rattle.std.proofs.lemmas.Bool.{cases_lt, cases_Bool, cases_eq, eq-eqb, ne_eqb, eqb-true, lt-ltb, leb-false}
use Rattle.std.proofs.lemmas.Bool.{false≢true, and_parts, and_from, le-ltb, or_cases, or_left, or_right, or_parts}
use Rattle.segments.specs.Items.{Item, size_of_item, size_of_all, IsStorable}
use Rattle.proto.specs.Counts.{times}
use Rattle.segments.specs.Pools.{PoolState, IsPool, Used, segment_at, in_bucket, tail, items_of, is_sealed, lasting}
use Rattle.segments.specs.Rules.{opening_moment}
use Rattle.proto.specs.declared.eviction.Eviction.{Eviction}
use Rattle.proto.specs.declared.eviction.Eviction.TheVariants.{Oldest, LeastRead}
use Rattle.segments.specs.Changes.{has_own, may_join, takes, if_takes, open_tail, IsPoolFull, HasNoRoom}
use Rattle.segments.specs.Chains.{opened_at}
use Rattle.segments.specs.Filling.{IsOpenedBy}
use Rattle.segments.specs.Chains.{bucket_in}
use Rattle.segments.specs.Rules.{OpensNoLater}
use Rattle.segments.specs.Filling.{goes_with, AreFilled, IsFilled, AreInTime, IsInTime, Series, series_for, series_of, same_series}
use Rattle.segments.specs.Filling.{series_among, held_in, held_among, held_size, series_with, filled_size, HoldsLittle}
use Rattle.proto.specs.Sizes.{item_limit}
use Rattle.segments.proofs.OpeningLemmas.{opening_open, open_joins}
use Rattle.segments.proofs.LinkLemmas.{times_range, length_range, same_length, used_if}

-- ---- counting series

-- a series and what a segment of it holds
record Held : Type 0 where
  series : Series
  size : ℕ

-- the series of what is held, and the sizes in sum
abbrev series_in : List Held → List Series
series_in hs = map (λ (h : Held). h.series) hs

-- the sizes of what is held in sum
abbrev sizes_in : List Held → ℕ
sizes_in [] = 0
sizes_in (h ∷ hs) = h.size + sizes_in hs

-- each that isn't the last of its series is filled
abbrev AreFull : ℕ → List Held → Type 0
AreFull d [] = Unit {0}
AreFull d (h ∷ hs) = (list_any (same_series h.series) (series_in hs) ≡ true → d ≤ h.size) × AreFull d hs

-- a full segment of a series that comes again pays for itself
one_more : (d len g s size : ℕ) → len * d ≤ s + g * d → d ≤ size → (len + 1) * d ≤ (size + s) + (0 + g) * d
one_more d len g s size e f = grind arith

-- the last segment of its series is paid for by the series
one_series : (d len g s size : ℕ) → len * d ≤ s + g * d → (len + 1) * d ≤ (size + s) + (1 + g) * d
one_series d len g s size e = grind arith

-- either way one more segment keeps the bound
count_by_case : (d len g s size : ℕ) (b : Bool) (n : ℕ) → n ≡ len + 1 → len * d ≤ s + g * d → (b ≡ true → d ≤ size)
    → n * d ≤ (size + s) + ((if b then 0 else 1) + g) * d
count_by_case d len g s size true n e r f = rw e (one_more d len g s size r (f refl))
count_by_case d len g s size false n e r f = rw e (one_series d len g s size r)

-- what is held with one filled segment for each series is as much as all hold filled
count_full : (d : ℕ) (hs : List Held) → AreFull d hs → length hs * d ≤ sizes_in hs + series_among (series_in hs) * d
count_full d [] f = omega arith
count_full d (h ∷ hs) f =
    let r = count_full d hs f.1 in
    count_by_case d (length hs) (series_among (series_in hs)) (sizes_in hs) h.size
    (list_any (same_series h.series) (series_in hs))
    (suc (length hs)) (sym (add-one (length hs))) r f.0

-- ---- series

-- series that the test finds the same are equal
pub same_series_is : (a b : Series) → same_series a b ≡ true → a ≡ b
same_series_is a b h =
    let parts = and_parts (a.bucket == b.bucket) (a.opened == b.opened) h in
    ap (λ n. record { bucket = n; opened = a.opened }) (eqb-true a.bucket b.bucket parts.0)
    ∙ ap (λ n. record { bucket = b.bucket; opened = n }) (eqb-true a.opened b.opened parts.1)

-- two numbers are the same either way round
pub eqb_flips : (x y : ℕ) → eqb x y ≡ eqb y x
eqb_flips x y =
    elim (cases_eq x y) [
      | inl e ↦ eq-eqb x y e ∙ sym (eq-eqb y x (sym e))
      | inr e ↦ ne_eqb x y e ∙ sym (ne_eqb y x (λ q. e (sym q)))
    ]

-- two series are the same either way round
series_flips : (a b : Series) → same_series a b ≡ same_series b a
series_flips a b = ap (λ x. x && (a.opened == b.opened)) (eqb_flips a.bucket b.bucket)
    ∙ ap (λ x. (b.bucket == a.bucket) && x) (eqb_flips a.opened b.opened)

-- of two series that change places as many are different
count_swap : (a b s : Bool) (k : ℕ) → (s ≡ true → a ≡ b)
    → (if a || (s || false) then 0 else 1) + ((if b then 0 else 1) + k)
    ≡ (if s || b then 0 else 1) + ((if a then 0 else 1) + k)
count_swap true true true k h = refl
count_swap false false true k h = refl
count_swap true false true k h = absurd (false≢true (sym (h refl)))
count_swap false true true k h = absurd (false≢true (h refl))
count_swap true true false k h = refl
count_swap false false false k h = refl
count_swap true false false k h = omega arith
count_swap false true false k h = omega arith

-- the same series, the last one in front
series_last : (gs : List Series) (g : Series) → series_among (gs ++ g ∷ []) ≡ series_among (g ∷ gs)
series_last [] g = refl
series_last (x ∷ gs) g =
    let r = series_last gs g in
    let k = series_among gs in
    ap (λ (b : Bool). (if b then 0 else 1) + series_among (gs ++ g ∷ [])) (list_any-append (same_series x) gs (g ∷ []))
    ∙ ap (λ n. (if list_any (same_series x) gs || (same_series x g || false) then 0 else 1) + n) r
    ∙ count_swap (list_any (same_series x) gs) (list_any (same_series g) gs) (same_series x g) k
    (λ y. ap (λ z. list_any (same_series z) gs) (same_series_is x g y))
    ∙ ap (λ (b : Bool). (if b || list_any (same_series g) gs then 0 else 1)
    + ((if list_any (same_series x) gs then 0 else 1) + k)) (series_flips x g)

-- ---- a segment of a chain, by its bucket and opening moment

-- the series of a segment is that of its bucket and moment
series_is : (p : PoolState) (n : ℕ) (u : Used) → segment_at p n ≡ Some u → series_of p n ≡ series_for u.bucket u.opened
series_is p n u e = ap (λ o. series_for (option_map_or (λ (s : Used). s.bucket) o lasting)
    (option_map_or (λ (s : Used). s.opened) o 0)) e

-- a segment is in the bucket that it was opened for
pub in_bucket_is : (p : PoolState) (n c : ℕ) (u : Used) → segment_at p n ≡ Some u
    → in_bucket p.segments c n ≡ (u.bucket == c)
in_bucket_is p n c u e = ap (λ o. option_map_or (λ (s : Used). s.bucket == c) o false) e

-- a segment was opened at its moment
pub opened_is : (p : PoolState) (n : ℕ) (u : Used) → segment_at p n ≡ Some u → opened_at p n ≡ u.opened
opened_is p n u e = ap (λ o. option_map_or (λ (s : Used). s.opened) o 0) e

-- where moments count and are the same for the series, they are the same
moment_by : (l : Bool) (x y : ℕ) → (if l then 0 else x) ≡ (if l then 0 else y) → (l || (x == y)) ≡ true
moment_by true x y e = refl
moment_by false x y e = eq-eqb x y e

-- two segments of one series go together
goes_from_series : (p : PoolState) (n m : ℕ) (u v : Used) → segment_at p n ≡ Some u → segment_at p m ≡ Some v
    → same_series (series_of p n) (series_of p m) ≡ true → goes_with p u.bucket n m ≡ true
goes_from_series p n m u v e f h =
    let same : series_for u.bucket u.opened ≡ series_for v.bucket v.opened = sym (series_is p n u e)
    ∙ same_series_is (series_of p n) (series_of p m) h ∙ series_is p m v f in
    let buckets : u.bucket ≡ v.bucket = ap (λ g. g.bucket) same in
    let moments : (if u.bucket == lasting then 0 else u.opened) ≡ (if v.bucket == lasting then 0 else v.opened) =
    ap (λ g. g.opened) same in
    let one : (if u.bucket == lasting then 0 else u.opened) ≡ (if u.bucket == lasting then 0 else v.opened) = moments
    ∙ ap (λ (b : ℕ). if b == lasting then 0 else v.opened) (sym buckets) in
    let times_same = moment_by (u.bucket == lasting) u.opened v.opened one ∙ refl in
    let opened : ((u.bucket == lasting) || (opened_at p n == opened_at p m)) ≡ true =
    ap (λ x. (u.bucket == lasting) || (x == opened_at p m)) (opened_is p n u e)
    ∙ ap (λ x. (u.bucket == lasting) || (u.opened == x)) (opened_is p m v f) ∙ times_same in
    and_from (in_bucket p.segments u.bucket n && in_bucket p.segments u.bucket m) _
    (and_from (in_bucket p.segments u.bucket n) (in_bucket p.segments u.bucket m)
    (in_bucket_is p n u.bucket u e ∙ eq-eqb u.bucket u.bucket refl)
    (in_bucket_is p m u.bucket v f ∙ eq-eqb v.bucket u.bucket (sym buckets)))
    opened

-- each number is that of a segment of a chain
abbrev pub AreUsed : PoolState → List ℕ → Type 0
AreUsed p [] = Unit {0}
AreUsed p (n ∷ later) = ((u : Used) × (segment_at p n ≡ Some u)) × AreUsed p later

-- where a later segment is of the same series, a later segment goes with this one
any_of_series : (p : PoolState) (n : ℕ) (u : Used) (later : List ℕ) → segment_at p n ≡ Some u → AreUsed p later
    → list_any (same_series (series_of p n)) (map (series_of p) later) ≡ true
    → list_any (goes_with p u.bucket n) later ≡ true
any_of_series p n u [] e used h = absurd (false≢true h)
any_of_series p n u (m ∷ later) e used h =
    elim (cases_Bool (same_series (series_of p n) (series_of p m))) [
      | inl y ↦ or_left _ _ (goes_from_series p n m u used.0.0 e used.0.1 y)
      | inr f ↦
          let rest : list_any (same_series (series_of p n)) (map (series_of p) later) ≡ true = rw f at h in
          or_right (goes_with p u.bucket n m) _ (any_of_series p n u later e used.1 rest)
    ]

-- ---- an item's series: the last segment of it is its tail

-- a segment of a bucket has that bucket
pub bucket_of_in : (o : Option Used) (b : ℕ) → option_map_or (λ (s : Used). s.bucket == b) o false ≡ true
    → option_map_or (λ (s : Used). s.bucket) o lasting ≡ b
bucket_of_in None b h = absurd (false≢true h)
bucket_of_in (Some u) b h = eqb-true u.bucket b h

-- segments in order that are of one bucket with deadlines were opened in that order, whatever the
-- rule
ordered : (e : Eviction) (p : PoolState) (n m : ℕ) → bucket_in p n ≡ bucket_in p m → (bucket_in p n == lasting) ≡ false
    → OpensNoLater e p n m → opened_at p n ≤ opened_at p m
ordered Oldest p n m same dated h = h
ordered LeastRead p n m same dated h = h same dated

-- where none goes with a segment that could be opened at t, none is after it in the bucket
none_behind : (p : PoolState) (b t n : ℕ) (u : Used) (later : List ℕ) → segment_at p n ≡ Some u → u.bucket ≡ b
    → ((b == lasting) || (u.opened == opening_moment p.eviction b t)) ≡ true
    → AreUsed p later → All (OpensNoLater p.eviction p n) later → All (IsOpenedBy p.eviction p t) later
    → list_any (goes_with p b n) later ≡ false → filter (in_bucket p.segments b) later ≡ []
none_behind p b t n u [] e same moment used order past h = refl
none_behind p b t n u (m ∷ later) e same moment used order past h =
    let k = opening_moment p.eviction b t in
    let parts = or_parts (goes_with p b n m) (list_any (goes_with p b n) later) h in
    let rest = none_behind p b t n u later e same moment used.1
    (All-tail (OpensNoLater p.eviction p n) m later order)
    (All-tail (IsOpenedBy p.eviction p t) m later past) parts.1 in
    elim (cases_Bool (in_bucket p.segments b m)) [
      | inl y ↦
          let here : in_bucket p.segments b n ≡ true = in_bucket_is p n b u e ∙ eq-eqb u.bucket b same in
          let of_n : bucket_in p n ≡ b = bucket_of_in (segment_at p n) b here in
          let of_m : bucket_in p m ≡ b = bucket_of_in (segment_at p m) b y in
          let pt : opened_at p m ≤ k = subst (λ (c : ℕ). opened_at p m ≤ opening_moment p.eviction c t) of_m
          (All-head (IsOpenedBy p.eviction p t) m later past) in
          let is : opened_at p n ≡ u.opened = opened_is p n u e in
          let both : ((b == lasting) || (opened_at p n == opened_at p m)) ≡ true =
          elim (cases_Bool (b == lasting)) [
            | inl l ↦ or_left _ _ l
            | inr l ↦
                let le : opened_at p n ≤ opened_at p m = ordered p.eviction p n m (of_n ∙ sym of_m)
                (ap (λ c. c == lasting) of_n ∙ l) (All-head (OpensNoLater p.eviction p n) m later order) in
                let now : (u.opened == k) ≡ true = rw l at moment in
                let at = eqb-true u.opened k now in
                or_right (b == lasting) _ (eq-eqb (opened_at p n) (opened_at p m) (omega arith))
          ] in
          absurd (false≢true (sym parts.0 ∙ and_from (in_bucket p.segments b n && in_bucket p.segments b m) _
          (and_from (in_bucket p.segments b n) (in_bucket p.segments b m) here y) both))
      | inr f ↦ rw f rest
    ]

-- a segment that was opened at the moment at which a new one would be open is open
closed_by : (l : Bool) (b k t : ℕ) → (b == lasting) ≡ l → is_sealed b k t ≡ false → (o : ℕ) → (l || (o == k)) ≡ true
    → is_sealed b o t ≡ false
closed_by true b k t e f o h = rw e refl
closed_by false b k t e f o h = ap (λ x. is_sealed b x t) (eqb-true o k h) ∙ f

-- a tail that is open and doesn't take an item is filled
tail_filled : (p : PoolState) (b t n : ℕ) (u : Used) (i : Item) → IsStorable (item_limit p.sizes) i → tail p b ≡ Some n
    → open_tail p b t (has_own i) (size_of_item i) ≡ None → segment_at p n ≡ Some u → u.bucket ≡ b
    → ((b == lasting) || (u.opened == opening_moment p.eviction b t)) ≡ true → filled_size p < held_in p n
tail_filled p b t n u i s tail_is none e same moment =
    let small = s.small in
    let open_now : is_sealed u.bucket u.opened t ≡ false = ap (λ x. is_sealed x u.opened t) same
    ∙ closed_by (b == lasting) b (opening_moment p.eviction b t) t refl (opening_open p.eviction b t) u.opened moment in
    let passes : if_takes p t (has_own i) (size_of_item i) n ≡ None =
    ap (option_and_then (if_takes p t (has_own i) (size_of_item i))) (sym tail_is) ∙ none in
    let full : option_map_or (takes p.sizes t (has_own i) (size_of_item i)) (segment_at p n) false ≡ false =
    elim (cases_Bool (option_map_or (takes p.sizes t (has_own i) (size_of_item i)) (segment_at p n) false)) [
      | inl y ↦ (let got : if_takes p t (has_own i) (size_of_item i) n ≡ Some n = ap (λ (x : Bool). if x then Some n else None) y in
          absurd (none-some n (sym passes ∙ got)))
      | inr f ↦ f
    ] in
    let joins : may_join (has_own i) u.bucket u.opened t ≡ true = open_joins (has_own i) _ open_now in
    let test : (may_join (has_own i) u.bucket u.opened t
    && nat_le (size_of_all u.items + size_of_item i) p.sizes.segment_size) ≡ false =
    ap (λ o. option_map_or (takes p.sizes t (has_own i) (size_of_item i)) o false) (sym e) ∙ full in
    let no_room : nat_le (size_of_all u.items + size_of_item i) p.sizes.segment_size ≡ false =
    ap (λ x. x && nat_le (size_of_all u.items + size_of_item i) p.sizes.segment_size) (sym joins) ∙ test in
    let over = leb-false (size_of_all u.items + size_of_item i) p.sizes.segment_size no_room in
    let held : held_in p n ≡ size_of_all u.items = ap (λ o. size_of_all (items_of o)) e in
    omega arith

-- a segment of the item's series holds so much: one that goes with it is after it, or it is the
-- tail
pub series_filled : (p : PoolState) (b t n : ℕ) (u : Used) (later : List ℕ) (o : Option ℕ) (i : Item)
    → IsStorable (item_limit p.sizes) i → open_tail p b t (has_own i) (size_of_item i) ≡ None
    → last_or o (filter (in_bucket p.segments b) (n ∷ later)) ≡ tail p b → segment_at p n ≡ Some u → u.bucket ≡ b
    → ((b == lasting) || (u.opened == opening_moment p.eviction b t)) ≡ true
    → AreUsed p later → All (OpensNoLater p.eviction p n) later → All (IsOpenedBy p.eviction p t) later
    → ((c : ℕ) → IsTrue (list_any (goes_with p c n) later) → filled_size p < held_in p n) → filled_size p < held_in p n
series_filled p b t n u later o i s none at e same moment used order past f =
    elim (cases_Bool (list_any (goes_with p b n) later)) [
      | inl y ↦ f b y
      | inr none_goes ↦
          let nothing = none_behind p b t n u later e same moment used order past none_goes in
          let here : in_bucket p.segments b n ≡ true = in_bucket_is p n b u e ∙ eq-eqb u.bucket b same in
          let last : last_or o (filter (in_bucket p.segments b) (n ∷ later)) ≡ Some n = rw (here, nothing) refl in
          tail_filled p b t n u i s (sym at ∙ last) none e same moment
    ]

-- a number that passes is the last one until a later one passes
pub last_by : (c : Bool) (o : Option ℕ) (n : ℕ) (ys : List ℕ)
    → last_or o (if c then n ∷ ys else ys) ≡ last_or (if c then Some n else o) ys
last_by true o n ys = refl
last_by false o n ys = refl

-- what the segments of chains hold, and a new one of the item's series with nothing
with_new : PoolState → List ℕ → Series → List Held
with_new p [] g = record { series = g; size = 0 } ∷ []
with_new p (n ∷ numbers) g = record { series = series_of p n; size = held_in p n } ∷ with_new p numbers g

-- the series with a new one behind are those of the segments, and the new one
series_with_new : (p : PoolState) (numbers : List ℕ) (g : Series)
    → series_in (with_new p numbers g) ≡ map (series_of p) numbers ++ g ∷ []
unfolding with_new
series_with_new p [] g = refl
series_with_new p (n ∷ numbers) g = ap (λ gs. series_of p n ∷ gs) (series_with_new p numbers g)

-- the new series holds nothing
new_sizes : (p : PoolState) (numbers : List ℕ) (g : Series) → sizes_in (with_new p numbers g) ≡ held_among p numbers
unfolding with_new
new_sizes p [] g = refl
new_sizes p (n ∷ numbers) g = ap (λ k. held_in p n + k) (new_sizes p numbers g)

-- the new series counts as one more segment
new_length : (p : PoolState) (numbers : List ℕ) (g : Series) → length (with_new p numbers g) ≡ suc (length numbers)
unfolding with_new
new_length p [] g = refl
new_length p (n ∷ numbers) g = ap suc (new_length p numbers g)

-- a segment of the series of a bucket and a moment is one of the bucket, and of the moment where
-- that counts
series_moment : (p : PoolState) (b t n : ℕ) (u : Used) → segment_at p n ≡ Some u
    → same_series (series_of p n) (series_for b t) ≡ true
    → (u.bucket ≡ b) × (((b == lasting) || (u.opened == t)) ≡ true)
series_moment p b t n u e h =
    let same : series_for u.bucket u.opened ≡ series_for b t =
    sym (series_is p n u e) ∙ same_series_is (series_of p n) (series_for b t) h in
    let buckets : u.bucket ≡ b = ap (λ g. g.bucket) same in
    let moments : (if u.bucket == lasting then 0 else u.opened) ≡ (if b == lasting then 0 else t) =
    ap (λ g. g.opened) same in
    let one : (if b == lasting then 0 else u.opened) ≡ (if b == lasting then 0 else t) = ap
    (λ (x : ℕ). if x == lasting then 0 else u.opened) (sym buckets) ∙ moments in
    (buckets, moment_by (b == lasting) u.opened t one)

-- where no tail takes an item, each segment is full or the last of its series, the item's own
-- series among them
full_by : (p : PoolState) (b t : ℕ) (i : Item) (numbers : List ℕ) (o : Option ℕ) → IsStorable (item_limit p.sizes) i
    → open_tail p b t (has_own i) (size_of_item i) ≡ None
    → last_or o (filter (in_bucket p.segments b) numbers) ≡ tail p b → AreUsed p numbers
    → AreInTime p.eviction p numbers → All (IsOpenedBy p.eviction p t) numbers → AreFilled p numbers
    → AreFull (filled_size p) (with_new p numbers (series_for b (opening_moment p.eviction b t)))
unfolding with_new
full_by p b t i [] o s none at used order past filled = (λ h. absurd (false≢true h), tt)
full_by p b t i (n ∷ later) o s none at used order past filled =
    let k = opening_moment p.eviction b t in
    let g = series_for b k in
    let rest = All-tail (IsOpenedBy p.eviction p t) n later past in (
      λ h. (let split : (list_any (same_series (series_of p n)) (map (series_of p) later)
          || (same_series (series_of p n) g || false)) ≡ true =
          sym (list_any-append (same_series (series_of p n)) (map (series_of p) later) (g ∷ []))
          ∙ ap (list_any (same_series (series_of p n))) (sym (series_with_new p later g)) ∙ h in
          elim (or_cases (list_any (same_series (series_of p n)) (map (series_of p) later))
          (same_series (series_of p n) g || false) split) [
            | inl y ↦ (let lt = filled.0 used.0.0.bucket (any_of_series p n used.0.0 later used.0.1 used.1 y) in
                omega arith)
            | inr y ↦
                let here : same_series (series_of p n) g ≡ true = elim (or_cases (same_series (series_of p n) g) false y) [
                  | inl x ↦ x
                  | inr x ↦ absurd (false≢true x)
                ] in
                let m = series_moment p b k n used.0.0 used.0.1 here in
                let lt = series_filled p b t n used.0.0 later o i s none at used.0.1 m.0 m.1 used.1 order.0 rest
                filled.0 in
                omega arith
          ]),
      full_by p b t i later (if in_bucket p.segments b n then Some n else o) s none
          (sym (last_by (in_bucket p.segments b n) o n (filter (in_bucket p.segments b) later)) ∙ at) used.1 order.1
          rest filled.1,
    )

-- ---- all segments are in chains

-- what is there is a segment
some_used : (o : Option Used) → is_some o ≡ true → (u : Used) × (o ≡ Some u)
some_used None h = absurd (false≢true h)
some_used (Some u) h = (u, refl)

-- numbers that all stand for segments of chains do so one by one
used_all : (p : PoolState) (numbers : List ℕ) → ((n : ℕ) → 1 ≤ times n numbers → is_some (segment_at p n) ≡ true)
    → AreUsed p numbers
used_all p [] h = tt
used_all p (n ∷ later) h = (
  some_used (segment_at p n) (h n (let z = eq-eqb n n refl in rw z (omega arith))),
  used_all p later (λ m k. h m (omega arith)),
)

-- each number of a pool's order is that of a segment of a chain
pub order_used : (p : PoolState) → IsPool p → AreUsed p p.order
order_used p k = used_all p p.order (λ n h. used_if (segment_at p n) (times n p.order) (k.named n) h)

-- one where a test holds, and else nothing
abbrev pub one_if : Bool → ℕ
one_if b = if b then 1 else 0

-- in a full pool a number stands for a segment exactly where it is below their count
number_by : (p : PoolState) (n : ℕ) → IsPool p → IsPoolFull p
    → ◌≡◌ {A = ℕ} (if is_some (segment_at p n) then 1 else 0) (if nat_lt n p.sizes.segments then 1 else 0)
number_by p n k full =
    let count = k.count in
    elim (cases_lt n p.sizes.segments) [
      | inl lt ↦ (let t = lt-ltb n p.sizes.segments lt in let s = full n lt in ap one_if (s ∙ sym t))
      | inr ge ↦
          let f = le-ltb n p.sizes.segments ge in
          let none : segment_at p n ≡ None = get_or_past p.segments n None (omega arith) in
          ap one_if (ap is_some none ∙ sym f)
    ]

-- the order of a full pool names all segments
full_length : (p : PoolState) → IsPool p → IsPoolFull p → length p.order ≡ p.sizes.segments
full_length p k full =
    same_length p.order (range_with_len 0 p.sizes.segments)
    (λ n. k.named n ∙ number_by p n k full ∙ sym (times_range n p.sizes.segments)) ∙ length_range p.sizes.segments

-- one segment more than there is room for is one too many
too_much : (s d held gw : ℕ) → 0 < d → suc s * d ≤ held + gw * d → held + gw * d ≤ s * d → ⊥
too_much s d held gw pos a b = let e : suc s * d ≡ s * d + d = grind arith in omega arith

-- An item has room where little is held: so a write gives nothing back and evicts nothing.
pub has_space : (p : PoolState) (b t : ℕ) (i : Item) → IsPool p → IsInTime p t → IsFilled p → HoldsLittle p b t
    → IsStorable (item_limit p.sizes) i → HasNoRoom p b t i → ⊥
has_space p b t i k time filled little s none =
    let g = series_for b (opening_moment p.eviction b t) in
    let full = full_by p b t i p.order None s none.no_tail refl (order_used p k) time.order time.past filled in
    let c = count_full (filled_size p) (with_new p p.order g) full in
    let len : length (with_new p p.order g) ≡ suc p.sizes.segments =
    new_length p p.order g ∙ ap suc (full_length p k none.none_free) in
    let series : series_among (series_in (with_new p p.order g)) ≡ series_with p b t =
    ap series_among (series_with_new p p.order g)
    ∙ series_last (map (series_of p) p.order) g in
    let held : sizes_in (with_new p p.order g) ≡ held_size p = new_sizes p p.order g in
    let large = k.geometry.item_large in
    let D = filled_size p in
    let one : suc p.sizes.segments * D ≤ held_size p + series_with p b t * D =
    subst (λ x. suc p.sizes.segments * D ≤ held_size p + x * D) series
    (subst (λ x. suc p.sizes.segments * D ≤ x + series_among (series_in (with_new p p.order g)) * D) held
    (subst (λ x. x * D ≤ sizes_in (with_new p p.order g) + series_among (series_in (with_new p p.order g)) * D)
    len c)) in
    too_much p.sizes.segments D (held_size p) (series_with p b t) (omega arith) one little
