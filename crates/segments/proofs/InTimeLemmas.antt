-- The segments of chains stand in the order of their opening moments, whatever is written and
-- whatever becomes free.
use Rattle.std.proofs.Common.{◌≡◌, ℕ, ◌+◌, ◌<◌, ◌≤◌, Bool, true, false, List, [], ◌∷◌, length, Option, Some, None, refl, sym, ap, subst, ◌∙◌}
use Rattle.std.proofs.Common.{inl, inr, arith, add-one}
use Rattle.std.specs.Prelude.{◌==◌, ◌⊎◌, if◌then◌else◌, All, IfSome, IsSome, IsTrue, MatchOption}
use Rattle.std.specs.Prelude.{filter, is_some, not, option_map, take, min, slice_index_or}
use Rattle.std.specs.Option.{option_map_or}
use Rattle.std.proofs.lemmas.Bool.{cases_Bool, eq-eqb, eqb-true, false≢true, le-ltb, not-true}
use Rattle.std.proofs.lemmas.List.{length-take}
use Rattle.std.proofs.lemmas.Option.{same_Some}
use Rattle.std.proofs.Math.Nat.{le-min}
use Rattle.std.proofs.lemmas.List.Elements.{All-nil, All-cons, All-head, All-tail}
use Rattle.segments.specs.declared.merge.Choice.{Choice}
use Rattle.segments.specs.declared.place.Place.{Place}
use Rattle.segments.specs.Items.{Item}
use Rattle.proto.specs.Counts.{times}
use Rattle.segments.specs.Pools.{PoolState, IsPool, Used, Liveness, segment_at, item_in, has_live, lasting}
use Rattle.segments.specs.Changes.{IsGivenBack, IsAddedToTail, IsAddedToFree, without_segment, with_items, with_change}
use Rattle.proto.specs.declared.eviction.Eviction.{Eviction}
use Rattle.proto.specs.declared.eviction.Eviction.TheVariants.{Oldest, LeastRead}
use Rattle.proto.proofs.CountLemmas.{times-append}
use Rattle.segments.proofs.FrontLemmas.{times-take}
use Rattle.segments.proofs.MergingLemmas.{contains_is, times_others}
use Rattle.segments.proofs.MovedNumbers.{times_between, moved_filter, in_time_moved}
use Rattle.segments.proofs.BehindLemmas.{IsBehind, behind_is}
use Rattle.segments.proofs.SeriesLemmas.{bucket_of_in}
use Rattle.segments.specs.Hits.{HitCounts, IsFewest}
use Rattle.segments.specs.Merges.{IsVictim, merged_segments, merged_into, contains_number}
use Rattle.segments.specs.Chains.{qualifies, opened_at}
use Rattle.segments.specs.LeastReadRule.{look_count, candidates, third}
use Rattle.segments.specs.Chains.{chain_of, behind_front}
use Rattle.segments.specs.Rules.{order_by}
use Rattle.segments.specs.Filling.{AreInTime, IsInTimeOrder, IsInTime}
use Rattle.segments.specs.Chains.{bucket_in}
use Rattle.segments.specs.Rules.{OpensNoLater}
use Rattle.segments.proofs.LinkLemmas.{used_if, below_by}
use Rattle.segments.proofs.Places.{cleared_segment}
use Rattle.segments.proofs.MovedPlaces.{merged_front, merged_in_chain, merged_once, merged_segment}
use Rattle.segments.proofs.FilledLemmas.{opened_new, not_free, same_all, alike_same, alike_all, alike_at}
use Rattle.segments.proofs.FilledLemmas.{in_time_alike, in_order_by, in_time_new, in_time_tail, change_alike}
use Rattle.segments.specs.Rules.{IsVictimOf, NoVictimOf}

-- The segments of chains are some of those that were, with the opening moments that they had.
pub record IsPart (p q : PoolState) : Type 0 where
  pub stays : ℕ → Bool
  pub order : q.order ≡ filter stays p.order
  pub opened : (n : ℕ) → stays n ≡ true → opened_at q n ≡ opened_at p n
  pub of : (n : ℕ) → stays n ≡ true → bucket_in q n ≡ bucket_in p n
  pub eviction : q.eviction ≡ p.eviction

-- of a list of numbers those that pass a test
abbrev passing : (ℕ → Bool) → ℕ → List ℕ → Bool → List ℕ
passing test n later b = if b then n ∷ filter test later else filter test later

-- two numbers that stay are in order where they were
part_ordered : (e : Eviction) (p q : PoolState) (k : IsPart p q) (n m : ℕ) → k.stays n ≡ true → k.stays m ≡ true
    → OpensNoLater e p n m → OpensNoLater e q n m
part_ordered Oldest p q k n m y z h =
    let a = k.opened n y in
    let b = k.opened m z in
    omega (arith, h, a, b)
part_ordered LeastRead p q k n m y z h = λ same dated.
    let a = k.opened n y in
    let b = k.opened m z in
    let le = h (sym (k.of n y) ∙ same ∙ k.of m z) (ap (λ c. c == lasting) (sym (k.of n y)) ∙ dated) in
    omega (arith, le, a, b)

-- the numbers that stay are in order behind one that stays, where all were
from_part : (e : Eviction) (p q : PoolState) (k : IsPart p q) (x : ℕ) (numbers : List ℕ) → k.stays x ≡ true
    → All (OpensNoLater e p x) numbers → All (OpensNoLater e q x) (filter k.stays numbers)
from_part e p q k x [] here all = All-nil (OpensNoLater e q x)
from_part e p q k x (n ∷ later) here all =
    let rest = from_part e p q k x later here (All-tail (OpensNoLater e p x) n later all) in
    elim (cases_Bool (k.stays n)) [
      | inl y ↦
          subst (λ (b : Bool). All (OpensNoLater e q x) (passing k.stays n later b)) (sym y)
          (All-cons (OpensNoLater e q x) n (filter k.stays later)
          (part_ordered e p q k x n here y (All-head (OpensNoLater e p x) n later all)) rest)
      | inr f ↦ subst (λ (b : Bool). All (OpensNoLater e q x) (passing k.stays n later b)) (sym f) rest
    ]

-- the numbers that stay are in the order in which they were
in_order_of : (e : Eviction) (p q : PoolState) (k : IsPart p q) (numbers : List ℕ) → AreInTime e p numbers
    → AreInTime e q (filter k.stays numbers)
in_order_of e p q k [] f = tt
in_order_of e p q k (n ∷ later) f =
    let rest = in_order_of e p q k later f.1 in
    elim (cases_Bool (k.stays n)) [
      | inl y ↦
          let both : AreInTime e q (n ∷ filter k.stays later) = (from_part e p q k n later y f.0, rest) in
          subst (λ (b : Bool). AreInTime e q (passing k.stays n later b)) (sym y) both
      | inr g ↦ subst (λ (b : Bool). AreInTime e q (passing k.stays n later b)) (sym g) rest
    ]

-- a part of what is in order is in order
pub order_part : (p q : PoolState) → IsPart p q → IsInTimeOrder p → IsInTimeOrder q
order_part p q k f = in_order_by p q k.eviction
    (subst (AreInTime p.eviction q) (sym k.order) (in_order_of p.eviction p q k p.order f))

-- ---- what leaves a part

-- what is given back leaves the segments with a live item
pub part_given : (lives : Liveness) (p after : PoolState) → IsGivenBack lives p after → IsPart p after
part_given lives p after g =
    record {
      stays = has_live lives p;
      order = g.order;
      opened = λ n y.
          (let same : segment_at after n ≡ segment_at p n = g.segments n ∙ rw y refl in
          ap (λ o. option_map_or (λ (s : Used). s.opened) o 0) same);
      of = λ n y.
          (let same : segment_at after n ≡ segment_at p n = g.segments n ∙ rw y refl in
          ap (λ o. option_map_or (λ (s : Used). s.bucket) o lasting) same);
      eviction = g.eviction;
    }

-- a segment that is cleared leaves the others
pub part_cleared : (p : PoolState) (n : ℕ) → IsSome (segment_at p n) → IsPart p (without_segment p n)
part_cleared p n some =
    record {
      stays = λ m. not (m == n);
      order = refl;
      opened = λ m y.
          (let f = not-true (m == n) y in
          let same : segment_at (without_segment p n) m ≡ segment_at p m = cleared_segment p n m some ∙ rw f refl in
          ap (λ o. option_map_or (λ (s : Used). s.opened) o 0) same);
      of = λ m y.
          (let f = not-true (m == n) y in
          let same : segment_at (without_segment p n) m ≡ segment_at p m = cleared_segment p n m some ∙ rw f refl in
          ap (λ o. option_map_or (λ (s : Used). s.bucket) o lasting) same);
      eviction = refl;
    }

-- other items leave the moment at which a segment was opened
filled_opened : (items : List Item) (o : Option Used)
    → option_map_or (λ (s : Used). s.opened) (option_map (with_items items) o) 0
    ≡ option_map_or (λ (s : Used). s.opened) o 0
filled_opened items None = refl
filled_opened items (Some u) = refl

-- and its bucket
filled_bucket : (items : List Item) (o : Option Used)
    → option_map_or (λ (s : Used). s.bucket) (option_map (with_items items) o) lasting
    ≡ option_map_or (λ (s : Used). s.bucket) o lasting
filled_bucket items None = refl
filled_bucket items (Some u) = refl

-- a merge leaves the moments of the segments that stay
merged_opened : (items : List Item) (p : PoolState) (first n : ℕ) (b : Bool) → (n == first) ≡ b
    → option_map_or (λ (s : Used). s.opened)
    (if b then option_map (with_items items) (segment_at p first) else segment_at p n) 0 ≡ opened_at p n
merged_opened items p first n true e = filled_opened items (segment_at p first)
    ∙ ap (opened_at p) (sym (eqb-true n first e))
merged_opened items p first n false e = refl

-- and their buckets
merged_bucket : (items : List Item) (p : PoolState) (first n : ℕ) (b : Bool) → (n == first) ≡ b
    → option_map_or (λ (s : Used). s.bucket)
    (if b then option_map (with_items items) (segment_at p first) else segment_at p n) lasting ≡ bucket_in p n
merged_bucket items p first n true e = filled_bucket items (segment_at p first)
    ∙ ap (bucket_in p) (sym (eqb-true n first e))
merged_bucket items p first n false e = refl

-- the pool with a segment where the rule lets a filled one stand
abbrev placed : PoolState → Choice → ℕ → PoolState
placed p c first = record p { order = order_by p.eviction (behind_front p.segments c.bucket (chain_of p c)) first p.order }

-- of the numbers that pass, two of which are these, one moves up as it does among all
ordered_filter : (e : Eviction) (q : ℕ → Bool) (next n : ℕ) (xs : List ℕ) → q n ≡ true → q next ≡ true
    → order_by e next n (filter q xs) ≡ filter q (order_by e next n xs)
ordered_filter Oldest q next n xs t u = refl
ordered_filter LeastRead q next n xs t u = sym (moved_filter q next n xs t u)

-- no number stands in the order twice
pub named_once : (p : PoolState) → IsPool p → (n : ℕ) → times n p.order ≤ 1
named_once p k n = below_by (is_some (segment_at p n)) (times n p.order) (k.named n)

-- a segment of a bucket with deadlines is one of it
in_of_bucket : (o : Option Used) (b : ℕ) → option_map_or (λ (s : Used). s.bucket) o lasting ≡ b → (b == lasting) ≡ false
    → option_map_or (λ (s : Used). s.bucket == b) o false ≡ true
in_of_bucket None b e f = absurd (false≢true (sym f ∙ eq-eqb b lasting (sym e)))
in_of_bucket (Some u) b e f = eq-eqb u.bucket b e

-- a merge's first segment moves past no segment that was opened later
moved_no_later : (p : PoolState) (c : Choice) (first : ℕ) → IsBehind p c first → (m : ℕ)
    → 1 ≤ times_between m (behind_front p.segments c.bucket (chain_of p c)) first p.order
    → OpensNoLater LeastRead p m first
moved_no_later p c first x m some = λ same dated.
    let of_first = bucket_of_in (segment_at p first) c.bucket x.of_first in
    let of_m : bucket_in p m ≡ c.bucket = same ∙ of_first in
    let dated_bucket : (c.bucket == lasting) ≡ false = ap (λ b. b == lasting) (sym of_m) ∙ dated in
    let at = x.between m (in_of_bucket (segment_at p m) c.bucket of_m dated_bucket) some dated_bucket in
    omega (arith, at)

-- so the pool in which it stands there is in order
order_placed_by : (e : Eviction) (p : PoolState) (c : Choice) (first : ℕ) → IsBehind p c first → AreInTime e p p.order
    → AreInTime e p (order_by e (behind_front p.segments c.bucket (chain_of p c)) first p.order)
order_placed_by Oldest p c first x f = f
order_placed_by LeastRead p c first x f =
    in_time_moved LeastRead p (behind_front p.segments c.bucket (chain_of p c)) first p.order f
    (moved_no_later p c first x)

-- so the pool in which it stands there is in order
order_placed : (p : PoolState) (c : Choice) (first : ℕ) → IsBehind p c first → IsInTimeOrder p
    → IsInTimeOrder (placed p c first)
order_placed p c first x f =
    let xs = order_by p.eviction (behind_front p.segments c.bucket (chain_of p c)) first p.order in
    in_time_alike p.eviction p (placed p c first) xs
    (alike_all p (placed p c first) xs (λ n _. alike_at p (placed p c first) n refl))
    (order_placed_by p.eviction p c first x f)

-- segments that are merged leave the first of them, where the rule lets it stand, and the others
part_merged : (p : PoolState) (b : Choice) (items : List Item) → IsPool p → IsTrue (qualifies p b)
    → (first : ℕ) × IsBehind p b first × IsPart (placed p b first) (merged_into p b (merged_segments p b) items)
part_merged p b items pool qualifying =
    let f = merged_front p b qualifying in
    let first = f.0 in
    let others : List ℕ = f.1.0 ∷ f.1.1.0 in
    let whole : merged_segments p b ≡ first ∷ others = f.1.1.1.whole in
    let z = eq-eqb first first refl in
    let some : 1 ≤ times first (merged_segments p b) =
    (let e : times first (merged_segments p b) ≡ 1 + times first others = ap (times first) whole ∙ rw z refl in
    omega (arith, e)) in
    let used = merged_in_chain p b first some in
    let now : (n : ℕ) → not (contains_number others n) ≡ true → segment_at (merged_into p b (first ∷ others) items) n
    ≡ (if n == first then option_map (with_items items) (segment_at p first) else segment_at p n) =
    λ n y. (let none = not-true (contains_number others n) y in
    merged_segment p b first others items n used.within ∙ rw none refl) in
    let next = behind_front p.segments b.bucket (chain_of p b) in
    let x = behind_is p b first others (named_once p pool) whole in
    let once = merged_once p b first pool in
    let alone : times first others ≡ 0 =
    (let e : times first (merged_segments p b) ≡ 1 + times first others = ap (times first) whole ∙ rw z refl in
    omega (arith, e, once)) in
    let apart : times next others ≡ 0 = (let e = ap (times next) whole in let k = x.kept in
    let l = times_others next first others in omega (arith, e, k, l)) in
    let absent : (n : ℕ) → times n others ≡ 0 → not (contains_number others n) ≡ true =
    λ n none. ap not (contains_is others n ∙ le-ltb 0 (times n others) (omega (arith, none))) in (
      first,
      x,
      subst (λ (xs : List ℕ). IsPart (placed p b first) (merged_into p b xs items)) (sym whole)
          (record {
            stays = λ n. not (contains_number others n);
            order = ordered_filter p.eviction (λ n. not (contains_number others n)) next first p.order (absent first alone)
                (absent next apart);
            opened = λ n y. ap (λ o. option_map_or (λ (s : Used). s.opened) o 0) (now n y)
                ∙ merged_opened items p first n (n == first) refl;
            of = λ n y. ap (λ o. option_map_or (λ (s : Used). s.bucket) o lasting) (now n y)
                ∙ merged_bucket items p first n (n == first) refl;
            eviction = refl;
          }),
    )

-- a merge leaves the segments in order
pub order_of_merged : (p : PoolState) (b : Choice) (items : List Item) → IsPool p → IsTrue (qualifies p b)
    → IsInTimeOrder p → IsInTimeOrder (merged_into p b (merged_segments p b) items)
order_of_merged p b items pool qualifying f =
    let m = part_merged p b items pool qualifying in
    order_part (placed p b m.0) (merged_into p b (merged_segments p b) items) m.2 (order_placed p b m.0 m.1 f)

-- ---- what an eviction leaves

-- of the first of the order the one with the fewest hits stands in it
fewest_stands : (h : HitCounts) (k : ℕ) (order : List ℕ) (n : ℕ) → IsFewest h (take k order) n → 1 ≤ times n order
fewest_stands h k order n f =
    let z = eq-eqb n n refl in
    let split = ap (times n) f.whole ∙ times-append n f.before (n ∷ f.after) in
    let here : times n (n ∷ f.after) ≡ 1 + times n f.after = rw z refl in
    let part = times-take n k order in
    omega arith

-- so does the segment that a rule evicts
victim_stands : (e : Eviction) (k : ℕ) (order : List ℕ) (h : HitCounts) (n : ℕ) → IsVictimOf e k order h n
    → 1 ≤ times n order
victim_stands Oldest k [] h n v = absurd (false≢true (ap is_some v))
victim_stands Oldest k (m ∷ order) h n v =
    let z = eq-eqb m n (same_Some m n v) in
    let here : times n (m ∷ order) ≡ 1 + times n order = rw z refl in
    omega arith
victim_stands LeastRead k order h n f = fewest_stands h k order n f

-- what a rule finds to evict of a pool, if it finds a segment
abbrev pub IsFoundBy : PoolState → Option ℕ → Type 0
IsFoundBy p o = MatchOption o (NoVictimOf p.eviction (look_count p) p.order)
    (IsVictimOf p.eviction (look_count p) p.order p.hits)

-- it is a segment
pub victim_in_chain : (p : PoolState) (o : Option ℕ) → IsPool p → IsFoundBy p o → IfSome o (λ n. IsSome (segment_at p n))
victim_in_chain p None pool m = tt
victim_in_chain p (Some n) pool v =
    used_if (segment_at p n) (times n p.order) (pool.named n)
    (victim_stands p.eviction (look_count p) p.order p.hits n v)

-- what is less than both is less than the lesser
lt-min : (k a b : ℕ) → k < a → k < b → k < min a b
lt-min k a b x y = let h : k + 1 ≤ min a b = le-min (omega arith) (omega arith) in omega (arith, h)

-- where no segment is looked at, none is in a chain
looked_none : (p : PoolState) (order : List ℕ) → p.order ≡ order → 0 < third p → candidates p ≡ [] → order ≡ []
looked_none p [] is q e = refl
looked_none p (x ∷ xs) is q e =
    let count : length p.order ≡ length (x ∷ xs) = ap length is in
    let some : 0 < length p.order = omega (arith, count, add-one (length xs)) in
    let looked = lt-min 0 (third p) (length p.order) q some in
    let t = length-take (look_count p) p.order in
    let l = ap length e in
    absurd (omega (arith, t, l, looked, some))

-- a third of a pool's segments is some
third_some : (p : PoolState) → IsPool p → 0 < third p
third_some p k = let few = k.geometry.fewest in omega (arith, few)

-- where a rule finds none to evict, none is in a chain
no_victim : (e : Eviction) (p : PoolState) → IsPool p → NoVictimOf e (look_count p) p.order → p.order ≡ []
no_victim Oldest p k none = none
no_victim LeastRead p k none = looked_none p p.order refl (third_some p k) none

pub victim_found : (p : PoolState) (o : Option ℕ) → IsPool p → IsFoundBy p o → MatchOption o (p.order ≡ []) (IsVictim p)
victim_found p None k none = no_victim p.eviction p k none
victim_found p (Some n) k v = v

-- ---- what a write and a read leave

-- an item for which a segment was opened at t, not before the others
pub in_time_free : (p : PoolState) (b t : ℕ) (i : Item) (after : PoolState) (place : Place) → IsPool p
    → IsAddedToFree p b t i after place → IsInTime p t → IsInTime after t
in_time_free p b t i after place k a time =
    let n = place.segment in
    let new = opened_new p b t i after place k a in
    let alike = alike_same p after p.order
    (same_all p after p.order (λ m h. new.others m (not_free p n m k a.free h))) in
    in_time_new p after b t n i new alike time

-- an item that was appended at t
pub in_time_appended : (p : PoolState) (b t : ℕ) (i : Item) (after : PoolState) (place : Place) → IsPool p
    → IsAddedToTail p b t i after place ⊎ IsAddedToFree p b t i after place
    → IsInTime p t → IsInTime after t
in_time_appended p b t i after place k (inl a) time = in_time_tail p b t t i after place a time
in_time_appended p b t i after place k (inr a) time = in_time_free p b t i after place k a time

-- where neither segments nor their order nor the rule change, they stand in order as before
pub order_same : (p q : PoolState) → q.segments ≡ p.segments → q.order ≡ p.order → q.eviction ≡ p.eviction
    → IsInTimeOrder p → IsInTimeOrder q
order_same p q segments order rule f =
    in_order_by p q rule (subst (AreInTime p.eviction q) (sym order)
    (in_time_alike p.eviction p q p.order
    (alike_all p q p.order (λ n _. alike_at p q n (ap (λ us. slice_index_or us n None) segments))) f))

-- a change of an item changes no order
pub order_changed : (change : Item → Item) (p : PoolState) (place : Place) → IsSome (item_in p place) → IsInTimeOrder p
    → IsInTimeOrder (with_change change p place)
order_changed change p place some f = in_time_alike p.eviction p (with_change change p place) p.order
    (alike_all p (with_change change p place) p.order (λ n _. change_alike change p place n some)) f
