-- Deadlines that items have of their own.
use Rattle.std.proofs.Common.{◌≡◌, ℕ, ◌+◌, ◌-◌, ◌*◌, ◌/◌, ◌<◌, ◌≤◌, ◌^◌, Bool, true, false, Option, Some, None, refl, sym, subst}
use Rattle.std.proofs.Common.{◌∙◌, inl, inr, arith, le-leb}
use Rattle.std.specs.Prelude.{min, nat_le, nat_lt, ◌&&◌, ◌||◌}
use Rattle.std.proofs.lemmas.Bool.{cases_Bool, cases_eq, and_parts, leb-true, leb-false, ltb-true, lt-leb, eq-eqb, ne_eqb, lt-ltb, false≢true}
use Rattle.std.proofs.lemmas.Option.{none-some}
use Rattle.proto.specs.Buckets.{MayLive, life_width}
use Rattle.proto.specs.Cache.{has_arrived}
use Rattle.proto.proofs.DeadlineLemmas.{may_be_exact}
use Rattle.segments.specs.Items.{Item, own_or_shared, item_deadline}
use Rattle.segcache.specs.Invariants.{IsDatedIn}
use Rattle.segcache.specs.OwnDeadlines.{own_deadline_by, may_expire}
use Rattle.engine.specs.Deadlines.{is_storable_deadline}
use Rattle.segcache.specs.Writes.{may_give, may_share_segment, suits_segment, loses_little}

-- a deadline of an item's own has six bytes
pub own_small : (exact : Bool) (asked : Option ℕ) → own_deadline_by exact asked < 2 ^ 48
own_small false asked = omega arith
own_small true None = omega arith
own_small true (Some d) =
    elim (cases_Bool (nat_lt d 281474976710656)) [
      | inl y ↦ (let l = ltb-true d 281474976710656 y in rw y (omega (arith, l)))
      | inr n ↦ rw n (omega arith)
    ]

-- an item that asks for none has none of its own
pub none_of_its_own : (exact : Bool) → own_deadline_by exact None ≡ 0
none_of_its_own true = refl
none_of_its_own false = refl

-- the deadline that an item gets which asks for one may be given
pub own_may : (exact : Bool) (t : ℕ) (asked shared : Option ℕ) → has_arrived asked t ≡ false → MayLive t asked shared
    → MayLive t asked (own_or_shared (own_deadline_by exact asked) shared)
own_may false t asked shared waits may = may
own_may true t None shared waits may = may
own_may true t (Some d) shared waits may =
    elim (cases_Bool (nat_lt d 281474976710656)) [
      | inl y ↦
          let later : t < d = leb-false d t waits in
          let f = ne_eqb d 0 (λ z. absurd (omega (arith, later, z))) in
          rw (y, f) (may_be_exact t (Some d) waits)
      | inr n ↦ rw n may
    ]

-- where items have their own deadlines, and this can be one, it is the one asked for
pub own_exactly : (exact : Bool) (t d : ℕ) (shared : Option ℕ) → has_arrived (Some d) t ≡ false → exact ≡ true
    → is_storable_deadline (Some d) ≡ true → own_or_shared (own_deadline_by exact (Some d)) shared ≡ Some d
own_exactly false t d shared waits e near = absurd (false≢true e)
own_exactly true t d shared waits e near =
    let later : t < d = leb-false d t waits in
    let f = ne_eqb d 0 (λ z. absurd (omega (arith, later, z))) in
    rw (near, f) refl

-- with what may be given
pub exactly_given : (exact : Bool) (t : ℕ) (asked shared : Option ℕ) → has_arrived asked t ≡ false → MayLive t asked shared
    → exact ≡ true → is_storable_deadline asked ≡ true → own_or_shared (own_deadline_by exact asked) shared ≡ asked
exactly_given false t asked shared waits may e near = absurd (false≢true e)
exactly_given true t None None waits may e near = refl
exactly_given true t None (Some s) waits may e near = absurd may
exactly_given true t (Some d) shared waits may e near = own_exactly true t d shared waits e near

-- what may be given in place of a deadline comes no later
pub may_before : (t : ℕ) (asked shared : Option ℕ) → MayLive t asked shared → (d : ℕ) → asked ≡ Some d
    → may_expire true shared d ≡ true
may_before t None shared may d e = absurd (none-some d e)
may_before t (Some a) None may d e = absurd may
may_before t (Some a) (Some s) may d e =
    let same : a ≡ d = cc in
    subst (λ (n : ℕ). nat_le s n ≡ true) same (le-leb s a may.1)

-- an item that has the deadline asked for, where the segment has none or one that comes no later,
-- is dated as it may be there
pub own_dated : (exact : Bool) (asked shared : Option ℕ) (i : Item) → i.own_deadline ≡ own_deadline_by exact asked
    → ((d : ℕ) → asked ≡ Some d → may_expire true shared d ≡ true) → IsDatedIn exact shared i
own_dated false asked shared i own h = inl own
own_dated true None shared i own h = inl own
own_dated true (Some d) shared i own h =
    elim (cases_Bool (nat_lt d 281474976710656)) [
      | inl y ↦
          let is : i.own_deadline ≡ d = own ∙ rw y refl in
          inr (refl, subst (λ (n : ℕ). may_expire true shared n ≡ true) (sym is) (h d refl))
      | inr n ↦ inl (own ∙ rw n refl)
    ]

-- an item of a segment in which none may expire waits
pub dated_waits : (exact : Bool) (shared : Option ℕ) (i : Item) (t : ℕ) → IsDatedIn exact shared i
    → may_expire exact shared t ≡ false → has_arrived (item_deadline i shared) t ≡ false
dated_waits exact None i t (inl none) waits = let z = eq-eqb i.own_deadline 0 none in rw z refl
dated_waits exact (Some s) i t (inl none) waits = let z = eq-eqb i.own_deadline 0 none in rw z waits
dated_waits exact None i t (inr own) waits = absurd (false≢true (sym waits ∙ own.1))
dated_waits exact (Some s) i t (inr own) waits =
    let later : t < s = leb-false s t waits in
    let first : s ≤ i.own_deadline = leb-true s i.own_deadline own.1 in
    elim (cases_eq i.own_deadline 0) [
      | inl e ↦ (let z = eq-eqb i.own_deadline 0 e in rw z waits)
      | inr n ↦ (let z = ne_eqb i.own_deadline 0 n in rw z (lt-leb i.own_deadline t (omega (arith, later, first))))
    ]

-- where items have none of their own, one of a segment in which they may expire has expired
pub dated_expired : (shared : Option ℕ) (i : Item) (t : ℕ) → IsDatedIn false shared i
    → may_expire false shared t ≡ true → has_arrived (item_deadline i shared) t ≡ true
dated_expired None i t dated come = absurd (false≢true come)
dated_expired (Some s) i t (inl none) come = let z = eq-eqb i.own_deadline 0 none in rw z come
dated_expired (Some s) i t (inr own) come = absurd (false≢true own.0)

-- an item without one of its own has none in a segment without a deadline
pub dated_never : (i : Item) → i.own_deadline ≡ 0 → item_deadline i None ≡ None
dated_never i none = let z = eq-eqb i.own_deadline 0 none in rw z refl

-- from its deadline on items of a segment may expire
pub arrived_expires : (shared : Option ℕ) (t : ℕ) → has_arrived shared t ≡ true → may_expire true shared t ≡ true
arrived_expires None t h = refl
arrived_expires (Some s) t h = h

-- ---- what may stand in a segment

-- a deadline that is told to be one that a write may give is so
pub gives_may : (t : ℕ) (asked given : Option ℕ) → may_give t asked given ≡ true → MayLive t asked given
gives_may t None None h = tt
gives_may t None (Some given) h = absurd (false≢true h)
gives_may t (Some asked) None h = absurd (false≢true h)
gives_may t (Some asked) (Some given) h =
    let a = and_parts (nat_lt t given && nat_le given asked) (loses_little t asked given) h in
    let b = and_parts (nat_lt t given) (nat_le given asked) a.0 in (
      ltb-true t given b.0,
      leb-true given asked b.1,
      ltb-true (min asked (t + 8388608)) (given + 2 * life_width (asked - t)) a.1,
    )

-- it is none, or no later than the one asked for, of which the moment hasn't come
pub record Precedes (t : ℕ) (asked given : Option ℕ) : Type 0 where
  pub asked_waits : has_arrived asked t ≡ false
  pub before : (d : ℕ) → asked ≡ Some d → may_expire true given d ≡ true

precedes : (t asked given : ℕ) → t < asked → nat_le given asked ≡ true → Precedes t (Some asked) (Some given)
precedes t asked given waits no_later = record {
  asked_waits = lt-leb asked t waits;
  before = λ d e. (let same : asked ≡ d = cc in subst (λ (n : ℕ). nat_le given n ≡ true) same no_later);
}

gives_before : (t : ℕ) (asked given : Option ℕ) → may_give t asked given ≡ true → Precedes t asked given
gives_before t None None h = record { asked_waits = refl; before = λ d e. absurd (none-some d e) }
gives_before t None (Some given) h = absurd (false≢true h)
gives_before t (Some asked) None h = absurd (false≢true h)
gives_before t (Some asked) (Some given) h =
    let b = and_parts (nat_lt t given) (nat_le given asked)
    (and_parts (nat_lt t given && nat_le given asked) (loses_little t asked given) h).0 in
    let first = ltb-true t given b.0 in
    let last = leb-true given asked b.1 in
    precedes t asked given (omega (arith, first, last)) b.1

suits_before : (one_chain : Bool) (t : ℕ) (asked shared : Option ℕ) → suits_segment one_chain t asked shared ≡ true
    → Precedes t asked shared
suits_before one_chain t None None h = record { asked_waits = refl; before = λ d e. absurd (none-some d e) }
suits_before one_chain t None (Some shared) h = absurd (false≢true h)
suits_before one_chain t (Some asked) None h =
    let b = and_parts one_chain (nat_lt t asked) h in
    record { asked_waits = lt-leb asked t (ltb-true t asked b.1); before = λ d e. refl }
suits_before one_chain t (Some asked) (Some shared) h =
    let b = and_parts (nat_lt t asked) (nat_le shared asked)
    (and_parts (nat_lt t asked && nat_le shared asked)
    (loses_little t asked shared || nat_le (asked - shared) ((asked - t) / 8)) h).0 in
    precedes t asked shared (ltb-true t asked b.0) b.1

-- what an item gets that may stand in a segment
pub record MayStand (exact : Bool) (t : ℕ) (asked shared : Option ℕ) : Type 0 where
  pub precedes : Precedes t asked shared
  pub may_live : MayLive t asked (own_or_shared (own_deadline_by exact asked) shared)
  pub exactly : exact ≡ true → is_storable_deadline asked ≡ true → own_or_shared (own_deadline_by exact asked) shared ≡ asked

-- where items have their own deadlines, and this can be one, it may be given
own_lives : (exact one_chain : Bool) (t : ℕ) (asked shared : Option ℕ) → exact ≡ true → is_storable_deadline asked ≡ true
    → suits_segment one_chain t asked shared ≡ true → Precedes t asked shared → MayStand exact t asked shared
own_lives exact one_chain t None None e near h p =
    record { precedes = p; may_live = own_may exact t None None refl tt; exactly = exactly_given exact t None None refl tt }
own_lives exact one_chain t None (Some s) e near h p = absurd (false≢true h)
own_lives exact one_chain t (Some d) shared e near h p =
    let is = own_exactly exact t d shared p.asked_waits e near in
    record {
      precedes = p;
      may_live = subst (MayLive t (Some d)) (sym is) (may_be_exact t (Some d) p.asked_waits);
      exactly = λ f g. is;
    }

-- an item that has none of its own has the segment's, if that may be given; where it has its own,
-- the segment's may be any that comes no later
pub stands_appended : (exact : Bool) (t : ℕ) (asked shared : Option ℕ) → has_arrived asked t ≡ false
    → ((d : ℕ) → asked ≡ Some d → may_expire true shared d ≡ true)
    → (own_deadline_by exact asked ≡ 0 → MayLive t asked shared) → MayStand exact t asked shared
stands_appended exact t asked shared waits before may = by exact asked waits before may
  where
    given : (exact : Bool) (asked : Option ℕ) → has_arrived asked t ≡ false → MayLive t asked shared
        → MayStand exact t asked shared
    given exact asked waits may =
        record {
          precedes = record { asked_waits = waits; before = may_before t asked shared may };
          may_live = own_may exact t asked shared waits may;
          exactly = exactly_given exact t asked shared waits may;
        }

    by : (exact : Bool) (asked : Option ℕ) → has_arrived asked t ≡ false
        → ((d : ℕ) → asked ≡ Some d → may_expire true shared d ≡ true)
        → (own_deadline_by exact asked ≡ 0 → MayLive t asked shared) → MayStand exact t asked shared
    by false asked waits before may = given false asked waits (may refl)
    by true None waits before may = given true None waits (may refl)
    by true (Some d) waits before may =
        elim (cases_Bool (nat_lt d 281474976710656)) [
          | inl y ↦
              let is = own_exactly true t d shared waits refl y in
              record {
                precedes = record { asked_waits = waits; before = before };
                may_live = subst (MayLive t (Some d)) (sym is) (may_be_exact t (Some d) waits);
                exactly = λ f g. is;
              }
          | inr n ↦ (let none : own_deadline_by true (Some d) ≡ 0 = rw n refl in given true (Some d) waits (may none))
        ]

-- where items have their own deadlines, one may stand in a segment without a deadline, if it can
-- have the one asked for
pub stands_alone : (exact : Bool) (t : ℕ) (asked : Option ℕ) → exact ≡ true → is_storable_deadline asked ≡ true
    → has_arrived asked t ≡ false → MayStand exact t asked None
stands_alone exact t None e near waits =
    own_lives exact true t None None e near refl
    (record { asked_waits = refl; before = λ d is. absurd (none-some d is) })
stands_alone exact t (Some d) e near waits =
    let later : t < d = leb-false d t waits in
    own_lives exact true t (Some d) None e near (lt-ltb t d later)
    (record { asked_waits = waits; before = λ n is. refl })

pub stands : (exact one_chain : Bool) (t : ℕ) (asked shared : Option ℕ)
    → may_share_segment exact one_chain t asked shared ≡ true → MayStand exact t asked shared
stands exact one_chain t asked shared h =
    elim (cases_Bool (may_give t asked shared)) [
      | inl y ↦
          let p = gives_before t asked shared y in
          let may = gives_may t asked shared y in
          record {
            precedes = p;
            may_live = own_may exact t asked shared p.asked_waits may;
            exactly = exactly_given exact t asked shared p.asked_waits may;
          }
      | inr n ↦
          let suits = suits_segment one_chain t asked shared in
          let rest : (exact && is_storable_deadline asked && suits) ≡ true = rw n at h in
          let a = and_parts (exact && is_storable_deadline asked) suits rest in
          let b = and_parts exact (is_storable_deadline asked) a.0 in
          own_lives exact one_chain t asked shared b.0 b.1 a.1 (suits_before one_chain t asked shared a.1)
    ]
