-- The ring of the events that are left.
use Rattle.std.proofs.Common.{◌≡◌, ℕ, zero, suc, ◌+◌, ◌-◌, ◌<◌, ◌≤◌, arith, List, [], ◌∷◌, ◌++◌, length, get_or, take, drop}
use Rattle.std.proofs.Common.{refl, sym, ap, ◌∙◌}
use Rattle.std.proofs.lemmas.List.{length-drop, take-take, drop-drop, drop-take}
use Rattle.std.proofs.Math.Seq.{take-append-add, drop-append-add}
use Rattle.script.specs.declared.event.ScriptEvent.{ScriptEvent}
use Rattle.script.specs.Remaining.{RemainingState}

-- a ring of events, the rest in front of those aside
abbrev pub in_ring : ℕ → List ScriptEvent → RemainingState
in_ring ahead ring = record { aside = drop ahead ring; rest = take ahead ring }

-- what was read at the front of the ring is the first of the rest
pub front_is : (ahead : ℕ) (ring : List ScriptEvent) (x e : ScriptEvent) (after : List ScriptEvent)
    → take ahead ring ≡ e ∷ after → x ≡ get_or ring 0 x → x ≡ e
front_is zero ring x e after is x_is = absurd (cc)
front_is (suc ahead) [] x e after is x_is = absurd (cc)
front_is (suc ahead) (y ∷ ring) x e after is x_is = cc

-- the first of the rest leaves the ring
pub popped : (ahead : ℕ) (ring : List ScriptEvent) (e : ScriptEvent) (after : List ScriptEvent)
    → take ahead ring ≡ e ∷ after
    → in_ring (ahead - 1) (drop 1 ring) ≡ record { aside = drop ahead ring; rest = after }
popped zero ring e after is = absurd (cc)
popped (suc ahead) [] e after is = absurd (cc)
popped (suc ahead) (y ∷ ring) e after is =
    let rest_is : take ahead ring ≡ after = cc in
    let less : suc ahead - 1 ≡ ahead = omega arith in
    ap (λ (n : ℕ). in_ring n ring) less ∙ (λ i. record { aside = drop ahead ring; rest = rest_is i })

-- the first one leaves the ring: it is of the rest where there is any
pub first_left : (ahead : ℕ) (ring : List ScriptEvent) → 0 < length (take ahead ring)
    → in_ring (ahead - 1) (drop 1 ring) ≡ record (in_ring ahead ring) { rest = drop 1 (take ahead ring) }
first_left zero ring some = absurd (omega (arith, some))
first_left (suc ahead) [] some = absurd (omega (arith, some))
first_left (suc ahead) (y ∷ ring) some = popped (suc ahead) (y ∷ ring) y (take ahead ring) refl

-- and else of those aside
pub first_aside_left : (ahead : ℕ) (ring : List ScriptEvent) → ahead ≤ length ring → take ahead ring ≡ []
    → in_ring (ahead - 1) (drop 1 ring) ≡ record (in_ring ahead ring) { aside = drop 1 (drop ahead ring) }
first_aside_left zero ring fits none = refl
first_aside_left (suc ahead) [] fits none = absurd (omega (arith, fits))
first_aside_left (suc ahead) (y ∷ ring) fits none = absurd (cc)

-- another event is put in place of the first of the rest
pub replaced : (ahead : ℕ) (ring : List ScriptEvent) (e x : ScriptEvent) (after : List ScriptEvent)
    → take ahead ring ≡ e ∷ after
    → in_ring ahead (x ∷ drop 1 ring) ≡ record { aside = drop ahead ring; rest = x ∷ after }
replaced zero ring e x after is = absurd (cc)
replaced (suc ahead) [] e x after is = absurd (cc)
replaced (suc ahead) (y ∷ ring) e x after is =
    let rest_is : take ahead ring ≡ after = cc in λ i. record { aside = drop ahead ring; rest = x ∷ rest_is i }

-- once the ring is turned back by all but the events of the rest and those that stay aside, the
-- others are of the rest
pub turned_back : (ahead stay n m : ℕ) (ring : List ScriptEvent) → ahead + stay ≤ length ring → n ≡ length ring
    → m ≡ length ring
    → in_ring (ahead + (n - ahead - stay)) (drop (m - (n - ahead - stay)) ring ++ take (m - (n - ahead - stay)) ring)
    ≡ record { aside = take stay (drop ahead ring); rest = drop stay (drop ahead ring) ++ take ahead ring }
turned_back ahead stay n m ring le n_is m_is =
    let k = ahead + stay in
    let at_is : m - (n - ahead - stay) ≡ k = omega (arith, le, n_is, m_is) in
    let tail = length-drop k ring in
    let front : ahead + (n - ahead - stay) ≡ length (drop k ring) + ahead = omega (arith, le, tail, n_is) in
    let turned : in_ring (length (drop k ring) + ahead) (drop k ring ++ take k ring)
    ≡ record { aside = take stay (drop ahead ring); rest = drop stay (drop ahead ring) ++ take ahead ring } =
    λ i. record {
      aside = (drop-append-add (drop k ring) (take k ring) ahead ∙ drop-take ahead stay ring) i;
      rest = (take-append-add (drop k ring) (take k ring) ahead
          ∙ ap (λ (l : List ScriptEvent). drop k ring ++ l) (take-take ahead k ring (omega arith))
          ∙ ap (λ (l : List ScriptEvent). l ++ take ahead ring) (sym (drop-drop stay ahead ring))) i;
    } in
    (λ i. in_ring (front i) (drop (at_is i) ring ++ take (at_is i) ring)) ∙ turned
