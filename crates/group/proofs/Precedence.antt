-- That what stands behind a told history comes after each of its entries, and sees what that one
-- left.
use Rattle.std.proofs.Common.{◌≡◌, ℕ, zero, suc, List, [], ◌∷◌, ◌++◌, sym, ap, ◌∙◌, subst}
use mathlib.Core.Option.{some, some-ne-none}
use Rattle.std.proofs.Math.Option.{some-injective}
use Rattle.std.proofs.lemmas.List.{append_assoc}
use lib.ListN.{get_elem?}
use Rattle.proto.specs.declared.history.Answered.{Answered}
use Rattle.proto.specs.Sizes.{Sizes}
use Rattle.proto.specs.Cache.{Cache, empty_cache}
use Rattle.proto.specs.Steps.{Step}
use Rattle.proto.specs.History.{Chain, Legal}
use Rattle.engine.specs.Reaching.{last_cache}
use Rattle.engine.proofs.ReachingLemmas.{StepAt}
use Rattle.group.specs.Precedence.{SeesLeft}

-- a list is what stands before one of its elements, this element, and what stands behind it
splits : (xs : List Answered) (i : ℕ) (e : Answered) → get_elem? xs i ≡ some e
    → (before : List Answered) × (after : List Answered) × (xs ≡ before ++ e ∷ after)
splits [] i e h = absurd (some-ne-none e (sym h))
splits (x ∷ xs) zero e h = ([], xs, ap (λ y. y ∷ xs) (some-injective x e h))
splits (x ∷ xs) (suc i) e h = let r = splits xs i e h in (x ∷ r.0, r.1, ap (λ l. x ∷ l) r.2)

-- a chain over two lists is one over each
parts : (IsStep : StepAt) (c : Cache) (xs ys : List Answered) (caches : List Cache) → Chain IsStep c (xs ++ ys) caches
    → (first : List Cache) × (last : List Cache) × Chain IsStep c xs first × Chain IsStep (last_cache c first) ys last
parts IsStep c [] ys caches h = ([], caches, tt, h)
parts IsStep c (x ∷ xs) ys [] h = absurd h
parts IsStep c (x ∷ xs) ys (d ∷ caches) h =
    let r = parts IsStep d xs ys caches h.3 in (d ∷ r.0, r.1, (h.0, h.1, h.2, r.2), r.3)

-- of a legal history an entry sees what one before it left
sees_earlier : (sizes : Sizes) (history before between after : List Answered) (one other : Answered)
    → history ≡ before ++ one ∷ (between ++ other ∷ after) → Legal sizes history → SeesLeft sizes history one other
sees_earlier sizes history before between after one other stands legal =
    let start = empty_cache 0 in
    let chain = subst (λ h. Chain (Step sizes) start h legal.caches) stands legal.chain in
    let a = parts (Step sizes) start before (one ∷ (between ++ other ∷ after)) legal.caches chain in
    let found = last_cache start a.0 in
    let on = subst (λ l. Chain (Step sizes) found (one ∷ l) a.1) (sym (append_assoc between (other ∷ []) after)) a.3 in
    let b = parts (Step sizes) found (one ∷ (between ++ other ∷ [])) after a.1 on in
    (before, between, after, stands, found, b.0, b.2)

-- an entry of the first part of a history comes before one of the second part, which sees what it
-- left
pub later_sees : (sizes : Sizes) (earlier more later : List Answered) (i k : ℕ) (one other : Answered)
    → later ≡ earlier ++ more → get_elem? earlier i ≡ some one → get_elem? more k ≡ some other → Legal sizes later
    → SeesLeft sizes later one other
later_sees sizes earlier more later i k one other joined at behind legal =
    let a = splits earlier i one at in
    let b = splits more k other behind in
    sees_earlier sizes later a.0 (a.1 ++ b.0) b.1 one other
    (joined ∙ ap (λ l. l ++ more) a.2 ∙ append_assoc a.0 (one ∷ a.1) more
    ∙ ap (λ l. a.0 ++ one ∷ (a.1 ++ l)) b.2 ∙ ap (λ l. a.0 ++ one ∷ l) (sym (append_assoc a.1 b.0 (other ∷ b.1)))) legal
