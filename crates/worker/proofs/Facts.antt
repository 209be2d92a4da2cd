-- How the requests and the replies of a session grow with the lists that they are read from.
use Rattle.std.proofs.Common.{◌≡◌, ◌≢◌, ◌==◌, ℕ, Bool, true, false, cond, eq-eqb, ne_eqb}
use Rattle.std.proofs.Common.{List, [], ◌∷◌, ◌++◌, map, refl, ap, ◌∙◌, append-nil}
use Rattle.std.specs.List.{filter}
use Rattle.std.proofs.lemmas.List.{map-append}
use Rattle.std.proofs.lemmas.List.Elements.{filter-append}
use Rattle.proto.specs.declared.history.Posted.{Posted}
use Rattle.proto.specs.declared.history.Answered.{Answered}
use Rattle.worker.specs.Sessions.{asked_by, had_by}

-- Lists of which entries belong to sessions, and of each one part is read: posts with their
-- requests, answers with their replies.
module _ {E R : Type 0} (session : E → ℕ) (part : E → R) where
  abbrev parts : List E → ℕ → List R
  parts l s = map part (filter (λ (e : E). session e == s) l)

  -- the parts of an entry that is taken under a test are its one part, taken under the same test
  part_if : (c : Bool) (e : E) → map part (cond c (e ∷ []) []) ≡ cond c (part e ∷ []) []
  part_if true e = refl
  part_if false e = refl

  -- one more entry adds its part to those of a session if it is that session's, and else nothing
  parts_more : (l : List E) (e : E) (s : ℕ) → parts (l ++ e ∷ []) s ≡ parts l s ++ cond (session e == s) (part e ∷ []) []
  parts_more l e s =
      ap (map part) (filter-append (λ (e : E). session e == s) l (e ∷ []))
      ∙ map-append part (filter (λ (e : E). session e == s) l) (cond (session e == s) (e ∷ []) [])
      ∙ ap (λ k. parts l s ++ k) (part_if (session e == s) e)

  parts_here : (l : List E) (e : E) (s : ℕ) → session e ≡ s → parts (l ++ e ∷ []) s ≡ parts l s ++ part e ∷ []
  parts_here l e s is = parts_more l e s ∙ ap (λ c. parts l s ++ cond c (part e ∷ []) []) (eq-eqb (session e) s is)

  parts_elsewhere : (l : List E) (e : E) (s : ℕ) → session e ≢ s → parts (l ++ e ∷ []) s ≡ parts l s
  parts_elsewhere l e s ne = parts_more l e s
      ∙ ap (λ c. parts l s ++ cond c (part e ∷ []) []) (ne_eqb (session e) s ne) ∙ append-nil (parts l s)

-- one more post of a session adds its request after the session's others, and to those of another
-- session nothing
pub asked_here : (l : List Posted) (p : Posted) (s : ℕ) → p.session ≡ s
    → asked_by (l ++ p ∷ []) s ≡ asked_by l s ++ p.request ∷ []
asked_here = parts_here (λ (p : Posted). p.session) (λ (p : Posted). p.request)

pub asked_elsewhere : (l : List Posted) (p : Posted) (s : ℕ) → p.session ≢ s → asked_by (l ++ p ∷ []) s ≡ asked_by l s
asked_elsewhere = parts_elsewhere (λ (p : Posted). p.session) (λ (p : Posted). p.request)

-- and so an answer with its reply
pub had_here : (l : List Answered) (a : Answered) (s : ℕ) → a.session ≡ s
    → had_by (l ++ a ∷ []) s ≡ had_by l s ++ a.reply ∷ []
had_here = parts_here (λ (a : Answered). a.session) (λ (a : Answered). a.reply)

pub had_elsewhere : (l : List Answered) (a : Answered) (s : ℕ) → a.session ≢ s → had_by (l ++ a ∷ []) s ≡ had_by l s
had_elsewhere = parts_elsewhere (λ (a : Answered). a.session) (λ (a : Answered). a.reply)
