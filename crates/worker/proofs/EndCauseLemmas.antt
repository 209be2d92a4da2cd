-- What a cause written at its entry makes of the report.
use Rattle.std.proofs.Common.{◌≡◌, ◌≢◌, ℕ, zero, suc, ◌<◌, ◌==◌, cond, eq-eqb, ne_eqb}
use Rattle.std.proofs.Common.{List, [], ◌∷◌, ◌++◌, length, map, refl, sym}
use Rattle.std.specs.Prelude.{◌+◌, slice_index}
use Rattle.std.specs.List.Sorted.{IsStrictlyIncreasing}
use Rattle.std.proofs.Common.{ap, subst, ◌∙◌, arith, Some, None}
use Rattle.session_book.specs.declared.causes.EndCause.{EndCause}
use Rattle.worker.specs.Sessions.{cause_of}
use Rattle.worker.specs.EndCauses.{CausesRiseFrom, with_cause}
use Rattle.proto.proofs.CountLemmas.{either_way}

-- the report: the numbers of sessions, each with its cause
abbrev Report : Type 0
Report = List (ℕ × EndCause)

-- ---- writing a cause

-- writing a session's cause leaves the entry of another session
kept_apart : (e : ℕ × EndCause) (s : ℕ) (c : EndCause) → e.0 ≢ s → cond (e.0 == s) (s, c) e ≡ e
kept_apart e s c ne = ap (λ b. cond b (s, c) e) (ne_eqb e.0 s ne)

-- writing a session's cause puts it at the session's own entry
written : (e : ℕ × EndCause) (s : ℕ) (c : EndCause) → e.0 ≡ s → cond (e.0 == s) (s, c) e ≡ (s, c)
written e s c e_is = ap (λ b. cond b (s, c) e) (eq-eqb e.0 s e_is)

-- ---- the causes afterwards

-- writing the cause of one session leaves the cause of another
pub cause_apart : (xs : Report) (s t : ℕ) (c : EndCause) → t ≢ s → cause_of (with_cause xs t c) s ≡ cause_of xs s
cause_apart [] s t c ne = refl
cause_apart (x ∷ xs) s t c ne =
    let below = cause_apart xs s t c ne in
    either_way x.0 t
    (λ (e : x.0 ≡ t).
    let x_ne : x.0 ≢ s = λ q. ne (sym e ∙ q) in
    ap (λ (y : ℕ × EndCause). cond (y.0 == s) (Some y.1) (cause_of (with_cause xs t c) s)) (written x t c e)
    ∙ ap (λ b. cond b (Some c) (cause_of (with_cause xs t c) s)) (ne_eqb t s ne) ∙ below
    ∙ sym (ap (λ b. cond b (Some x.1) (cause_of xs s)) (ne_eqb x.0 s x_ne)))
    (λ (apart : x.0 ≢ t).
    ap (λ (y : ℕ × EndCause). cond (y.0 == s) (Some y.1) (cause_of (with_cause xs t c) s)) (kept_apart x t c apart)
    ∙ ap (λ k. cond (x.0 == s) (Some x.1) k) below)

-- a session that has an entry in the report has the cause that was written for it
pub cause_here : (xs : Report) (s : ℕ) (c old : EndCause) → cause_of xs s ≡ Some old
    → cause_of (with_cause xs s c) s ≡ Some c
cause_here [] s c old e = absurd (cc)
cause_here (x ∷ xs) s c old e =
    either_way x.0 s
    (λ (q : x.0 ≡ s).
    ap (λ (y : ℕ × EndCause). cond (y.0 == s) (Some y.1) (cause_of (with_cause xs s c) s)) (written x s c q)
    ∙ ap (λ b. cond b (Some c) (cause_of (with_cause xs s c) s)) (eq-eqb s s refl))
    (λ (ne : x.0 ≢ s).
    ap (λ (y : ℕ × EndCause). cond (y.0 == s) (Some y.1) (cause_of (with_cause xs s c) s)) (kept_apart x s c ne)
    ∙ ap (λ b. cond b (Some x.1) (cause_of (with_cause xs s c) s)) (ne_eqb x.0 s ne)
    ∙ cause_here xs s c old (sym (ap (λ b. cond b (Some x.1) (cause_of xs s)) (ne_eqb x.0 s ne)) ∙ e))

-- writing a cause leaves an entry's number
number_stays : (e : ℕ × EndCause) (s : ℕ) (c : EndCause) → (cond (e.0 == s) (s, c) e).0 ≡ e.0
number_stays e s c =
    either_way e.0 s (λ (q : e.0 ≡ s). ap (λ (y : ℕ × EndCause). y.0) (written e s c q) ∙ sym q)
    (λ (ne : e.0 ≢ s). ap (λ (y : ℕ × EndCause). y.0) (kept_apart e s c ne))

-- numbers that rise from one above n do so after a cause is written
with_rises : (n : ℕ) (xs : Report) (s : ℕ) (c : EndCause) → CausesRiseFrom n xs → CausesRiseFrom n (with_cause xs s c)
with_rises n [] s c h = tt
with_rises n (x ∷ xs) s c h = let same = number_stays x s c in (
  subst (λ k. n < k) (sym same) h.0,
  subst (λ k. CausesRiseFrom k (with_cause xs s c)) (sym same) (with_rises x.0 xs s c h.1),
)

-- the numbers of a report rise after a cause is written, if they rose before
pub rises_with : (xs : Report) (s : ℕ) (c : EndCause) → CausesRiseFrom 0 xs → CausesRiseFrom 0 (with_cause xs s c)
rises_with xs s c h = with_rises 0 xs s c h

-- the item after the first one is that of the rest
index_after : (n : ℕ) (l : List ℕ) (k j : ℕ) → j ≡ suc k → slice_index (n ∷ l) j ≡ slice_index l k
index_after n l k j is = ap (slice_index (n ∷ l)) is

-- numbers that rise from one above n are strictly increasing, with n before them
pub rises_strictly : (n : ℕ) (xs : Report) → CausesRiseFrom n xs
    → IsStrictlyIncreasing (n ∷ map (λ (e : ℕ × EndCause). e.0) xs)
rises_strictly n [] h k low = absurd (omega (arith, low))
rises_strictly n (x ∷ xs) h zero low = h.0
rises_strictly n (x ∷ xs) h (suc k) low =
    let l : List ℕ = map (λ (e : ℕ × EndCause). e.0) (x ∷ xs) in
    subst (λ (z : ℕ × ℕ). z.0 < z.1)
    (λ i. (sym (index_after n l k (suc k) refl) i, sym (index_after n l (k + 1) (suc k + 1) (omega arith)) i))
    (rises_strictly x.0 xs h.1 k (omega (arith, low)))

-- writing a cause leaves the number of entries
pub length-with : (xs : Report) (s : ℕ) (c : EndCause) → length (with_cause xs s c) ≡ length xs
length-with [] s c = refl
length-with (x ∷ xs) s c = let h = length-with xs s c in omega arith

-- an entry at the end
pub cause_more : (xs : Report) (s t : ℕ) (c : EndCause) → t ≢ s → cause_of (xs ++ (t, c) ∷ []) s ≡ cause_of xs s
cause_more [] s t c ne = ap (λ b. cond b (Some c) None) (ne_eqb t s ne)
cause_more (x ∷ xs) s t c ne = ap (λ k. cond (x.0 == s) (Some x.1) k) (cause_more xs s t c ne)

-- a session that had no entry has the cause of its new entry at the end
pub cause_new : (xs : Report) (s : ℕ) (c : EndCause) → cause_of xs s ≡ None → cause_of (xs ++ (s, c) ∷ []) s ≡ Some c
cause_new [] s c e = ap (λ b. cond b (Some c) None) (eq-eqb s s refl)
cause_new (x ∷ xs) s c e =
    either_way x.0 s
    (λ (q : x.0 ≡ s). let bad : Some x.1 ≡ None = sym (ap (λ b. cond b (Some x.1) (cause_of xs s)) (eq-eqb x.0 s q))
    ∙ e in absurd (cc))
    (λ (ne : x.0 ≢ s).
    ap (λ b. cond b (Some x.1) (cause_of (xs ++ (s, c) ∷ []) s)) (ne_eqb x.0 s ne)
    ∙ cause_new xs s c (sym (ap (λ b. cond b (Some x.1) (cause_of xs s)) (ne_eqb x.0 s ne)) ∙ e))

-- numbers that rise from one above n do so with one more at the end that is above n and above them
-- all
more_from : (n : ℕ) (xs : Report) (t : ℕ) (c : EndCause) → CausesRiseFrom n xs → n < t
    → ((s : ℕ) (d : EndCause) → cause_of xs s ≡ Some d → s < t)
    → CausesRiseFrom n (xs ++ (t, c) ∷ [])
more_from n [] t c h lt below = (lt, tt)
more_from n (x ∷ xs) t c h lt below = (
  h.0,
  more_from x.0 xs t c h.1 (below x.0 x.1 (ap (λ b. cond b (Some x.1) (cause_of xs x.0)) (eq-eqb x.0 x.0 refl)))
      (λ s d e.
      either_way x.0 s (λ (q : x.0 ≡ s). subst (λ k. k < t) q
      (below x.0 x.1 (ap (λ b. cond b (Some x.1) (cause_of xs x.0)) (eq-eqb x.0 x.0 refl))))
      (λ (ne : x.0 ≢ s). below s d (ap (λ b. cond b (Some x.1) (cause_of xs s)) (ne_eqb x.0 s ne) ∙ e))),
)

-- the numbers of a report rise with one more at the end that is above 0 and above them all
pub rises_more : (xs : Report) (t : ℕ) (c : EndCause) → CausesRiseFrom 0 xs → 0 < t
    → ((s : ℕ) (d : EndCause) → cause_of xs s ≡ Some d → s < t) → CausesRiseFrom 0 (xs ++ (t, c) ∷ [])
rises_more xs t c h lt below = more_from 0 xs t c h lt below
