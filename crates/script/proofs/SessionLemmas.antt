-- The table of sessions: places, and what one change makes of it.
use Rattle.std.proofs.Common.{◌≡◌, ◌≢◌, ℕ, zero, suc, ◌+◌, ◌<◌, ◌==◌, true, false, not, cond, eq-eqb, ne_eqb, List}
use Rattle.std.proofs.Common.{[], ◌∷◌, ◌++◌, length, get_or}
use Rattle.std.proofs.Common.{slice_set, refl, sym, ap, subst, ◌∙◌, arith, Some, None, option_map, Result, Ok}
use Rattle.std.proofs.Common.{Err, is_err, OnOk, OnErr, true≢false}
use Rattle.std.proofs.lemmas.List.{get_or_default, get_or-map, length-map, map-append}
use Rattle.std.specs.List.Sorted.{IsStrictlyIncreasing}
use Rattle.std.specs.Prelude.{Contains}
use Rattle.script.specs.declared.sessions.Stage.{Stage}
use Rattle.script.specs.PortSessions.{ScriptSessionState, numbers, newest, last_from, session_entry, is_closed}
use Rattle.script.specs.PortSessions.{is_session_open, is_some_and, with_stage}
use Rattle.script.specs.PortSessions.{with_output, ChangesScriptSession, AcceptsAt}
use Rattle.script.proofs.Positions.{rises, rising_more}

-- ---- rising numbers

-- if the numbers of a table rise, an entry's number isn't that of one before it
apart : (xs : List ScriptSessionState) (i j : ℕ) (d e : ScriptSessionState) → IsStrictlyIncreasing (numbers xs)
    → i < j → j < length xs → (get_or xs i d).number ≢ (get_or xs j e).number
apart xs i j d e rising lt within is =
    let f = λ (x : ScriptSessionState). x.number in
    let less = rises (numbers xs) i j rising lt (omega (arith, length-map xs f)) in
    omega (arith, less, is, get_or-map f xs i d 0 (omega arith), get_or-map f xs j e 0 within)

-- the position of a number is the place of an entry with it
pub placed_at : (l xs : List ScriptSessionState) (s at : ℕ) → l ≡ xs
    → (at < length (numbers l)) × (get_or (numbers l) at 0 ≡ s)
    → (at < length xs) × ((d : ScriptSessionState) → (get_or xs at d).number ≡ s)
placed_at l xs s at same found =
    let f = λ (x : ScriptSessionState). x.number in
    let lt : at < length xs = omega (arith, found.0, length-map l f, ap length same) in
    (lt, λ d. sym (get_or-map f xs at d 0 lt) ∙ ap (λ (m : List ScriptSessionState). get_or (numbers m) at 0) (sym same) ∙ found.1)

-- the entry at a place, if no entry before it has its number
entry_at : (xs : List ScriptSessionState) (i : ℕ) (d : ScriptSessionState)
    → ((j : ℕ) (e : ScriptSessionState) → j < i → (get_or xs j e).number ≢ (get_or xs i d).number) → i < length xs
    → session_entry xs (get_or xs i d).number ≡ Some (get_or xs i d)
entry_at [] i d other lt = absurd (omega arith)
entry_at (x ∷ xs) zero d other lt = ap (λ b. cond b (Some x) (session_entry xs x.number))
    (eq-eqb x.number x.number refl)
entry_at (x ∷ xs) (suc i) d other lt =
    let t = (get_or xs i d).number in
    ap (λ b. cond b (Some x) (session_entry xs t)) (ne_eqb x.number t (other 0 x (omega arith)))
    ∙ entry_at xs i d (λ j e below. other (suc j) e (omega arith)) (omega arith)

-- a number that isn't there has no entry
pub none_at : (xs : List ScriptSessionState) (s : ℕ) → (Contains (numbers xs) s → ⊥) → session_entry xs s ≡ None
none_at [] s none = refl
none_at (x ∷ xs) s none =
    ap (λ b. cond b (Some x) (session_entry xs s)) (ne_eqb x.number s (λ is. none (0, omega arith, is)))
    ∙ none_at xs s (λ there. none (suc there.0, omega (arith, there.1), there.2))

-- ---- one more session

-- one more session after the table leaves the entry of each other number
pub entry_behind : (xs : List ScriptSessionState) (x : ScriptSessionState) (s : ℕ) → x.number ≢ s
    → session_entry (xs ++ x ∷ []) s ≡ session_entry xs s
entry_behind [] x s ne = ap (λ b. cond b (Some x) None) (ne_eqb x.number s ne)
entry_behind (y ∷ xs) x s ne = ap (λ o. cond (y.number == s) (Some y) o) (entry_behind xs x s ne)

-- with one more session after the table its number is the last one
pub newest_more : (n : ℕ) (xs : List ScriptSessionState) (x : ScriptSessionState)
    → last_from n (numbers (xs ++ x ∷ [])) ≡ x.number
newest_more n [] x = refl
newest_more n (y ∷ xs) x = newest_more y.number xs x

-- the last entry's number
pub last_is : (n : ℕ) (xs : List ScriptSessionState) (d : ScriptSessionState) (k : ℕ) → k + 1 ≡ length xs
    → (get_or xs k d).number ≡ last_from n (numbers xs)
last_is n [] d k e = absurd (omega arith)
last_is n (x ∷ []) d zero e = refl
last_is n (x ∷ []) d (suc k) e = absurd (omega arith)
last_is n (x ∷ (y ∷ xs)) d zero e = absurd (omega arith)
last_is n (x ∷ (y ∷ xs)) d (suc k) e = last_is x.number (y ∷ xs) d k (omega arith)

-- with one more session after the table, with a number above the newest, the numbers still rise
pub rises_more : (xs : List ScriptSessionState) (x : ScriptSessionState) → IsStrictlyIncreasing (numbers xs)
    → newest xs < x.number → IsStrictlyIncreasing (numbers (xs ++ x ∷ []))
rises_more xs x rising lt =
    let f = λ (y : ScriptSessionState). y.number in
    rw (map-append f xs (x ∷ [])) (rising_more (numbers xs) x.number rising
    (λ k is. omega (
      arith,
      lt,
      length-map xs f,
      get_or-map f xs k x 0 (omega (arith, length-map xs f)),
      last_is 0 xs x k (omega (arith, length-map xs f)),
    )))

-- ---- one session changes

-- if the entry at a place is replaced by one with the same number, the numbers of the table stay
pub numbers_set : (xs : List ScriptSessionState) (i : ℕ) (y : ScriptSessionState) → i < length xs
    → ((d : ScriptSessionState) → (get_or xs i d).number ≡ y.number) → numbers (slice_set xs i y) ≡ numbers xs
numbers_set [] i y lt e = absurd (omega arith)
numbers_set (x ∷ xs) zero y lt e = λ j. sym (e x) j ∷ numbers xs
numbers_set (x ∷ xs) (suc i) y lt e = ap (λ l. x.number ∷ l) (numbers_set xs i y (omega arith) (λ d. e d))

-- an entry that replaces one with the same number is found under this number, if no entry before it
-- has the number
set_here : (xs : List ScriptSessionState) (i : ℕ) (y : ScriptSessionState)
    → ((j : ℕ) (e : ScriptSessionState) → j < i → (get_or xs j e).number ≢ y.number) → i < length xs
    → session_entry (slice_set xs i y) y.number ≡ Some y
set_here [] i y other lt = absurd (omega arith)
set_here (x ∷ xs) zero y other lt = ap (λ b. cond b (Some y) (session_entry xs y.number))
    (eq-eqb y.number y.number refl)
set_here (x ∷ xs) (suc i) y other lt =
    ap (λ b. cond b (Some x) (session_entry (slice_set xs i y) y.number))
    (ne_eqb x.number y.number (other 0 x (omega arith)))
    ∙ set_here xs i y (λ j e below. other (suc j) e (omega arith)) (omega arith)

-- if the entry at a place is replaced by one with the same number, each other number is found as
-- before
pub set_other : (xs : List ScriptSessionState) (i : ℕ) (y : ScriptSessionState) (t : ℕ) → i < length xs
    → ((d : ScriptSessionState) → (get_or xs i d).number ≡ y.number) → t ≢ y.number
    → session_entry (slice_set xs i y) t ≡ session_entry xs t
set_other [] i y t lt e ne = absurd (omega arith)
set_other (x ∷ xs) zero y t lt e ne =
    let apart : y.number ≢ t = λ q. ne (sym q) in let was : x.number ≢ t = λ q. ne (sym q ∙ e x) in
    ap (λ b. cond b (Some y) (session_entry xs t)) (ne_eqb y.number t apart)
    ∙ sym (ap (λ b. cond b (Some x) (session_entry xs t)) (ne_eqb x.number t was))
set_other (x ∷ xs) (suc i) y t lt e ne =
    ap (λ o. cond (x.number == t) (Some x) o) (set_other xs i y t (omega arith) (λ d. e d) ne)

-- ---- at a place that was found

-- a session whose entry isn't closed is open
pub open_when : (xs : List ScriptSessionState) (s : ℕ) (x : ScriptSessionState) → session_entry xs s ≡ Some x
    → is_closed x.stage ≡ false → is_session_open xs s ≡ true
open_when xs s x e active = ap (is_some_and (λ (y : ScriptSessionState). not (is_closed y.stage))) e ∙ ap not active

-- a session whose entry is closed isn't open
pub closed_when : (xs : List ScriptSessionState) (s : ℕ) (x : ScriptSessionState) → session_entry xs s ≡ Some x
    → is_closed x.stage ≡ true
    → is_session_open xs s ≡ false
closed_when xs s x e closed = ap (is_some_and (λ (y : ScriptSessionState). not (is_closed y.stage))) e ∙ ap not closed

-- if a session's number stands at a place of rising numbers, its entry is the one at this place
pub placed : (xs : List ScriptSessionState) (s at : ℕ) (d : ScriptSessionState) → IsStrictlyIncreasing (numbers xs)
    → at < length xs
    → ((e : ScriptSessionState) → (get_or xs at e).number ≡ s) → session_entry xs s ≡ Some (get_or xs at d)
placed xs s at d h lt is = ap (session_entry xs) (sym (is d))
    ∙ entry_at xs at d (λ j e below. apart xs j at e d h below lt) lt

-- what was read at a session's place is the session's entry
pub placed_as : (xs : List ScriptSessionState) (s at : ℕ) (x : ScriptSessionState) → IsStrictlyIncreasing (numbers xs)
    → at < length xs
    → ((e : ScriptSessionState) → (get_or xs at e).number ≡ s) → x ≡ get_or xs at x → session_entry xs s ≡ Some x
placed_as xs s at x h lt is x_is = placed xs s at x h lt is ∙ ap (λ (y : ScriptSessionState). Some y) (sym x_is)

-- if the entry at a place is replaced by one with the same number, the numbers still rise
pub rises_set : (xs : List ScriptSessionState) (s at : ℕ) (y : ScriptSessionState) → IsStrictlyIncreasing (numbers xs)
    → at < length xs
    → ((e : ScriptSessionState) → (get_or xs at e).number ≡ s) → y.number ≡ s
    → IsStrictlyIncreasing (numbers (slice_set xs at y))
rises_set xs s at y h lt is y_is = subst IsStrictlyIncreasing (sym (numbers_set xs at y lt (λ d. is d ∙ sym y_is))) h

-- if the entry at a session's place is replaced by what a change makes of it, the session changes
-- so, and the others stay
changed : (xs : List ScriptSessionState) (s at : ℕ) (f : ScriptSessionState → ScriptSessionState)
    (x : ScriptSessionState) → IsStrictlyIncreasing (numbers xs)
    → at < length xs → ((e : ScriptSessionState) → (get_or xs at e).number ≡ s) → x ≡ get_or xs at x → (f x).number ≡ s
    → ChangesScriptSession xs s f (slice_set xs at (f x))
changed xs s at f x h lt is x_is y_is =
    let y = f x in
    let old : session_entry xs s ≡ Some x = placed_as xs s at x h lt is x_is in record {
      numbers_are = numbers_set xs at y lt (λ d. is d ∙ sym y_is);
      here = ap (session_entry (slice_set xs at y)) (sym y_is) ∙ set_here xs at y
          (λ j e below same. apart xs j at e x h below lt (same ∙ y_is ∙ sym (is x))) lt
          ∙ sym (ap (option_map f) old);
      others = λ t ne. set_other xs at y t lt (λ d. is d ∙ sym y_is) (λ e. ne (e ∙ y_is));
    }

-- if the entry at a session's place gets another stage, the session changes so, and the others stay
pub stage_changed : (xs : List ScriptSessionState) (s at : ℕ) (stage : Stage) (x : ScriptSessionState)
    → IsStrictlyIncreasing (numbers xs)
    → at < length xs → ((e : ScriptSessionState) → (get_or xs at e).number ≡ s) → x ≡ get_or xs at x
    → ChangesScriptSession xs s (with_stage stage) (slice_set xs at (with_stage stage x))
stage_changed xs s at stage x h lt is x_is =
    changed xs s at (with_stage stage) x h lt is x_is (ap (λ (z : ScriptSessionState). z.number) x_is ∙ is x)

-- if the entry at an open session's place gets bytes after its output, the session accepts them,
-- and the others stay
pub output_added : (xs : List ScriptSessionState) (s at : ℕ) (bytes : List ℕ) (x : ScriptSessionState)
    → IsStrictlyIncreasing (numbers xs)
    → at < length xs → ((e : ScriptSessionState) → (get_or xs at e).number ≡ s) → x ≡ get_or xs at x
    → is_closed x.stage ≡ false
    → AcceptsAt xs s bytes (slice_set xs at (with_output bytes x))
output_added xs s at bytes x h lt is x_is active = record {
  was_open = open_when xs s x (placed_as xs s at x h lt is x_is) active;
  at = changed xs s at (with_output bytes) x h lt is x_is (ap (λ (z : ScriptSessionState). z.number) x_is ∙ is x);
}

-- two entries that were read at the same place are equal
pub same_item : (xs : List ScriptSessionState) (at : ℕ) (x y : ScriptSessionState) → at < length xs → x ≡ get_or xs at x
    → y ≡ get_or xs at y → y ≡ x
same_item xs at x y lt x_is y_is = y_is ∙ get_or_default xs at y x lt ∙ sym x_is

-- what follows from what holds on success holds on success
pub on_ok : {A E : Type 0} (P Q : Type 0) (r : Result A E) → (P → Q) → OnOk r P → OnOk r Q
on_ok P Q (Ok a) f h = f h
on_ok P Q (Err e) f h = h

-- what follows both from what holds on success and from what holds on failure holds
pub either_result : {A E : Type 0} (P P' Q : Type 0) (r : Result A E) → OnOk r P → OnErr r P' → (P → Q) → (P' → Q) → Q
either_result P P' Q (Ok a) h k f g = f h
either_result P P' Q (Err e) h k f g = g k

-- what holds on success holds where the result isn't an error
pub ok_of : {A E : Type 0} (P : Type 0) (r : Result A E) → is_err r ≡ false → OnOk r P → P
ok_of P (Ok a) e h = h
ok_of P (Err x) e h = absurd (true≢false e)
