-- The events that are left, and which may come.
use Rattle.std.proofs.Common.{◌≡◌, ◌≢◌, ℕ, zero, suc, ◌<◌, ◌≤◌, nat_lt, Bool, true, false, true≢false, not, ◌&&◌, cond}
use Rattle.std.proofs.Common.{eq-eqb, ne_eqb, List, [], ◌∷◌}
use Rattle.std.proofs.Common.{◌++◌, length, get_or, take, append-nil, append_assoc, refl, sym, ap, subst, ◌∙◌, arith}
use Rattle.std.proofs.lemmas.Bool.Decides.{nat_tests}
use Rattle.std.specs.List.{AllByRecursion}
use Rattle.script.specs.declared.event.ScriptEvent.{ScriptEvent}
use Rattle.script.specs.declared.event.ScriptEvent.TheVariants.{Open, Send, Gone}
use Rattle.script.specs.Events.{newest_after, newest_of, open_after, is_open_in_script, MayFollow, IsPlayable}
use Rattle.script.proofs.TrackLemmas.{newest_more, open_more}
use Rattle.script.specs.PortEvents.{event_session, events_without, may_follow, plays_from, is_playable}
use Rattle.proto.proofs.CountLemmas.{either_way}

-- if two tests both pass, the first one passes
pub and_left : (a b : Bool) → (a && b) ≡ true → a ≡ true
and_left true b e = refl
and_left false b e = absurd (true≢false (sym e))

-- if two tests both pass, the second one passes
pub and_right : (a b : Bool) → (a && b) ≡ true → b ≡ true
and_right true b e = e
and_right false b e = absurd (true≢false (sym e))

-- if each of two tests passes, both pass together
pub and_both : (a b : Bool) → a ≡ true → b ≡ true → (a && b) ≡ true
and_both a b p q = ap (λ x. x && b) p ∙ q

-- if the test for less says yes, the first number is below the second
pub lt_true : (a b : ℕ) → nat_lt a b ≡ true → a < b
lt_true a b e = grind (arith, nat_tests)

-- if the first number is below the second, the test for less says yes
pub true_lt : (a b : ℕ) → a < b → nat_lt a b ≡ true
true_lt a b e = grind (arith, nat_tests)

-- if the first number isn't below the second, the test for less says no
pub false_lt : (a b : ℕ) → b ≤ a → nat_lt a b ≡ false
false_lt a b e = grind (arith, nat_tests)

-- if the test for less says no, the first number isn't below the second
pub lt_false : (a b : ℕ) → nat_lt a b ≡ false → b ≤ a
lt_false a b e = grind (arith, nat_tests)

-- ---- which may come

-- what holds if a test says yes, and holds if it says no, holds
pub bool_cases : {A : Type 0} (b : Bool) → (b ≡ true → A) → (b ≡ false → A) → A
bool_cases true f g = f refl
bool_cases false f g = g refl

-- only what is said of the sessions matters
pub plays_same : (n : ℕ) (o o' : ℕ → Bool) (xs : List ScriptEvent) → ((t : ℕ) → o t ≡ o' t)
    → plays_from n o xs ≡ plays_from n o' xs
plays_same n o o' xs e = ap (λ (f : ℕ → Bool). plays_from n f xs) (λ i t. e t i)

-- what an event makes of another session, and of its own
pub after_other : (e : ScriptEvent) (t : ℕ) (b : Bool) → event_session e ≢ t → open_after t b e ≡ b
after_other (Open s) t b ne = ap (λ c. cond c true b) (ne_eqb s t ne)
after_other (Send s bytes) t b ne = refl
after_other (Gone s) t b ne = ap (λ c. cond c false b) (ne_eqb s t ne)

-- a session isn't the event's, and isn't above the newest
pub record IsApart (n : ℕ) (e : ScriptEvent) (x : ScriptEvent) : Type 0 where
  pub old : event_session x ≤ n
  pub other : event_session x ≢ event_session e

-- taken out from behind events of other sessions, an event may come, and the others still may
pub record TakenOut (n : ℕ) (o : ℕ → Bool) (e : ScriptEvent) (rest : List ScriptEvent) : Type 0 where
  pub may : may_follow n o e ≡ true
  pub rest_plays : plays_from (newest_after n e) (λ t. open_after t (o t) e) rest ≡ true

-- where two accounts of the open sessions agree on an event's session, they agree on whether the
-- event may come
may_same : (n : ℕ) (o o' : ℕ → Bool) (e : ScriptEvent) → o (event_session e) ≡ o' (event_session e)
    → may_follow n o e ≡ may_follow n o' e
may_same n o o' (Open s) h = refl
may_same n o o' (Send s bytes) h = h
may_same n o o' (Gone s) h = h

-- what two events of different sessions make of the sessions, in either order
swapped : (e x : ScriptEvent) (t : ℕ) (b : Bool) → event_session x ≢ event_session e
    → open_after t (open_after t b x) e ≡ open_after t (open_after t b e) x
swapped e x t b ne =
    either_way (event_session e) t
    (λ eq.
    let apart : event_session x ≢ t = λ q. ne (q ∙ sym eq) in
    ap (λ c. open_after t c e) (after_other x t b apart) ∙ sym (after_other x t (open_after t b e) apart))
    (λ other. after_other e t (open_after t b x) other ∙ ap (λ c. open_after t c x) (sym (after_other e t b other)))

-- an event may be played ahead of those in front of it, if they are of other sessions, of none
-- above the newest
pub take_out : (n : ℕ) (o : ℕ → Bool) (xs : List ScriptEvent) (e : ScriptEvent) (ys : List ScriptEvent)
    → AllByRecursion (IsApart n e) xs → plays_from n o (xs ++ e ∷ ys) ≡ true → TakenOut n o e (xs ++ ys)
take_out n o [] e ys apart h = record {
  may = and_left (may_follow n o e)
      (plays_from (newest_after n e) (λ t. open_after t (o t) e) ys) h;
  rest_plays = and_right (may_follow n o e)
      (plays_from (newest_after n e) (λ t. open_after t (o t) e) ys) h;
}
take_out n o (Open s ∷ xs) e ys apart h =
    let may : nat_lt n s ≡ true = and_left (nat_lt n s)
    (plays_from s (λ t. open_after t (o t) (Open s)) (xs ++ e ∷ ys)) h in
    let lt = lt_true n s may in absurd (omega (arith, lt, apart.0.old))
take_out n o (Send s bytes ∷ xs) e ys apart h =
    let may : o s ≡ true = and_left (o s) (plays_from n o (xs ++ e ∷ ys)) h in
    let r = take_out n o xs e ys apart.1 (and_right (o s) (plays_from n o (xs ++ e ∷ ys)) h) in
    record {
      may = r.may;
      rest_plays = and_both (open_after s (o s) e)
          (plays_from (newest_after n e) (λ t. open_after t (o t) e) (xs ++ ys))
          (after_other e s (o s) (λ q. apart.0.other (sym q)) ∙ may) r.rest_plays;
    }
take_out n o (Gone s ∷ xs) e ys apart h =
    let x = Gone s in
    let o1 : ℕ → Bool = λ t. open_after t (o t) x in
    let may : o s ≡ true = and_left (o s) (plays_from n o1 (xs ++ e ∷ ys)) h in
    let r = take_out n o1 xs e ys apart.1 (and_right (o s) (plays_from n o1 (xs ++ e ∷ ys)) h) in
    let m = newest_after n e in
    record {
      may = sym (may_same n o1 o e (after_other x (event_session e) (o (event_session e)) apart.0.other)) ∙ r.may;
      rest_plays = and_both (open_after s (o s) e)
          (plays_from m (λ t. open_after t (open_after t (o t) e) x) (xs ++ ys))
          (after_other e s (o s) (λ q. apart.0.other (sym q)) ∙ may)
          (sym (plays_same m (λ t. open_after t (o1 t) e) (λ t. open_after t (open_after t (o t) e) x) (xs ++ ys)
          (λ t. swapped e x t (o t) apart.0.other)) ∙ r.rest_plays);
    }

-- another send may stand in place of one
pub send_again : (n : ℕ) (o : ℕ → Bool) (xs : List ScriptEvent) (s : ℕ) (b b' : List ℕ) (ys : List ScriptEvent)
    → plays_from n o (xs ++ Send s b ∷ ys) ≡ plays_from n o (xs ++ Send s b' ∷ ys)
send_again n o [] s b b' ys = refl
send_again n o (x ∷ xs) s b b' ys = ap (λ c. may_follow n o x && c)
    (send_again (newest_after n x) (λ t. open_after t (o t) x) xs s b b' ys)

-- a session that isn't above the newest still isn't after an event that may come
still_old : (n : ℕ) (o : ℕ → Bool) (x : ScriptEvent) (s : ℕ) → s ≤ n → may_follow n o x ≡ true → s ≤ newest_after n x
still_old n o (Open t) s le may = let lt = lt_true n t may in omega (arith, lt)
still_old n o (Send t bytes) s le may = le
still_old n o (Gone t) s le may = le

-- the session's own event leaves the others as they are
own_event : (n : ℕ) (o o' : ℕ → Bool) (s : ℕ) (x : ScriptEvent) → ((t : ℕ) → t ≢ s → o' t ≡ o t) → event_session x ≡ s
    → (t : ℕ)
    → t ≢ s → o' t ≡ open_after t (o t) x
own_event n o o' s x same eq t apart = same t apart ∙ sym (after_other x t (o t) (λ q. apart (sym q ∙ eq)))

-- an open session's own event opens no newer one
own_newest : (n : ℕ) (o : ℕ → Bool) (s : ℕ) (x : ScriptEvent) → s ≤ n → event_session x ≡ s → may_follow n o x ≡ true
    → newest_after n x ≡ n
own_newest n o s (Open t) le eq may = let lt = lt_true n t may in absurd (omega (arith, lt, eq))
own_newest n o s (Send t bytes) le eq may = refl
own_newest n o s (Gone t) le eq may = refl

-- without the events of a session, the others still may come
pub leave_out : (n : ℕ) (o o' : ℕ → Bool) (s : ℕ) (xs : List ScriptEvent) → s ≤ n → ((t : ℕ) → t ≢ s → o' t ≡ o t)
    → plays_from n o xs ≡ true → plays_from n o' (events_without s xs) ≡ true
leave_out n o o' s [] le same h = refl
leave_out n o o' s (x ∷ xs) le same h =
    let o1 : ℕ → Bool = λ t. open_after t (o t) x in
    let may = and_left (may_follow n o x) (plays_from (newest_after n x) o1 xs) h in
    let rest = and_right (may_follow n o x) (plays_from (newest_after n x) o1 xs) h in
    either_way (event_session x) s
    (λ eq.
    ap (λ c. plays_from n o' (cond (not c) (x ∷ events_without s xs) (events_without s xs)))
    (eq-eqb (event_session x) s eq)
    ∙ leave_out n o1 o' s xs le (own_event n o o' s x same eq)
    (ap (λ (m : ℕ). plays_from m o1 xs) (sym (own_newest n o s x le eq may)) ∙ rest))
    (λ ne.
    ap (λ c. plays_from n o' (cond (not c) (x ∷ events_without s xs) (events_without s xs)))
    (ne_eqb (event_session x) s ne)
    ∙ and_both (may_follow n o' x) (plays_from (newest_after n x) (λ t. open_after t (o' t) x) (events_without s xs))
    (may_same n o' o x (same (event_session x) ne) ∙ may)
    (leave_out (newest_after n x) o1 (λ t. open_after t (o' t) x) s xs (still_old n o x s le may)
    (λ t apart. ap (λ b. open_after t b x) (same t apart)) rest))

-- ---- what a playable script is

-- an event that the test allows after those before it may follow them
may_come : (before : List ScriptEvent) (x : ScriptEvent)
    → may_follow (newest_of before) (is_open_in_script before) x ≡ true → MayFollow before x
may_come before (Open s) h = lt_true (newest_of before) s h
may_come before (Send s bytes) h = h
may_come before (Gone s) h = h

-- an event that may follow those before it is allowed by the test after them
may_go : (before : List ScriptEvent) (x : ScriptEvent) → MayFollow before x
    → may_follow (newest_of before) (is_open_in_script before) x ≡ true
may_go before (Open s) h = true_lt (newest_of before) s h
may_go before (Send s bytes) h = h
may_go before (Gone s) h = h

-- what may come after one more event is what may come after the list with that event at its end
after_one : (before : List ScriptEvent) (x : ScriptEvent) (xs : List ScriptEvent)
    → plays_from (newest_after (newest_of before) x) (λ t. open_after t (is_open_in_script before t) x) xs ≡ plays_from
    (newest_of (before ++ x ∷ [])) (is_open_in_script (before ++ x ∷ [])) xs
after_one before x xs = λ i. plays_from (sym (newest_more before x) i) (λ t. sym (open_more before x t) i) xs

-- if the test allows a list behind other events, each event of it may follow all those before it
come_each : (before xs : List ScriptEvent) → plays_from (newest_of before) (is_open_in_script before) xs ≡ true
    → (k : ℕ) (d : ScriptEvent)
    → k < length xs → MayFollow (before ++ take k xs) (get_or xs k d)
come_each before [] h k d lt = absurd (omega arith)
come_each before (x ∷ xs) h zero d lt = subst (λ (l : List ScriptEvent). MayFollow l x) (sym (append-nil before))
    (may_come before x
    (and_left (may_follow (newest_of before) (is_open_in_script before) x)
    (plays_from (newest_after (newest_of before) x) (λ t. open_after t (is_open_in_script before t) x) xs) h))
come_each before (x ∷ xs) h (suc k) d lt =
    let rest = and_right (may_follow (newest_of before) (is_open_in_script before) x)
    (plays_from (newest_after (newest_of before) x) (λ t. open_after t (is_open_in_script before t) x) xs) h in
    subst (λ (l : List ScriptEvent). MayFollow l (get_or xs k d)) (append_assoc before (x ∷ []) (take k xs))
    (come_each (before ++ x ∷ []) xs (sym (after_one before x xs) ∙ rest) k d (omega arith))

-- if each event of a list may follow all those before it, the test allows the list after them
go_each : (before xs : List ScriptEvent)
    → ((k : ℕ) (d : ScriptEvent) → k < length xs → MayFollow (before ++ take k xs) (get_or xs k d))
    → plays_from (newest_of before) (is_open_in_script before) xs ≡ true
go_each before [] h = refl
go_each before (x ∷ xs) h =
    and_both (may_follow (newest_of before) (is_open_in_script before) x)
    (plays_from (newest_after (newest_of before) x) (λ t. open_after t (is_open_in_script before t) x) xs)
    (may_go before x (subst (λ (l : List ScriptEvent). MayFollow l x) (append-nil before) (h 0 x (omega arith))))
    (after_one before x xs
    ∙ go_each (before ++ x ∷ []) xs
    (λ k d lt. subst (λ (l : List ScriptEvent). MayFollow l (get_or xs k d))
    (sym (append_assoc before (x ∷ []) (take k xs)))
    (h (suc k) d (omega arith))))

-- in a script that passes the test for playable ones, each event may follow those before it
pub plays_each : (xs : List ScriptEvent) → is_playable xs ≡ true → IsPlayable xs
plays_each xs h = come_each [] xs h

-- a script in which each event may follow those before it passes the test for playable ones
pub each_plays : (xs : List ScriptEvent) → IsPlayable xs → is_playable xs ≡ true
each_plays xs h = go_each [] xs h
