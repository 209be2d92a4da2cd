-- What one step of a port leaves consistent.
use Rattle.std.proofs.Common.{zero, suc, take, drop, append_assoc}
use Rattle.std.proofs.Common.{◌≡◌, ◌≢◌, ℕ, ◌≤◌, ◌==◌, arith, Bool, true, false, true≢false, not, ◌&&◌, ◌||◌, cond}
use Rattle.std.proofs.Common.{eq-eqb, ne_eqb, List, [], ◌∷◌, ◌++◌, refl}
use Rattle.std.proofs.Common.{sym, ap, subst, ◌∙◌, Option, Some, None, option_map, append-nil}
use Rattle.std.specs.List.{filter, AllByRecursion, cons_option}
use Rattle.std.proofs.lemmas.List.{take-append-drop}
use Rattle.std.proofs.lemmas.List.Elements.{filter-append, filter_map-append}
use Rattle.script.specs.declared.event.ScriptEvent.{ScriptEvent}
use Rattle.script.specs.Events as script
use Rattle.worker_port.specs.declared.events.PortRecord.{PortRecord}
use Rattle.worker_port.specs.declared.events.PortRecord.TheVariants as was
use Rattle.worker_port.specs.Ports.{is_in}
use Rattle.worker_port.specs.Ports as list
use Rattle.worker_port.specs.PortFacts.{PortFacts, port_facts}
use Rattle.worker_port.proofs.Facts.{about, elsewhere, gone_here, shut_here, accepted_here}
use Rattle.script.specs.declared.player.Player.{Player}
use Rattle.script.specs.declared.sessions.Stage.{Stage}
use Rattle.script.specs.declared.sessions.Stage.TheVariants.{Closed}
use Rattle.script.specs.PortEvents.{event_session, events_without, plays_from, is_playable}
use Rattle.script.specs.PortSessions.{ScriptSessionState, numbers, newest, last_from, session_entry, is_some_and}
use Rattle.script.specs.PortSessions.{is_closed, is_paused, was_closed, is_session_open}
use Rattle.script.specs.PortSessions.{is_session_paused, with_stage, with_output, ChangesScriptSession}
use Rattle.script.specs.Remaining.{RemainingState, in_order}
use Rattle.script.specs.Records.{opened_sessions, opened_by}
use Rattle.script.specs.Players.{is_left, is_ready, events_left, NoneReady, Agrees, IsPlayerConsistent, IsFirst}
use Rattle.script.proofs.EventLemmas.{bool_cases, and_left, and_right, IsApart, TakenOut, take_out}
use Rattle.proto.proofs.CountLemmas.{either_way}

-- ---- lists of events

-- two tests that agree on each event keep the same events of a list
pub filter_same : (p q : ScriptEvent → Bool) (xs : List ScriptEvent) → ((x : ScriptEvent) → p x ≡ q x)
    → filter p xs ≡ filter q xs
filter_same p q xs h = ap (λ (f : ScriptEvent → Bool). filter f xs) (λ i x. h x i)

-- an event in front of a list is kept by two tests at once exactly as by the first and then by the
-- second
cond_and : (a b : Bool) (x : ScriptEvent) (xs : List ScriptEvent) (q : ScriptEvent → Bool) → q x ≡ b
    → cond (a && b) (x ∷ filter q xs) (filter q xs) ≡ filter q (cond a (x ∷ xs) xs)
cond_and true b x xs q e = ap (λ c. cond c (x ∷ filter q xs) (filter q xs)) (sym e)
cond_and false b x xs q e = refl

-- the events that pass two tests are those that the second keeps of the ones that the first keeps
pub filter_both : (p q : ScriptEvent → Bool) (xs : List ScriptEvent)
    → filter (λ x. p x && q x) xs ≡ filter q (filter p xs)
filter_both p q [] = refl
filter_both p q (x ∷ xs) = ap (λ l. cond (p x && q x) (x ∷ l) l) (filter_both p q xs)
    ∙ cond_and (p x) (q x) x (filter p xs) q refl

-- a test that each event passes keeps the whole list
pub filter_all : (p : ScriptEvent → Bool) (xs : List ScriptEvent) → ((x : ScriptEvent) → p x ≡ true) → filter p xs ≡ xs
filter_all p [] h = refl
filter_all p (x ∷ xs) h = ap (λ b. cond b (x ∷ filter p xs) (filter p xs)) (h x) ∙ ap (λ l. x ∷ l) (filter_all p xs h)

-- ---- one session of the table

-- if the opposite of a test is true, the test is false
pub not_true : (b : Bool) → not b ≡ true → b ≡ false
not_true true h = absurd (true≢false (sym h))
not_true false h = refl

-- if the opposite of a test is false, the test is true
pub not_false : (b : Bool) → not b ≡ false → b ≡ true
not_false true h = refl
not_false false h = absurd (true≢false h)

-- what holds if an entry is there, and holds if none is, holds
pub option_cases : {A : Type 0} (o : Option ScriptSessionState) → ((x : ScriptSessionState) → o ≡ Some x → A)
    → (o ≡ None → A) → A
option_cases (Some x) f g = f x refl
option_cases None f g = g refl

-- if no session of the table is above a number, no paused session is
pub paused_old : (ss : List ScriptSessionState) (n t : ℕ)
    → ((s : ℕ) (x : ScriptSessionState) → session_entry ss s ≡ Some x → s ≤ n)
    → is_session_paused ss t ≡ true → t ≤ n
paused_old ss n t rising h =
    option_cases (session_entry ss t) (λ x e. rising t x e)
    (λ e. absurd (true≢false (sym h ∙ ap (is_some_and (λ (x : ScriptSessionState). is_paused x.stage)) e)))

-- an open session has an entry in the table, and it isn't closed
pub open_entry : (ss : List ScriptSessionState) (t : ℕ) → is_session_open ss t ≡ true
    → (x : ScriptSessionState) × (session_entry ss t ≡ Some x) × (is_closed x.stage ≡ false)
open_entry ss t h =
    option_cases (session_entry ss t)
    (λ x e. (
      x,
      e,
      not_true (is_closed x.stage)
          (sym (ap (is_some_and (λ (y : ScriptSessionState). not (is_closed y.stage))) e) ∙ h),
    ))
    (λ e. absurd (true≢false (sym h ∙ ap (is_some_and (λ (x : ScriptSessionState). not (is_closed x.stage))) e)))

-- a session that is open in the list has an open entry, if the entry agrees with the list
facts_open : (o : Option ScriptSessionState) (f : PortFacts) → Agrees o f → (f.opened && not (f.gone || f.shut)) ≡ true
    → is_some_and (λ (x : ScriptSessionState). not (is_closed x.stage)) o ≡ true
facts_open None f agrees active = absurd (true≢false
    (sym (and_left f.opened (not (f.gone || f.shut)) active) ∙ agrees.0))
facts_open (Some x) f agrees active = sym (ap not agrees.1) ∙ and_right f.opened (not (f.gone || f.shut)) active

-- a session that is open in the list is open in the table too
pub open_in_table : (p : Player) (s : ℕ) → IsPlayerConsistent p → list.is_open s p.records ≡ true
    → is_session_open p.sessions s ≡ true
open_in_table p s k active = facts_open (session_entry p.sessions s) (port_facts p.records s) (k.each s) active

-- an open session is open in the list too
pub open_in_list : (p : Player) (s : ℕ) → IsPlayerConsistent p → is_session_open p.sessions s ≡ true
    → list.is_open s p.records ≡ true
open_in_list p s k e =
    let x = open_entry p.sessions s e in
    let h : Agrees (Some x.0) (port_facts p.records s) =
    subst (λ (o : Option ScriptSessionState). Agrees o (port_facts p.records s)) x.1 (k.each s) in
    (λ i. h.0 i && not (h.1 i)) ∙ ap not x.2

-- ---- the first event that may be played

-- if it isn't so that one test passes and another fails, the other passes where the one does
paused_here : (a b : Bool) → (a && not b) ≡ false → a ≡ true → b ≡ true
paused_here a b h e = not_false b (ap (λ c. c && not b) (sym e) ∙ h)

-- of events that can't be played now, those still left are of paused sessions
pub paused_before : (ss : List ScriptSessionState) (xs : List ScriptEvent)
    → AllByRecursion (λ (x : ScriptEvent). is_ready ss x ≡ false) xs
    → AllByRecursion (λ (x : ScriptEvent). is_session_paused ss (event_session x) ≡ true) (events_left ss xs)
paused_before ss [] h = tt
paused_before ss (x ∷ xs) h =
    let P : List ScriptEvent → Type 0 = AllByRecursion (λ (x : ScriptEvent). is_session_paused ss (event_session x) ≡ true) in
    bool_cases (is_left ss x)
    (λ yes. subst (λ b. P (cond b (x ∷ events_left ss xs) (events_left ss xs))) (sym yes)
    (paused_here (is_left ss x) (is_session_paused ss (event_session x)) h.0 yes, paused_before ss xs h.1))
    (λ no. subst (λ b. P (cond b (x ∷ events_left ss xs) (events_left ss xs))) (sym no) (paused_before ss xs h.1))

-- events of paused sessions aren't of a session that isn't paused, nor of one above a bound of the
-- table's numbers
pub apart_before : (ss : List ScriptSessionState) (n : ℕ) (e : ScriptEvent) (xs : List ScriptEvent)
    → ((s : ℕ) (x : ScriptSessionState) → session_entry ss s ≡ Some x → s ≤ n) → is_session_paused ss (event_session e) ≡ false
    → AllByRecursion (λ (x : ScriptEvent). is_session_paused ss (event_session x) ≡ true) xs → AllByRecursion (IsApart n e) xs
apart_before ss n e [] rising free h = tt
apart_before ss n e (x ∷ xs) rising free h = (
  record {
    old = paused_old ss n (event_session x) rising h.0;
    other = λ q. true≢false (sym h.0 ∙ ap (is_session_paused ss) q ∙ free);
  },
  apart_before ss n e xs rising free h.1,
)

-- what is left, around the first event
pub record AroundFirst (p : Player) (e : ScriptEvent) (before after : List ScriptEvent) : Type 0 where
  pub left_is : events_left p.sessions (in_order p.events)
      ≡ events_left p.sessions before ++ e ∷ events_left p.sessions after
  pub paused : AllByRecursion (λ (x : ScriptEvent). is_session_paused p.sessions (event_session x) ≡ true)
      (events_left p.sessions before)
  pub free : is_session_paused p.sessions (event_session e) ≡ false
  pub is_left_too : is_left p.sessions e ≡ true
  pub taken : is_playable p.script ≡ true
      → TakenOut (newest p.sessions) (is_session_open p.sessions) e
      (events_left p.sessions before ++ events_left p.sessions after)

-- what is left of a list around an event that is left: what is left before it, the event, what is
-- left after it
pub left_with : (ss : List ScriptSessionState) (xs : List ScriptEvent) (e : ScriptEvent) (ys : List ScriptEvent)
    → is_left ss e ≡ true
    → events_left ss (xs ++ e ∷ ys) ≡ events_left ss xs ++ e ∷ events_left ss ys
left_with ss xs e ys stays = filter-append (is_left ss) xs (e ∷ ys)
    ∙ ap (λ b. events_left ss xs ++ cond b (e ∷ events_left ss ys) (events_left ss ys)) stays

-- only events of paused sessions are left in front of the first that a consistent player may play
-- now, and where the script may be played as it stands, this one may come before them
pub around : (p : Player) (e : ScriptEvent) → IsPlayerConsistent p → (f : IsFirst p e)
    → AroundFirst p e p.events.aside f.after
around p e k f =
    let ss = p.sessions in
    let yes = and_left (is_left ss e) (not (is_session_paused ss (event_session e))) f.ready in
    let free = not_true (is_session_paused ss (event_session e))
    (and_right (is_left ss e) (not (is_session_paused ss (event_session e))) f.ready) in
    let paused = paused_before ss p.events.aside k.aside in
    let left = ap (λ (l : List ScriptEvent). events_left ss (p.events.aside ++ l)) f.rest_is
    ∙ left_with ss p.events.aside e f.after yes in
    record {
      left_is = left;
      paused = paused;
      free = free;
      is_left_too = yes;
      taken = λ tells. take_out (newest ss) (is_session_open ss) (events_left ss p.events.aside) e
          (events_left ss f.after)
          (apart_before ss (newest ss) e (events_left ss p.events.aside) k.rising free paused)
          (ap (plays_from (newest ss) (is_session_open ss)) (sym left) ∙ k.plays tells);
    }

-- ---- one more entry of the list

-- if one more record is about one session, and only its entry changes, and as the record says, the
-- table still agrees with the list
pub each_step : (ss ss' : List ScriptSessionState) (l l' : List PortRecord) (x : PortRecord) (s : ℕ)
    → ((t : ℕ) → Agrees (session_entry ss t) (port_facts l t)) → l' ≡ l ++ x ∷ []
    → ((t : ℕ) → t ≢ s → about t x ≡ false)
    → ((t : ℕ) → t ≢ s → session_entry ss' t ≡ session_entry ss t)
    → Agrees (session_entry ss' s) (port_facts (l ++ x ∷ []) s) → (t : ℕ)
    → Agrees (session_entry ss' t) (port_facts l' t)
each_step ss ss' l l' x s each l_is apart others here t =
    subst (λ (m : List PortRecord). Agrees (session_entry ss' t) (port_facts m t)) (sym l_is)
    (either_way t s
    (λ eq. subst (λ (u : ℕ). Agrees (session_entry ss' u) (port_facts (l ++ x ∷ []) u)) (sym eq) here)
    (λ ne. subst (λ (o : Option ScriptSessionState). Agrees o (port_facts (l ++ x ∷ []) t)) (sym (others t ne))
    (subst (Agrees (session_entry ss t)) (sym (elsewhere l x t (apart t ne))) (each t))))

-- a record that opens no session leaves the list of opened sessions as it was
pub opened_more : (l l' : List PortRecord) (x : PortRecord) → l' ≡ l ++ x ∷ [] → opened_by x ≡ None
    → opened_sessions l' ≡ opened_sessions l
opened_more l l' x e none = ap opened_sessions e ∙ filter_map-append opened_by l (x ∷ [])
    ∙ ap (λ o. opened_sessions l ++ cons_option o []) none ∙ append-nil (opened_sessions l)

-- a record that opens a session puts its number after those of the sessions opened before
pub opened_one : (l l' : List PortRecord) (s : ℕ) → l' ≡ l ++ was.Opened s ∷ []
    → opened_sessions l' ≡ opened_sessions l ++ s ∷ []
opened_one l l' s e = ap opened_sessions e ∙ filter_map-append opened_by l (was.Opened s ∷ [])

-- an entry that agrees with the list agrees whatever bytes came of the session
pub agrees_fed : (o : Option ScriptSessionState) (f : PortFacts) (b : List ℕ) → Agrees o f
    → Agrees o (record f { fed = b })
agrees_fed None f b h = h
agrees_fed (Some x) f b h = h

-- if events may come, equal events may come where the newest and the open sessions are the same
pub plays_along : (n n' : ℕ) (o o' : ℕ → Bool) (xs xs' : List ScriptEvent) → n' ≡ n → ((t : ℕ) → o' t ≡ o t) → xs' ≡ xs
    → plays_from n o xs ≡ true → plays_from n' o' xs' ≡ true
plays_along n n' o o' xs xs' e h l k = (λ i. plays_from (e i) (λ t. h t i) (l i)) ∙ k

-- ---- one session changes

-- tables with the same numbers have the same newest session
newest_same : (ss ss' : List ScriptSessionState) → numbers ss' ≡ numbers ss → newest ss' ≡ newest ss
newest_same ss ss' e = ap (last_from 0) e

-- where there is a changed entry, there was one to change
map_some : (f : ScriptSessionState → ScriptSessionState) (o : Option ScriptSessionState) (x : ScriptSessionState)
    → option_map f o ≡ Some x
    → (y : ScriptSessionState) × (o ≡ Some y)
map_some f (Some y) x e = (y, refl)
map_some f None x e = absurd (cc)

-- if no entry's number is above the newest, none is after one session has changed
pub rising_at : (ss ss' : List ScriptSessionState) (s : ℕ) (f : ScriptSessionState → ScriptSessionState)
    → ChangesScriptSession ss s f ss'
    → ((t : ℕ) (x : ScriptSessionState) → session_entry ss t ≡ Some x → t ≤ newest ss)
    → (t : ℕ) (x : ScriptSessionState)
    → session_entry ss' t ≡ Some x → t ≤ newest ss'
rising_at ss ss' s f a rising t x e =
    subst (λ (n : ℕ). t ≤ n) (sym (newest_same ss ss' a.numbers_are))
    (either_way t s
    (λ eq. let y = map_some f (session_entry ss s) x (sym a.here ∙ ap (session_entry ss') (sym eq) ∙ e) in
    rising t y.0 (ap (session_entry ss) eq ∙ y.1))
    (λ ne. rising t x (sym (a.others t ne) ∙ e)))

-- a change of one session leaves what a test says of another
pub test_other : (p : ScriptSessionState → Bool) (ss ss' : List ScriptSessionState) (s : ℕ)
    (f : ScriptSessionState → ScriptSessionState)
    → ChangesScriptSession ss s f ss' → (t : ℕ) → t ≢ s → is_some_and p (session_entry ss' t) ≡ is_some_and p (session_entry ss t)
test_other p ss ss' s f a t ne = ap (is_some_and p) (a.others t ne)

-- what a test says of the session that changes is what it says of the changed entry
pub test_here : (p : ScriptSessionState → Bool) (ss ss' : List ScriptSessionState) (s : ℕ)
    (f : ScriptSessionState → ScriptSessionState) (x : ScriptSessionState)
    → ChangesScriptSession ss s f ss' → session_entry ss s ≡ Some x → is_some_and p (session_entry ss' s) ≡ p (f x)
test_here p ss ss' s f x a e = ap (is_some_and p) (a.here ∙ ap (option_map f) e)

-- a test that the change leaves as it was
pub test_same : (p : ScriptSessionState → Bool) (ss ss' : List ScriptSessionState) (s : ℕ)
    (f : ScriptSessionState → ScriptSessionState) (x : ScriptSessionState)
    → ChangesScriptSession ss s f ss' → session_entry ss s ≡ Some x → p (f x) ≡ p x → (t : ℕ)
    → is_some_and p (session_entry ss' t) ≡ is_some_and p (session_entry ss t)
test_same p ss ss' s f x a e same t =
    either_way t s
    (λ eq. ap (λ (u : ℕ). is_some_and p (session_entry ss' u)) eq ∙ test_here p ss ss' s f x a e ∙ same
    ∙ sym (ap (is_some_and p) e)
    ∙ ap (λ (u : ℕ). is_some_and p (session_entry ss u)) (sym eq))
    (λ ne. test_other p ss ss' s f a t ne)

-- if the same sessions are closed in two tables, the same events are left
pub left_same : (ss ss' : List ScriptSessionState) (xs : List ScriptEvent)
    → ((t : ℕ) → was_closed ss' t ≡ was_closed ss t)
    → events_left ss' xs ≡ events_left ss xs
left_same ss ss' xs h = filter_same (is_left ss') (is_left ss) xs (λ x. ap not (h (event_session x)))

-- if the second test passes, it isn't so that the first passes and the second fails
and_no : (a b : Bool) → b ≡ true → (a && not b) ≡ false
and_no true b e = ap not e
and_no false b e = refl

-- if the second test fails, the first passes and the second fails exactly where the first passes
and_yes : (a b : Bool) → b ≡ false → (a && not b) ≡ a
and_yes true b e = ap not e
and_yes false b e = refl

-- if a session is closed and the others are as before, the events that are left are those of before
-- without the session's
pub left_without : (ss ss' : List ScriptSessionState) (s : ℕ) (xs : List ScriptEvent) → was_closed ss' s ≡ true
    → ((t : ℕ) → t ≢ s → was_closed ss' t ≡ was_closed ss t) → events_left ss' xs ≡ events_without s (events_left ss xs)
left_without ss ss' s xs closed others =
    filter_same (is_left ss') (λ x. is_left ss x && not (event_session x == s)) xs
    (λ x.
    either_way (event_session x) s
    (λ eq. ap (λ (u : ℕ). not (was_closed ss' u)) eq ∙ ap not closed
    ∙ sym (and_no (is_left ss x) (event_session x == s) (eq-eqb (event_session x) s eq)))
    (λ ne. ap not (others (event_session x) ne)
    ∙ sym (and_yes (is_left ss x) (event_session x == s) (ne_eqb (event_session x) s ne))))
    ∙ filter_both (is_left ss) (λ x. not (event_session x == s)) xs

-- ---- what was put aside

-- if each event that may not be played in one table may not be in another, none of those aside may
-- be
pub none_ready : (ss ss' : List ScriptSessionState) (xs : List ScriptEvent)
    → ((x : ScriptEvent) → is_ready ss x ≡ false → is_ready ss' x ≡ false) → NoneReady ss xs → NoneReady ss' xs
none_ready ss ss' [] h k = tt
none_ready ss ss' (x ∷ xs) h k = (h x k.0, none_ready ss ss' xs h k.1)

-- where the same sessions are closed and paused, the same events may be played
pub ready_same : (ss ss' : List ScriptSessionState) → ((t : ℕ) → was_closed ss' t ≡ was_closed ss t)
    → ((t : ℕ) → is_session_paused ss' t ≡ is_session_paused ss t) → (x : ScriptEvent) → is_ready ss x ≡ false → is_ready ss' x ≡ false
ready_same ss ss' closed paused x h =
    (λ i. not (closed (event_session x) i) && not (paused (event_session x) i)) ∙ h

-- if a session is closed, no event may be played that might not be before
pub ready_closed : (ss ss' : List ScriptSessionState) (s : ℕ) → was_closed ss' s ≡ true
    → ((t : ℕ) → t ≢ s → was_closed ss' t ≡ was_closed ss t) → ((t : ℕ) → t ≢ s → is_session_paused ss' t ≡ is_session_paused ss t)
    → (x : ScriptEvent) → is_ready ss x ≡ false → is_ready ss' x ≡ false
ready_closed ss ss' s closed others apart x h =
    either_way (event_session x) s
    (λ eq. ap (λ (b : Bool). not b && not (is_session_paused ss' (event_session x))) (ap (was_closed ss') eq ∙ closed))
    (λ ne. (λ i. not (others (event_session x) ne i) && not (apart (event_session x) ne i)) ∙ h)

-- if a session is paused, no event may be played that might not be before
pub ready_paused : (ss ss' : List ScriptSessionState) (s : ℕ) → is_session_paused ss' s ≡ true
    → ((t : ℕ) → t ≢ s → was_closed ss' t ≡ was_closed ss t) → ((t : ℕ) → t ≢ s → is_session_paused ss' t ≡ is_session_paused ss t)
    → (x : ScriptEvent) → is_ready ss x ≡ false → is_ready ss' x ≡ false
ready_paused ss ss' s paused others apart x h =
    either_way (event_session x) s
    (λ eq. and_no (is_left ss' x) (is_session_paused ss' (event_session x)) (ap (is_session_paused ss') eq ∙ paused))
    (λ ne. (λ i. not (others (event_session x) ne i) && not (apart (event_session x) ne i)) ∙ h)

-- if a session changes of which no event is aside, none of those aside may be played
pub none_ready_but : (ss ss' : List ScriptSessionState) (s : ℕ) (xs : List ScriptEvent)
    → ((t : ℕ) → t ≢ s → was_closed ss' t ≡ was_closed ss t) → ((t : ℕ) → t ≢ s → is_session_paused ss' t ≡ is_session_paused ss t)
    → AllByRecursion (λ (x : ScriptEvent). event_session x ≢ s) xs → NoneReady ss xs → NoneReady ss' xs
none_ready_but ss ss' s [] others apart h k = tt
none_ready_but ss ss' s (x ∷ xs) others apart h k = (
  (λ i. not (others (event_session x) h.0 i) && not (apart (event_session x) h.0 i)) ∙ k.0,
  none_ready_but ss ss' s xs others apart h.1 k.1,
)

-- of some events of which none may be played, none of the first ones may be
pub none_ready_take : (ss : List ScriptSessionState) (n : ℕ) (xs : List ScriptEvent) → NoneReady ss xs
    → NoneReady ss (take n xs)
none_ready_take ss zero xs k = tt
none_ready_take ss (suc n) [] k = tt
none_ready_take ss (suc n) (x ∷ xs) k = (k.0, none_ready_take ss n xs k.1)

-- events that come back from those aside stay in order
pub brought_back : (stay : ℕ) (r : RemainingState)
    → in_order (record { aside = take stay r.aside; rest = drop stay r.aside ++ r.rest }) ≡ in_order r
brought_back stay r =
    sym (append_assoc (take stay r.aside) (drop stay r.aside) r.rest)
    ∙ ap (λ (l : List ScriptEvent). l ++ r.rest) (take-append-drop stay r.aside)

-- ---- what one session's change makes of the list

-- if bytes are put after a session's output and recorded as accepted, its entry still agrees with
-- the list
pub agrees_accepted : (ss ss' : List ScriptSessionState) (l : List PortRecord) (s : ℕ) (b : List ℕ)
    (x : ScriptSessionState)
    → ChangesScriptSession ss s (with_output b) ss' → session_entry ss s ≡ Some x → Agrees (session_entry ss s) (port_facts l s)
    → Agrees (session_entry ss' s) (port_facts (l ++ was.Accepted s b ∷ []) s)
agrees_accepted ss ss' l s b x a e h =
    let old : Agrees (Some x) (port_facts l s) =
    subst (λ (o : Option ScriptSessionState). Agrees o (port_facts l s)) e h in
    let new : Agrees (Some (with_output b x)) (record (port_facts l s) { given = list.given s l ++ b }) =
    (old.0, old.1, ap (λ (g : List ℕ). g ++ b) old.2) in
    subst (λ (o : Option ScriptSessionState). Agrees o (port_facts (l ++ was.Accepted s b ∷ []) s))
    (sym (a.here ∙ ap (option_map (with_output b)) e))
    (subst (Agrees (Some (with_output b x))) (sym (accepted_here l s b)) new)

-- a test joined by `||` with true is true
or_yes : (b : Bool) → (b || true) ≡ true
or_yes true = refl
or_yes false = refl

-- if a session is closed and its peer recorded as gone, its entry still agrees with the list
pub agrees_gone : (ss ss' : List ScriptSessionState) (l : List PortRecord) (s : ℕ) (x : ScriptSessionState)
    → ChangesScriptSession ss s (with_stage Closed) ss' → session_entry ss s ≡ Some x
    → Agrees (session_entry ss s) (port_facts l s)
    → Agrees (session_entry ss' s) (port_facts (l ++ was.Gone s ∷ []) s)
agrees_gone ss ss' l s x a e h =
    let old : Agrees (Some x) (port_facts l s) =
    subst (λ (o : Option ScriptSessionState). Agrees o (port_facts l s)) e h in
    let new : Agrees (Some (with_stage Closed x)) (record (port_facts l s) { gone = true }) = (old.0, refl, old.2) in
    subst (λ (o : Option ScriptSessionState). Agrees o (port_facts (l ++ was.Gone s ∷ []) s))
    (sym (a.here ∙ ap (option_map (with_stage Closed)) e))
    (subst (Agrees (Some (with_stage Closed x))) (sym (gone_here l s)) new)

-- if a session is closed and recorded as shut, its entry still agrees with the list
pub agrees_shut : (ss ss' : List ScriptSessionState) (l : List PortRecord) (s : ℕ) (x : ScriptSessionState)
    → ChangesScriptSession ss s (with_stage Closed) ss' → session_entry ss s ≡ Some x
    → Agrees (session_entry ss s) (port_facts l s)
    → Agrees (session_entry ss' s) (port_facts (l ++ was.Shut s ∷ []) s)
agrees_shut ss ss' l s x a e h =
    let old : Agrees (Some x) (port_facts l s) =
    subst (λ (o : Option ScriptSessionState). Agrees o (port_facts l s)) e h in
    let new : Agrees (Some (with_stage Closed x)) (record (port_facts l s) { shut = true }) =
    (old.0, or_yes (port_facts l s).gone, old.2) in
    subst (λ (o : Option ScriptSessionState). Agrees o (port_facts (l ++ was.Shut s ∷ []) s))
    (sym (a.here ∙ ap (option_map (with_stage Closed)) e))
    (subst (Agrees (Some (with_stage Closed x))) (sym (shut_here l s)) new)

-- if a session that stays open, or stays closed, gets another stage, its entry still agrees with
-- the list
pub agrees_stage : (ss ss' : List ScriptSessionState) (l : List PortRecord) (s : ℕ) (stage : Stage)
    (x : ScriptSessionState)
    → ChangesScriptSession ss s (with_stage stage) ss' → session_entry ss s ≡ Some x → is_closed stage ≡ is_closed x.stage
    → Agrees (session_entry ss s) (port_facts l s)
    → Agrees (session_entry ss' s) (port_facts l s)
agrees_stage ss ss' l s stage x a e same h =
    let old : Agrees (Some x) (port_facts l s) =
    subst (λ (o : Option ScriptSessionState). Agrees o (port_facts l s)) e h in
    subst (λ (o : Option ScriptSessionState). Agrees o (port_facts l s))
    (sym (a.here ∙ ap (option_map (with_stage stage)) e)) (old.0, old.1 ∙ sym same, old.2)

-- ---- a port of which nothing was asked yet

-- the lack of an entry isn't an entry
none_some : (x : ScriptSessionState) → None ≡ Some x → ⊥
none_some x e = cc

-- a player that hasn't ended, with no sessions, no records, no `give` to fail and its whole script
-- to play, is consistent
pub no_sessions : (p : Player) → p.sessions ≡ [] → p.records ≡ [] → p.ended ≡ false → p.fail_give ≡ 0
    → (is_playable p.script ≡ true → plays_from 0 (λ (t : ℕ). false) (in_order p.events) ≡ true)
    → in_order p.events ≡ p.script → p.events.aside ≡ []
    → IsPlayerConsistent p
no_sessions p ss_is l_is ended fail_is plays all none_aside = record {
  each = λ t. subst (λ (ss : List ScriptSessionState). Agrees (session_entry ss t) (port_facts p.records t)) (sym ss_is)
      (subst (λ (l : List PortRecord). Agrees None (port_facts l t)) (sym l_is) (refl, refl, refl, refl));
  opened_are = ap numbers ss_is ∙ sym (ap opened_sessions l_is);
  rising = λ s x e. absurd (none_some x (sym (ap (λ (ss : List ScriptSessionState). session_entry ss s) ss_is) ∙ e));
  at_end = ap (is_in was.Ended) l_is ∙ sym ended;
  plays = λ tells. (λ i. plays_from (newest (ss_is i)) (is_session_open (ss_is i))
      (events_left (ss_is i) (in_order p.events)))
      ∙ ap (plays_from 0 (λ (t : ℕ). false)) (filter_all (is_left []) (in_order p.events) (λ x. refl)) ∙ plays tells;
  follows = λ tells. let left_is : events_left p.sessions (in_order p.events) ≡ p.script = ap
      (λ ss. events_left ss (in_order p.events)) ss_is ∙ filter_all (is_left []) (in_order p.events) (λ x. refl)
      ∙ all in record {
        opened_are = (λ i. opened_sessions (sym l_is i) ++ script.sessions_opened (sym left_is i));
        fed_are = λ t _. (λ i. list.fed t (sym l_is i) ++ script.sent_bytes (sym left_is i) t);
        begun = λ t closed. absurd (true≢false (sym closed ∙ ap (λ ss. was_closed ss t) ss_is));
        to_go = λ t goes. ap (λ xs. script.goes_in_script xs t) (sym left_is) ∙ goes;
        gone_by = λ t gone. absurd (true≢false (sym gone ∙ ap (is_in (was.Gone t)) l_is));
        never_over = λ t. ap (is_in (was.EndOfInput t)) l_is;
      };
  aside = subst (NoneReady p.sessions) (sym none_aside) tt;
  finished = λ over. absurd (true≢false (sym over ∙ ended));
  may_fail = λ some. absurd (omega (arith, some, fail_is));
}
