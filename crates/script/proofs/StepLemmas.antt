-- What playing one event leaves consistent, and what it tells.
use Rattle.std.proofs.Common.{◌≡◌, ℕ, ◌<◌, ◌≤◌, ◌==◌, nat_lt, Bool, true, false, true≢false, not, ◌||◌, cond}
use Rattle.std.proofs.Common.{eq-eqb, ne_eqb, List, [], ◌∷◌, ◌++◌}
use Rattle.std.proofs.Common.{length, drop, take, length-append, ◌⊎◌, refl, sym, ap, subst, ◌∙◌, arith, inl, inr}
use Rattle.std.proofs.Common.{⊎_elim, Option, Some, None}
use Rattle.std.proofs.Common.{append-nil, append_assoc}
use Rattle.std.proofs.lemmas.List.{map-append, length-take}
use Rattle.std.proofs.lemmas.List.Elements.{filter-append}
use Rattle.script.specs.declared.event.ScriptEvent.{ScriptEvent}
use Rattle.script.specs.declared.event.ScriptEvent.TheVariants.{Open, Send, Gone}
use Rattle.script.specs.Events.{open_after, goes_in_script}
use Rattle.worker_port.specs.declared.events.PortRecord.{PortRecord}
use Rattle.worker_port.specs.declared.events.PortRecord.TheVariants as was
use Rattle.worker_port.specs.declared.events.PortEvent.TheVariants as event
use Rattle.worker_port.specs.Ports.{is_in}
use Rattle.worker_port.specs.Ports as list
use Rattle.worker_port.specs.PortFacts.{PortFacts, port_facts}
use Rattle.worker_port.proofs.Facts.{opened_here, fed_here}
use Rattle.worker_port.proofs.Lists.{ended_same}
use Rattle.script.specs.declared.player.Player.{Player}
use Rattle.script.specs.declared.sessions.Stage.TheVariants.{Playing, Paused, Closed}
use Rattle.script.specs.declared.sessions.Stage.{Stage}
use Rattle.script.specs.PortEvents.{event_session, events_without, send_after, plays_from, is_playable}
use Rattle.script.specs.Remaining.{RemainingState, in_order}
use Rattle.script.specs.PortSessions.{ScriptSessionState, numbers, newest, session_entry, is_some_and, is_closed}
use Rattle.script.specs.PortSessions.{is_paused, was_closed, is_session_open, is_session_paused}
use Rattle.script.specs.Records.{opened_sessions}
use Rattle.script.specs.Players.{is_left, is_ready, events_left, NoneReady, player_state, Agrees}
use Rattle.script.specs.Players.{IsPlayerConsistent, IsFirst, IsCausedAt, TellsNext, RecordsClose}
use Rattle.proto.proofs.CountLemmas.{either_way}
use Rattle.script.proofs.SessionLemmas.{entry_behind, newest_more}
use Rattle.script.proofs.EventLemmas.{bool_cases, lt_true, TakenOut, send_again}
use Rattle.script.specs.Following.{Follows}
use Rattle.script.proofs.FollowLemmas.{follows_open, follows_send, follows_as, no_opens, sent_apart, goes_here}
use Rattle.script.proofs.PlayerLemmas.{not_true, apart_before, option_cases, open_in_list, around, each_step}
use Rattle.script.proofs.PlayerLemmas.{opened_one, opened_more, plays_along}
use Rattle.script.proofs.PlayerLemmas.{left_same, left_with, none_ready, ready_same, agrees_fed}

-- ---- the first event

-- an event that is left isn't there once the port has ended
pub none_around : (p : Player) (e : ScriptEvent) → IsPlayerConsistent p → IsFirst p e → p.ended ≡ true → ⊥
none_around p e k f over = seam_some p.events.aside e f.after
    (sym (ap (λ (l : List ScriptEvent). p.events.aside ++ l) f.rest_is) ∙ k.finished over)
  where
    seam_some : (xs : List ScriptEvent) (e : ScriptEvent) (ys : List ScriptEvent) → xs ++ e ∷ ys ≡ [] → ⊥
    seam_some [] e ys none = cc
    seam_some (x ∷ xs) e ys none = cc

-- what follows one player's script and faults follows the same of another
follows_faults : (p q : Player) → q.script ≡ p.script → q.can_fail ≡ p.can_fail
    → Follows p.script (events_left q.sessions (in_order q.events)) q.records
    (was_closed q.sessions) p.can_fail
    → Follows q.script (events_left q.sessions (in_order q.events)) q.records
    (was_closed q.sessions) q.can_fail
follows_faults p q script_is can_fail_is follows =
    subst (λ (b : Bool). Follows q.script (events_left q.sessions (in_order q.events)) q.records
    (was_closed q.sessions) b) (sym can_fail_is)
    (subst (λ (script : List ScriptEvent). Follows script (events_left q.sessions (in_order q.events)) q.records
    (was_closed q.sessions) p.can_fail)
    (sym script_is) follows)

-- what is left once the first of the rest is dropped
pub first_dropped : (old new : RemainingState) (e : ScriptEvent) (after : List ScriptEvent) → old.rest ≡ e ∷ after
    → (0 < length old.rest → new ≡ record old { rest = drop 1 old.rest }) → new ≡ record old { rest = after }
first_dropped old new e after is dropped =
    let k = ap length is in
    dropped (omega (arith, k)) ∙ ap (λ (l : List ScriptEvent). record old { rest = drop 1 l }) is

-- the first of the rest, where it may be played
pub first_of_rest : (p q : Player) (e : ScriptEvent) → p ≡ q → p.events.rest ≡ e ∷ drop 1 p.events.rest
    → ((e : ScriptEvent) (after : List ScriptEvent) → q.events.rest ≡ e ∷ after → is_ready q.sessions e ≡ true)
    → q.ended ≡ false → IsFirst p e
first_of_rest p q e same is ready running =
    let rest = drop 1 p.events.rest in
    subst (λ (x : Player). IsFirst x e) (sym same) (
    let front = sym (ap (λ (x : Player). x.events.rest) same) ∙ is in
    record { running = running; after = rest; rest_is = front; ready = ready e rest front })

-- ---- a session is opened

-- a session as it is opened: its events are played, and it was given nothing yet
abbrev pub fresh : ℕ → ScriptSessionState
fresh s = record { number = s; stage = Playing; output = [] }

-- a player opens a session with a number above all before it and records it; the event is gone from
-- those to play, and nothing else changes
pub record OpensTo (p q : Player) (s : ℕ) (after : List ScriptEvent) : Type 0 where
  pub newer : newest p.sessions < s
  pub sessions_are : q.sessions ≡ p.sessions ++ fresh s ∷ []
  pub records_are : q.records ≡ p.records ++ was.Opened s ∷ []
  pub ended_is : q.ended ≡ p.ended
  pub script_is : q.script ≡ p.script
  pub accept_is : q.accept ≡ p.accept
  pub fail_is : q.fail_give ≡ p.fail_give
  pub can_fail_is : q.can_fail ≡ p.can_fail
  pub events_are : q.events ≡ record p.events { rest = after }

-- in a consistent player a number above the newest has no entry
none_yet : (p : Player) (s : ℕ) → IsPlayerConsistent p → newest p.sessions < s → session_entry p.sessions s ≡ None
none_yet p s k lt = option_cases (session_entry p.sessions s)
    (λ x e. let le = k.rising s x e in absurd (omega (arith, le, lt))) (λ e. e)

-- a session that is put after a table with no entry of its number is found under it
entry_add : (ss : List ScriptSessionState) (x : ScriptSessionState) → session_entry ss x.number ≡ None
    → session_entry (ss ++ x ∷ []) x.number ≡ Some x
entry_add [] x e = ap (λ b. cond b (Some x) None) (eq-eqb x.number x.number refl)
entry_add (y ∷ ss) x e =
    either_way y.number x.number
    (λ eq. let q : Some y ≡ None = ap (λ b. cond b (Some y) (session_entry ss x.number))
    (sym (eq-eqb y.number x.number eq)) ∙ e in absurd (cc))
    (λ ne.
    ap (λ b. cond b (Some y) (session_entry (ss ++ x ∷ []) x.number)) (ne_eqb y.number x.number ne)
    ∙ entry_add ss x (ap (λ b. cond b (Some y) (session_entry ss x.number)) (sym (ne_eqb y.number x.number ne)) ∙ e))

-- a test that a new session fails is as it was
test_added : (p : ScriptSessionState → Bool) (ss : List ScriptSessionState) (s : ℕ) → session_entry ss s ≡ None
    → p (fresh s) ≡ false → (t : ℕ)
    → is_some_and p (session_entry (ss ++ fresh s ∷ []) t) ≡ is_some_and p (session_entry ss t)
test_added p ss s none failed t =
    either_way t s
    (λ eq.
    ap (λ (u : ℕ). is_some_and p (session_entry (ss ++ fresh s ∷ []) u)) eq
    ∙ ap (is_some_and p) (entry_add ss (fresh s) none) ∙ failed
    ∙ sym (ap (λ (u : ℕ). is_some_and p (session_entry ss u)) eq ∙ ap (is_some_and p) none))
    (λ ne. ap (is_some_and p) (entry_behind ss (fresh s) t (λ e. ne (sym e))))

-- with a new session after the table, those sessions are open that are open after the event that
-- opens it
open_added : (ss : List ScriptSessionState) (s : ℕ) → session_entry ss s ≡ None → (t : ℕ)
    → is_session_open (ss ++ fresh s ∷ []) t ≡ open_after t (is_session_open ss t) (Open s)
open_added ss s none t =
    either_way t s
    (λ eq.
    ap (is_session_open (ss ++ fresh s ∷ [])) eq
    ∙ ap (is_some_and (λ (x : ScriptSessionState). not (is_closed x.stage))) (entry_add ss (fresh s) none)
    ∙ sym (ap (λ b. cond b true (is_session_open ss t)) (eq-eqb s t (sym eq))))
    (λ ne.
    ap (is_some_and (λ (x : ScriptSessionState). not (is_closed x.stage)))
    (entry_behind ss (fresh s) t (λ e. ne (sym e)))
    ∙ sym (ap (λ b. cond b true (is_session_open ss t)) (ne_eqb s t (λ e. ne (sym e)))))

-- where the list said nothing of a session and now says that it was opened, the entry of a new
-- session agrees with it
agrees_opened : (l : List PortRecord) (s : ℕ) → Agrees None (port_facts l s)
    → Agrees (Some (fresh s)) (port_facts (l ++ was.Opened s ∷ []) s)
agrees_opened l s h = subst (Agrees (Some (fresh s))) (sym (opened_here l s)) (refl, (λ i. h.1 i || h.2 i), h.3)

-- a consistent player that opens a session as its next event stays consistent
pub open_consistent : (p q : Player) (s : ℕ) (k : IsPlayerConsistent p) (f : IsFirst p (Open s))
    → OpensTo p q s f.after → IsPlayerConsistent q
open_consistent p q s k f o =
    let ss = p.sessions in let ss' = ss ++ fresh s ∷ [] in let l = p.records in
    let none = none_yet p s k o.newer in
    let each = each_step ss ss' l q.records (was.Opened s) s k.each o.records_are (λ t ne. ne_eqb s t (λ e. ne (sym e)))
    (λ t ne. entry_behind ss (fresh s) t (λ e. ne (sym e)))
    (subst (λ (e : Option ScriptSessionState). Agrees e (port_facts (l ++ was.Opened s ∷ []) s))
    (sym (entry_add ss (fresh s) none))
    (agrees_opened l s (subst (λ (e : Option ScriptSessionState). Agrees e (port_facts l s)) none (k.each s)))) in
    let newest_is : newest ss' ≡ s = newest_more 0 ss (fresh s) in
    let r = around p (Open s) k f in
    record {
      each = λ t. subst (λ (l : List ScriptSessionState). Agrees (session_entry l t) (port_facts q.records t))
          (sym o.sessions_are) (each t);
      opened_are = ap numbers o.sessions_are ∙ map-append (λ (x : ScriptSessionState). x.number) ss (fresh s ∷ [])
          ∙ ap (λ (n : List ℕ). n ++ s ∷ []) k.opened_are ∙ sym (opened_one l q.records s o.records_are);
      rising = λ t x e.
          subst (λ (m : List ScriptSessionState). t ≤ newest m) (sym o.sessions_are)
          (subst (λ (n : ℕ). t ≤ n) (sym newest_is)
          (either_way t s (λ eq. omega (arith, eq))
          (λ ne. let le = k.rising t x
          (sym (entry_behind ss (fresh s) t (λ e. ne (sym e)))
          ∙ ap (λ (m : List ScriptSessionState). session_entry m t) (sym o.sessions_are)
          ∙ e) in omega (arith, le, o.newer))));
      at_end = ap (is_in was.Ended) o.records_are ∙ ended_same l (was.Opened s) refl ∙ k.at_end ∙ sym o.ended_is;
      plays = λ tells.
          let told = ap is_playable (sym o.script_is) ∙ tells in
          (λ i. plays_from (newest (o.sessions_are i)) (is_session_open (o.sessions_are i))
          (events_left (o.sessions_are i) (in_order (o.events_are i))))
          ∙ plays_along s (newest ss') (λ t. open_after t (is_session_open ss t) (Open s)) (is_session_open ss')
          (events_left ss p.events.aside ++ events_left ss f.after) (events_left ss' (p.events.aside ++ f.after))
          newest_is (open_added ss s none)
          (left_same ss ss' (p.events.aside ++ f.after)
          (test_added (λ (x : ScriptSessionState). is_closed x.stage) ss s none refl)
          ∙ filter-append (is_left ss) p.events.aside f.after)
          ((r.taken told).rest_plays);
      follows = λ tells.
          let told = ap is_playable (sym o.script_is) ∙ tells in
          let L1 = events_left ss p.events.aside in let L2 = events_left ss f.after in
          let apart = apart_before ss (newest ss) (Open s) L1 k.rising r.free r.paused in
          follows_faults p q o.script_is o.can_fail_is
          (follows_open p.script (events_left ss (in_order p.events))
          (events_left q.sessions (in_order q.events)) L1 L2 l q.records s (was_closed ss)
          (was_closed q.sessions) p.can_fail
          r.left_is
          ((λ i. events_left (o.sessions_are i) (in_order (o.events_are i)))
          ∙ left_same ss ss' (p.events.aside ++ f.after)
          (test_added (λ (x : ScriptSessionState). is_closed x.stage) ss s none refl)
          ∙ filter-append (is_left ss) p.events.aside f.after)
          o.records_are
          (no_opens (newest ss) (is_session_open ss) (Open s) L1 (Open s ∷ L2) apart
          (ap (plays_from (newest ss) (is_session_open ss)) (sym r.left_is) ∙ k.plays told))
          (λ t. ap (λ (m : List ScriptSessionState). was_closed m t) o.sessions_are
          ∙ test_added (λ (x : ScriptSessionState). is_closed x.stage) ss s none refl t)
          (k.follows told));
      aside = subst (λ (e : RemainingState). NoneReady q.sessions e.aside) (sym o.events_are)
          (subst (λ (m : List ScriptSessionState). NoneReady m p.events.aside) (sym o.sessions_are)
          (none_ready ss ss' p.events.aside
          (ready_same ss ss' (test_added (λ (x : ScriptSessionState). is_closed x.stage) ss s none refl)
          (test_added (λ (x : ScriptSessionState). is_paused x.stage) ss s none refl)) k.aside));
      finished = λ over. absurd (none_around p (Open s) k f (sym o.ended_is ∙ over));
      may_fail = λ some. o.can_fail_is ∙ k.may_fail (subst (λ n. 0 < n) o.fail_is some);
    }

-- where table and list agree on a session, and it was opened by the list, it has an entry
not_opened : (o : Option ScriptSessionState) (f : PortFacts) → Agrees o f → f.opened ≡ true
    → (x : ScriptSessionState) × (o ≡ Some x)
not_opened (Some x) f h e = (x, refl)
not_opened None f h e = absurd (true≢false (sym e ∙ h.0))

-- in a consistent player no session that the list has as opened is above the newest
pub old_sessions : (p : Player) → IsPlayerConsistent p → (t : ℕ) → is_in (was.Opened t) p.records ≡ true → t ≤ newest p.sessions
old_sessions p k t e = let x = not_opened (session_entry p.sessions t) (port_facts p.records t) (k.each t) e in
    k.rising t x.0 x.1

-- where the script may be played as it stands, a session that a running player opens next comes as
-- it may
pub open_told : (p q : Player) (s : ℕ) (k : IsPlayerConsistent p) (f : IsFirst p (Open s))
    → OpensTo p q s f.after
    → p.ended ≡ false → is_playable p.script ≡ true
    → TellsNext (player_state p) (event.Opened s) (player_state q)
open_told p q s k f o running tells =
    let ss = p.sessions in let ss' = ss ++ fresh s ∷ [] in
    let none = none_yet p s k o.newer in
    let r = around p (Open s) k f in
    let left : events_left q.sessions (in_order q.events) ≡ events_left ss p.events.aside ++ events_left ss f.after =
    (λ i. events_left (o.sessions_are i) (in_order (o.events_are i)))
    ∙ left_same ss ss' (p.events.aside ++ f.after)
    (test_added (λ (x : ScriptSessionState). is_closed x.stage) ss s none refl)
    ∙ filter-append (is_left ss) p.events.aside f.after in
    record {
      records_are = o.records_are;
      may = λ sizes dialect worker exchange history. (
        omega (arith, o.newer),
        (λ t e. let le = old_sessions p k t e in omega (arith, le, o.newer)),
        k.at_end ∙ running,
      );
      plays = record {
        before = events_left ss p.events.aside;
        after = events_left ss f.after;
        old_is = r.left_is;
        paused = r.paused;
        free = r.free;
        left_is = left ∙ ap (λ (l : List ScriptEvent). l ++ events_left ss f.after)
            (sym (append-nil (events_left ss p.events.aside)));
      };
      goes_on = (
        o.script_is,
        o.accept_is,
        o.fail_is,
        (λ t. ap (λ (m : List ScriptSessionState). is_session_paused m t) o.sessions_are
            ∙ test_added (λ (x : ScriptSessionState). is_paused x.stage) ss s none refl t),
      );
    }

-- ---- the next piece of a send

-- a player hands out the next piece of a send and records it; what is left of the send takes its
-- place, and nothing else changes
pub record SendsTo (p q : Player) (s : ℕ) (bytes : List ℕ) (after : List ScriptEvent) : Type 0 where
  pub sessions_are : q.sessions ≡ p.sessions
  pub records_are : q.records ≡ p.records ++ was.Data s (take 16384 bytes) ∷ []
  pub ended_is : q.ended ≡ p.ended
  pub script_is : q.script ≡ p.script
  pub accept_is : q.accept ≡ p.accept
  pub fail_is : q.fail_give ≡ p.fail_give
  pub can_fail_is : q.can_fail ≡ p.can_fail
  pub events_are : q.events ≡ record p.events { rest = send_after s bytes ++ after }

-- where a send is left, what remains of it after its next piece is left too
rest_left : (ss : List ScriptSessionState) (s : ℕ) (bytes : List ℕ) → is_left ss (Send s bytes) ≡ true
    → events_left ss (send_after s bytes) ≡ send_after s bytes
rest_left ss s bytes stays =
    bool_cases (nat_lt 16384 (length bytes))
    (λ more.
    let e : send_after s bytes ≡ Send s (drop 16384 bytes) ∷ [] =
    ap (λ b. cond b (Send s (drop 16384 bytes) ∷ []) []) more in
    ap (events_left ss) e ∙ ap (λ b. cond b (Send s (drop 16384 bytes) ∷ []) []) stays ∙ sym e)
    (λ last. let e : send_after s bytes ≡ [] = ap (λ b. cond b (Send s (drop 16384 bytes) ∷ []) []) last in
    ap (events_left ss) e ∙ sym e)

-- what is left of three lists, one after the other, is what is left of each, one after the other
left_around : (ss : List ScriptSessionState) (xs ys zs : List ScriptEvent)
    → events_left ss (xs ++ ys ++ zs) ≡ events_left ss xs ++ events_left ss ys ++ events_left ss zs
left_around ss xs ys zs = filter-append (is_left ss) (xs ++ ys) zs
    ∙ ap (λ (l : List ScriptEvent). l ++ events_left ss zs) (filter-append (is_left ss) xs ys)

-- once a piece is handed out, what is left of the send stands in its place among the events that
-- are left
send_left : (p q : Player) (s : ℕ) (bytes : List ℕ) (after : List ScriptEvent) → SendsTo p q s bytes after
    → is_left p.sessions (Send s bytes) ≡ true
    → events_left q.sessions (in_order q.events)
    ≡ events_left p.sessions p.events.aside ++ send_after s bytes ++ events_left p.sessions after
send_left p q s bytes after o stays =
    let ss = p.sessions in
    let before = p.events.aside in
    (λ i. events_left (o.sessions_are i) (in_order (o.events_are i)))
    ∙ ap (events_left ss) (sym (append_assoc before (send_after s bytes) after))
    ∙ left_around ss before (send_after s bytes) after
    ∙ ap (λ (l : List ScriptEvent). events_left ss before ++ l ++ events_left ss after) (rest_left ss s bytes stays)

-- events that may come with a send among them, and once it was taken out first, may come with its
-- rest in its place
rest_plays : (n : ℕ) (o : ℕ → Bool) (xs : List ScriptEvent) (s : ℕ) (bytes : List ℕ) (ys : List ScriptEvent)
    → plays_from n o (xs ++ Send s bytes ∷ ys) ≡ true → TakenOut n o (Send s bytes) (xs ++ ys)
    → plays_from n o (xs ++ send_after s bytes ++ ys) ≡ true
rest_plays n o xs s bytes ys whole taken =
    bool_cases (nat_lt 16384 (length bytes))
    (λ more.
    let rest = drop 16384 bytes in
    let e : send_after s bytes ≡ Send s rest ∷ [] = ap (λ b. cond b (Send s rest ∷ []) []) more in
    ap (λ (l : List ScriptEvent). plays_from n o (xs ++ l ++ ys)) e
    ∙ ap (plays_from n o) (append_assoc xs (Send s rest ∷ []) ys)
    ∙ sym (send_again n o xs s bytes rest ys) ∙ whole)
    (λ last.
    let e : send_after s bytes ≡ [] = ap (λ b. cond b (Send s (drop 16384 bytes) ∷ []) []) last in
    ap (λ (l : List ScriptEvent). plays_from n o (xs ++ l ++ ys)) e
    ∙ ap (λ (l : List ScriptEvent). plays_from n o (l ++ ys)) (append-nil xs) ∙ taken.rest_plays)

-- a consistent player that hands out a piece of a send as its next event stays consistent
pub send_consistent : (p q : Player) (s : ℕ) (bytes : List ℕ) (k : IsPlayerConsistent p)
    (f : IsFirst p (Send s bytes))
    → SendsTo p q s bytes f.after → IsPlayerConsistent q
send_consistent p q s bytes k f o =
    let ss = p.sessions in let l = p.records in let x = was.Data s (take 16384 bytes) in
    let r = around p (Send s bytes) k f in
    let here = subst (Agrees (session_entry ss s)) (sym (fed_here l s (take 16384 bytes)))
    (agrees_fed (session_entry ss s) (port_facts l s) (list.fed s l ++ take 16384 bytes) (k.each s)) in
    let each = each_step ss ss l q.records x s k.each o.records_are (λ t ne. ne_eqb s t (λ e. ne (sym e)))
    (λ t ne. refl) here in
    record {
      each = λ t. subst (λ (m : List ScriptSessionState). Agrees (session_entry m t) (port_facts q.records t))
          (sym o.sessions_are) (each t);
      opened_are = ap numbers o.sessions_are ∙ k.opened_are ∙ sym (opened_more l q.records x o.records_are refl);
      rising = λ t y e. subst (λ (m : List ScriptSessionState). t ≤ newest m) (sym o.sessions_are)
          (k.rising t y (ap (λ (m : List ScriptSessionState). session_entry m t) (sym o.sessions_are) ∙ e));
      at_end = ap (is_in was.Ended) o.records_are ∙ ended_same l x refl ∙ k.at_end ∙ sym o.ended_is;
      plays = λ tells.
          let told = ap is_playable (sym o.script_is) ∙ tells in
          (λ i. plays_from (newest (o.sessions_are i)) (is_session_open (o.sessions_are i))
          (send_left p q s bytes f.after o r.is_left_too i))
          ∙ rest_plays (newest ss) (is_session_open ss) (events_left ss p.events.aside) s bytes (events_left ss f.after)
          (ap (plays_from (newest ss) (is_session_open ss)) (sym r.left_is) ∙ k.plays told) (r.taken told);
      follows = λ tells.
          let told = ap is_playable (sym o.script_is) ∙ tells in
          let L1 = events_left ss p.events.aside in let L2 = events_left ss f.after in
          let apart = apart_before ss (newest ss) (Send s bytes) L1 k.rising r.free r.paused in
          follows_faults p q o.script_is o.can_fail_is
          (follows_send p.script (events_left ss (in_order p.events))
          (events_left q.sessions (in_order q.events)) L1 L2 l q.records s bytes (was_closed ss)
          (was_closed q.sessions) p.can_fail
          r.left_is (send_left p q s bytes f.after o r.is_left_too) o.records_are
          (sent_apart (newest ss) (Send s bytes) L1 apart)
          (not_true (was_closed ss s) r.is_left_too)
          (λ t. ap (λ (m : List ScriptSessionState). was_closed m t) o.sessions_are)
          (k.follows told));
      aside = subst (λ (e : RemainingState). NoneReady q.sessions e.aside) (sym o.events_are)
          (subst (λ (m : List ScriptSessionState). NoneReady m p.events.aside) (sym o.sessions_are) k.aside);
      finished = λ over. absurd (none_around p (Send s bytes) k f (sym o.ended_is ∙ over));
      may_fail = λ some. o.can_fail_is ∙ k.may_fail (subst (λ n. 0 < n) o.fail_is some);
    }

-- the first so many of some bytes are no more than so many
short_take : (n : ℕ) (xs : List ℕ) → length (take n xs) ≤ n
short_take n xs = omega (arith, length-take n xs)

-- where the script may be played as it stands, a piece that a running player hands out next comes
-- as it may
pub send_told : (p q : Player) (s : ℕ) (bytes : List ℕ) (k : IsPlayerConsistent p) (f : IsFirst p (Send s bytes))
    → SendsTo p q s bytes f.after → p.ended ≡ false → is_playable p.script ≡ true
    → TellsNext (player_state p) (event.Data s (take 16384 bytes)) (player_state q)
send_told p q s bytes k f o running tells =
    let ss = p.sessions in
    let r = around p (Send s bytes) k f in record {
      records_are = o.records_are;
      may = λ sizes dialect worker exchange history. (
        (open_in_list p s k ((r.taken tells).may), r.free, (k.follows tells).never_over s, k.at_end ∙ running),
        short_take 16384 bytes,
      );
      plays = (
        bytes,
        refl,
        record {
          before = events_left ss p.events.aside;
          after = events_left ss f.after;
          old_is = r.left_is;
          paused = r.paused;
          free = r.free;
          left_is = send_left p q s bytes f.after o r.is_left_too;
        },
      );
      goes_on = (
        o.script_is,
        o.accept_is,
        o.fail_is,
        (λ t. ap (λ (m : List ScriptSessionState). is_session_paused m t) o.sessions_are),
      );
    }

-- ---- the peer has gone

-- the stage of a closed session isn't that of a paused one
closed_stage : (g : Stage) → is_closed g ≡ true → is_paused g ≡ false
closed_stage Playing e = refl
closed_stage Paused e = absurd (true≢false (sym e))
closed_stage Closed e = refl

-- a session that is closed isn't paused
pub closed_not_paused : (o : Option ScriptSessionState)
    → is_some_and (λ (x : ScriptSessionState). is_closed x.stage) o ≡ true
    → is_some_and (λ (x : ScriptSessionState). is_paused x.stage) o ≡ false
closed_not_paused None e = refl
closed_not_paused (Some x) e = closed_stage x.stage e

-- a player takes an event away, and nothing else changes
pub record GoesTo (m q : Player) (after : List ScriptEvent) : Type 0 where
  pub q_is : q ≡ record m { events = q.events }
  pub events_are : q.events ≡ record m.events { rest = after }

-- the event of a session that was just closed is taken away
dead_left : (ss : List ScriptSessionState) (s : ℕ) (xs ys : List ScriptEvent) → was_closed ss s ≡ true
    → events_left ss (xs ++ ys) ≡ events_left ss (xs ++ Gone s ∷ ys)
dead_left ss s xs ys dead =
    filter-append (is_left ss) xs ys
    ∙ sym (filter-append (is_left ss) xs (Gone s ∷ ys)
    ∙ ap (λ b. events_left ss xs ++ cond (not b) (Gone s ∷ events_left ss ys) (events_left ss ys)) dead)

-- the events of the other sessions are the same with a session's peer going among them or not
without_gone : (s : ℕ) (xs ys : List ScriptEvent) → events_without s (xs ++ Gone s ∷ ys) ≡ events_without s (xs ++ ys)
without_gone s xs ys =
    filter-append (λ (e : ScriptEvent). not (event_session e == s)) xs (Gone s ∷ ys)
    ∙ ap (λ b. events_without s xs ++ cond (not b) (Gone s ∷ events_without s ys) (events_without s ys))
    (eq-eqb s s refl)
    ∙ sym (filter-append (λ (e : ScriptEvent). not (event_session e == s)) xs ys)

-- once a session is closed, the same events are left when the one with which its peer goes is taken
-- away
gone_left : (p m q : Player) (s : ℕ) (f : IsFirst p (Gone s)) → RecordsClose p s (was.Gone s) m
    → GoesTo m q f.after
    → events_left m.sessions (in_order q.events) ≡ events_left m.sessions (in_order m.events)
gone_left p m q s f c g =
    ap (λ (e : RemainingState). events_left m.sessions (in_order e)) g.events_are
    ∙ dead_left m.sessions s m.events.aside f.after c.closed
    ∙ ap (λ (l : List ScriptEvent). events_left m.sessions (m.events.aside ++ l))
    (sym (ap (λ (e : RemainingState). e.rest) c.events_are ∙ f.rest_is))

-- a player that is consistent once it has closed a session is so once the event with which the peer
-- goes is taken away
pub gone_consistent : (p m q : Player) (s : ℕ) → IsPlayerConsistent p → (f : IsFirst p (Gone s))
    → RecordsClose p s (was.Gone s) m
    → GoesTo m q f.after → IsPlayerConsistent m → IsPlayerConsistent q
gone_consistent p m q s old f c g k =
    subst IsPlayerConsistent (sym g.q_is) (record {
      each = k.each;
      opened_are = k.opened_are;
      rising = k.rising;
      at_end = k.at_end;
      plays = λ tells. ap (plays_from (newest m.sessions) (is_session_open m.sessions)) (gone_left p m q s f c g)
          ∙ k.plays tells;
      follows = λ tells. follows_as m.script (events_left m.sessions (in_order m.events)) _ m.records
          (was_closed m.sessions) (was_closed m.sessions) m.can_fail (gone_left p m q s f c g) (λ t. refl)
          (k.follows tells);
      aside = subst (λ (e : RemainingState). NoneReady m.sessions e.aside) (sym g.events_are) k.aside;
      finished = λ over. absurd (none_around p (Gone s) old f (sym c.ended_is ∙ over));
      may_fail = k.may_fail;
    })

-- where the script may be played as it stands, a peer that goes next from a running player goes as
-- it may
pub gone_told : (p m q : Player) (s : ℕ) (k : IsPlayerConsistent p) (f : IsFirst p (Gone s))
    → RecordsClose p s (was.Gone s) m
    → GoesTo m q f.after → p.ended ≡ false → is_playable p.script ≡ true
    → TellsNext (player_state p) (event.Gone s) (player_state q)
gone_told p m q s k f c g running tells =
    let ss = p.sessions in
    let r = around p (Gone s) k f in
    let L1 = events_left ss p.events.aside in let L2 = events_left ss f.after in
    let none : L1 ++ [] ++ L2 ≡ L1 ++ L2 = ap (λ (l : List ScriptEvent). l ++ L2) (append-nil L1) in
    subst (λ (z : Player). TellsNext (player_state p) (event.Gone s) (player_state z)) (sym g.q_is) (record {
      records_are = c.records_are;
      may = λ sizes dialect worker exchange history. (open_in_list p s k ((r.taken tells).may), k.at_end ∙ running);
      plays = (
        L1 ++ [] ++ L2,
        record { before = L1; after = L2; old_is = r.left_is; paused = r.paused; free = r.free; left_is = refl },
        gone_left p m q s f c g ∙ c.shuts.left ∙ ap (events_without s) r.left_is ∙ without_gone s L1 L2
            ∙ ap (events_without s) (sym none),
      );
      goes_on = (
        c.shuts.faults.0,
        c.shuts.faults.1,
        c.shuts.faults.2,
        (λ t. either_way t s
            (λ eq. ap (is_session_paused m.sessions) eq ∙ closed_not_paused (session_entry m.sessions s) c.closed
            ∙ sym (ap (is_session_paused ss) eq ∙ r.free))
            (λ ne. c.shuts.others t ne)),
      );
    })

-- a peer of which a line goes may go
pub goes_by_line : (p : Player) (s : ℕ) → IsPlayerConsistent p → IsFirst p (Gone s) → IsCausedAt p s (was.Gone s)
goes_by_line p s k f tells same =
    let ss = p.sessions in
    inl ((k.follows tells).to_go s (ap (λ xs. goes_in_script xs s) (around p (Gone s) k f).left_is
    ∙ goes_here (events_left ss p.events.aside) s (events_left ss f.after)))

-- ---- where the port doesn't tell

-- nothing but the events changes
pub odd_consistent : (p q : Player) → IsPlayerConsistent p → q.sessions ≡ p.sessions → q.records ≡ p.records
    → q.ended ≡ p.ended
    → q.script ≡ p.script → q.fail_give ≡ p.fail_give → q.can_fail ≡ p.can_fail → q.events.aside ≡ p.events.aside
    → (q.ended ≡ true → in_order q.events ≡ [])
    → (is_playable p.script ≡ true → ⊥) → IsPlayerConsistent q
odd_consistent p q k sessions_are records_are ended_is script_is fail_is can_fail_is aside_is finished silent = record {
  each = λ t. subst (λ (m : List ScriptSessionState). Agrees (session_entry m t) (port_facts q.records t))
      (sym sessions_are)
      (subst (λ (l : List PortRecord). Agrees (session_entry p.sessions t) (port_facts l t)) (sym records_are)
      (k.each t));
  opened_are = ap numbers sessions_are ∙ k.opened_are ∙ sym (ap opened_sessions records_are);
  rising = λ t y e. subst (λ (m : List ScriptSessionState). t ≤ newest m) (sym sessions_are)
      (k.rising t y (ap (λ (m : List ScriptSessionState). session_entry m t) (sym sessions_are) ∙ e));
  at_end = ap (is_in was.Ended) records_are ∙ k.at_end ∙ sym ended_is;
  plays = λ tells. absurd (silent (ap is_playable (sym script_is) ∙ tells));
  follows = λ tells. absurd (silent (ap is_playable (sym script_is) ∙ tells));
  aside = subst (λ (m : List ScriptSessionState). NoneReady m q.events.aside) (sym sessions_are)
      (subst (NoneReady p.sessions) (sym aside_is) k.aside);
  finished = finished;
  may_fail = λ some. can_fail_is ∙ k.may_fail (subst (λ n. 0 < n) fail_is some);
}

-- a session that opens is new, and one of which something comes is open
pub opens_new : (p : Player) (s : ℕ) → IsPlayerConsistent p → IsFirst p (Open s)
    → is_playable p.script ≡ true → newest p.sessions < s
opens_new p s k f tells = lt_true (newest p.sessions) s (((around p (Open s) k f).taken tells).may)

-- where the script may be played as it stands, the session of a send that is played next is open
pub sends_open : (p : Player) (s : ℕ) (bytes : List ℕ) → IsPlayerConsistent p → IsFirst p (Send s bytes)
    → is_playable p.script ≡ true → is_session_open p.sessions s ≡ true
sends_open p s bytes k f tells = ((around p (Send s bytes) k f).taken tells).may

-- where the script may be played as it stands, the session of a peer that goes next is open
pub goes_open : (p : Player) (s : ℕ) → IsPlayerConsistent p → IsFirst p (Gone s)
    → is_playable p.script ≡ true → is_session_open p.sessions s ≡ true
goes_open p s k f tells = ((around p (Gone s) k f).taken tells).may

-- ---- closed sessions' events in front

-- what is left of a list around an event of a closed session is what is left without it
pub left_drop : (ss : List ScriptSessionState) (xs : List ScriptEvent) (e : ScriptEvent) (ys : List ScriptEvent)
    → is_left ss e ≡ false → events_left ss (xs ++ ys) ≡ events_left ss (xs ++ e ∷ ys)
left_drop ss xs e ys dead =
    filter-append (is_left ss) xs ys
    ∙ sym (filter-append (is_left ss) xs (e ∷ ys)
    ∙ ap (λ b. events_left ss xs ++ cond b (e ∷ events_left ss ys) (events_left ss ys)) dead)

-- the first event of some: the first of the rest, or of those aside where there is no rest
abbrev pub IsFirstOf : RemainingState → ScriptEvent → Type 0
IsFirstOf r e = (r.rest ≡ e ∷ drop 1 r.rest) ⊎ ((r.rest ≡ []) × (r.aside ≡ e ∷ drop 1 r.aside))

-- what a list with a first event has is more than nothing
some_length : (xs : List ScriptEvent) (e : ScriptEvent) (ys : List ScriptEvent) → xs ≡ e ∷ ys → 0 < length xs
some_length xs e ys is = let k = ap length is in omega (arith, k)

-- the first event, of a closed session, is dropped: the same ones are left, and none of those aside
-- may be played
pub record DropsDead (ss : List ScriptSessionState) (old new : RemainingState) : Type 0 where
  pub left : events_left ss (in_order new) ≡ events_left ss (in_order old)
  pub aside : NoneReady ss old.aside → NoneReady ss new.aside
  pub fewer : length (in_order new) < length (in_order old)

-- the first of the rest is dropped
drops_rest : (ss : List ScriptSessionState) (old : RemainingState) (e : ScriptEvent) → is_left ss e ≡ false
    → old.rest ≡ e ∷ drop 1 old.rest → DropsDead ss old (record old { rest = drop 1 old.rest })
drops_rest ss old e dead is = record {
  left = left_drop ss old.aside e (drop 1 old.rest) dead ∙ ap (λ l. events_left ss (old.aside ++ l)) (sym is);
  aside = λ h. h;
  fewer = (
      let a = length-append old.aside (drop 1 old.rest) in
      let b = length-append old.aside old.rest in
      let k = ap length is in omega (arith, a, b, k)
      );
}

-- the first of those aside is dropped
drops_aside : (ss : List ScriptSessionState) (old : RemainingState) (e : ScriptEvent) → is_left ss e ≡ false
    → old.aside ≡ e ∷ drop 1 old.aside → DropsDead ss old (record old { aside = drop 1 old.aside })
drops_aside ss old e dead is = record {
  left = left_drop ss [] e (drop 1 old.aside ++ old.rest) dead ∙ ap (λ l. events_left ss (l ++ old.rest)) (sym is);
  aside = λ h. (subst (NoneReady ss) is h).1;
  fewer = (
      let a = length-append (drop 1 old.aside) old.rest in
      let b = length-append old.aside old.rest in
      let k = ap length is in omega (arith, a, b, k)
      );
}

-- either of both
pub drops_dead : (ss : List ScriptSessionState) (old new : RemainingState) (e : ScriptEvent) → is_left ss e ≡ false
    → IsFirstOf old e → (0 < length old.rest → new ≡ record old { rest = drop 1 old.rest })
    → (old.rest ≡ [] → new ≡ record old { aside = drop 1 old.aside }) → DropsDead ss old new
drops_dead ss old new e dead first rest aside =
    ⊎_elim
    (λ (is : old.rest ≡ e ∷ drop 1 old.rest). subst (DropsDead ss old)
    (sym (rest (some_length old.rest e (drop 1 old.rest) is))) (drops_rest ss old e dead is))
    (λ (is : (old.rest ≡ []) × (old.aside ≡ e ∷ drop 1 old.aside)). subst (DropsDead ss old) (sym (aside is.0))
    (drops_aside ss old e dead is.1)) first

-- a list with an event that is left isn't empty
some_left : (ss : List ScriptSessionState) (xs : List ScriptEvent) (e : ScriptEvent) (ys : List ScriptEvent)
    → is_left ss e ≡ true → events_left ss (xs ++ e ∷ ys) ≡ [] → ⊥
some_left ss xs e ys alive none = seam_none (events_left ss xs) e (events_left ss ys)
    (sym (left_with ss xs e ys alive) ∙ none)
  where
    seam_none : (xs : List ScriptEvent) (e : ScriptEvent) (ys : List ScriptEvent) → xs ++ e ∷ ys ≡ [] → ⊥
    seam_none [] e ys none = cc
    seam_none (x ∷ xs) e ys none = cc

-- if the first event is of a session that isn't closed, some event is left
pub left_first : (ss : List ScriptSessionState) (r : RemainingState) (e : ScriptEvent) → IsFirstOf r e
    → is_left ss e ≡ true → events_left ss (in_order r) ≡ [] → ⊥
left_first ss r e first alive none =
    ⊎_elim
    (λ (is : r.rest ≡ e ∷ drop 1 r.rest). some_left ss r.aside e (drop 1 r.rest) alive
    (ap (λ l. events_left ss (r.aside ++ l)) (sym is) ∙ none))
    (λ (is : (r.rest ≡ []) × (r.aside ≡ e ∷ drop 1 r.aside)). some_left ss [] e (drop 1 r.aside ++ r.rest) alive
    (ap (λ l. events_left ss (l ++ r.rest)) (sym is.1) ∙ none)) first

-- ---- the faults

-- more may fail, and nothing else that is said changes
pub faults_consistent : (p : Player) (accept fail_give : ℕ) (can_fail : Bool) → IsPlayerConsistent p
    → (p.can_fail ≡ true → can_fail ≡ true)
    → (0 < fail_give → can_fail ≡ true)
    → IsPlayerConsistent (record p { accept = accept; fail_give = fail_give; can_fail = can_fail })
faults_consistent p accept fail_give can_fail k more some = record {
  each = k.each;
  opened_are = k.opened_are;
  rising = k.rising;
  at_end = k.at_end;
  plays = k.plays;
  follows = λ tells. let f = k.follows tells in record {
    opened_are = f.opened_are;
    fed_are = f.fed_are;
    begun = f.begun;
    to_go = f.to_go;
    gone_by = λ s gone. ⊎_elim (λ line. inl line) (λ could. inr (more could)) (f.gone_by s gone);
    never_over = f.never_over;
  };
  aside = k.aside;
  finished = k.finished;
  may_fail = some;
}
