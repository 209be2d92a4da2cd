-- What is left of a port whose session is paused or resumed.
use Rattle.std.proofs.Common.{◌≡◌, ◌≢◌, ℕ, true, false, not, List, take, sym, ap, subst, ◌∙◌}
use Rattle.std.specs.List.{All}
use Rattle.std.proofs.lemmas.List.Elements.{recursion_from_All}
use Rattle.script.specs.declared.event.ScriptEvent.{ScriptEvent}
use Rattle.worker_port.specs.PortFacts.{port_facts}
use Rattle.script.specs.declared.player.Player.{Player}
use Rattle.script.specs.declared.sessions.Stage.{Stage}
use Rattle.script.specs.PortEvents.{event_session}
use Rattle.script.specs.Remaining.{RemainingState, in_order}
use Rattle.script.specs.PortSessions.{ScriptSessionState, newest, last_from, session_entry, is_session_open, is_closed}
use Rattle.script.specs.PortSessions.{is_paused, was_closed, with_stage, ChangesScriptSession}
use Rattle.script.specs.States.{SetsPaused}
use Rattle.script.specs.Players.{Agrees, events_left, NoneReady, player_state, IsPlayerConsistent}
use Rattle.proto.proofs.CountLemmas.{either_way}
use Rattle.script.proofs.FollowLemmas.{follows_as}
use Rattle.script.proofs.PlayerLemmas.{open_entry, rising_at, test_here, test_other, test_same, left_same}
use Rattle.script.proofs.PlayerLemmas.{plays_along}
use Rattle.script.proofs.PlayerLemmas.{agrees_stage, none_ready, ready_paused, none_ready_but, none_ready_take}

-- an open session's stage has changed, and the events are in the order that they were in
pub record ChangesStage (p : Player) (ss' : List ScriptSessionState) (r : RemainingState) (s : ℕ) (stage : Stage)
    : Type 0 where
  pub was_open : is_session_open p.sessions s ≡ true
  pub stays_open : is_closed stage ≡ false
  pub at : ChangesScriptSession p.sessions s (with_stage stage) ss'
  pub order : in_order r ≡ in_order p.events

-- the same sessions are closed
stage_closed : (p : Player) (ss' : List ScriptSessionState) (r : RemainingState) (s : ℕ) (stage : Stage)
    → ChangesStage p ss' r s stage → (t : ℕ) → was_closed ss' t ≡ was_closed p.sessions t
stage_closed p ss' r s stage h =
    let x = open_entry p.sessions s h.was_open in
    test_same (λ (y : ScriptSessionState). is_closed y.stage) p.sessions ss' s (with_stage stage) x.0 h.at x.1
    (h.stays_open ∙ sym x.2)

-- the same events are left
stage_left : (p : Player) (ss' : List ScriptSessionState) (r : RemainingState) (s : ℕ) (stage : Stage)
    → ChangesStage p ss' r s stage → events_left ss' (in_order r) ≡ events_left p.sessions (in_order p.events)
stage_left p ss' r s stage h = ap (events_left ss') h.order
    ∙ left_same p.sessions ss' (in_order p.events) (stage_closed p ss' r s stage h)

-- a player that is consistent is so with another stage of an open session, if none of those aside
-- may be played
pub stage_consistent : (p : Player) (ss' : List ScriptSessionState) (r : RemainingState) (s : ℕ) (stage : Stage)
    → IsPlayerConsistent p → ChangesStage p ss' r s stage → NoneReady ss' r.aside
    → IsPlayerConsistent (record p { sessions = ss'; events = r })
stage_consistent p ss' r s stage k h aside =
    let ss = p.sessions in let l = p.records in let a = h.at in
    let x = open_entry ss s h.was_open in
    let same : is_closed stage ≡ is_closed x.0.stage = h.stays_open ∙ sym x.2 in
    let left = stage_left p ss' r s stage h in
    record {
      each = λ t.
          either_way t s
          (λ eq. subst (λ (u : ℕ). Agrees (session_entry ss' u) (port_facts l u)) (sym eq)
          (agrees_stage ss ss' l s stage x.0 a x.1 same (k.each s)))
          (λ ne. subst (λ o. Agrees o (port_facts l t)) (sym (a.others t ne)) (k.each t));
      opened_are = a.numbers_are ∙ k.opened_are;
      rising = rising_at ss ss' s (with_stage stage) a k.rising;
      at_end = k.at_end;
      plays = λ tells. plays_along (newest ss) (newest ss') (is_session_open ss) (is_session_open ss')
          (events_left ss (in_order p.events)) (events_left ss' (in_order r))
          (ap (last_from 0) a.numbers_are)
          (test_same (λ (y : ScriptSessionState). not (is_closed y.stage)) ss ss' s (with_stage stage) x.0 a x.1
          (ap not same)) left (k.plays tells);
      follows = λ tells.
          follows_as p.script (events_left ss (in_order p.events)) (events_left ss' (in_order r)) l
          (was_closed ss) (was_closed ss') p.can_fail left (stage_closed p ss' r s stage h) (k.follows tells);
      aside = aside;
      finished = λ over. h.order ∙ k.finished over;
      may_fail = k.may_fail;
    }

-- of what is said of the player, only what is paused changes
pub stage_state : (p : Player) (ss' : List ScriptSessionState) (r : RemainingState) (s : ℕ) (stage : Stage)
    → ChangesStage p ss' r s stage
    → SetsPaused (player_state p) s (is_paused stage) (player_state (record p { sessions = ss'; events = r }))
stage_state p ss' r s stage h =
    let x = open_entry p.sessions s h.was_open in
    record {
      rest = λ i. record (player_state p) { left = stage_left p ss' r s stage h i; sessions = ss' };
      here = test_here (λ (y : ScriptSessionState). is_paused y.stage) p.sessions ss' s
          (with_stage stage) x.0 h.at x.1;
      others = test_other (λ (y : ScriptSessionState). is_paused y.stage) p.sessions ss' s (with_stage stage) h.at;
    }

-- of the events aside none may be played once a session is paused
pub paused_aside : (p : Player) (ss' : List ScriptSessionState) (r : RemainingState) (s : ℕ) (stage : Stage)
    → IsPlayerConsistent p → ChangesStage p ss' r s stage → is_paused stage ≡ true → NoneReady ss' p.events.aside
paused_aside p ss' r s stage k h paused =
    none_ready p.sessions ss' p.events.aside
    (ready_paused p.sessions ss' s ((stage_state p ss' r s stage h).here ∙ paused)
    (λ t ne. stage_closed p ss' r s stage h t) (stage_state p ss' r s stage h).others) k.aside

-- of the events that stay aside none may be played once a session is resumed of which there is none
pub resumed_aside : (p : Player) (ss' : List ScriptSessionState) (r : RemainingState) (s stay : ℕ) (stage : Stage)
    → IsPlayerConsistent p → ChangesStage p ss' r s stage
    → All (λ (e : ScriptEvent). event_session e ≢ s) (take stay p.events.aside)
    → NoneReady ss' (take stay p.events.aside)
resumed_aside p ss' r s stay stage k h others =
    none_ready_but p.sessions ss' s (take stay p.events.aside)
    (λ t ne. stage_closed p ss' r s stage h t) (stage_state p ss' r s stage h).others
    (recursion_from_All (λ (e : ScriptEvent). event_session e ≢ s) (take stay p.events.aside) others)
    (none_ready_take p.sessions stay p.events.aside k.aside)
