-- What a port tells after each of its calls.
use Rattle.std.proofs.Common.{◌≡◌, ◌≢◌, ℕ, ◌==◌, Bool, true, false, ◌||◌, cond, eq-eqb, ne_eqb}
use Rattle.std.proofs.Common.{List, [], ◌∷◌, ◌++◌, refl, sym}
use Rattle.std.proofs.Common.{ap, subst, ◌∙◌, Some, None, option_map, Result, Ok, Err}
use Rattle.worker_port.specs.declared.events.PortRecord.{PortRecord}
use Rattle.worker_port.specs.declared.events.PortRecord.TheVariants as was
use Rattle.worker_port.specs.declared.events.PortEvent.{PortEvent}
use Rattle.worker_port.specs.declared.events.PortEvent.TheVariants as event
use Rattle.worker_port.specs.declared.events.Gone.{Gone}
use Rattle.proto.specs.declared.history.Answered.{Answered}
use Rattle.worker_port.specs.Giving.{by_any_clock}
use Rattle.worker_port.specs.Ports.{PortTrace, then_told, then_gave, with_pause, event_records, is_open, MayCome}
use Rattle.script.specs.PortEvents.{is_playable}
use Rattle.script.specs.Records.{give_records}
use Rattle.script.specs.PortSessions.{is_session_paused}
use Rattle.script.specs.States.{PortState, PlayerState, script_trace, trace_told, Gives, DropsSession, SetsPaused}
use Rattle.script.specs.declared.player.Player.{Player}
use Rattle.script.specs.Players.{player_state, TellsNext}
use Rattle.script.proofs.EventLemmas.{bool_cases}
use Rattle.proto.proofs.CountLemmas.{either_way}

-- where it tells, its trace is as it is said; where it doesn't, it still doesn't
pub told_step : (old new : PortState) (f : PortTrace → PortTrace) → new.player.script ≡ old.player.script
    → (is_playable old.player.script ≡ true → script_trace new ≡ f (script_trace old)) → trace_told new ≡ option_map f (trace_told old)
told_step old new f script_is step =
    bool_cases (is_playable old.player.script)
    (λ yes.
    ap (λ b. cond b (Some (script_trace new)) None) (ap is_playable script_is ∙ yes) ∙ ap Some (step yes)
    ∙ sym (ap (λ b. option_map f (cond b (Some (script_trace old)) None)) yes))
    (λ no.
    ap (λ b. cond b (Some (script_trace new)) None) (ap is_playable script_is ∙ no)
    ∙ sym (ap (λ b. option_map f (cond b (Some (script_trace old)) None)) no))

-- where the port tells, a session that is open in its trace is open in the player's list
pub open_where_told : (port : PortState) (p : Player) (s : ℕ) → player_state p ≡ port.player
    → ((trace : PortTrace) → trace_told port ≡ Some trace → is_open s trace.events ≡ true)
    → is_playable port.player.script ≡ true → is_open s p.records ≡ true
open_where_told port p s same asked tells = ap (λ (q : PlayerState). is_open s q.records) same
    ∙ asked (script_trace port) (ap (λ b. cond b (Some (script_trace port)) None) tells)

-- what may come, where the port tells
pub may_where_told : (port : PortState) (result : PortEvent)
    → (is_playable port.player.script ≡ true → MayCome (script_trace port) result)
    → (trace : PortTrace) → trace_told port ≡ Some trace → MayCome trace result
may_where_told port result may trace told =
    bool_cases (is_playable port.player.script)
    (λ yes.
    let same : Some (script_trace port) ≡ Some trace = sym (ap (λ b. cond b (Some (script_trace port)) None) yes) ∙ told in
    let is : script_trace port ≡ trace = cc in
    subst (λ (r : PortTrace). MayCome r result) is (may yes))
    (λ no. let wrong : None ≡ Some trace = sym (ap (λ b. cond b (Some (script_trace port)) None) no) ∙ told in absurd (cc))

-- a test joined by `||` with false stays as it is
or_none : (b : Bool) → (b || false) ≡ b
or_none true = refl
or_none false = refl

-- what ends a session leaves it paused no more, and the others as they are
ends_paused : (old new : PlayerState) (s t : ℕ) (ends : Bool) → ends ≡ (s == t) → is_session_paused new.sessions s ≡ false
    → ((u : ℕ) → u ≢ s → is_session_paused new.sessions u ≡ is_session_paused old.sessions u)
    → is_session_paused new.sessions t ≡ cond ends false (is_session_paused old.sessions t)
ends_paused old new s t ends ends_is here others =
    either_way t s
    (λ same. ap (is_session_paused new.sessions) same ∙ here
    ∙ sym (ap (λ b. cond b false (is_session_paused old.sessions t)) (ends_is ∙ eq-eqb s t (sym same))))
    (λ apart. others t apart ∙ sym (ap (λ b. cond b false (is_session_paused old.sessions t)) (ends_is ∙ ne_eqb s t (λ e. apart (sym e)))))

-- two numbers are compared in either order
either_order : (s t : ℕ) → (t == s) ≡ (s == t)
either_order s t = either_way t s (λ same. eq-eqb t s same ∙ sym (eq-eqb s t (sym same)))
    (λ apart. ne_eqb t s apart ∙ sym (ne_eqb s t (λ e. apart (sym e))))

-- whether a record of a gone peer ends a session, spelt out, is whether it is of that session
by_gone : (s t : ℕ) → (((s == t) || false) || false) ≡ (s == t)
by_gone s t = or_none ((s == t) || false) ∙ or_none (s == t)

-- this session is paused or not, and the others as they were
now_paused : (old new : PlayerState) (s t : ℕ) (paused : Bool) → SetsPaused old s paused new
    → is_session_paused new.sessions t ≡ cond (t == s) paused (is_session_paused old.sessions t)
now_paused old new s t paused sets =
    either_way t s
    (λ same. ap (is_session_paused new.sessions) same ∙ sets.here ∙ sym (ap (λ b. cond b paused (is_session_paused old.sessions t)) (eq-eqb t s same)))
    (λ apart. sets.others t apart ∙ sym (ap (λ b. cond b paused (is_session_paused old.sessions t)) (ne_eqb t s apart)))

-- these fields are the same
pub record IsSameBeside (old new : PortState) : Type 0 where
  pub sizes : new.sizes ≡ old.sizes
  pub dialect : new.dialect ≡ old.dialect
  pub worker : new.worker ≡ old.worker
  pub exchange : new.exchange ≡ old.exchange
  pub history : new.history ≡ old.history

-- the trace of a port, by its list and by who is paused, where the rest is as it was
trace_is : (old new : PortState) (events : List PortRecord) (paused : ℕ → Bool) → IsSameBeside old new
    → new.player.records ≡ events → ((t : ℕ) → is_session_paused new.player.sessions t ≡ paused t)
    → script_trace new ≡ record (script_trace old) { events = events; paused = paused }
trace_is old new events paused same events_are paused_are i = record {
  events = events_are i;
  paused = λ t. paused_are t i;
  terms = by_any_clock (same.sizes i);
  dialect = same.dialect i;
  worker = same.worker i;
  exchange = same.exchange i;
  history = same.history i;
}

-- an event came
pub told_next : (old new : PortState) (result : PortEvent) → IsSameBeside old new
    → new.player.script ≡ old.player.script
    → (is_playable old.player.script ≡ true → TellsNext old.player result new.player)
    → trace_told new ≡ option_map (then_told (event_records result)) (trace_told old)
told_next old new (event.Opened s) same script_is tells =
    told_step old new (then_told (was.Opened s ∷ [])) script_is
    (λ yes. trace_is old new _ _ same (tells yes).records_are (tells yes).goes_on.3)
told_next old new (event.Data s bytes) same script_is tells =
    told_step old new (then_told (was.Data s bytes ∷ [])) script_is
    (λ yes. trace_is old new _ _ same (tells yes).records_are (tells yes).goes_on.3)
told_next old new (event.EndOfInput s) same script_is tells =
    told_step old new (then_told (was.EndOfInput s ∷ [])) script_is
    (λ yes. trace_is old new _ _ same (tells yes).records_are (tells yes).goes_on.3)
told_next old new event.Idle same script_is tells =
    told_step old new (then_told []) script_is
    (λ yes. trace_is old new _ _ same (tells yes).records_are (tells yes).goes_on.3)
told_next old new event.Ended same script_is tells =
    told_step old new (then_told (was.Ended ∷ [])) script_is
    (λ yes. trace_is old new _ _ same (tells yes).records_are (tells yes).goes_on.3)
told_next old new (event.Gone s) same script_is tells =
    told_step old new (then_told (was.Gone s ∷ [])) script_is
    (λ yes. trace_is old new _ _ same (tells yes).records_are
    (λ t. ends_paused old.player new.player s t (((s == t) || false) || false) (by_gone s t)
    ((tells yes).goes_on.3 s ∙ (tells yes).plays.1.free) (λ u ne. (tells yes).goes_on.3 u)))

-- bytes were offered, by this history
pub told_give : (old new : PortState) (s : ℕ) (bytes : List ℕ) (result : Result ℕ Gone) (history : List Answered)
    → IsSameBeside (record old { history = history }) new → new.player.script ≡ old.player.script
    → (is_playable old.player.script ≡ true
    → (new.player.records ≡ old.player.records ++ give_records s bytes result)
    × Gives old.player s bytes result new.player)
    → trace_told new ≡ option_map (then_gave s bytes result history) (trace_told old)
told_give old new s bytes (Ok n) history same script_is tells =
    told_step old new (then_gave s bytes (Ok n) history) script_is
    (λ yes. trace_is (record old { history = history }) new _ _ same (tells yes).0
    (tells yes).1.3)
told_give old new s bytes (Err e) history same script_is tells =
    told_step old new (then_gave s bytes (Err e) history) script_is
    (λ yes. trace_is (record old { history = history }) new _ _ same (tells yes).0
    (λ t. ends_paused old.player new.player s t (t == s) (either_order s t) (tells yes).1.2 (tells yes).1.3))

-- a session was paused or resumed
pub told_paused : (old new : PortState) (s : ℕ) (paused : Bool) → IsSameBeside old new
    → new.player.script ≡ old.player.script
    → (is_playable old.player.script ≡ true → SetsPaused old.player s paused new.player)
    → trace_told new ≡ option_map (with_pause s paused) (trace_told old)
told_paused old new s paused same script_is sets =
    told_step old new (with_pause s paused) script_is
    (λ yes. trace_is old new _ _ same (ap (λ (p : PlayerState). p.records) (sets yes).rest)
    (λ t. now_paused old.player new.player s t paused (sets yes)))

-- a session was shut
pub told_shut : (old new : PortState) (s : ℕ) → IsSameBeside old new → new.player.script ≡ old.player.script
    → (is_playable old.player.script ≡ true
    → (new.player.records ≡ old.player.records ++ was.Shut s ∷ []) × DropsSession old.player s new.player)
    → trace_told new ≡ option_map (then_told (was.Shut s ∷ [])) (trace_told old)
told_shut old new s same script_is tells =
    told_step old new (then_told (was.Shut s ∷ [])) script_is
    (λ yes. trace_is old new _ _ same (tells yes).0
    (λ t. ends_paused old.player new.player s t ((s == t) || false) (or_none (s == t)) (tells yes).1.here (tells yes).1.others))
