-- What a port's list says of its script, by what holds of the port.
use Rattle.std.proofs.Common.{◌≡◌, ◌∙◌, true, false, ◌||◌, [], ◌++◌, append-nil, Option, Some, None, refl, sym, ap}
use Rattle.script.specs.Events as script
use Rattle.worker_port.specs.declared.events.PortRecord.TheVariants as was
use Rattle.worker_port.specs.Ports.{fed, is_in}
use Rattle.worker_port.specs.PortFacts.{PortFacts, port_facts}
use Rattle.script.specs.declared.player.Player.{Player}
use Rattle.script.specs.PortEvents.{is_playable}
use Rattle.script.specs.Remaining.{in_order}
use Rattle.script.specs.Records.{opened_sessions}
use Rattle.script.specs.PortSessions.{ScriptSessionState, session_entry, is_some_and, is_closed, was_closed}
use Rattle.script.specs.Players.{Agrees, IsPlayerConsistent, events_left}
use Rattle.script.specs.Following.{IsPlayed}
use Rattle.script.proofs.EventLemmas.{bool_cases}

-- a session that was neither gone nor shut isn't closed
facts_closed : (o : Option ScriptSessionState) (f : PortFacts) → Agrees o f → f.gone ≡ false → f.shut ≡ false
    → is_some_and (λ (x : ScriptSessionState). is_closed x.stage) o ≡ false
facts_closed None f agrees gone shut = refl
facts_closed (Some x) f agrees gone shut = sym agrees.1 ∙ (λ i. gone i || shut i)

-- where the script may be played as it stands, a consistent player's list says what the script does
pub played : (p : Player) → IsPlayerConsistent p → is_playable p.script ≡ true
    → IsPlayed p.script p.records p.can_fail
played p k tells =
    let l = p.records in let whole = p.script in let left = events_left p.sessions (in_order p.events) in
    let f = k.follows tells in
    let none : is_in was.Ended l ≡ true → left ≡ [] =
    λ over. ap (events_left p.sessions) (k.finished (sym k.at_end ∙ over)) in record {
      opened_first = (script.sessions_opened left, f.opened_are);
      fed_first = λ s. bool_cases (was_closed p.sessions s) (λ closed. f.begun s closed)
          (λ active. (script.sent_bytes left s, f.fed_are s active));
      opened_all = λ over. sym (f.opened_are ∙ ap (λ xs. opened_sessions l ++ script.sessions_opened xs) (none over)
          ∙ append-nil (opened_sessions l));
      fed_all = λ s over gone shut.
          sym (f.fed_are s (facts_closed (session_entry p.sessions s) (port_facts l s) (k.each s) gone shut)
          ∙ ap (λ xs. fed s l ++ script.sent_bytes xs s) (none over) ∙ append-nil (fed s l));
      gone_by = f.gone_by;
      never_over = f.never_over;
    }
