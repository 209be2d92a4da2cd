use Rattle.std.proofs.Common.{◌≡◌, [], ◌∷◌, ◌++◌, refl, sym, ◌∙◌, ap, not, ne_eqb}
use Rattle.worker_port.specs.declared.events.PortRecord.TheVariants as was
use Rattle.worker_port.specs.Ports.{is_in}
use Rattle.worker_port.proofs.Lists.{ended_same}
use Rattle.script.specs.PortSessions.{ScriptSessionState, newest, last_from, is_session_open, is_closed, is_paused}
use Rattle.script.specs.PortSessions.{was_closed, with_output, AcceptsAt}
use Rattle.script.specs.Remaining.{in_order}
use Rattle.script.specs.Players.{events_left, parts_of}
use Rattle.script.proofs.SessionLemmas.{ok_of}
use Rattle.script.proofs.FollowLemmas.{follows_still}
use Rattle.script.proofs.PlayerLemmas.{opened_more, each_step, open_entry, rising_at, test_same, left_same}
use Rattle.script.proofs.PlayerLemmas.{plays_along, none_ready, ready_same, agrees_accepted}
use Rattle.script.proofs.player.Player.keep.Goals as goal

pub invariant_of-self-2 : goal.invariant_of-self-2
invariant_of-self-2 c =
    let p = parts_of c.self.inside in let k = c.self.invariant in let s = c.args.session in let b = c.args.bytes.now in
    let ss = p.sessions in let ss' = c.accept.new.self in let l = p.records in let l' = c.note_as.new.self.items in
    let a = ok_of (AcceptsAt ss s b ss') c.accept.result
    (sym c.is_err.ensures.value ∙ c.if-is_err.false) c.accept.ensures.ok in
    let x = open_entry ss s a.was_open in
    let l_is : l' ≡ l ++ was.Accepted s b ∷ [] = c.note_as.ensures in
    record {
      each = each_step ss ss' l l' (was.Accepted s b) s k.each l_is (λ t ne. ne_eqb s t (λ e. ne (sym e))) a.at.others
          (agrees_accepted ss ss' l s b x.0 a.at x.1 (k.each s));
      opened_are = a.at.numbers_are ∙ k.opened_are ∙ sym (opened_more l l' (was.Accepted s b) l_is refl);
      rising = rising_at ss ss' s (with_output b) a.at k.rising;
      at_end = ap (is_in was.Ended) l_is ∙ ended_same l (was.Accepted s b) refl ∙ k.at_end;
      plays = λ tells. plays_along (newest ss) (newest ss') (is_session_open ss) (is_session_open ss')
          (events_left ss (in_order p.events)) (events_left ss' (in_order p.events))
          (ap (last_from 0) a.at.numbers_are)
          (test_same (λ (y : ScriptSessionState). not (is_closed y.stage)) ss ss' s (with_output b) x.0 a.at x.1 refl)
          (left_same ss ss' (in_order p.events)
          (test_same (λ (y : ScriptSessionState). is_closed y.stage) ss ss' s (with_output b) x.0 a.at x.1 refl))
          (k.plays tells);
      follows = λ tells.
          let same = test_same (λ (y : ScriptSessionState). is_closed y.stage) ss ss' s
          (with_output b) x.0 a.at x.1 refl in
          follows_still p.script (events_left ss (in_order p.events))
          (events_left ss' (in_order p.events)) l l'
          (was.Accepted s b) (was_closed ss) (was_closed ss') p.can_fail
          (left_same ss ss' (in_order p.events) same) l_is refl (λ t. refl) (λ t. refl) (λ t. refl) same (k.follows tells);
      aside = none_ready ss ss' p.events.aside
          (ready_same ss ss'
          (test_same (λ (y : ScriptSessionState). is_closed y.stage) ss ss' s (with_output b) x.0 a.at x.1 refl)
          (test_same (λ (y : ScriptSessionState). is_paused y.stage) ss ss' s (with_output b) x.0 a.at x.1 refl))
          k.aside;
      finished = k.finished;
      may_fail = k.may_fail;
    }
