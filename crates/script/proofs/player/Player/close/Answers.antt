use Rattle.std.proofs.Common.{◌≡◌, ◌≢◌, ℕ, false, [], ◌∷◌, ◌++◌, refl, subst, sym, ◌∙◌, ap, not, true≢false, ne_eqb}
use Rattle.std.proofs.Common.{⊎_elim}
use Rattle.worker_port.specs.declared.events.PortRecord.{PortRecord}
use Rattle.worker_port.specs.declared.events.PortRecord.TheVariants as was
use Rattle.worker_port.specs.Ports.{is_in, fed, is_entry}
use Rattle.worker_port.specs.PortFacts.{port_facts}
use Rattle.worker_port.specs.Notes.{noted_record}
use Rattle.worker_port.proofs.Facts.{about}
use Rattle.worker_port.proofs.Lists.{ended_same}
use Rattle.script.specs.declared.sessions.Stage.TheVariants.{Closed}
use Rattle.script.specs.PortSessions.{ScriptSessionState, newest, last_from, session_entry, is_session_open}
use Rattle.script.specs.PortSessions.{is_some_and, is_closed, was_closed, is_paused}
use Rattle.script.specs.PortSessions.{with_stage}
use Rattle.script.specs.PortEvents.{plays_from}
use Rattle.script.specs.Remaining.{in_order}
use Rattle.script.specs.Records.{opened_by}
use Rattle.script.specs.declared.player.Player.{Player}
use Rattle.script.specs.Players.{Agrees, events_left, parts_of, IsCausedAt}
use Rattle.script.specs.Following.{MayGo}
use Rattle.script.proofs.EventLemmas.{leave_out}
use Rattle.script.proofs.FollowLemmas.{follows_close, opens_without}
use Rattle.script.proofs.PlayerLemmas.{opened_more, each_step, open_entry, rising_at, test_here, test_other}
use Rattle.script.proofs.PlayerLemmas.{left_without, agrees_gone, agrees_shut}
use Rattle.script.proofs.PlayerLemmas.{none_ready, ready_closed}
use Rattle.script.proofs.player.Player.close.Goals as goal
use Rattle.proto.proofs.CountLemmas.{either_way}

pub invariant_of-self : goal.invariant_of-self
invariant_of-self c =
    let p = parts_of c.self.inside in let k = c.self.invariant in let s = c.args.session in let e = noted_record c.args.note in
    let caused = subst (λ (q : Player). IsCausedAt q s e) (sym c.self.view_is) c.requires.caused in
    let ss = p.sessions in let ss' = c.change.new.self in let l = p.records in let l' = c.note_as.new.self.items in
    let a = c.change.ensures.changes c.if-change.true in
    let x = open_entry ss s (sym c.change.ensures.open ∙ c.if-change.true) in
    let l_is : l' ≡ l ++ e ∷ [] = c.note_as.ensures in
    let apart : (t : ℕ) → t ≢ s
    → about t e ≡ false = λ t ne. ⊎_elim (λ (q : e ≡ was.Gone s). ap (about t) q ∙ ne_eqb s t (λ r. ne (sym r)))
    (λ (q : e ≡ was.Shut s). ap (about t) q ∙ ne_eqb s t (λ r. ne (sym r))) c.requires.ends in
    let here : Agrees (session_entry ss' s) (port_facts (l ++ e ∷ []) s) =
    ⊎_elim
    (λ (q : e ≡ was.Gone s). subst (λ (y : PortRecord). Agrees (session_entry ss' s)
    (port_facts (l ++ y ∷ []) s)) (sym q)
    (agrees_gone ss ss' l s x.0 a x.1 (k.each s)))
    (λ (q : e ≡ was.Shut s). subst (λ (y : PortRecord). Agrees (session_entry ss' s)
    (port_facts (l ++ y ∷ []) s)) (sym q)
    (agrees_shut ss ss' l s x.0 a x.1 (k.each s)))
    c.requires.ends in
    let none = ⊎_elim (λ (q : e ≡ was.Gone s). ap opened_by q)
    (λ (q : e ≡ was.Shut s). ap opened_by q) c.requires.ends in
    let no_end = ⊎_elim (λ (q : e ≡ was.Gone s). ap (is_entry was.Ended) q)
    (λ (q : e ≡ was.Shut s). ap (is_entry was.Ended) q) c.requires.ends in
    let left = left_without ss ss' s (in_order p.events)
    (test_here (λ (y : ScriptSessionState). is_closed y.stage) ss ss' s (with_stage Closed) x.0 a x.1)
    (test_other (λ (y : ScriptSessionState). is_closed y.stage) ss ss' s (with_stage Closed) a) in
    record {
      each = each_step ss ss' l l' e s k.each l_is apart a.others here;
      opened_are = a.numbers_are ∙ k.opened_are ∙ sym (opened_more l l' e l_is none);
      rising = rising_at ss ss' s (with_stage Closed) a k.rising;
      at_end = ap (is_in was.Ended) l_is ∙ ended_same l e no_end ∙ k.at_end;
      plays = λ tells. (λ i. plays_from (ap (last_from 0) a.numbers_are i) (is_session_open ss') (left i))
          ∙ leave_out (newest ss) (is_session_open ss) (is_session_open ss') s (events_left ss (in_order p.events))
          (k.rising s x.0 x.1)
          (test_other (λ (y : ScriptSessionState). not (is_closed y.stage)) ss ss' s (with_stage Closed) a)
          (k.plays tells);
      follows = λ tells.
          let nothing : (t : ℕ)
          → fed t (e ∷ []) ≡ [] = λ t. ⊎_elim (λ (q : e ≡ was.Gone s). ap (λ (x : PortRecord). fed t (x ∷ [])) q)
          (λ (q : e ≡ was.Shut s). ap (λ (x : PortRecord). fed t (x ∷ [])) q) c.requires.ends in
          follows_close p.script (events_left ss (in_order p.events))
          (events_left ss' (in_order p.events)) l l' e s
          (was_closed ss) (was_closed ss') p.can_fail left l_is none nothing
          (λ t leaves. ⊎_elim
          (λ (q : e ≡ was.Gone s).
          either_way s t
          (λ eq. subst (MayGo p.script p.can_fail) eq (caused tells q))
          (λ ne. absurd (true≢false (sym leaves ∙ ap (is_entry (was.Gone t)) q ∙ ne_eqb s t ne))))
          (λ (q : e ≡ was.Shut s). absurd (true≢false (sym leaves ∙ ap (is_entry (was.Gone t)) q)))
          c.requires.ends)
          (λ t. ⊎_elim (λ (q : e ≡ was.Gone s). ap (is_entry (was.EndOfInput t)) q)
          (λ (q : e ≡ was.Shut s). ap (is_entry (was.EndOfInput t)) q) c.requires.ends)
          (opens_without (newest ss) (is_session_open ss) s (events_left ss (in_order p.events)) (k.rising s x.0 x.1)
          (k.plays tells))
          (ap (is_some_and (λ (y : ScriptSessionState). is_closed y.stage)) x.1 ∙ x.2)
          (test_here (λ (y : ScriptSessionState). is_closed y.stage) ss ss' s (with_stage Closed) x.0 a x.1)
          (test_other (λ (y : ScriptSessionState). is_closed y.stage) ss ss' s (with_stage Closed) a)
          (k.follows tells);
      aside = none_ready ss ss' p.events.aside
          (ready_closed ss ss' s
          (test_here (λ (y : ScriptSessionState). is_closed y.stage) ss ss' s (with_stage Closed) x.0 a x.1)
          (test_other (λ (y : ScriptSessionState). is_closed y.stage) ss ss' s (with_stage Closed) a)
          (test_other (λ (y : ScriptSessionState). is_paused y.stage) ss ss' s (with_stage Closed) a)) k.aside;
      finished = k.finished;
      may_fail = k.may_fail;
    }

pub returns-then-change-clause-closes : goal.returns-then-change-clause-closes
returns-then-change-clause-closes c _ =
    let p = parts_of c.self.inside in let s = c.args.session in
    let ss = p.sessions in let ss' = c.change.new.self in
    let a = c.change.ensures.changes c.if-change.true in
    let x = open_entry ss s (sym c.change.ensures.open ∙ c.if-change.true) in
    rw (← c.self.view_is) (record {
      records_are = c.note_as.ensures;
      shuts = record {
        left = left_without ss ss' s (in_order p.events)
            (test_here (λ (y : ScriptSessionState). is_closed y.stage) ss ss' s (with_stage Closed) x.0 a x.1)
            (test_other (λ (y : ScriptSessionState). is_closed y.stage) ss ss' s (with_stage Closed) a);
        here = test_here (λ (y : ScriptSessionState). is_paused y.stage) ss ss' s (with_stage Closed) x.0 a x.1;
        others = test_other (λ (y : ScriptSessionState). is_paused y.stage) ss ss' s (with_stage Closed) a;
        faults = (refl, refl, refl);
      };
      closed = test_here (λ (y : ScriptSessionState). is_closed y.stage) ss ss' s (with_stage Closed) x.0 a x.1;
      events_are = refl;
      ended_is = refl;
    })
