use Rattle.std.proofs.Common.{◌≡◌, List, [], ◌∷◌, ◌++◌, refl, subst, sym, ◌∙◌, ap}
use Rattle.worker_port.specs.declared.events.PortRecord.{PortRecord}
use Rattle.worker_port.specs.declared.events.PortRecord.TheVariants as was
use Rattle.worker_port.specs.Ports.{is_in}
use Rattle.worker_port.specs.PortFacts.{port_facts}
use Rattle.worker_port.proofs.Facts.{elsewhere}
use Rattle.worker_port.proofs.Lists.{ended_now}
use Rattle.script.specs.declared.player.Player.{Player}
use Rattle.script.specs.Remaining.{in_order}
use Rattle.script.specs.PortSessions.{session_entry, was_closed}
use Rattle.script.specs.Players.{Agrees, events_left, parts_of}
use Rattle.script.proofs.FollowLemmas.{follows_still}
use Rattle.script.proofs.PlayerLemmas.{opened_more}
use Rattle.script.proofs.player.Player.end.Goals as goal

pub invariant_of-self : goal.invariant_of-self
invariant_of-self c =
    let p = parts_of c.self.inside in let k = c.self.invariant in let l = p.records in let l' = c.note_as.new.self.items in
    let l_is : l' ≡ l ++ was.Ended ∷ [] = c.note_as.ensures in
    record {
      each = λ t. subst (λ (m : List PortRecord). Agrees (session_entry p.sessions t) (port_facts m t)) (sym l_is)
          (subst (Agrees (session_entry p.sessions t)) (sym (elsewhere l was.Ended t refl)) (k.each t));
      opened_are = k.opened_are ∙ sym (opened_more l l' was.Ended l_is refl);
      rising = k.rising;
      at_end = ap (is_in was.Ended) l_is ∙ ended_now l;
      plays = k.plays;
      follows = λ tells. let left = events_left p.sessions (in_order p.events) in
          follows_still p.script left left l l' was.Ended (was_closed p.sessions)
          (was_closed p.sessions) p.can_fail refl l_is refl (λ t. refl) (λ t. refl) (λ t. refl) (λ t. refl) (k.follows tells);
      aside = k.aside;
      finished = λ _. ap (λ (q : Player). in_order q.events) c.self.view_is ∙ c.requires.none;
      may_fail = k.may_fail;
    }
