use Rattle.std.proofs.Common.{refl}
use Rattle.session_book.specs.Book.{session_of}
use Rattle.worker.proofs.WorkerSteps.{continues}
use Rattle.worker.proofs.PortSteps.{opened_goes_on, opened_is_open, still_open, came_unheld, received_goes_on}
use Rattle.worker.proofs.PortSteps.{input_ended_goes_on, lose_goes_on, idle_goes_on, ended_goes_on}
use Rattle.worker.proofs.AskedOnly.{has_asked_only}
use Rattle.worker.proofs.worker.Worker.take_event.Goals as goal

pub next-requires : goal.next-requires
next-requires g c = λ trace e. has_asked_only g.P.Port.told c.self.inside.state c.self.invariant trace e

pub admit-requires : goal.admit-requires
admit-requires g c = let n = c.in-Opened.ensures in
    opened_is_open g.P.Port.told c.self.inside.state c.next.new.self c.in-Opened.session c.self.invariant
    (record { told_is = n.told; may = n.may })

pub receive-requires-clause-open : goal.receive-requires-clause-open
receive-requires-clause-open g c = let n = c.in-Data.ensures in
    still_open g.P.Port.told c.self.inside.state.port c.next.new.self c.in-Data.session c.in-Data.bytes n.told
    (λ trace e. (n.may trace e).0.0)

pub receive-requires-clause-resumed : goal.receive-requires-clause-resumed
receive-requires-clause-resumed g c = let n = c.in-Data.ensures in
    came_unheld g.P.Port.told c.self.inside.state c.next.new.self c.in-Data.session c.in-Data.bytes c.self.invariant n.told
    (λ trace e. (n.may trace e).0.1)

pub invariant_of-self : goal.invariant_of-self
invariant_of-self g c = (opened_goes_on g.P.Port.told c.self.inside.state c.admit.new.self c.next.new.self c.in-Opened.session
    (record { told_is = c.in-Opened.ensures.told; may = c.in-Opened.ensures.may }) c.admit.ensures.rest c.self.invariant
    c.admit.ensures.admits).serving

pub returns-in-Opened : goal.returns-in-Opened
returns-in-Opened g c =
    continues c.self.view_is (g.met.P.Port.leads_transitive _ _ _ c.in-Opened.ensures.leads c.admit.ensures.leads)
    (opened_goes_on g.P.Port.told c.self.inside.state c.admit.new.self c.next.new.self c.in-Opened.session
    (record { told_is = c.in-Opened.ensures.told; may = c.in-Opened.ensures.may }) c.admit.ensures.rest c.self.invariant
    c.admit.ensures.admits)

pub invariant_of-self-in-Data : goal.invariant_of-self-in-Data
invariant_of-self-in-Data g c = (received_goes_on g.P.Port.told c.self.inside.state c.receive.new.self c.next.new.self c.in-Data.session
    c.in-Data.bytes (record { told_is = c.in-Data.ensures.told; opened = λ trace e. (c.in-Data.ensures.may trace e).0.0 })
    c.self.invariant c.receive.ensures.receives).serving

pub returns-in-Data : goal.returns-in-Data
returns-in-Data g c =
    continues c.self.view_is (g.met.P.Port.leads_transitive _ _ _ c.in-Data.ensures.leads c.receive.ensures.leads)
    (received_goes_on g.P.Port.told c.self.inside.state c.receive.new.self c.next.new.self c.in-Data.session
    c.in-Data.bytes (record { told_is = c.in-Data.ensures.told; opened = λ trace e. (c.in-Data.ensures.may trace e).0.0 })
    c.self.invariant c.receive.ensures.receives)

pub invariant_of-self-in-EndOfInput : goal.invariant_of-self-in-EndOfInput
invariant_of-self-in-EndOfInput g c = (input_ended_goes_on g.P.Port.told c.self.inside.state c.next.new.self c.end_input-finished.new.self
    c.in-EndOfInput.session (record {
      told_is = c.in-EndOfInput.ensures.told;
      opened = λ trace e. (c.in-EndOfInput.ensures.may trace e).0;
    }) c.self.invariant c.end_input-finished.ensures.input_ended).serving

pub invariant_of-self-in-Gone : goal.invariant_of-self-in-Gone
invariant_of-self-in-Gone g c = (lose_goes_on g.P.Port.told c.self.inside.state c.lose.new.self c.next.new.self c.in-Gone.session
    (session_of c.self.inside.state.book c.in-Gone.session) refl
    (record { told_is = c.in-Gone.ensures.told; opened = λ trace e. (c.in-Gone.ensures.may trace e).0 }) c.self.invariant
    c.lose.ensures.port c.lose.ensures.loses c.lose.ensures.drops).serving

pub returns-in-Gone : goal.returns-in-Gone
returns-in-Gone g c =
    continues c.self.view_is (g.met.P.Port.leads_transitive _ _ _ c.in-Gone.ensures.leads c.lose.ensures.leads)
    (lose_goes_on g.P.Port.told c.self.inside.state c.lose.new.self c.next.new.self c.in-Gone.session
    (session_of c.self.inside.state.book c.in-Gone.session) refl
    (record { told_is = c.in-Gone.ensures.told; opened = λ trace e. (c.in-Gone.ensures.may trace e).0 }) c.self.invariant
    c.lose.ensures.port c.lose.ensures.loses c.lose.ensures.drops)

pub invariant_of-self-in-Idle : goal.invariant_of-self-in-Idle
invariant_of-self-in-Idle g c = (idle_goes_on g.P.Port.told c.self.inside.state c.next.new.self c.in-Idle.ensures.told c.self.invariant).serving

pub returns-in-Idle : goal.returns-in-Idle
returns-in-Idle g c =
    continues c.self.view_is c.in-Idle.ensures.leads
    (idle_goes_on g.P.Port.told c.self.inside.state c.next.new.self c.in-Idle.ensures.told c.self.invariant)

pub invariant_of-self-in-Ended : goal.invariant_of-self-in-Ended
invariant_of-self-in-Ended g c = (ended_goes_on g.P.Port.told c.self.inside.state c.next.new.self c.in-Ended.ensures.told c.self.invariant).serving

pub returns-in-Ended : goal.returns-in-Ended
returns-in-Ended g c =
    continues c.self.view_is c.in-Ended.ensures.leads
    (ended_goes_on g.P.Port.told c.self.inside.state c.next.new.self c.in-Ended.ensures.told c.self.invariant)
