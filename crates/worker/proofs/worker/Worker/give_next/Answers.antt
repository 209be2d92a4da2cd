use Rattle.std.proofs.Common.{◌≡◌, ℕ, List, ◌++◌, refl, sym, ap, subst, ◌∙◌, Option, Ok}
use Rattle.std.specs.Option.{option_map}
use Rattle.session_book.specs.Session.{SessionState, gave}
use Rattle.session_book.specs.Book.{BookState, session_of}
use Rattle.worker_port.specs.Ports.{PortTrace, then_gave, fed, given}
use Rattle.exchange.specs.Ends.{WorkerLaneView, ToldView}
use Rattle.session_book.specs.declared.causes.EndCause.TheVariants as causes
use Rattle.proto.specs.declared.terms.Terms.{Terms}
use Rattle.worker.specs.EndCauses.{piece_of}
use Rattle.worker.specs.declared.worker.WorkerState.{WorkerState}
use Rattle.worker.specs.Workers.{run_view, Closes, IsWorkerServing}
use Rattle.worker.proofs.TraceLaws.{paused_kept}
use Rattle.worker.proofs.PieceLaws.{pieces_kept, gave_piece}
use Rattle.worker.proofs.WorkerSteps.{WorkerGoesOn, continues, continues_trans, open_at}
use Rattle.worker.proofs.OutputSteps.{accepted, told_gave, gives_by, lost_goes_on, within_goes_on, offered_is}
use Rattle.worker_port.specs.Giving.{MayBeSent, MayBeGiven}
use Rattle.worker.specs.Workers.{end_of}
use Rattle.worker.proofs.GiveSteps.{may_be_given}
use Rattle.worker.proofs.worker.Worker.give_next.Given.{Over}
use Rattle.worker.proofs.worker.Worker.give_next.Goals as goal
use Rattle.worker.proofs.worker.Worker.give_next.Goals.{After-gave-finished, After-close}

-- a session was taken up, which changes nothing that is known of the book
taken_up : {P : Type 0} (told : P → Option PortTrace) (old : WorkerState P) (book : BookState) → book ≡ old.book
    → IsWorkerServing told old → IsWorkerServing told (record old { book = book })
taken_up told old book same h = subst (λ (b : BookState). IsWorkerServing told (record old { book = b })) (sym same) h

pub give-requires : goal.give-requires
give-requires g c =
    let w = record c.self.inside.state { book = c.next_ready.new.self } in
    let h = taken_up g.P.Port.told c.self.inside.state c.next_ready.new.self c.next_ready.ensures c.self.invariant in
    let s = offered_is (session_of w.book c.in-Some.session)
    c.offer-offer.result.out.now c.offer-offer.ensures.out (sym c.is_empty.ensures ∙ c.if-is_empty.false) in
    record {
      «open» = open_at g.P.Port.told w c.in-Some.session s.0 h s.1;
      said = λ trace e.
          let whose = h.whose trace e in
          subst (λ (y : List ℕ × ToldView). MayBeGiven trace y.1.exchange y.1.items c.in-Some.session y.0)
          (λ i. (sym s.2 i, sym c.told-history.ensures.told i))
          (record {
            exchange = sym whose.0.exchange_is;
            later = whose.0.later;
            may = subst (λ (y : ℕ × Terms). MayBeSent y.1 trace.dialect y.0 (end_of w).seen c.in-Some.session (fed c.in-Some.session trace.events)
                (given c.in-Some.session trace.events) s.0.out) (λ i. (sym whose.0.worker_is i, sym whose.0.terms_are i))
                (may_be_given (run_view trace w) (end_of w) w.request c.in-Some.session s.0
                ((h.known trace e).each c.in-Some.session) s.1 refl refl h.steady.told);
          });
    }

-- some bytes were accepted, or none, over the batch as it was
gave_over : (g : Over) (c : After-gave-finished g)
    → WorkerGoesOn g.P.Port.told (record c.self.inside.state { book = c.next_ready.new.self })
    (record c.self.inside.state { port = c.give.new.self; book = c.gave-finished.new.self })
gave_over g c =
    let w = record c.self.inside.state { book = c.next_ready.new.self } in
    let h = taken_up g.P.Port.told c.self.inside.state c.next_ready.new.self c.next_ready.ensures c.self.invariant in
    let t = c.in-Some.session in let out = c.offer-offer.result.out.now in
    let n = c.in-Ok.accepted in
    let new = record w { port = c.give.new.self; book = c.gave-finished.new.self } in
    let f = then_gave t out (Ok n) c.told-history.result.items in let k = c.gave-finished.ensures.gave in
    let s = offered_is (session_of w.book t) out c.offer-offer.ensures.out
    (sym c.is_empty.ensures ∙ c.if-is_empty.false) in
    let pieces = pieces_kept w.book c.gave-finished.new.self t
    (option_map (λ (x : SessionState). gave x n) (session_of w.book t)) k.only_at
    (gave_piece (session_of w.book t) n) in
    within_goes_on g.P.Port.told w new f
    (record { end = refl; request = refl; sessions = refl; unopened = refl; strangers = refl; ended = refl })
    (gives_by w t out (Ok n) c.told-history.result.items
    (ap (λ (v : ToldView). v.items) c.told-history.ensures.told)) c.in-Ok.ensures.told
    (ap (λ (b : BookState). b.numbered) k.rest) (ap (λ (b : BookState). b.unsettled) k.rest)
    (ap (λ (b : BookState). b.dialect) k.rest) h
    (λ trace was_so. (
      told_gave (run_view trace w) (run_view (f trace) new) w.unopened w.ended t n s.0 was_so.0 s.1 refl
          (ap (λ (b : List ℕ). trace.events ++ accepted t n b) s.2) refl refl refl k.only_at
          (λ i q. pieces q i),
      paused_kept trace (f trace) (piece_of w.book) (piece_of new.book) pieces
          (λ q. refl) was_so.1,
    ))

-- so it is over the batch that told of its history
gave_some : (g : Over) (c : After-gave-finished g) → WorkerGoesOn g.P.Port.told c.self.inside.state
    (record c.self.inside.state { port = c.give.new.self; book = c.gave-finished.new.self; batch = c.told-history.new.self })
gave_some g c = subst (λ (y : BookState × WorkerLaneView). WorkerGoesOn g.P.Port.told
    (record c.self.inside.state { book = y.0 })
    (record c.self.inside.state { port = c.give.new.self; book = c.gave-finished.new.self; batch = y.1 }))
    (λ i. (c.next_ready.ensures i, sym c.told-history.ensures.same i)) (gave_over g c)

-- its peer has gone
lost : (g : Over) (c : After-close g) → WorkerGoesOn g.P.Port.told c.self.inside.state c.close.new.self
lost g c =
    let w = record c.self.inside.state { book = c.next_ready.new.self } in
    let h = taken_up g.P.Port.told c.self.inside.state c.next_ready.new.self c.next_ready.ensures c.self.invariant in
    let s = offered_is (session_of w.book c.in-Some.session)
    c.offer-offer.result.out.now c.offer-offer.ensures.out (sym c.is_empty.ensures ∙ c.if-is_empty.false) in
    subst (λ (b : BookState). WorkerGoesOn g.P.Port.told (record c.self.inside.state { book = b }) c.close.new.self)
    c.next_ready.ensures (lost_goes_on g.P.Port.told w c.close.new.self c.give.new.self c.in-Some.session s.0
    c.offer-offer.result.out.now c.in-Err.field-0 c.told-history.result.items
    (ap (λ (v : ToldView). v.items) c.told-history.ensures.told) s.1 c.in-Err.ensures.told
    h c.close.ensures.port
    (subst (λ (z : WorkerLaneView). Closes (record w { port = c.give.new.self; batch = z }) c.close.new.self c.in-Some.session causes.Gone)
    c.told-history.ensures.same c.close.ensures.closes))

pub invariant_of-self-in-Ok : goal.invariant_of-self-in-Ok
invariant_of-self-in-Ok g c = (gave_some g (goal.at.invariant_of-self-in-Ok g c).After-gave-finished).serving

-- then the session was shut if it had finished
pub returns-in-Ok : goal.returns-in-Ok
returns-in-Ok g c = continues_trans g.met.P.Port.leads_transitive
    (continues c.self.view_is c.in-Ok.ensures.leads (gave_some g (goal.at.returns-in-Ok g c).After-gave-finished))
    c.finish-is_shut.ensures

pub invariant_of-self-in-Err : goal.invariant_of-self-in-Err
invariant_of-self-in-Err g c = (lost g (goal.at.invariant_of-self-in-Err g c).After-close).serving

pub returns-in-Err : goal.returns-in-Err
returns-in-Err g c =
    continues c.self.view_is (g.met.P.Port.leads_transitive _ _ _ c.in-Err.ensures.leads c.close.ensures.leads)
    (lost g (goal.at.returns-in-Err g c).After-close)
