-- What each step of a worker leaves true.
use Rattle.std.proofs.Common.{◌≡◌, ◌≢◌, ℕ, ◌-◌, ◌^◌, ◌≤◌, ◌==◌, Bool, true, false, true≢false, ◌||◌, ◌&&◌, not}
use Rattle.std.proofs.Common.{cond, ne_eqb, List, [], ◌∷◌, ◌++◌, length}
use Rattle.std.proofs.Common.{min, refl, sym, ap, subst, ◌∙◌, append-nil, Option, Some, None, is_some}
use Rattle.std.specs.Option.{option_map}
use Rattle.proto.specs.declared.history.Posted.{Posted}
use Rattle.exchange.specs.Ends.{WorkerView}
use Rattle.session_book.specs.declared.causes.EndCause.{EndCause}
use Rattle.session_book.specs.declared.causes.EndCause.TheVariants as causes
use Rattle.session_book.specs.Session.{SessionState, once_fed, once_input_ended, holding}
use Rattle.session_book.specs.Book.{BookState, session_of, IsStalled}
use Rattle.proto.specs.Lines.{IsLenient}
use Rattle.worker_port.specs.declared.events.PortRecord.{PortRecord}
use Rattle.worker_port.specs.declared.events.PortRecord.TheVariants as was
use Rattle.worker.specs.declared.worker.WorkerState.{WorkerState}
use Rattle.worker_port.specs.Ports.{PortTrace, then_told, is_open, is_in, opened_count}
use Rattle.worker.specs.Sessions.{SessionFacts, RunView, facts, asked_by, had_by, cause_of, AreFactsConsistent, IsSessionServed}
use Rattle.worker_port.specs.PortFacts.{PortFacts, port_facts}
use Rattle.worker.specs.Sessions.{IsClosed}
use Rattle.worker.specs.EndCauses.{CausesRiseFrom, piece_of}
use Rattle.worker.specs.Workers.{end_of, numbered_by, IsSteady, IsTraceKnown, run_view, ArePaused, IsWorkerServing, IsSameEnd, IsLaterEnd}
use Rattle.worker_port.specs.Giving.{IsTraceOf}
use Rattle.exchange.proofs.Lists.{starts_trans}
use Rattle.worker.specs.Workers.{Continues, Closes, Shuts, LeavesWorker, IsTraceBy}
use Rattle.worker.proofs.EndCauseLemmas.{rises_with, length-with}
use Rattle.worker_port.proofs.Facts.{about, elsewhere, fed_here, input_ended_here}
use Rattle.worker.proofs.SessionSteps.{Runs, runs, runs_at_port, runs_on, Ends, closed_gone, closed_no_memory, closed_stalled, closed_finished, served_came, served_fed}
use Rattle.worker.proofs.SessionSteps.{served_holding, served_input_ended}
use Rattle.worker.proofs.TraceLaws.{told_before, tells_as, paused_but, paused_elsewhere}
use Rattle.worker.proofs.PieceLaws.{pieces_at}
use Rattle.worker.proofs.RunViews.{facts_equal, change_at, at_other, at_same, ClosesIn, shuts_here, goes_here, stays}
use Rattle.worker_port.proofs.Lists.{AcceptsOnlyOpen, IsProper, ended_same, count_same, accepts_more}
use Rattle.worker.proofs.RunViews.{AreSessionsCounted, close_all, apart_shut, apart_gone}

-- a worker went on, and still serves
pub record WorkerGoesOn {P : Type 0} (told : P → Option PortTrace) (old new : WorkerState P) : Type 0 where
  pub tells : is_some (told new.port) ≡ is_some (told old.port)
  pub same_end : IsSameEnd (end_of old) (end_of new)
  pub dialect : new.book.dialect ≡ old.book.dialect
  pub serving : IsWorkerServing told new

-- so it continues, where its port leads on
pub continues : {P : Type 0} {told : P → Option PortTrace} {leads_to : P → P → Type 0} {old now new : WorkerState P}
    → old ≡ now → leads_to old.port new.port → WorkerGoesOn told old new → Continues told leads_to now new
continues {told = told} {leads_to = leads_to} {new = new} same leads h =
    subst (λ (w : WorkerState _). Continues told leads_to w new) same (record {
      tells = h.tells;
      leads = leads;
      same_end = h.same_end;
      dialect = h.dialect;
    })

-- what goes on from a to b, and from b to c, goes on from a to c
pub continues_trans : {P : Type 0} {told : P → Option PortTrace} {leads_to : P → P → Type 0} {a b c : WorkerState P}
    → ((p q r : P) → leads_to p q → leads_to q r → leads_to p r)
    → Continues told leads_to a b → Continues told leads_to b c → Continues told leads_to a c
continues_trans {a = a} {b = b} {c = c} leads_on h k = record {
  tells = k.tells ∙ h.tells;
  leads = leads_on a.port b.port c.port h.leads k.leads;
  same_end = record {
    exchange = k.same_end.exchange ∙ h.same_end.exchange;
    worker = k.same_end.worker ∙ h.same_end.worker;
  };
  dialect = k.dialect ∙ h.dialect;
}

-- what the list has open was opened, and is neither gone nor shut
pub open_parts : (o g s : Bool) → (o && not (g || s)) ≡ true → (o ≡ true) × (g ≡ false) × (s ≡ false)
open_parts true false false e = (refl, refl, refl)
open_parts true false true e = absurd (true≢false (sym e))
open_parts true true false e = absurd (true≢false (sym e))
open_parts true true true e = absurd (true≢false (sym e))
open_parts false g s e = absurd (true≢false (sym e))

-- what was opened, and is neither gone nor shut, the list has open
pub open_of : (o g s : Bool) → o ≡ true → g ≡ false → s ≡ false → (o && not (g || s)) ≡ true
open_of o g s a b c = ap (λ (x : Bool × Bool × Bool). x.0 && not (x.1 || x.2)) (λ i. (a i, b i, c i))

-- the end agrees with each book that gave as many numbers, and has the same requests unsettled
pub steady_same : (end : WorkerView) (request : Option Posted) (book book' : BookState) → book'.numbered ≡ book.numbered
    → book'.unsettled ≡ book.unsettled → IsSteady end request book → IsSteady end request book'
steady_same end request book book' p u h = record {
  running = h.running;
  numbered = p ∙ h.numbered;
  held = h.held;
  unsettled = u
      ∙ h.unsettled;
  back = h.back;
  told = h.told;
}

-- ---- a session is closed

-- all is known still once a session is closed by a proper entry that opens nothing and isn't the
-- end, where the facts of all sessions are consistent
told_closed : (v v' : RunView) (unopened : ℕ) (ended : Bool) (t : ℕ) (c : EndCause) (x : PortRecord)
    → IsTraceKnown v unopened ended → ClosesIn v v' t c x
    → is_in was.Ended (v.events ++ x ∷ []) ≡ is_in was.Ended v.events → opened_count (v.events ++ x ∷ []) ≡ opened_count v.events
    → IsProper v.events x
    → ((s : ℕ) → AreFactsConsistent (facts v' s)) → IsTraceKnown v' unopened ended
told_closed v v' unopened ended t c x h k same count proper each = record {
  each = each;
  rising = subst (CausesRiseFrom 0) (sym k.sessions) (rises_with v.sessions t c h.rising);
  counted = subst (λ (y : List PortRecord × List (ℕ × EndCause)). AreSessionsCounted y.0 y.1 unopened)
      (λ i. (sym k.events i, sym k.sessions i))
      (let len = length-with v.sessions t c in
      subst (λ (y : ℕ × ℕ). (y.1 ≤ y.0) × (unopened ≡ min (y.0 - y.1) (2 ^ 64 - 1)))
      (λ i. (sym count i, sym len i)) h.counted);
  at_end = ap (is_in was.Ended) k.events ∙ same ∙ h.at_end;
  accepts = subst AcceptsOnlyOpen (sym k.events) (accepts_more v.events x h.accepts proper);
}

-- all is known still once a running session was shut, and is closed
pub told_shut : (v v' : RunView) (unopened : ℕ) (ended : Bool) (t : ℕ) (c : EndCause) → IsTraceKnown v unopened ended
    → ClosesIn v v' t c (was.Shut t)
    → Runs (facts v t) → IsClosed (facts v' t) c → IsTraceKnown v' unopened ended
told_shut v v' unopened ended t c h k r closed =
    told_closed v v' unopened ended t c (was.Shut t) h k (ended_same v.events (was.Shut t) refl)
    (count_same v.events (was.Shut t) refl) tt
    (close_all v v' t c (was.Shut t) (record (port_facts v.events t) { shut = true }) k (apart_shut t)
    (shuts_here v v' t c causes.Drained k r.cause) r.opened closed (λ s ne. h.each s))

-- all is known still once a running session has gone
pub told_gone : (v v' : RunView) (unopened : ℕ) (ended : Bool) (t : ℕ) → IsTraceKnown v unopened ended
    → ClosesIn v v' t causes.Gone (was.Gone t)
    → Runs (facts v t) → IsTraceKnown v' unopened ended
told_gone v v' unopened ended t h k r =
    let here = goes_here v v' t causes.Gone causes.Drained k r.cause in
    let port = record (port_facts v.events t) { gone = true } in
    let st = stays (facts v t) (facts v' t) port causes.Gone here refl refl in
    let closed = closed_gone (facts v t) (facts v' t) r.running.s (facts v t).piece r.running.served st
    (ap (λ (p : PortFacts). p.gone) here.port_is) in
    told_closed v v' unopened ended t causes.Gone (was.Gone t) h k (ended_same v.events (was.Gone t) refl)
    (count_same v.events (was.Gone t) refl) tt
    (close_all v v' t causes.Gone (was.Gone t) port k (apart_gone t) here r.opened closed (λ s ne. h.each s))

-- shut as it is out of memory
pub told_no_memory : (v v' : RunView) (unopened : ℕ) (ended : Bool) (t : ℕ) → IsTraceKnown v unopened ended
    → ClosesIn v v' t causes.NoMemory (was.Shut t)
    → Runs (facts v t) → IsTraceKnown v' unopened ended
told_no_memory v v' unopened ended t h k r =
    let here = shuts_here v v' t causes.NoMemory causes.Drained k r.cause in
    let port = record (port_facts v.events t) { shut = true } in
    let st = stays (facts v t) (facts v' t) port causes.NoMemory here refl refl in
    told_shut v v' unopened ended t causes.NoMemory h k r (closed_no_memory (facts v t) (facts v' t) r.running.s
    (facts v t).piece r.running.served st (ap (λ (p : PortFacts). p.shut) here.port_is))

-- shut as its client took no output
pub told_stalled : (v v' : RunView) (unopened : ℕ) (ended : Bool) (t : ℕ) → IsTraceKnown v unopened ended
    → ClosesIn v v' t causes.Stalled (was.Shut t) → IsLenient v'.dialect → Runs (facts v t) → IsTraceKnown v' unopened ended
told_stalled v v' unopened ended t h k lenient r =
    let here = shuts_here v v' t causes.Stalled causes.Drained k r.cause in
    let port = record (port_facts v.events t) { shut = true } in
    let st = stays (facts v t) (facts v' t) port causes.Stalled here refl refl in
    told_shut v v' unopened ended t causes.Stalled h k r (closed_stalled (facts v t) (facts v' t) r.running.s
    (facts v t).piece r.running.served st (ap (λ (p : PortFacts). p.shut) here.port_is) lenient)

-- shut as it has finished
pub told_finished : (v v' : RunView) (unopened : ℕ) (ended : Bool) (t : ℕ) (c : EndCause)
    → IsTraceKnown v unopened ended → ClosesIn v v' t c (was.Shut t)
    → (r : Runs (facts v t)) → r.running.s.queue ≡ [] → r.running.s.out ≡ [] → v.piece t ≡ r.running.s.held
    → Ends r.running.s c → IsTraceKnown v' unopened ended
told_finished v v' unopened ended t c h k r queue out held ends =
    let here = shuts_here v v' t c causes.Drained k r.cause in
    let port = record (port_facts v.events t) { shut = true } in
    let st = stays (facts v t) (facts v' t) port c here refl refl in
    told_shut v v' unopened ended t c h k r (closed_finished (facts v t) (facts v' t) r.running.s
    (facts v t).piece c r.running.served st queue out held (ap (λ (p : PortFacts). p.input_ended) here.port_is) ends
    (ap (λ (p : PortFacts). p.shut) here.port_is))

-- what a closing of the worker makes of its view
pub closes_in : {P : Type 0} (trace : PortTrace) (old new : WorkerState P) (t : ℕ) (c : EndCause) (x : PortRecord)
    → Closes old new t c
    → CausesRiseFrom 0 old.sessions.items → ClosesIn (run_view trace old)
    (run_view (then_told (x ∷ []) trace) new) t c x
closes_in trace old new t c x k rises = record {
  dialect = refl;
  events = refl;
  numbered = λ i. numbered_by (k.end i) (k.request i);
  back = ap (λ (w : WorkerView). w.back) k.end;
  sessions = k.sessions rises;
  book = k.book.only_at;
  piece = pieces_at old.book new.book t None k.book.only_at;
}

-- the end and the book agree still once a session is closed
pub steady_closed : {P : Type 0} (old new : WorkerState P) (t : ℕ) (c : EndCause) → Closes old new t c
    → IsSteady (end_of old) old.request old.book
    → IsSteady (end_of new) new.request new.book
steady_closed old new t c k h =
    subst (λ (y : WorkerView × Option Posted). IsSteady y.0 y.1 new.book) (λ i. (sym k.end i, sym k.request i))
    (steady_same (end_of old) old.request old.book new.book (ap (λ (b : BookState). b.numbered) k.book.rest)
    (ap (λ (b : BookState). b.unsettled) k.book.rest) h)

-- an end that hasn't changed is the same end
pub same_end : {P : Type 0} (old new : WorkerState P) → end_of new ≡ end_of old
    → IsSameEnd (end_of old) (end_of new)
same_end old new e = record {
  exchange = ap (λ (w : WorkerView). w.exchange) e;
  worker = ap (λ (w : WorkerView). w.worker) e;
}

-- such an end is later, or the same
pub later_view : (old new : WorkerView) → new.exchange ≡ old.exchange → new.worker ≡ old.worker → new.terms ≡ old.terms → new.seen ≡ old.seen
    → IsLaterEnd old new
later_view old new x w g s = record { exchange = x; worker = w; terms = g; later = ([], s ∙ sym (append-nil old.seen)) }

pub later_is : (old new : WorkerView) → new ≡ old → IsLaterEnd old new
later_is old new e = later_view old new (ap (λ (w : WorkerView). w.exchange) e) (ap (λ (w : WorkerView). w.worker) e)
    (ap (λ (w : WorkerView). w.terms) e) (ap (λ (w : WorkerView). w.seen) e)

pub later_trans : (a b c : WorkerView) → IsLaterEnd a b → IsLaterEnd b c → IsLaterEnd a c
later_trans a b c h k = record {
  exchange = k.exchange ∙ h.exchange;
  worker = k.worker ∙ h.worker;
  terms = k.terms ∙ h.terms;
  later = starts_trans c.seen b.seen a.seen k.later h.later;
}

-- the trace is still that of the end's worker, later
pub trace_later : (trace : PortTrace) (a b : WorkerView) → IsTraceOf trace a → IsLaterEnd a b → IsTraceOf trace b
trace_later trace a b h k = record {
  exchange_is = h.exchange_is ∙ sym k.exchange;
  worker_is = h.worker_is ∙ sym k.worker;
  terms_are = h.terms_are ∙ sym k.terms;
  later = starts_trans b.seen a.seen trace.history k.later h.later;
}

-- ---- a worker goes on

-- what is true of a worker beside its port's trace
pub record OwnFacts {P : Type 0} (old new : WorkerState P) : Type 0 where
  pub same_end : IsSameEnd (end_of old) (end_of new)
  pub later : IsLaterEnd (end_of old) (end_of new)
  pub steady : IsSteady (end_of new) new.request new.book
  pub dialect : new.book.dialect ≡ old.book.dialect
  pub strangers : new.strangers ≡ 0
  pub unopened : new.unopened ≡ old.unopened
  pub ended : new.ended ≡ old.ended

-- where a session was closed, and the port may be another one
pub own_closed : {P : Type 0} (told : P → Option PortTrace) (old new : WorkerState P) (port : P) (t : ℕ) (c : EndCause)
    → Closes (record old { port = port }) new t c → IsWorkerServing told old → OwnFacts old new
own_closed told old new port t c k h = record {
  same_end = same_end old new k.end;
  later = later_is (end_of old) (end_of new) k.end;
  steady = steady_closed (record old { port = port }) new t c k h.steady;
  dialect = ap (λ (b : BookState). b.dialect) k.book.rest;
  strangers = k.strangers ∙ h.strangers;
  unopened = k.unopened;
  ended = k.ended;
}

-- where the port and the book changed, which gave no number
pub own_within : {P : Type 0} (told : P → Option PortTrace) (old new : WorkerState P) (port : P)
    → LeavesWorker (record old { port = port }) new
    → (new.book.numbered ≡ old.book.numbered) × (new.book.unsettled ≡ old.book.unsettled)
    × (new.book.dialect ≡ old.book.dialect) → IsWorkerServing told old → OwnFacts old new
own_within told old new port rest b h = record {
  same_end = same_end old new rest.end;
  later = later_is (end_of old) (end_of new) rest.end;
  steady = subst (λ (y : WorkerView × Option Posted). IsSteady y.0 y.1 new.book)
      (λ i. (sym rest.end i, sym rest.request i))
      (steady_same (end_of old) old.request old.book new.book b.0 b.1 h.steady);
  dialect = b.2;
  strangers = rest.strangers ∙ h.strangers;
  unopened = rest.unopened;
  ended = rest.ended;
}

-- what is true of it beside its own facts, at this trace
abbrev pub TraceFacts : {P : Type 0} → PortTrace → WorkerState P → ℕ → Bool → Type 0
TraceFacts trace w unopened ended = IsTraceKnown (run_view trace w) unopened ended × ArePaused trace (piece_of w.book)

-- of a serving worker all is known at the trace that its port tells, and each session of which
-- bytes are held is paused
pub trace_facts : {P : Type 0} (told : P → Option PortTrace) (w : WorkerState P) → IsWorkerServing told w
    → (trace : PortTrace) → told w.port ≡ Some trace
    → TraceFacts trace w w.unopened w.ended
trace_facts told w h trace e = (h.known trace e, h.paused trace e)

-- a step that makes of each trace what f does
pub steps : {P : Type 0} (told : P → Option PortTrace) (old new : WorkerState P) (f : PortTrace → PortTrace)
    → ((trace : PortTrace) → IsTraceBy trace (end_of old) old.book → IsTraceBy (f trace) (end_of old) old.book)
    → told new.port ≡ option_map f (told old.port) → IsSameEnd (end_of old) (end_of new)
    → IsLaterEnd (end_of old) (end_of new) → new.book.dialect ≡ old.book.dialect
    → IsSteady (end_of new) new.request new.book
    → new.strangers ≡ 0 → IsWorkerServing told old
    → ((trace : PortTrace) → told old.port ≡ Some trace → TraceFacts trace old old.unopened old.ended
    → TraceFacts (f trace) new new.unopened new.ended) → WorkerGoesOn told old new
steps told old new f stays port same later dialect steady strangers h each =
    let at : (after : PortTrace) → told new.port ≡ Some after → TraceFacts after new new.unopened new.ended =
    λ after e.
    let b = told_before f (told old.port) (told new.port) port after e in
    subst (λ (y : PortTrace). TraceFacts y new new.unopened new.ended) b.2
    (each b.0 b.1 (trace_facts told old h b.0 b.1)) in record {
      tells = tells_as f (told old.port) (told new.port) port;
      same_end = same;
      dialect = dialect;
      serving = record {
        steady = steady;
        strangers = strangers;
        known = λ after e. (at after e).0;
        paused = λ after e. (at after e).1;
        whose = λ after e.
            let b = told_before f (told old.port) (told new.port) port after e in
            let now = stays b.0 (h.whose b.0 b.1) in
            subst (λ (y : PortTrace). IsTraceBy y (end_of new) new.book) b.2
            (trace_later (f b.0) (end_of old) (end_of new) now.0 later, now.1 ∙ sym dialect);
      };
    }

-- the same where the counts stay
pub steps_on : {P : Type 0} (told : P → Option PortTrace) (old new : WorkerState P) (f : PortTrace → PortTrace)
    → ((trace : PortTrace) → IsTraceBy trace (end_of old) old.book → IsTraceBy (f trace) (end_of old) old.book)
    → told new.port ≡ option_map f (told old.port) → OwnFacts old new → IsWorkerServing told old
    → ((trace : PortTrace) → told old.port ≡ Some trace → TraceFacts trace old old.unopened old.ended
    → TraceFacts (f trace) new old.unopened old.ended) → WorkerGoesOn told old new
steps_on told old new f stays port own h each =
    steps told old new f stays port own.same_end own.later own.dialect own.steady own.strangers h
    (λ trace e k. subst (λ (y : ℕ × Bool). TraceFacts (f trace) new y.0 y.1)
    (λ i. (sym own.unopened i, sym own.ended i)) (each trace e k))

-- a worker whose session was shut goes on, if all is told of it
pub shut_goes_on : {P : Type 0} (told : P → Option PortTrace) (old new : WorkerState P) (t : ℕ) (c : EndCause)
    → Shuts told old new t c → IsWorkerServing told old
    → ((trace : PortTrace) → told old.port ≡ Some trace → IsTraceKnown (run_view trace old) old.unopened old.ended
    → ClosesIn (run_view trace old) (run_view (then_told (was.Shut t ∷ []) trace) new) t c (was.Shut t)
    → IsTraceKnown (run_view (then_told (was.Shut t ∷ []) trace) new) old.unopened old.ended)
    → WorkerGoesOn told old new
shut_goes_on told old new t c k h is_told =
    steps_on told old new (then_told (was.Shut t ∷ [])) (λ s q. q) k.port (own_closed told old new old.port t c k.closes h) h
    (λ trace e was_so. (
      is_told trace e was_so.0 (closes_in trace old new t c (was.Shut t) k.closes was_so.0.rising),
      paused_but trace (then_told (was.Shut t ∷ []) trace) t (piece_of old.book) (piece_of new.book)
          (pieces_at old.book new.book t None k.closes.book.only_at)
          (λ s ne. paused_elsewhere trace (was.Shut t) s (ne_eqb t s ne)) was_so.1,
    ))

-- a worker that has shut an open session that is out of memory goes on
pub no_memory_goes_on : {P : Type 0} (told : P → Option PortTrace) (old new : WorkerState P) (t : ℕ) (s : SessionState)
    → Shuts told old new t causes.NoMemory → IsWorkerServing told old → session_of old.book t ≡ Some s
    → WorkerGoesOn told old new
no_memory_goes_on told old new t s k h e =
    shut_goes_on told old new t causes.NoMemory k h (λ trace is was_told closes. told_no_memory (run_view trace old)
    (run_view (then_told (was.Shut t ∷ []) trace) new) old.unopened old.ended t was_told closes
    (runs (facts (run_view trace old) t) s (was_told.each t) e))

-- so does one that has shut a lenient session whose client took no output
pub stalled_goes_on : {P : Type 0} (told : P → Option PortTrace) (old new : WorkerState P) (t : ℕ)
    → Shuts told old new t causes.Stalled → IsWorkerServing told old → IsStalled old.book t → WorkerGoesOn told old new
stalled_goes_on told old new t k h u = let lenient = u.lenient in
    shut_goes_on told old new t causes.Stalled k h (λ trace is was_told closes. told_stalled (run_view trace old)
    (run_view (then_told (was.Shut t ∷ []) trace) new) old.unopened old.ended t was_told closes
    (lenient.0, (h.whose trace is).1 ∙ lenient.1) (runs (facts (run_view trace old) t) u.s (was_told.each t) u.there))

-- ---- an event of the port

-- a session that the port's list has open was opened there, and has neither gone nor been shut
pub open_here : (l : List PortRecord) (t : ℕ) → is_open t l ≡ true
    → (is_in (was.Opened t) l ≡ true) × (is_in (was.Gone t) l ≡ false) × (is_in (was.Shut t) l ≡ false)
open_here l t e = open_parts (is_in (was.Opened t) l) (is_in (was.Gone t) l) (is_in (was.Shut t) l) e

-- a session that is open in the book is open at the port
pub told_open : (v : RunView) (unopened : ℕ) (ended : Bool) (t : ℕ) (s : SessionState) → IsTraceKnown v unopened ended
    → session_of v.book t ≡ Some s
    → is_open t v.events ≡ true
told_open v unopened ended t s h e =
    let r = runs (facts v t) s (h.each t) e in open_of (is_in (was.Opened t) v.events) (is_in (was.Gone t) v.events)
    (is_in (was.Shut t) v.events) r.opened r.running.gone r.running.shut

-- the same of a worker
pub open_at : {P : Type 0} (told : P → Option PortTrace) (w : WorkerState P) (t : ℕ) (s : SessionState)
    → IsWorkerServing told w → session_of w.book t ≡ Some s
    → (trace : PortTrace) → told w.port ≡ Some trace → is_open t trace.events ≡ true
open_at told w t s h e = λ trace q. told_open (run_view trace w) w.unopened w.ended t s (h.known trace q) e

-- the other facts stay where only the port's list, the book and a piece change at one session
pub others_same : (v v' : RunView) (t : ℕ) (x : PortRecord) → v'.dialect ≡ v.dialect → v'.events ≡ v.events ++ x ∷ [] → v'.numbered ≡ v.numbered
    → v'.back ≡ v.back
    → v'.sessions ≡ v.sessions → ((s : ℕ) → t ≢ s → about s x ≡ false)
    → ((s : ℕ) → t ≢ s → session_of v'.book s ≡ session_of v.book s)
    → ((s : ℕ) → t ≢ s → v'.piece s ≡ v.piece s) → (s : ℕ) → t ≢ s → facts v' s ≡ facts v s
others_same v v' t x d e p b r other book piece s ne =
    facts_equal (facts v' s) (facts v s) d (ap (λ l. port_facts l s) e ∙ elsewhere v.events x s (other s ne))
    (ap (λ l. asked_by l s) p)
    (ap (λ l. had_by l s) b) (ap (λ l. cause_of l s) r) (book s ne) (piece s ne)

-- the view but for its list, where an entry that opens nothing was added
pub told_same : (v v' : RunView) (unopened : ℕ) (ended : Bool) (x : PortRecord) → IsTraceKnown v unopened ended
    → v'.events ≡ v.events ++ x ∷ []
    → v'.sessions ≡ v.sessions → is_in was.Ended (v.events ++ x ∷ []) ≡ is_in was.Ended v.events
    → opened_count (v.events ++ x ∷ []) ≡ opened_count v.events
    → IsProper v.events x → ((s : ℕ) → AreFactsConsistent (facts v' s)) → IsTraceKnown v' unopened ended
told_same v v' unopened ended x h e r same count proper each = record {
  each = each;
  rising = subst (CausesRiseFrom 0) (sym r) h.rising;
  counted = subst (λ (y : List PortRecord × List (ℕ × EndCause)). AreSessionsCounted y.0 y.1 unopened)
      (λ i. (sym e i, sym r i))
      (subst (λ (y : ℕ). (length v.sessions ≤ y) × (unopened ≡ min (y - length v.sessions) (2 ^ 64 - 1)))
      (sym count) h.counted);
  at_end = ap (is_in was.Ended) e ∙ same ∙ h.at_end;
  accepts = subst AcceptsOnlyOpen (sym e) (accepts_more v.events x h.accepts proper);
}

-- the facts of the session at which something came
pub fact_at : (v v' : RunView) (t : ℕ) (port : PortFacts) (st : Option SessionState) (q : List ℕ)
    → v'.dialect ≡ v.dialect → port_facts v'.events t ≡ port
    → v'.numbered ≡ v.numbered → v'.back ≡ v.back → v'.sessions ≡ v.sessions → session_of v'.book t ≡ st → v'.piece t ≡ q
    → facts v' t ≡ record (facts v t) { port = port; state = st; piece = q }
fact_at v v' t port st q d e p b r s k = facts_equal (facts v' t)
    (record (facts v t) { port = port; state = st; piece = q }) d e
    (ap (λ l. asked_by l t) p) (ap (λ l. had_by l t) b) (ap (λ l. cause_of l t) r) s k

-- running on in another state
pub running_on : (f : SessionFacts) (port : PortFacts) (s : SessionState) (q : List ℕ) → Runs f
    → port.opened ≡ f.port.opened
    → port.gone ≡ f.port.gone → port.shut ≡ f.port.shut → IsSessionServed q (record f { port = port }) s
    → AreFactsConsistent (record f { port = port; state = Some s; piece = q })
running_on f port s q r o g h served =
    runs_on f (record f { port = port }) s q r o g h refl served

-- bytes came and were fed
pub told_fed : (v v' : RunView) (unopened : ℕ) (ended : Bool) (t : ℕ) (b : List ℕ) → IsTraceKnown v unopened ended
    → is_open t v.events ≡ true
    → v.piece t ≡ [] → v'.dialect ≡ v.dialect → v'.events ≡ v.events ++ was.Data t b ∷ [] → v'.numbered ≡ v.numbered → v'.back ≡ v.back
    → v'.sessions ≡ v.sessions
    → ((s : ℕ) → session_of v'.book s ≡ cond (s == t)
    (option_map (λ (x : SessionState). once_fed x b) (session_of v.book t)) (session_of v.book s))
    → ((s : ℕ) → v'.piece s ≡ v.piece s) → IsTraceKnown v' unopened ended
told_fed v v' unopened ended t b h opened none d e p k r book piece =
    let o = open_here v.events t opened in
    let run = runs_at_port (facts v t) (h.each t) o.0 o.1 o.2 in
    let s = run.running.s in
    let port = record (port_facts v.events t) { fed = (port_facts v.events t).fed ++ b } in
    let was_served : IsSessionServed [] (facts v t) s =
    subst (λ q. IsSessionServed q (facts v t) s) none run.running.served in
    let f' = record (facts v t) { port = port } in
    let now_served : IsSessionServed [] f' (once_fed s b) =
    served_fed f' s b (served_came (facts v t) s [] b was_served) in
    let state : session_of v'.book t ≡ Some (once_fed s b) =
    book t ∙ at_same t (option_map (λ (x : SessionState). once_fed x b) (session_of v.book t))
    (session_of v.book t) ∙ ap (option_map (λ (x : SessionState). once_fed x b)) run.running.state in
    let here = fact_at v v' t port (Some (once_fed s b)) [] d
    (ap (λ l. port_facts l t) e ∙ fed_here v.events t b) p k r state (piece t ∙ none) in
    let now = running_on (facts v t) port (once_fed s b) [] run refl refl refl now_served in
    told_same v v' unopened ended (was.Data t b) h e r (ended_same v.events (was.Data t b) refl)
    (count_same v.events (was.Data t b) refl) tt
    (change_at t v v' (others_same v v' t (was.Data t b) d e p k r (λ s ne. ne_eqb t s ne)
    (λ s ne. book s ∙ at_other t s (option_map (λ (x : SessionState). once_fed x b) (session_of v.book t))
    (session_of v.book s) ne)
    (λ s ne. piece s)) (subst AreFactsConsistent (sym here) now) (λ s ne. h.each s))

-- the input has ended
pub told_input_ended : (v v' : RunView) (unopened : ℕ) (ended : Bool) (t : ℕ) → IsTraceKnown v unopened ended
    → is_open t v.events ≡ true
    → v'.dialect ≡ v.dialect → v'.events ≡ v.events ++ was.EndOfInput t ∷ [] → v'.numbered ≡ v.numbered → v'.back ≡ v.back
    → v'.sessions ≡ v.sessions
    → ((s : ℕ) → session_of v'.book s ≡ cond (s == t) (option_map once_input_ended (session_of v.book t)) (session_of v.book s))
    → ((s : ℕ) → v'.piece s ≡ v.piece s) → IsTraceKnown v' unopened ended
told_input_ended v v' unopened ended t h opened d e p k r book piece =
    let o = open_here v.events t opened in
    let run = runs_at_port (facts v t) (h.each t) o.0 o.1 o.2 in
    let s = run.running.s in
    let port = record (port_facts v.events t) { input_ended = true } in
    let served = served_input_ended (facts v t) s (v.piece t) run.running.served in
    let state : session_of v'.book t ≡ Some (once_input_ended s) =
    book t ∙ at_same t (option_map once_input_ended (session_of v.book t)) (session_of v.book t)
    ∙ ap (option_map once_input_ended) run.running.state in
    let here = fact_at v v' t port (Some (once_input_ended s)) (v.piece t) d
    (ap (λ l. port_facts l t) e ∙ input_ended_here v.events t) p k r state (piece t) in
    let now = running_on (facts v t) port (once_input_ended s) (v.piece t) run refl refl refl served in
    told_same v v' unopened ended (was.EndOfInput t) h e r (ended_same v.events (was.EndOfInput t) refl)
    (count_same v.events (was.EndOfInput t) refl) tt
    (change_at t v v' (others_same v v' t (was.EndOfInput t) d e p k r (λ s ne. ne_eqb t s ne)
    (λ s ne. book s ∙ at_other t s (option_map once_input_ended (session_of v.book t)) (session_of v.book s) ne)
    (λ s ne. piece s)) (subst AreFactsConsistent (sym here) now) (λ s ne. h.each s))

-- bytes came and are held
pub told_held : (v v' : RunView) (unopened : ℕ) (ended : Bool) (t : ℕ) (b : List ℕ) → IsTraceKnown v unopened ended
    → is_open t v.events ≡ true
    → v.piece t ≡ [] → v'.dialect ≡ v.dialect → v'.events ≡ v.events ++ was.Data t b ∷ [] → v'.numbered ≡ v.numbered → v'.back ≡ v.back
    → v'.sessions ≡ v.sessions
    → ((s : ℕ) → session_of v'.book s ≡ cond (s == t)
    (option_map (λ (x : SessionState). holding x b) (session_of v.book t)) (session_of v.book s))
    → ((s : ℕ) → v'.piece s ≡ cond (s == t) b (v.piece s)) → IsTraceKnown v' unopened ended
told_held v v' unopened ended t b h opened none d e p k r book piece =
    let o = open_here v.events t opened in
    let run = runs_at_port (facts v t) (h.each t) o.0 o.1 o.2 in
    let s = run.running.s in
    let port = record (port_facts v.events t) { fed = (port_facts v.events t).fed ++ b } in
    let was_served : IsSessionServed [] (facts v t) s =
    subst (λ q. IsSessionServed q (facts v t) s) none run.running.served in
    let f' = record (facts v t) { port = port } in
    let now_served : IsSessionServed b f' (holding s b) =
    served_holding f' s b b (served_came (facts v t) s [] b was_served) in
    let state : session_of v'.book t ≡ Some (holding s b) =
    book t ∙ at_same t (option_map (λ (x : SessionState). holding x b) (session_of v.book t))
    (session_of v.book t) ∙ ap (option_map (λ (x : SessionState). holding x b)) run.running.state in
    let here = fact_at v v' t port (Some (holding s b)) b d
    (ap (λ l. port_facts l t) e ∙ fed_here v.events t b) p k r state (piece t ∙ at_same t b (v.piece t)) in
    let now = running_on (facts v t) port (holding s b) b run refl refl refl now_served in
    told_same v v' unopened ended (was.Data t b) h e r (ended_same v.events (was.Data t b) refl)
    (count_same v.events (was.Data t b) refl) tt
    (change_at t v v' (others_same v v' t (was.Data t b) d e p k r (λ s ne. ne_eqb t s ne)
    (λ s ne. book s ∙ at_other t s (option_map (λ (x : SessionState). holding x b) (session_of v.book t))
    (session_of v.book s) ne)
    (λ s ne. piece s ∙ at_other t s b (v.piece s) ne)) (subst AreFactsConsistent (sym here) now) (λ s ne. h.each s))
