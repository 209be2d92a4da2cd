-- What taking an answer and settling it leaves true of a worker.
use Rattle.std.proofs.Common.{◌≡◌, ◌≢◌, ℕ, zero, suc, ◌-◌, ◌^◌, ◌<◌, ◌≤◌, ◌==◌, Bool, true, false, cond}
use Rattle.std.proofs.Common.{eq-eqb, ne_eqb, List, [], ◌∷◌, ◌++◌, length, take}
use Rattle.std.proofs.Common.{drop, min, map, refl, sym, ap, subst, ◌∙◌, arith, Option, Some, None, length-append}
use Rattle.std.specs.Prelude.{slice_get}
use mathlib.Core.Option.{some}
use lib.ListN.{get_elem?}
use Rattle.std.specs.List.{filter}
use Rattle.std.specs.Option.{option_to_list, option_map}
use Rattle.proto.specs.declared.history.Posted.{Posted}
use Rattle.proto.specs.declared.history.Answered.{Answered}
use Rattle.proto.proofs.Options.{some_is}
use Rattle.proto.specs.History.{asked_posted}
use Rattle.proto.specs.Reading.{asks}
use Rattle.exchange.specs.Ends.{WorkerView, WorkerLaneView, WasTold}
use Rattle.exchange.specs.Beginnings.{posted_of}
use Rattle.exchange.proofs.Lists.{take_more}
use Rattle.session_book.specs.declared.causes.EndCause.{EndCause}
use Rattle.session_book.specs.declared.causes.EndCause.TheVariants as causes
use Rattle.session_book.specs.declared.causes.Unsettled.{Unsettled}
use Rattle.session_book.specs.Session.{SessionState, with_reply}
use Rattle.session_book.specs.Book.{BookState, session_of, held_of, IsOldest, SettlesOldest, SettlesReply}
use Rattle.worker_port.specs.declared.events.PortRecord.{PortRecord}
use Rattle.worker_port.specs.declared.events.PortRecord.TheVariants as was
use Rattle.worker.specs.declared.worker.WorkerState.{WorkerState}
use Rattle.worker.specs.Sessions.{RunView, facts, asked_by, had_by, cause_of, AreFactsConsistent, IsSessionServed}
use Rattle.worker_port.specs.PortFacts.{PortFacts, port_facts}
use Rattle.worker_port.specs.Ports.{PortTrace, then_told, is_in}
use Rattle.worker.specs.EndCauses.{CausesRiseFrom, piece_of}
use Rattle.worker.specs.Workers.{once_flushed, end_of, numbered_by, unsettled_post, IsNumbered}
use Rattle.worker.specs.Workers.{IsSteady, IsTraceKnown, run_view, IsWorkerServing}
use Rattle.worker.specs.Workers.{TakesNone, TakesBack, Shuts}
use Rattle.worker.proofs.Facts.{had_here, had_elsewhere}
use Rattle.worker.proofs.SessionSteps.{runs, runs_on, Stays, served_settled, closed_starved, dropped}
use Rattle.worker.proofs.EndCauseLemmas.{rises_with, length-with}
use Rattle.worker.proofs.RunViews.{AreSessionsCounted, facts_equal, change_at, at_other, at_same, ClosesIn, close_all, shuts_here, apart_shut}
use Rattle.worker_port.proofs.Lists.{AcceptsOnlyOpen, ended_same, count_same, accepts_more}
use Rattle.worker.proofs.TraceLaws.{same_trace, paused_kept, paused_but, paused_elsewhere}
use Rattle.worker.proofs.PieceLaws.{pieces_kept, pieces_gone}
use Rattle.worker.proofs.WorkerSteps.{WorkerGoesOn, steps_on, steady_closed, same_end, later_is, later_trans, closes_in}
use Rattle.worker.proofs.OutputSteps.{told_within}

-- ---- lists

-- two values that are the same as optional ones are the same
some_same : {A : Type 0} (x y : A) → some x ≡ some y → x ≡ y
some_same x y e = cc

-- a list without a request of a session has none after its first element either
none_behind : (b : Bool) (x : Posted) (l : List Posted) (t : ℕ)
    → map (λ (y : Posted). y.request) (cond b (x ∷ filter (λ (y : Posted). y.session == t) l)
    (filter (λ (y : Posted). y.session == t) l)) ≡ []
    → asked_by l t ≡ []
none_behind true x l t e = absurd (cc)
none_behind false x l t e = e

-- a held request has the next number still where the end has sent as many requests as before
numbered_as : (end end' : WorkerView) (request : Option Posted) → length end'.sent ≡ length end.sent
    → IsNumbered end request → IsNumbered end' request
numbered_as end end' None e h = h
numbered_as end end' (Some p) e h = omega (arith, e, h)

-- one more answer adds its request, as it was posted, to those that came back
asked_more : (l : List Answered) (a : Answered) → asked_posted (l ++ a ∷ []) ≡ asked_posted l ++ posted_of a ∷ []
asked_more [] a = refl
asked_more (x ∷ l) a = ap (λ (y : List Posted). posted_of x ∷ y) (asked_more l a)

-- the element at a place is the first of the rest
rest_at : {A : Type 0} (l : List A) (n : ℕ) (x : A) → get_elem? l n ≡ some x → drop n l ≡ x ∷ drop (suc n) l
rest_at [] n x e = absurd (cc)
rest_at (y ∷ l) zero x e = let same : y ≡ x = some_same y x e in ap (λ z. z ∷ l) same
rest_at (y ∷ l) (suc n) x e = rest_at l n x e

-- something was asked for a session of which a request stands in the list
some_asked : (l : List Posted) (n t : ℕ) (p : Posted) → get_elem? l n ≡ some p → p.session ≡ t → asked_by l t ≡ [] → ⊥
some_asked [] n t p e q none = absurd (cc)
some_asked (x ∷ l) zero t p e q none =
    let same : x ≡ p = some_same x p e in
    let here : (x.session == t) ≡ true = eq-eqb x.session t (ap (λ (y : Posted). y.session) same ∙ q) in
    let bad : x.request ∷ asked_by l t ≡ [] = sym (ap (λ b. map (λ (y : Posted). y.request)
    (cond b (x ∷ filter (λ (y : Posted). y.session == t) l) (filter (λ (y : Posted). y.session == t) l))) here)
    ∙ none in absurd (cc)
some_asked (x ∷ l) (suc n) t p e q none = some_asked l n t p e q (none_behind (x.session == t) x l t none)

-- ---- what was taken

-- a list after it moves no element
pub at_append : {A : Type 0} (l m : List A) (n : ℕ) (x : A) → get_elem? l n ≡ some x → get_elem? (l ++ m) n ≡ some x
at_append [] m n x e = absurd (cc)
at_append (y ∷ l) m zero x e = e
at_append (y ∷ l) m (suc n) x e = at_append l m n x e

-- a request has its place among those sent also where the held one is counted with them
pub at_posted : (end : WorkerView) (request : Option Posted) (a : Answered)
    → get_elem? end.sent (length end.back) ≡ some (posted_of a)
    → get_elem? (numbered_by end request) (length end.back) ≡ some (posted_of a)
at_posted end request a e = at_append end.sent (option_to_list request) (length end.back) (posted_of a) e

-- the answer is that of the book's oldest unsettled request
pub oldest_first : (end : WorkerView) (request : Option Posted) (book : BookState) (a : Answered)
    → IsSteady end request book
    → get_elem? end.sent (length end.back) ≡ some (posted_of a)
    → book.unsettled ≡ unsettled_post (posted_of a) ∷ map unsettled_post
    (drop (suc (length end.back)) (numbered_by end request))
oldest_first end request book a h e = h.unsettled ∙ ap (map unsettled_post)
    (rest_at (numbered_by end request) (length end.back) (posted_of a) (at_posted end request a e))

-- an answer to the first request that hadn't come back is that of the book's oldest unsettled
-- request
pub is_oldest : (end : WorkerView) (request : Option Posted) (book : BookState) (a : Answered)
    → IsSteady end request book
    → get_elem? end.sent (length end.back) ≡ some (posted_of a) → IsOldest book a
is_oldest end request book a h e = ap (λ (l : List Unsettled). slice_get l 0) (oldest_first end request book a h e)

-- the end and the book agree still once the end took back an answer and the book's oldest request
-- is no longer unsettled
pub steady_taken : (end end' : WorkerView) (request : Option Posted) (book book' : BookState) (a : Answered)
    → IsSteady end request book
    → TakesBack end end' a → book'.numbered ≡ book.numbered → book'.unsettled ≡ drop 1 book.unsettled
    → IsSteady end' request book'
steady_taken end end' request book book' a h k p u =
    let len : length end'.back ≡ suc (length end.back) =
    ap (length {A = Answered}) k.back ∙ (let x = length-append end.back (a ∷ []) in omega arith) in
    let numbered : numbered_by end' request ≡ numbered_by end request =
    ap (λ (l : List Posted). l ++ option_to_list request) k.sent in record {
      running = k.running ∙ h.running;
      numbered = p ∙ h.numbered ∙ ap (length {A = Posted}) (sym numbered);
      held = numbered_as end end' request (ap (length {A = Posted}) k.sent) h.held;
      unsettled = u ∙ ap (drop 1) (oldest_first end request book a h k.own)
          ∙ (λ i. map unsettled_post (drop (sym len i) (sym numbered i)));
      back = ap asked_posted k.back ∙ asked_more end.back a ∙ ap (λ (l : List Posted). l ++ posted_of a ∷ []) h.back
          ∙ sym (take_more end.sent (length end.back) (posted_of a) k.own) ∙ (λ i. take (sym len i) (sym k.sent i));
      told = k.told h.told;
    }

-- ---- what is told

-- one more answer came back, its session has this state, or none, and nothing else changes
record TakesIn (v v' : RunView) (a : Answered) (st : Option SessionState) : Type 0 where
  dialect : v'.dialect ≡ v.dialect
  events : v'.events ≡ v.events
  numbered : v'.numbered ≡ v.numbered
  back : v'.back ≡ v.back ++ a ∷ []
  sessions : v'.sessions ≡ v.sessions
  book : (k : ℕ) → session_of v'.book k ≡ cond (k == a.session) st (session_of v.book k)
  piece : v'.piece ≡ v.piece

-- an answer that came back leaves what is known of the other sessions
taken_elsewhere : (v v' : RunView) (a : Answered) (st : Option SessionState) → TakesIn v v' a st → (k : ℕ)
    → a.session ≢ k → facts v' k ≡ facts v k
taken_elsewhere v v' a st h k ne =
    facts_equal (facts v' k) (facts v k) h.dialect (ap (λ l. port_facts l k) h.events)
    (λ i. (facts (record v { numbered = h.numbered i }) k).asked)
    (ap (λ l. had_by l k) h.back ∙ had_elsewhere v.back a k ne)
    (λ i. (facts (record v { sessions = h.sessions i }) k).cause)
    (h.book k ∙ at_other a.session k st (session_of v.book k) ne) (λ i. h.piece i k)

-- of its own session it changes the replies and the state alone
taken_here : (v v' : RunView) (a : Answered) (st : Option SessionState) → TakesIn v v' a st
    → facts v' a.session ≡ record (facts v a.session) { had = had_by v.back a.session ++ a.reply ∷ []; state = st }
taken_here v v' a st h =
    let t = a.session in
    facts_equal (facts v' t) (record (facts v t) { had = had_by v.back t ++ a.reply ∷ []; state = st }) h.dialect
    (ap (λ l. port_facts l t) h.events)
    (λ i. (facts (record v { numbered = h.numbered i }) t).asked) (ap (λ l. had_by l t) h.back ∙ had_here v.back a t refl)
    (λ i. (facts (record v { sessions = h.sessions i }) t).cause) (h.book t ∙ at_same t st (session_of v.book t))
    (λ i. h.piece i t)

-- all is known still once an open session with an unsettled request got the reply that came back
told_kept : (v v' : RunView) (unopened : ℕ) (ended : Bool) (a : Answered) (s : SessionState)
    → IsTraceKnown v unopened ended
    → session_of v.book a.session ≡ Some s → 0 < length (asks s.queue) → TakesIn v v' a (Some (with_reply s a.reply))
    → IsTraceKnown v' unopened ended
told_kept v v' unopened ended a s h open_is has k =
    let t = a.session in
    let run = runs (facts v t) s (h.each t) open_is in
    let same : s ≡ run.running.s = some_is s run.running.s (sym open_is ∙ run.running.state) in
    let was_served : IsSessionServed (v.piece t) (facts v t) s =
    subst (λ (x : SessionState). IsSessionServed (v.piece t) (facts v t) x) (sym same) run.running.served in
    let served = served_settled (facts v t) s (v.piece t) a.reply has was_served in
    let f' = record (facts v t) { had = had_by v.back t ++ a.reply ∷ []; state = Some (with_reply s a.reply) } in
    let now : AreFactsConsistent f' =
    runs_on (facts v t) (record (facts v t) { had = had_by v.back t ++ a.reply ∷ [] }) (with_reply s a.reply) (v.piece t) run
    refl refl refl refl served in
    told_within v v' unopened ended h k.events k.sessions
    (change_at t v v' (taken_elsewhere v v' a (Some (with_reply s a.reply)) k)
    (subst AreFactsConsistent (sym (taken_here v v' a (Some (with_reply s a.reply)) k)) now) (λ j ne. h.each j))

-- all is known still once an answer came back for a session that is no longer open and has asked
-- something
told_dropped : (v v' : RunView) (unopened : ℕ) (ended : Bool) (a : Answered) → IsTraceKnown v unopened ended
    → session_of v.book a.session ≡ None
    → (asked_by v.numbered a.session ≡ [] → ⊥) → TakesIn v v' a None → IsTraceKnown v' unopened ended
told_dropped v v' unopened ended a h closed has k =
    let t = a.session in
    let now = dropped (facts v t) a.reply closed has (h.each t) in
    let here : facts v' t ≡ record (facts v t) { had = had_by v.back t ++ a.reply ∷ [] } = taken_here v v' a None k
    ∙ ap (λ (o : Option SessionState). record (facts v t) { had = had_by v.back t ++ a.reply ∷ []; state = o })
    (sym closed) in
    told_within v v' unopened ended h k.events k.sessions
    (change_at t v v' (taken_elsewhere v v' a None k) (subst AreFactsConsistent (sym here) now)
    (λ j ne. h.each j))

-- ---- the worker after an answer

-- but for the end and the book
pub record KeepsRest {P : Type 0} (old new : WorkerState P) : Type 0 where
  pub port : new.port ≡ old.port
  pub request : new.request ≡ old.request
  pub sessions : new.sessions ≡ old.sessions
  pub unopened : new.unopened ≡ old.unopened
  pub strangers : new.strangers ≡ old.strangers
  pub ended : new.ended ≡ old.ended

-- what taking back an answer makes of the worker's view, the held pieces left as they were
taken_in : {P : Type 0} (trace : PortTrace) (old new : WorkerState P) (a : Answered) (st : Option SessionState)
    → KeepsRest old new
    → TakesBack (end_of old) (end_of new) a
    → ((k : ℕ) → session_of new.book k ≡ cond (k == a.session) st (session_of old.book k))
    → TakesIn (run_view trace old) (record (run_view trace new) { piece = piece_of old.book }) a st
taken_in trace old new a st k b book = record {
  dialect = refl;
  events = refl;
  numbered = λ i. b.sent i ++ option_to_list (k.request i);
  back = b.back;
  sessions = λ i. (k.sessions i).items;
  book = book;
  piece = refl;
}

-- a worker that took back an answer goes on, where the book's oldest request is no longer
-- unsettled, the held pieces stay, and all is known still
answer_goes_on : {P : Type 0} (told : P → Option PortTrace) (old new : WorkerState P) (a : Answered) → KeepsRest old new
    → TakesBack (end_of old) (end_of new) a → IsWorkerServing told old → new.book.numbered ≡ old.book.numbered
    → new.book.unsettled ≡ drop 1 old.book.unsettled → new.book.dialect ≡ old.book.dialect
    → ((s : ℕ) → piece_of new.book s ≡ piece_of old.book s)
    → ((trace : PortTrace) → IsTraceKnown (run_view trace old) old.unopened old.ended
    → IsTraceKnown (record (run_view trace new) { piece = piece_of old.book }) old.unopened old.ended)
    → WorkerGoesOn told old new
answer_goes_on told old new a k b h p u d pieces is_told =
    steps_on told old new (λ trace. trace) (λ s q. q) (same_trace (told old.port) (told new.port) (ap told k.port)) (record {
      same_end = b.same;
      later = b.later;
      steady = subst (λ (r : Option Posted). IsSteady (end_of new) r new.book) (sym k.request)
          (steady_taken (end_of old) (end_of new) old.request old.book new.book a h.steady b p u);
      dialect = d;
      strangers = k.strangers ∙ h.strangers;
      unopened = k.unopened;
      ended = k.ended;
    }) h
    (λ trace e was_so. (
      subst (λ (x : ℕ → List ℕ). IsTraceKnown (record (run_view trace new) { piece = x }) old.unopened old.ended)
          (λ i s. sym (pieces s) i)
          (is_told trace was_so.0),
      paused_kept trace trace (piece_of old.book) (piece_of new.book) pieces (λ q. refl) was_so.1,
    ))

-- the end and the book agree still where the end looked for an answer and found none
steady_still : (end end' : WorkerView) (request : Option Posted) (book : BookState) → TakesNone end end'
    → IsSteady end request book
    → IsSteady end' request book
steady_still end end' request book k h =
    let numbered : numbered_by end' request ≡ numbered_by end request =
    ap (λ (l : List Posted). l ++ option_to_list request) k.sent in record {
      running = k.running ∙ h.running;
      numbered = h.numbered ∙ ap (length {A = Posted}) (sym numbered);
      held = numbered_as end end' request (ap (length {A = Posted}) k.sent) h.held;
      unsettled = h.unsettled ∙ (λ i. map unsettled_post (drop (length (sym k.back i)) (sym numbered i)));
      back = ap asked_posted k.back ∙ h.back ∙ (λ i. take (length (sym k.back i)) (sym k.sent i));
      told = k.told h.told;
    }

-- a worker whose end found no answer goes on
pub none_taken_goes_on : {P : Type 0} (told : P → Option PortTrace) (old : WorkerState P) (batch : WorkerLaneView)
    → TakesNone (end_of old) (once_flushed batch)
    → IsWorkerServing told old → WorkerGoesOn told old (record old { batch = batch })
none_taken_goes_on told old batch k h =
    let new = record old { batch = batch } in
    steps_on told old new (λ trace. trace) (λ s q. q) (same_trace (told old.port) (told old.port) refl) (record {
      same_end = k.same;
      later = k.later;
      steady = steady_still (end_of old) (once_flushed batch) old.request old.book k h.steady;
      dialect = refl;
      strangers = h.strangers;
      unopened = refl;
      ended = refl;
    }) h
    (λ trace e was_so. (
      subst (λ (v : RunView). IsTraceKnown v old.unopened old.ended)
          (λ i. record (run_view trace old) {
            numbered = sym k.sent i ++ option_to_list old.request;
            back = sym k.back i;
          }) was_so.0,
      was_so.1,
    ))

-- a worker whose end is the same once all that was put is flushed goes on
pub flushed_goes_on : {P : Type 0} (told : P → Option PortTrace) (old : WorkerState P) (batch : WorkerLaneView)
    → once_flushed batch ≡ end_of old
    → IsWorkerServing told old → WorkerGoesOn told old (record old { batch = batch })
flushed_goes_on told old batch same h = none_taken_goes_on told old batch (record {
  sent = ap (λ (w : WorkerView). w.sent) same;
  back = ap (λ (w : WorkerView). w.back) same;
  running = ap (λ (w : WorkerView). w.said_bye) same;
  same = record {
    exchange = ap (λ (w : WorkerView). w.exchange) same;
    worker = ap (λ (w : WorkerView). w.worker) same;
  };
  told = λ t. subst WasTold (sym same) t;
  later = later_is (end_of old) (once_flushed batch) same;
}) h

-- a worker goes on where the answer that came back went to its session
pub kept_goes_on : {P : Type 0} (told : P → Option PortTrace) (old new : WorkerState P) (a : Answered) → KeepsRest old new
    → TakesBack (end_of old) (end_of new) a → IsWorkerServing told old → SettlesReply old.book new.book a
    → WorkerGoesOn told old new
kept_goes_on told old new a k b h r =
    answer_goes_on told old new a k b h (ap (λ (x : BookState). x.numbered) r.settles.rest)
    (ap (λ (x : BookState). x.unsettled) r.settles.rest) (ap (λ (x : BookState). x.dialect) r.settles.rest)
    (pieces_kept old.book new.book a.session (Some (with_reply r.s a.reply)) r.settles.only_at
    (sym (ap held_of r.was_open)))
    (λ trace was_told. told_kept (run_view trace old) (record (run_view trace new) { piece = piece_of old.book })
    old.unopened old.ended a r.s was_told r.was_open r.unsettled
    (taken_in trace old new a (Some (with_reply r.s a.reply)) k b r.settles.only_at))

-- a worker goes on where the answer that came back was dropped, as its session was closed
pub dropped_goes_on : {P : Type 0} (told : P → Option PortTrace) (old new : WorkerState P) (a : Answered) → KeepsRest old new
    → TakesBack (end_of old) (end_of new) a → IsWorkerServing told old → session_of old.book a.session ≡ None
    → SettlesOldest old.book new.book a None
    → WorkerGoesOn told old new
dropped_goes_on told old new a k b h closed r =
    answer_goes_on told old new a k b h (ap (λ (x : BookState). x.numbered) r.rest)
    (ap (λ (x : BookState). x.unsettled) r.rest) (ap (λ (x : BookState). x.dialect) r.rest)
    (pieces_kept old.book new.book a.session None r.only_at (sym (ap held_of closed)))
    (λ trace was_told.
    told_dropped (run_view trace old) (record (run_view trace new) { piece = piece_of old.book }) old.unopened old.ended
    a was_told closed
    (some_asked (numbered_by (end_of old) old.request) (length (end_of old).back) a.session (posted_of a)
    (at_posted (end_of old) old.request a b.own) refl) (taken_in trace old new a None k b r.only_at))

-- all is known still once a reply came back that found no memory, and its session was shut
told_starved : (v u v' : RunView) (unopened : ℕ) (ended : Bool) (a : Answered) (s : SessionState)
    → IsTraceKnown v unopened ended
    → session_of v.book a.session ≡ Some s → TakesIn v u a None
    → ClosesIn u v' a.session causes.NoMemory (was.Shut a.session) → IsTraceKnown v' unopened ended
told_starved v u v' unopened ended a s h open_is k c =
    let t = a.session in
    let run = runs (facts v t) s (h.each t) open_is in
    let cause : cause_of u.sessions t ≡ Some causes.Drained = (λ i. cause_of (k.sessions i) t) ∙ run.cause in
    let here = shuts_here u v' t causes.NoMemory causes.Drained c cause in
    let port_same : port_facts u.events t ≡ port_facts v.events t = ap (λ l. port_facts l t) k.events in
    let f = record (facts v t) { had = had_by v.back t ++ a.reply ∷ [] } in
    let st : Stays f (facts v' t) = record {
      dialect = here.dialect ∙ k.dialect;
      fed = ap (λ (p : PortFacts). p.fed) here.port_is ∙ ap (λ (p : PortFacts). p.fed) port_same;
      given = ap (λ (p : PortFacts). p.given) here.port_is ∙ ap (λ (p : PortFacts). p.given) port_same;
      asked = here.asked ∙ (λ i. asked_by (k.numbered i) t);
      had = here.had ∙ ap (λ l. had_by l t) k.back ∙ had_here v.back a t refl;
      state = here.state;
    } in
    let closed = closed_starved (facts v t) (facts v' t) run.running.s (v.piece t) a.reply run.running.served st
    (ap (λ (p : PortFacts). p.shut) here.port_is) in
    let before : (j : ℕ) → t ≢ j → AreFactsConsistent (facts u j) =
    λ j ne. subst AreFactsConsistent (sym (taken_elsewhere v u a None k j ne)) (h.each j) in
    let l = u.events in let len = length-with u.sessions t causes.NoMemory in
    let one = count_same l (was.Shut t) refl in record {
      each = close_all u v' t causes.NoMemory (was.Shut t) (record (port_facts l t) { shut = true }) c
          (apart_shut t) here
          (ap (λ (p : PortFacts). p.opened) port_same ∙ run.opened) closed before;
      rising = subst (CausesRiseFrom 0) (sym c.sessions)
          (rises_with u.sessions t causes.NoMemory (subst (CausesRiseFrom 0) (sym k.sessions) h.rising));
      counted = subst (λ (y : List PortRecord × List (ℕ × EndCause)). AreSessionsCounted y.0 y.1 unopened)
          (λ i. (sym c.events i, sym c.sessions i))
          (subst (λ (y : ℕ × ℕ). (y.1 ≤ y.0) × (unopened ≡ min (y.0 - y.1) (2 ^ 64 - 1))) (λ i. (sym one i, sym len i))
          (subst (λ (y : List PortRecord × List (ℕ × EndCause)). AreSessionsCounted y.0 y.1 unopened)
          (λ i. (sym k.events i, sym k.sessions i)) h.counted));
      at_end = ap (is_in was.Ended) c.events ∙ ended_same l (was.Shut t) refl ∙ ap (is_in was.Ended) k.events ∙ h.at_end;
      accepts = subst AcceptsOnlyOpen (sym c.events)
          (accepts_more l (was.Shut t) (subst AcceptsOnlyOpen (sym k.events) h.accepts) tt);
    }

-- a worker goes on where the answer that came back found no memory, and its session was shut
pub starved_goes_on : {P : Type 0} (told : P → Option PortTrace) (old mid new : WorkerState P) (a : Answered)
    (s : SessionState) → KeepsRest old mid
    → TakesBack (end_of old) (end_of mid) a → IsWorkerServing told old → session_of old.book a.session ≡ Some s
    → SettlesOldest old.book mid.book a None → Shuts told mid new a.session causes.NoMemory → WorkerGoesOn told old new
starved_goes_on {P} told old mid new a s k b h open_is r c =
    let steady : IsSteady (end_of mid) mid.request mid.book =
    subst (λ (q : Option Posted). IsSteady (end_of mid) q mid.book) (sym k.request)
    (steady_taken (end_of old) (end_of mid) old.request old.book mid.book a h.steady b
    (ap (λ (x : BookState). x.numbered) r.rest)
    (ap (λ (x : BookState). x.unsettled) r.rest)) in
    let same = same_end mid new c.closes.end in let f = then_told (was.Shut a.session ∷ []) in
    steps_on told old new f (λ s q. q) (c.port ∙ ap (λ (p : P). option_map f (told p)) k.port) (record {
      same_end = record { exchange = same.exchange ∙ b.same.exchange; worker = same.worker ∙ b.same.worker };
      later = later_trans (end_of old) (end_of mid) (end_of new) b.later (later_is (end_of mid) (end_of new) c.closes.end);
      steady = steady_closed mid new a.session causes.NoMemory c.closes steady;
      dialect = ap (λ (x : BookState). x.dialect) c.closes.book.rest ∙ ap (λ (x : BookState). x.dialect) r.rest;
      strangers = c.closes.strangers ∙ k.strangers ∙ h.strangers;
      unopened = c.closes.unopened ∙ k.unopened;
      ended = c.closes.ended ∙ k.ended;
    }) h
    (λ trace e was_so.
    let rising : CausesRiseFrom 0 mid.sessions.items =
    subst (CausesRiseFrom 0) (λ i. (sym k.sessions i).items) was_so.0.rising in
    let closes = closes_in trace mid new a.session causes.NoMemory (was.Shut a.session) c.closes rising in
    let pieces = pieces_gone old.book mid.book new.book a.session r.only_at c.closes.book.only_at in (
      told_starved (run_view trace old)
          (record (run_view trace mid) { piece = piece_of old.book })
          (run_view (f trace) new) old.unopened old.ended a s was_so.0 open_is
          (taken_in trace old mid a None k b r.only_at) (record {
            dialect = closes.dialect;
            events = closes.events;
            numbered = closes.numbered;
            back = closes.back;
            sessions = closes.sessions;
            book = closes.book;
            piece = pieces;
          }),
      paused_but trace (f trace) a.session (piece_of old.book) (piece_of new.book) pieces
          (λ q ne. paused_elsewhere trace (was.Shut a.session) q (ne_eqb a.session q ne)) was_so.1,
    ))
