-- What reading a session up to its next request leaves true of a worker.
use Rattle.std.proofs.Common.{◌≡◌, ◌≢◌, ℕ, ◌+◌, ◌≤◌, ◌==◌, Bool, cond, List, [], ◌∷◌, ◌++◌, length, take}
use Rattle.std.proofs.Common.{drop, map, refl, sym, ap, subst, ◌∙◌, append-nil}
use Rattle.std.proofs.Common.{arith, Option, Some, None, option_to_list, Result, Ok, length-append, get_or}
use Rattle.std.proofs.lemmas.List.{map-append, length-take, drop-append-le, take-append-le}
use Rattle.proto.specs.declared.message.Request.{Request}
use Rattle.proto.specs.declared.message.Message.{Message}
use Rattle.proto.proofs.Options.{some_is}
use Rattle.proto.specs.declared.history.Posted.{Posted}
use Rattle.proto.specs.declared.history.Answered.{Answered}
use Rattle.proto.specs.History.{asked_posted}
use Rattle.proto.specs.Reading.{asks}
use Rattle.exchange.specs.Ends.{WorkerView, WorkerLaneView, WasTold}
use Rattle.session_book.specs.declared.causes.Unasked.{Unasked}
use Rattle.session_book.specs.declared.causes.Unsettled.{Unsettled}
use Rattle.session_book.specs.Session.{SessionState, ReadsMessages}
use Rattle.session_book.specs.Book.{BookState, session_of, NextAsk, held_of, given_in, unsettled_of as unsettled_at}
use Rattle.worker_port.specs.Ports.{PortTrace}
use Rattle.worker.specs.declared.worker.WorkerState.{WorkerState}
use Rattle.worker.specs.Sessions.{RunView, facts, asked_by, AreFactsConsistent}
use Rattle.worker_port.specs.PortFacts.{port_facts}
use Rattle.worker.specs.EndCauses.{piece_of}
use Rattle.worker.specs.Workers.{once_flushed, end_of, numbered_by, unsettled_post, IsNumbered, IsSteady, IsTraceKnown}
use Rattle.worker.specs.Workers.{run_view, IsWorkerServing}
use Rattle.exchange.proofs.Fields.{told_longer}
use Rattle.worker.proofs.Facts.{asked_here, asked_elsewhere}
use Rattle.worker.proofs.SessionSteps.{runs, runs_on, served_read}
use Rattle.worker.proofs.RunViews.{facts_equal, change_at, at_other, at_same}
use Rattle.worker.proofs.TraceLaws.{same_trace, paused_kept}
use Rattle.worker.proofs.PieceLaws.{pieces_kept}
use Rattle.worker.proofs.WorkerSteps.{WorkerGoesOn, steps_on, steady_same, same_end, later_view, later_is}
use Rattle.worker.proofs.OutputSteps.{told_within}

-- a worker that went on from a to b, and from b to c, went on from a to c
pub goes_on_trans : {P : Type 0} (told : P → Option PortTrace) (a b c : WorkerState P) → WorkerGoesOn told a b
    → WorkerGoesOn told b c → WorkerGoesOn told a c
goes_on_trans told a b c h k = record {
  tells = k.tells ∙ h.tells;
  same_end = record {
    exchange = k.same_end.exchange ∙ h.same_end.exchange;
    worker = k.same_end.worker ∙ h.same_end.worker;
  };
  dialect = k.dialect ∙ h.dialect;
  serving = k.serving;
}

-- ---- the session reads on

-- the requests of the messages read are those that got numbers
pub told_read : (v v' : RunView) (unopened : ℕ) (ended : Bool) (t : ℕ) (s read : SessionState) (ms : List Message)
    → IsTraceKnown v unopened ended
    → session_of v.book t ≡ Some s → ReadsMessages s ms read → asked_by v'.numbered t ≡ asked_by v.numbered t ++ asks ms
    → ((k : ℕ) → t ≢ k → asked_by v'.numbered k ≡ asked_by v.numbered k)
    → v'.dialect ≡ v.dialect → v'.events ≡ v.events → v'.back ≡ v.back → v'.sessions ≡ v.sessions
    → ((k : ℕ) → session_of v'.book k ≡ cond (k == t) (Some read) (session_of v.book k)) → v'.piece ≡ v.piece
    → IsTraceKnown v' unopened ended
told_read v v' unopened ended t s read ms h open_is reads here_asked other_asked d e b r book piece =
    let run = runs (facts v t) s (h.each t) open_is in
    let s_is : Some run.running.s ≡ Some s = sym run.running.state ∙ open_is in
    let reads' : ReadsMessages run.running.s ms read =
    subst (λ (x : SessionState). ReadsMessages x ms read) (some_is s run.running.s (sym s_is)) reads in
    let served = served_read (facts v t) run.running.s read (v.piece t) ms reads' run.running.served in
    let f' = record (facts v t) { asked = asked_by v.numbered t ++ asks ms; state = Some read } in
    let here : facts v' t ≡ f' = facts_equal (facts v' t) f' d (ap (λ l. port_facts l t) e) here_asked
    (λ i. (facts (record v { back = b i }) t).had)
    (λ i. (facts (record v { sessions = r i }) t).cause) (book t ∙ at_same t (Some read) (session_of v.book t))
    (λ i. piece i t) in
    let now : AreFactsConsistent f' =
    runs_on (facts v t) (record (facts v t) { asked = asked_by v.numbered t ++ asks ms }) read (v.piece t) run refl refl refl refl served in
    let others : (k : ℕ) → t ≢ k → facts v' k ≡ facts v k =
    λ k ne. facts_equal (facts v' k) (facts v k) d (ap (λ l. port_facts l k) e) (other_asked k ne)
    (λ i. (facts (record v { back = b i }) k).had)
    (λ i. (facts (record v { sessions = r i }) k).cause) (book k ∙ at_other t k (Some read) (session_of v.book k) ne)
    (λ i. piece i k) in
    told_within v v' unopened ended h e r
    (change_at t v v' others (subst AreFactsConsistent (sym here) now) (λ k ne. h.each k))

-- with no request
pub none_goes_on : {P : Type 0} (told : P → Option PortTrace) (old new : WorkerState P) (t : ℕ) (s : SessionState)
    (result : Result (Option (Request × ℕ)) Unasked) → new.port ≡ old.port → end_of new ≡ end_of old
    → new.request ≡ old.request
    → new.sessions ≡ old.sessions → new.unopened ≡ old.unopened → new.strangers ≡ old.strangers → new.ended ≡ old.ended
    → IsWorkerServing told old → session_of old.book t ≡ Some s → NextAsk old.book t s result new.book
    → given_in result ≡ [] → WorkerGoesOn told old new
none_goes_on told old new t s result port end request sessions unopened strangers ended h open_is a none =
    let pieces = pieces_kept old.book new.book t (Some a.read) a.only_at
    (a.reading.reads.held ∙ sym (ap held_of open_is)) in
    let no_asks : asks a.messages ≡ [] =
    a.reading.requests_are ∙ ap (λ (x : List (Request × ℕ)). map (λ (y : Request × ℕ). y.0) x) none in
    let no_more : (k : ℕ) → asked_by (numbered_by (end_of new) new.request) k
    ≡ asked_by (numbered_by (end_of old) old.request) k = λ k i. asked_by
    (numbered_by (end i) (request i)) k in
    steps_on told old new (λ trace. trace) (λ s q. q) (same_trace (told old.port) (told new.port) (ap told port)) (record {
      same_end = same_end old new end;
      later = later_is (end_of old) (end_of new) end;
      steady = subst (λ (y : WorkerView × Option Posted). IsSteady y.0 y.1 new.book) (λ i. (sym end i, sym request i))
          (steady_same (end_of old) old.request old.book new.book
          (ap (λ (x : BookState). x.numbered) a.rest ∙ ap (λ (x : List (Request × ℕ)). old.book.numbered + length x) none
          ∙ omega arith)
          (ap (λ (x : BookState). x.unsettled) a.rest
          ∙ ap (λ (x : List (Request × ℕ)). old.book.unsettled ++ map (unsettled_at t) x) none
          ∙ append-nil old.book.unsettled) h.steady);
      dialect = ap (λ (x : BookState). x.dialect) a.rest;
      strangers = strangers ∙ h.strangers;
      unopened = unopened;
      ended = ended;
    }) h
    (λ trace e was_so. (
      told_read (run_view trace old) (run_view trace new) old.unopened old.ended t s a.read a.messages was_so.0 open_is
          a.reading.reads
          (no_more t ∙ sym (append-nil (asked_by (numbered_by (end_of old) old.request) t))
          ∙ ap (λ (x : List Request). asked_by (numbered_by (end_of old) old.request) t ++ x) (sym no_asks))
          (λ k ne. no_more k) refl refl
          (ap (λ (w : WorkerView). w.back) end) (λ i. (sessions i).items) a.only_at (λ i q. pieces q i),
      paused_kept trace trace (piece_of old.book) (piece_of new.book) pieces (λ q. refl) was_so.1,
    ))

-- ---- a request is read

-- as many requests were answered as there are answers
asked_length : (l : List Answered) → length (asked_posted l) ≡ length l
asked_length [] = refl
asked_length (a ∷ l) = let h = asked_length l in omega arith

-- no more answers came back than requests were sent, as they answer the first of these
pub back_le : (end : WorkerView) → asked_posted end.back ≡ take (length end.back) end.sent
    → length end.back ≤ length end.sent
back_le end e =
    let same : length (asked_posted end.back) ≡ length end.back = asked_length end.back in
    let h : length (asked_posted end.back) ≡ length (take (length end.back) end.sent) = ap (length {A = Posted}) e in
    omega (arith, length-take (length end.back) end.sent)

-- the worker goes on where a session gives a request, which is held from then on
pub one_goes_on : {P : Type 0} (told : P → Option PortTrace) (old new : WorkerState P) (t : ℕ) (s : SessionState)
    (q : Request) (n : ℕ)
    → new.port ≡ old.port → end_of new ≡ end_of old → old.request ≡ None
    → new.request ≡ Some (record { session = t; number = n; request = q }) → new.sessions ≡ old.sessions
    → new.unopened ≡ old.unopened → new.strangers ≡ old.strangers → new.ended ≡ old.ended → IsWorkerServing told old
    → session_of old.book t ≡ Some s
    → NextAsk old.book t s (Ok (Some (q, n))) new.book → WorkerGoesOn told old new
one_goes_on told old new t s q n port end was_none request sessions unopened strangers ended h open_is a =
    let p : Posted = record { session = t; number = n; request = q } in
    let pieces = pieces_kept old.book new.book t (Some a.read) a.only_at
    (a.reading.reads.held ∙ sym (ap held_of open_is)) in
    let sent = (end_of old).sent in
    let before : numbered_by (end_of old) old.request ≡ sent =
    (λ i. numbered_by (end_of old) (was_none i)) ∙ append-nil sent in
    let after : numbered_by (end_of new) new.request ≡ sent ++ p ∷ [] = λ i. numbered_by (end i) (request i) in
    let more : asked_by (numbered_by (end_of new) new.request) t
    ≡ asked_by (numbered_by (end_of old) old.request) t ++ asks a.messages =
    ap (λ l. asked_by l t) after ∙ asked_here sent p t refl ∙ ap (λ l. asked_by l t ++ q ∷ []) (sym before)
    ∙ ap (λ (x : List Request). asked_by (numbered_by (end_of old) old.request) t ++ x) (sym a.reading.requests_are) in
    let others : (k : ℕ) → t ≢ k → asked_by (numbered_by (end_of new) new.request) k
    ≡ asked_by (numbered_by (end_of old) old.request) k =
    λ k ne. ap (λ l. asked_by l k) after ∙ asked_elsewhere sent p k ne ∙ ap (λ l. asked_by l k) (sym before) in
    let le = back_le (end_of old) h.steady.back in
    let numbered : old.book.numbered ≡ length sent = h.steady.numbered ∙ ap (length {A = Posted}) before in
    let number : n ≡ old.book.numbered + 1 = ap (λ (l : List ℕ). get_or l 0 0) a.numbers in
    steps_on told old new (λ trace. trace) (λ s q. q) (same_trace (told old.port) (told new.port) (ap told port)) (record {
      same_end = same_end old new end;
      later = later_is (end_of old) (end_of new) end;
      steady = subst (λ (y : WorkerView × Option Posted). IsSteady y.0 y.1 new.book) (λ i. (sym end i, sym request i))
          (record {
            running = h.steady.running;
            numbered = ap (λ (x : BookState). x.numbered) a.rest
                ∙ (let len = length-append sent (p ∷ []) in omega (arith, numbered));
            held = omega (arith, number, numbered);
            unsettled = ap (λ (x : BookState). x.unsettled) a.rest
                ∙ ap (λ (x : List Unsettled). x ++ unsettled_post p ∷ []) (h.steady.unsettled
                ∙ ap (λ (l : List Posted). map unsettled_post (drop (length (end_of old).back) l)) before)
                ∙ sym (map-append unsettled_post (drop (length (end_of old).back) sent) (p ∷ []))
                ∙ ap (map unsettled_post) (sym (drop-append-le (length (end_of old).back) sent (p ∷ []) le));
            back = h.steady.back;
            told = h.steady.told;
          });
      dialect = ap (λ (x : BookState). x.dialect) a.rest;
      strangers = strangers ∙ h.strangers;
      unopened = unopened;
      ended = ended;
    }) h
    (λ trace e was_so. (
      told_read (run_view trace old)
          (run_view trace new) old.unopened old.ended t s a.read a.messages was_so.0 open_is a.reading.reads more
          others refl refl
          (ap (λ (w : WorkerView). w.back) end) (λ i. (sessions i).items) a.only_at (λ i q. pieces q i),
      paused_kept trace trace (piece_of old.book) (piece_of new.book) pieces (λ q. refl) was_so.1,
    ))

-- no request is left, or the session isn't open
pub quiet_goes_on : {P : Type 0} (told : P → Option PortTrace) (old new : WorkerState P) (t : ℕ) (o : Option SessionState)
    → o ≡ session_of old.book t
    → new.port ≡ old.port → end_of new ≡ end_of old → new.request ≡ old.request → new.sessions ≡ old.sessions
    → new.unopened ≡ old.unopened → new.strangers ≡ old.strangers → new.ended ≡ old.ended → IsWorkerServing told old
    → (session_of old.book t ≡ None → new.book ≡ old.book) → ((s : SessionState) → session_of old.book t ≡ Some s
    → NextAsk old.book t s (Ok None) new.book) → WorkerGoesOn told old new
quiet_goes_on told old new t (Some s) o port end request sessions unopened strangers ended h closed open_is =
    none_goes_on told old new t s
    (Ok None) port end request sessions unopened strangers ended h (sym o) (open_is s (sym o)) refl
quiet_goes_on told old new t None o port end request sessions unopened strangers ended h closed open_is =
    let book = closed (sym o) in let pieces : (q : ℕ) → piece_of new.book q ≡ piece_of old.book q =
    λ q i. piece_of (book i) q in
    steps_on told old new (λ trace. trace) (λ s q. q) (same_trace (told old.port) (told new.port) (ap told port)) (record {
      same_end = same_end old new end;
      later = later_is (end_of old) (end_of new) end;
      steady = subst (λ (y : WorkerView × Option Posted × BookState). IsSteady y.0 y.1 y.2)
          (λ i. (sym end i, sym request i, sym book i)) h.steady;
      dialect = ap (λ (x : BookState). x.dialect) book;
      strangers = strangers ∙ h.strangers;
      unopened = unopened;
      ended = ended;
    }) h
    (λ trace e was_so. (
      subst (λ (v : RunView). IsTraceKnown v old.unopened old.ended) (λ i. record {
        dialect = trace.dialect;
        events = trace.events;
        numbered = numbered_by (sym end i)
            (sym request i);
        back = (sym end i).back;
        sessions = (sym sessions i).items;
        book = sym book i;
        piece = piece_of (sym book i);
      }) was_so.0,
      paused_kept trace trace (piece_of old.book) (piece_of new.book) pieces (λ q. refl) was_so.1,
    ))

-- the request that is held is sent, if there is one
pub sent_goes_on : {P : Type 0} (told : P → Option PortTrace) (old : WorkerState P) (batch : WorkerLaneView)
    (request : Option Posted)
    → request ≡ None → once_flushed batch ≡ record (end_of old) { sent = numbered_by (end_of old) old.request }
    → IsWorkerServing told old
    → WorkerGoesOn told old (record old { batch = batch; request = request })
sent_goes_on told old batch request taken sent h =
    let w = end_of old in let end = once_flushed batch in let new = record old { batch = batch; request = request } in
    let all : numbered_by end request ≡ numbered_by w old.request =
    (λ i. numbered_by (sent i) (taken i)) ∙ append-nil (numbered_by w old.request) in
    let back : end.back ≡ w.back = ap (λ (x : WorkerView). x.back) sent in
    let le = back_le w h.steady.back in
    steps_on told old new (λ trace. trace) (λ s q. q) (same_trace (told old.port) (told old.port) refl) (record {
      same_end = record {
        exchange = ap (λ (x : WorkerView). x.exchange) sent;
        worker = ap (λ (x : WorkerView). x.worker) sent;
      };
      later = later_view w end (ap (λ (x : WorkerView). x.exchange) sent) (ap (λ (x : WorkerView). x.worker) sent)
          (ap (λ (x : WorkerView). x.terms) sent) (ap (λ (x : WorkerView). x.seen) sent);
      steady = record {
        running = ap (λ (x : WorkerView). x.said_bye) sent ∙ h.steady.running;
        numbered = h.steady.numbered ∙ ap (length {A = Posted}) (sym all);
        held = subst (λ (r : Option Posted). IsNumbered end r) (sym taken) tt;
        unsettled = h.steady.unsettled ∙ (λ i. map unsettled_post (drop (length (sym back i)) (sym all i)));
        back = ap asked_posted back ∙ h.steady.back ∙ sym (take-append-le (length w.back) w.sent (option_to_list old.request) le)
            ∙ (λ i. take (length (sym back i)) ((sym sent i).sent));
        told = subst WasTold (sym sent) (told_longer (option_to_list old.request) h.steady.told);
      };
      dialect = refl;
      strangers = h.strangers;
      unopened = refl;
      ended = refl;
    }) h
    (λ trace e was_so. (
      subst (λ (v : RunView). IsTraceKnown v old.unopened old.ended)
          (λ i. record (run_view trace old) { numbered = sym all i; back = sym back i }) was_so.0,
      was_so.1,
    ))

-- a worker that doesn't change goes on
pub goes_on_same : {P : Type 0} (told : P → Option PortTrace) (a : WorkerState P) → IsWorkerServing told a
    → WorkerGoesOn told a a
goes_on_same told a h = record {
  tells = refl;
  same_end = record { exchange = refl; worker = refl };
  dialect = refl;
  serving = h;
}
