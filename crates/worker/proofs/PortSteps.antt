-- What an event of the port leaves true of a worker.
use Rattle.std.proofs.Common.{◌≡◌, ◌≢◌, ℕ, ◌+◌, ◌-◌, ◌^◌, ◌<◌, ◌≤◌, ◌==◌, Bool, true}
use Rattle.std.proofs.Common.{false, true≢false, ◌||◌, ◌&&◌, not, cond, eq-eqb, ne_eqb, List, [], ◌∷◌}
use Rattle.std.proofs.Common.{◌++◌, length, min, refl, sym, ap, subst, ◌∙◌, append-nil, arith, Option, Some, None}
use Rattle.std.proofs.Common.{is_some, ◌⊎◌, ⊎_elim, inl, inr, nat_lt}
use Rattle.std.proofs.lemmas.List.{length-append}
use Rattle.std.specs.Option.{option_map, option_and_then}
use Rattle.proto.specs.declared.dialect.Dialect.{Dialect}
use Rattle.proto.specs.declared.history.Posted.{Posted}
use Rattle.proto.proofs.Options.{some_is}
use Rattle.exchange.specs.Ends.{WorkerView}
use Rattle.session_book.specs.declared.causes.EndCause.{EndCause}
use Rattle.session_book.specs.declared.causes.EndCause.TheVariants as causes
use Rattle.session_book.specs.Session.{SessionState, new_session, once_fed, once_input_ended, holding, ending_of, finished_by, HasReadAll}
use Rattle.session_book.specs.Book.{BookState, session_of, held_of, ChangesSession}
use Rattle.worker_port.specs.declared.events.PortRecord.{PortRecord}
use Rattle.worker_port.specs.declared.events.PortRecord.TheVariants as was
use Rattle.worker.specs.declared.worker.WorkerState.{WorkerState}
use Rattle.worker_port.specs.Ports.{PortTrace, then_told, with_pause, is_open, is_in}
use Rattle.worker.specs.Sessions.{RunView, facts, cause_of, AreFactsConsistent}
use Rattle.worker_port.specs.PortFacts.{PortFacts, port_facts}
use Rattle.worker.specs.EndCauses.{CausesRiseFrom, piece_of}
use Rattle.worker.specs.Workers.{end_of, numbered_by, IsSteady, IsTraceKnown, run_view, IsWorkerServing, Closes, Shuts}
use Rattle.worker.specs.Workers.{HandlesData, feeds, holds, shuts, drops, Admits, Refuses, SameRest}
use Rattle.worker.proofs.EndCauseLemmas.{rises_more, rises_with, length-with, cause_more, cause_new}
use Rattle.worker_port.proofs.Facts.{elsewhere, opened_here, fed_here, shut_here}
use Rattle.worker.proofs.SessionSteps.{Stays, served_came, closed_no_memory, runs, runs_at_port, untouched, is_running, is_unopened, served_new}
use Rattle.worker.proofs.SessionSteps.{opened_if_placed, Ends}
use Rattle.worker.proofs.RunViews.{AreSessionsCounted, facts_equal, change_at, at_other, at_same, ClosesIn}
use Rattle.worker_port.proofs.Lists.{AcceptsOnlyOpen, ended_same, ended_now, count_same, count_more, accepts_more}
use Rattle.worker.proofs.RunViews.{shuts_here, close_all, apart_shut}
use Rattle.worker.proofs.TraceLaws.{told_before, two_calls, paused_elsewhere, paused_kept, paused_but, paused_more, resumed_holds_none}
use Rattle.worker.proofs.PieceLaws.{pieces_at, pieces_kept, fed_piece, input_ended_piece}
use Rattle.worker.proofs.WorkerSteps.{WorkerGoesOn, OwnFacts, TraceFacts, steps, steps_on, steady_same, same_end, later_is}
use Rattle.worker.proofs.WorkerSteps.{told_finished, told_gone, closes_in, own_closed, own_within, shut_goes_on}
use Rattle.worker.proofs.WorkerSteps.{told_fed, told_input_ended, told_held, open_here, open_at}
use Rattle.proto.proofs.CountLemmas.{either_way}

-- a truth value that can't be true is false
bool_false : (b : Bool) → (b ≡ true → ⊥) → b ≡ false
bool_false true h = absurd (h refl)
bool_false false h = refl

-- ---- a session that has finished

-- where a cause is taken under a test, and this one is what was taken, the test holds and the cause
-- is this one
finished_if : (b : Bool) (o : Option EndCause) (c : EndCause) → cond b o None ≡ Some c → (b ≡ true) × (o ≡ Some c)
finished_if true o c e = (refl, e)
finished_if false o c e = absurd (cc)

-- where two truth values are true together, each is
and_parts : (a b : Bool) → (a && b) ≡ true → (a ≡ true) × (b ≡ true)
and_parts true true e = (refl, refl)
and_parts true false e = absurd (true≢false (sym e))
and_parts false b e = absurd (true≢false (sym e))

-- a list of length 0 is empty
pub no_length : {A : Type 0} (xs : List A) → (length xs == 0) ≡ true → xs ≡ []
no_length [] e = refl
no_length (x ∷ xs) e = absurd (true≢false (sym e ∙ ne_eqb (length (x ∷ xs)) 0 (λ q. omega arith)))

-- where a session has finished with a cause, it is open, has no queue and no output, and this is
-- what ends it
finished_is : (o : Option SessionState) (c : EndCause) → option_and_then finished_by o ≡ Some c
    → (s : SessionState) × (o ≡ Some s) × (s.queue ≡ []) × (s.out ≡ []) × (ending_of s ≡ Some c)
finished_is None c e = absurd (cc)
finished_is (Some s) c e =
    let p = finished_if (length s.queue == 0 && length s.out == 0) (ending_of s) c e in
    let q = and_parts (length s.queue == 0) (length s.out == 0) p.0 in
    (s, refl, no_length s.queue q.0, no_length s.out q.1, p.1)

-- what ends it is a message, or its input under a test
ending_by : (o : Option EndCause) (b : Bool) (c : EndCause)
    → cond (is_some o) o (cond b (Some causes.EndOfInput) None) ≡ Some c
    → (o ≡ Some c) ⊎ ((o ≡ None) × (b ≡ true) × (c ≡ causes.EndOfInput))
ending_by (Some d) b c e = inl e
ending_by None true c e = let is : causes.EndOfInput ≡ c = cc in inr (refl, refl, sym is)
ending_by None false c e = absurd (cc)

-- a session ends so
ends_by : (s : SessionState) (c : EndCause) → ending_of s ≡ Some c → HasReadAll (Some s) (Some c) → Ends s c
ends_by s c e read =
    let input_ended : Bool = s.input_ended in let unheld : Bool = length s.held == 0 in
    let short : Bool = nat_lt (length s.unread) s.need in
    elim (ending_by s.ended (input_ended && unheld && short) c e) [
      | inl ended ↦ inl ended
      | inr out ↦
          let p = and_parts (input_ended && unheld) short out.1 in let q = and_parts input_ended unheld p.0 in
          inr (record {
            is = out.2;
            open_yet = out.0;
            input_ended = q.0;
            held = no_length s.held q.1;
            none = read (ap Some out.2) s refl out.0;
          })
    ]

-- a session that has finished is still open at a port that tells its list
pub finished_open : {P : Type 0} (told : P → Option PortTrace) (w : WorkerState P) (t : ℕ) (c : EndCause)
    → IsWorkerServing told w
    → option_and_then finished_by (session_of w.book t) ≡ Some c
    → (trace : PortTrace) → told w.port ≡ Some trace → is_open t trace.events ≡ true
finished_open told w t c h e = let f = finished_is (session_of w.book t) c e in open_at told w t f.0 h f.1

-- the worker goes on where it shuts a session that has finished, with the cause by which that ended
pub finish_goes_on : {P : Type 0} (told : P → Option PortTrace) (old new : WorkerState P) (t : ℕ) (c : EndCause)
    → Shuts told old new t c
    → IsWorkerServing told old → option_and_then finished_by (session_of old.book t) ≡ Some c
    → HasReadAll (session_of old.book t) (Some c) → WorkerGoesOn told old new
finish_goes_on told old new t c k h e read =
    let f = finished_is (session_of old.book t) c e in
    let ends : Ends f.0 c = ends_by f.0 c f.4 (subst (λ (o : Option SessionState). HasReadAll o (Some c)) f.1 read) in
    shut_goes_on told old new t c k h
    (λ trace is was_told closes.
    let v = run_view trace old in
    let r = runs (facts v t) f.0 (was_told.each t) f.1 in
    let same : f.0 ≡ r.running.s = some_is f.0 r.running.s (sym f.1 ∙ r.running.state) in
    told_finished v (run_view (then_told (was.Shut t ∷ []) trace) new) old.unopened old.ended t c was_told closes r
    (ap (λ (s : SessionState). s.queue) (sym same) ∙ f.2) (ap (λ (s : SessionState). s.out) (sym same) ∙ f.3)
    (ap held_of r.running.state) (subst (λ (s : SessionState). Ends s c) same ends))

-- ---- a session is opened

-- what may be opened next
abbrev pub MayOpen : List PortRecord → ℕ → Type 0
MayOpen l t = (0 < t) × ((u : ℕ) → is_in (was.Opened u) l ≡ true → u < t) × (is_in was.Ended l ≡ false)

-- such a session wasn't opened before
pub fresh : (l : List PortRecord) (t : ℕ) → MayOpen l t → is_in (was.Opened t) l ≡ false
fresh l t may = bool_false (is_in (was.Opened t) l) (λ e. let lt = may.1 t e in omega (arith, lt))

-- all that is known stays true where a session is opened and gets an entry in the report and in the
-- book
pub told_admitted : (v v' : RunView) (unopened : ℕ) (ended : Bool) (t : ℕ) → IsTraceKnown v unopened ended
    → MayOpen v.events t
    → v'.dialect ≡ v.dialect → v'.events ≡ v.events ++ was.Opened t ∷ [] → v'.numbered ≡ v.numbered → v'.back ≡ v.back
    → v'.sessions ≡ v.sessions ++ (t, causes.Drained) ∷ []
    → ((s : ℕ) → session_of v'.book s ≡ cond (s == t) (Some (new_session v.dialect)) (session_of v.book s)) → v'.piece ≡ v.piece
    → IsTraceKnown v' unopened ended
told_admitted v v' unopened ended t h may d e p k r book piece =
    let l = v.events in let x = was.Opened t in
    let u = untouched (facts v t) (h.each t) (fresh l t may) in
    let port = record (port_facts l t) { opened = true } in
    let f' = record (facts v t) { port = port; cause = Some causes.Drained; state = Some (new_session v.dialect) } in
    let here : facts v' t ≡ f' =
    facts_equal (facts v' t) f' d (ap (λ y. port_facts y t) e ∙ opened_here l t)
    (λ i. (facts (record v { numbered = p i }) t).asked)
    (λ i. (facts (record v { back = k i }) t).had)
    (ap (λ y. cause_of y t) r ∙ cause_new v.sessions t causes.Drained u.1)
    (book t ∙ at_same t (Some (new_session v.dialect)) (session_of v.book t)) (λ i. piece i t) in
    let served = served_new f' u.0.fed u.0.given u.0.had u.0.asked u.0.piece u.0.input_ended in
    let now = is_running f' refl refl (record {
      gone = u.0.gone;
      shut = u.0.shut;
      s = new_session v.dialect;
      state = refl;
      served = served;
    }) in
    let others : (s : ℕ) → t ≢ s → facts v' s ≡ facts v s =
    λ s ne.
    facts_equal (facts v' s) (facts v s) d (ap (λ y. port_facts y s) e ∙ elsewhere l x s (ne_eqb t s ne))
    (λ i. (facts (record v { numbered = p i }) s).asked) (λ i. (facts (record v { back = k i }) s).had)
    (ap (λ y. cause_of y s) r ∙ cause_more v.sessions s t causes.Drained ne)
    (book s ∙ at_other t s (Some (new_session v.dialect)) (session_of v.book s) ne)
    (λ i. piece i s) in
    let below : (s : ℕ) (d : EndCause) → cause_of v.sessions s ≡ Some d → s < t =
    λ s d q. may.1 s (opened_if_placed (facts v s) d (h.each s) q) in
    let len = length-append v.sessions ((t, causes.Drained) ∷ []) in let more = count_more l t in record {
      each = change_at t v v' others (subst AreFactsConsistent (sym here) now) (λ s ne. h.each s);
      rising = subst (CausesRiseFrom 0) (sym r) (rises_more v.sessions t causes.Drained h.rising may.0 below);
      counted = subst (λ (y : List PortRecord × List (ℕ × EndCause)). AreSessionsCounted y.0 y.1 unopened)
          (λ i. (sym e i, sym r i))
          (omega (arith, len, more, h.counted.0), omega (arith, len, more, h.counted.0, h.counted.1));
      at_end = ap (is_in was.Ended) e ∙ ended_same l x refl ∙ h.at_end;
      accepts = subst AcceptsOnlyOpen (sym e) (accepts_more l x h.accepts tt);
    }

-- all that is known stays true where a session is opened, shut at once, and counted as unopened
pub told_refused : (v v' : RunView) (unopened : ℕ) (ended : Bool) (t : ℕ) → IsTraceKnown v unopened ended
    → MayOpen v.events t
    → v'.dialect ≡ v.dialect → v'.events ≡ (v.events ++ was.Opened t ∷ []) ++ was.Shut t ∷ [] → v'.numbered ≡ v.numbered → v'.back ≡ v.back
    → v'.sessions ≡ v.sessions
    → v'.book ≡ v.book → v'.piece ≡ v.piece → IsTraceKnown v' (min (unopened + 1) (2 ^ 64 - 1)) ended
told_refused v v' unopened ended t h may d e p k r book piece =
    let l = v.events in let x = was.Opened t in let y = was.Shut t in let m = l ++ x ∷ [] in
    let u = untouched (facts v t) (h.each t) (fresh l t may) in
    let port = record (port_facts l t) { opened = true; shut = true } in
    let f' = record (facts v t) { port = port } in
    let here : facts v' t ≡ f' =
    facts_equal (facts v' t) f' d (ap (λ z. port_facts z t) e ∙ shut_here m t
    ∙ ap (λ (q : PortFacts). record q { shut = true }) (opened_here l t))
    (λ i. (facts (record v { numbered = p i }) t).asked) (λ i. (facts (record v { back = k i }) t).had)
    (ap (λ z. cause_of z t) r)
    (ap (λ z. session_of z t) book) (λ i. piece i t) in
    let now = is_unopened f' refl u.1 (record {
      given = u.0.given;
      shut = refl;
      asked = u.0.asked;
      state = u.0.state;
    }) in
    let others : (s : ℕ) → t ≢ s → facts v' s ≡ facts v s =
    λ s ne.
    facts_equal (facts v' s) (facts v s) d
    (ap (λ z. port_facts z s) e ∙ elsewhere m y s (ne_eqb t s ne) ∙ elsewhere l x s (ne_eqb t s ne))
    (λ i. (facts (record v { numbered = p i }) s).asked) (λ i. (facts (record v { back = k i }) s).had)
    (ap (λ z. cause_of z s) r)
    (ap (λ z. session_of z s) book) (λ i. piece i s) in
    let more = count_more l t in let same = count_same m y refl in record {
      each = change_at t v v' others (subst AreFactsConsistent (sym here) now) (λ s ne. h.each s);
      rising = subst (CausesRiseFrom 0) (sym r) h.rising;
      counted = subst (λ (z : List PortRecord × List (ℕ × EndCause)). AreSessionsCounted z.0 z.1
          (min (unopened + 1) (2 ^ 64 - 1))) (λ i. (sym e i, sym r i))
          (omega (arith, same, more, h.counted.0), omega (arith, same, more, h.counted.0, h.counted.1));
      at_end = ap (is_in was.Ended) e ∙ ended_same m y refl ∙ ended_same l x refl ∙ h.at_end;
      accepts = subst AcceptsOnlyOpen (sym e) (accepts_more m y (accepts_more l x h.accepts tt) tt);
    }

-- ---- the worker after an event

-- the port opened a session, and may have
pub record OpensAt {P : Type 0} (told : P → Option PortTrace) (old port : P) (t : ℕ) : Type 0 where
  pub told_is : told port ≡ option_map (then_told (was.Opened t ∷ [])) (told old)
  pub may : (trace : PortTrace) → told old ≡ Some trace → MayOpen trace.events t

-- the worker goes on where it admits the session that the port opened
admit_goes_on : {P : Type 0} (told : P → Option PortTrace) (old new : WorkerState P) (port : P) (t : ℕ)
    → OpensAt told old.port port t
    → SameRest (record old { port = port }) new → IsWorkerServing told old
    → Admits told (record old { port = port }) new t → WorkerGoesOn told old new
admit_goes_on told old new port t opens rest h k =
    let f = then_told (was.Opened t ∷ []) in
    steps_on told old new f (λ s q. q) (ap told k.port ∙ opens.told_is) (record {
      same_end = same_end old new rest.end;
      later = later_is (end_of old) (end_of new) rest.end;
      steady = subst (λ (y : WorkerView × Option Posted). IsSteady y.0 y.1 new.book)
          (λ i. (sym rest.end i, sym rest.request i))
          (steady_same (end_of old) old.request old.book new.book k.counts.0 k.counts.1 h.steady);
      dialect = k.dialect;
      strangers = rest.strangers ∙ h.strangers;
      unopened = k.unopened;
      ended = rest.ended;
    }) h
    (λ trace e was_so.
    let none : piece_of old.book t ≡ [] =
    (untouched (facts (run_view trace old) t) (was_so.0.each t)
    (fresh trace.events t (opens.may trace e))).0.piece in
    let pieces = pieces_kept old.book new.book t (Some (new_session old.book.dialect)) k.book (sym none) in
    let book : (s : ℕ) → session_of new.book s ≡ cond (s == t) (Some (new_session trace.dialect)) (session_of old.book s) =
    subst (λ (d : Dialect). (s : ℕ) → session_of new.book s ≡ cond (s == t) (Some (new_session d)) (session_of old.book s))
    (sym (h.whose trace e).1) k.book in (
      told_admitted (run_view trace old) (run_view (f trace) new) old.unopened old.ended t was_so.0
          (opens.may trace e) refl refl
          (λ i. numbered_by (rest.end i) (rest.request i)) (ap (λ (w : WorkerView). w.back) rest.end) k.sessions book
          (λ i s. pieces s i),
      paused_kept trace (f trace) (piece_of old.book) (piece_of new.book) pieces (λ s. refl) was_so.1,
    ))

-- the worker goes on where it refuses the session that the port opened
refuse_goes_on : {P : Type 0} (told : P → Option PortTrace) (old new : WorkerState P) (port : P) (t : ℕ)
    → OpensAt told old.port port t
    → SameRest (record old { port = port }) new → IsWorkerServing told old
    → Refuses told (record old { port = port }) new t → WorkerGoesOn told old new
refuse_goes_on told old new port t opens rest h k =
    let f = then_told (was.Opened t ∷ []) in let g = then_told (was.Shut t ∷ []) in
    steps told old new (λ trace. g (f trace)) (λ s q. q)
    (two_calls f g (told old.port) (told port) (told new.port) opens.told_is k.port) (same_end old new rest.end)
    (later_is (end_of old) (end_of new) rest.end) (ap (λ (x : BookState). x.dialect) k.book)
    (subst (λ (y : WorkerView × Option Posted × BookState). IsSteady y.0 y.1 y.2)
    (λ i. (sym rest.end i, sym rest.request i, sym k.book i)) h.steady)
    (rest.strangers ∙ h.strangers) h
    (λ trace e was_so.
    let none : piece_of old.book t ≡ [] =
    (untouched (facts (run_view trace old) t) (was_so.0.each t)
    (fresh trace.events t (opens.may trace e))).0.piece in (
      subst (λ (y : ℕ × Bool). IsTraceKnown (run_view (g (f trace)) new) y.0 y.1)
          (λ i. (sym k.unopened i, sym rest.ended i))
          (told_refused (run_view trace old) (run_view (g (f trace)) new) old.unopened old.ended t was_so.0
          (opens.may trace e) refl refl
          (λ i. numbered_by (rest.end i) (rest.request i)) (ap (λ (w : WorkerView). w.back) rest.end) k.sessions k.book
          (ap piece_of k.book)),
      paused_but trace (g (f trace)) t (piece_of old.book) (piece_of new.book)
          (λ s. ap (λ p. piece_of p s) k.book ∙ still_none t s (piece_of old.book) none)
          (λ s ne. paused_elsewhere (f trace) (was.Shut t) s (ne_eqb t s ne)) was_so.1,
    ))
  where
    still_none : (t s : ℕ) (piece : ℕ → List ℕ) → piece t ≡ [] → piece s ≡ cond (s == t) [] (piece s)
    still_none t s piece none = either_way t s
        (λ (e : t ≡ s). ap piece (sym e) ∙ none ∙ sym (ap (λ b. cond b [] (piece s)) (eq-eqb s t (sym e))))
        (λ (ne : t ≢ s). sym (at_other t s [] (piece s) ne))

-- the worker goes on where the port opened a session, whether it admits or refuses it
pub opened_goes_on : {P : Type 0} (told : P → Option PortTrace) (old new : WorkerState P) (port : P) (t : ℕ)
    → OpensAt told old.port port t
    → SameRest (record old { port = port }) new → IsWorkerServing told old
    → Admits told (record old { port = port }) new t ⊎ Refuses told (record old { port = port }) new t
    → WorkerGoesOn told old new
opened_goes_on told old new port t opens rest h k =
    ⊎_elim (admit_goes_on told old new port t opens rest h) (refuse_goes_on told old new port t opens rest h) k

-- a session that has just been opened is open
pub opened_is_open : {P : Type 0} (told : P → Option PortTrace) (w : WorkerState P) (port : P) (t : ℕ)
    → IsWorkerServing told w → OpensAt told w.port port t
    → (trace : PortTrace) → told port ≡ Some trace → is_open t trace.events ≡ true
opened_is_open told w port t h opens =
    λ after e.
    let b = told_before (then_told (was.Opened t ∷ [])) (told w.port) (told port) opens.told_is after e in
    let trace = b.0 in
    let u = untouched (facts (run_view trace w) t) ((h.known trace b.1).each t)
    (fresh trace.events t (opens.may trace b.1)) in
    let o = opened_here trace.events t in
    ap (λ (y : PortTrace). is_open t y.events) (sym b.2) ∙ ap (λ (p : PortFacts). p.opened && not (p.gone || p.shut)) o
    ∙ ap (λ (b : Bool × Bool). true && not (b.0 || b.1)) (λ i. (u.0.gone i, u.0.shut i))

-- an entry that leaves a session open
pub still_open : {P : Type 0} (told : P → Option PortTrace) (old port : P) (t : ℕ) (b : List ℕ)
    → told port ≡ option_map (then_told (was.Data t b ∷ [])) (told old)
    → ((trace : PortTrace) → told old ≡ Some trace → is_open t trace.events ≡ true)
    → (trace : PortTrace) → told port ≡ Some trace → is_open t trace.events ≡ true
still_open told old port t b told_is opened =
    λ after e.
    let q = told_before (then_told (was.Data t b ∷ [])) (told old) (told port) told_is after e in
    ap (λ (y : PortTrace). is_open t y.events) (sym q.2)
    ∙ ap (λ (p : PortFacts). p.opened && not (p.gone || p.shut)) (fed_here q.0.events t b) ∙ opened q.0 q.1

-- of a session whose data came no bytes are held
pub came_unheld : {P : Type 0} (told : P → Option PortTrace) (w : WorkerState P) (port : P) (t : ℕ) (b : List ℕ)
    → IsWorkerServing told w
    → told port ≡ option_map (then_told (was.Data t b ∷ [])) (told w.port)
    → ((trace : PortTrace) → told w.port ≡ Some trace → trace.paused t ≡ false)
    → (after : PortTrace) → told port ≡ Some after → piece_of w.book t ≡ []
came_unheld told w port t b h told_is resumed =
    λ after e.
    let q = told_before (then_told (was.Data t b ∷ [])) (told w.port) (told port) told_is after e in
    resumed_holds_none (piece_of w.book t) (q.0.paused t) (h.paused q.0 q.1 t) (resumed q.0 q.1)

-- a session of which bytes just came, and which is shut
told_data_shut : (v v' : RunView) (unopened : ℕ) (ended : Bool) (t : ℕ) (b : List ℕ) → IsTraceKnown v unopened ended
    → is_open t v.events ≡ true
    → ClosesIn (record v { events = v.events ++ was.Data t b ∷ [] }) v' t causes.NoMemory (was.Shut t)
    → IsTraceKnown v' unopened ended
told_data_shut v v' unopened ended t b h opened k =
    let l = v.events in let m = l ++ was.Data t b ∷ [] in let u = record v { events = m } in
    let o = open_here l t opened in
    let run = runs_at_port (facts v t) (h.each t) o.0 o.1 o.2 in
    let came = fed_here l t b in
    let here = shuts_here u v' t causes.NoMemory causes.Drained k run.cause in
    let f = record (facts v t) { port = record (port_facts l t) { fed = (port_facts l t).fed ++ b } } in
    let served = served_came (facts v t) run.running.s (facts v t).piece b run.running.served in
    let st : Stays f (facts v' t) = record {
      dialect = here.dialect;
      fed = ap (λ (p : PortFacts). p.fed) here.port_is ∙ ap (λ (p : PortFacts). p.fed) came;
      given = ap (λ (p : PortFacts). p.given) here.port_is ∙ ap (λ (p : PortFacts). p.given) came;
      asked = here.asked;
      had = here.had;
      state = here.state;
    } in
    let closed = closed_no_memory f (facts v' t) run.running.s ((facts v t).piece ++ b) served st
    (ap (λ (p : PortFacts). p.shut) here.port_is) in
    let before : (s : ℕ) → t ≢ s → AreFactsConsistent (facts u s) = λ s ne. subst AreFactsConsistent
    (ap (λ (p : PortFacts). record (facts v s) { port = p }) (sym (elsewhere l (was.Data t b) s (ne_eqb t s ne))))
    (h.each s) in
    let len = length-with v.sessions t causes.NoMemory in let one = count_same l (was.Data t b) refl in
    let two = count_same m (was.Shut t) refl in record {
      each = close_all u v' t causes.NoMemory (was.Shut t) (record (port_facts m t) { shut = true }) k
          (apart_shut t) here
          (ap (λ (p : PortFacts). p.opened) came ∙ run.opened) closed before;
      rising = subst (CausesRiseFrom 0) (sym k.sessions) (rises_with v.sessions t causes.NoMemory h.rising);
      counted = subst (λ (y : List PortRecord × List (ℕ × EndCause)). AreSessionsCounted y.0 y.1 unopened)
          (λ i. (sym k.events i, sym k.sessions i))
          (subst (λ (y : ℕ × ℕ). (y.1 ≤ y.0) × (unopened ≡ min (y.0 - y.1) (2 ^ 64 - 1)))
          (λ i. (sym (two ∙ one) i, sym len i)) h.counted);
      at_end = ap (is_in was.Ended) k.events ∙ ended_same m (was.Shut t) refl ∙ ended_same l (was.Data t b) refl ∙ h.at_end;
      accepts = subst AcceptsOnlyOpen (sym k.events)
          (accepts_more m (was.Shut t) (accepts_more l (was.Data t b) h.accepts tt) tt);
    }

-- a session that is open at a port that tells is open in the book
pub open_in_book : {P : Type 0} (trace : PortTrace) (w : WorkerState P) (t : ℕ)
    → IsTraceKnown (run_view trace w) w.unopened w.ended
    → is_open t trace.events ≡ true → session_of w.book t ≡ None → ⊥
open_in_book trace w t h opened none =
    let o = open_here trace.events t opened in
    let run = runs_at_port (facts (run_view trace w) t) (h.each t) o.0 o.1 o.2 in
    true≢false (sym (ap is_some run.running.state) ∙ ap is_some none)

-- the port told data of a session, and may have
pub record FeedsAt {P : Type 0} (told : P → Option PortTrace) (old port : P) (t : ℕ) (b : List ℕ) : Type 0 where
  pub told_is : told port ≡ option_map (then_told (was.Data t b ∷ [])) (told old)
  pub opened : (trace : PortTrace) → told old ≡ Some trace → is_open t trace.events ≡ true

-- the worker goes on where data of a session came, whether they are fed, held or dropped, or the
-- session is shut for out of memory
pub received_goes_on : {P : Type 0} (told : P → Option PortTrace) (old new : WorkerState P) (port : P) (t : ℕ) (b : List ℕ)
    → FeedsAt told old.port port t b → IsWorkerServing told old → HandlesData told (record old { port = port }) t b new
    → WorkerGoesOn told old new
received_goes_on told old new port t b came h (feeds none book port_is rest) =
    let f = then_told (was.Data t b ∷ []) in
    let pieces = pieces_kept old.book new.book t
    (option_map (λ (s : SessionState). once_fed s b) (session_of old.book t)) book.only_at
    (fed_piece (session_of old.book t) b) in
    steps_on told old new f (λ s q. q) (ap told port_is ∙ came.told_is) (own_within told old new port rest (
      ap (λ (x : BookState). x.numbered) book.rest,
      ap (λ (x : BookState). x.unsettled) book.rest,
      ap (λ (x : BookState). x.dialect) book.rest,
    ) h) h
    (λ trace e was_so. (
      told_fed (run_view trace old) (run_view (f trace) new) old.unopened old.ended t b was_so.0
          (came.opened trace e) none refl refl
          (λ i. numbered_by (rest.end i) (rest.request i))
          (ap (λ (w : WorkerView). w.back) rest.end) rest.sessions book.only_at pieces,
      paused_kept trace (f trace) (piece_of old.book) (piece_of new.book) pieces (λ s. refl) was_so.1,
    ))
received_goes_on told old new port t b came h (holds none k) =
    let f = then_told (was.Data t b ∷ []) in let g = with_pause t true in
    steps_on told old new (λ trace. g (f trace)) (λ s q. q)
    (two_calls f g (told old.port) (told port) (told new.port) came.told_is k.port)
    (own_within told old new port k.leaves (
      ap (λ (x : BookState). x.numbered) k.book.rest,
      ap (λ (x : BookState). x.unsettled) k.book.rest,
      ap (λ (x : BookState). x.dialect) k.book.rest,
    ) h) h
    (λ trace e was_so.
    let o = open_here trace.events t (came.opened trace e) in
    let run = runs_at_port (facts (run_view trace old) t) (was_so.0.each t) o.0 o.1 o.2 in
    let held : Option SessionState → Option SessionState = option_map (λ (s : SessionState). holding s b) in
    let pieces : (s : ℕ) → piece_of new.book s ≡ cond (s == t) b (piece_of old.book s) = λ s.
    pieces_at old.book new.book t (held (session_of old.book t)) k.book.only_at s
    ∙ ap (λ (x : Option SessionState). cond (s == t) (held_of (held x)) (piece_of old.book s)) run.running.state in (
      told_held (run_view trace old) (run_view (g (f trace)) new) old.unopened old.ended t b was_so.0
          (came.opened trace e) none refl refl
          (λ i. numbered_by (k.leaves.end i) (k.leaves.request i))
          (ap (λ (w : WorkerView). w.back) k.leaves.end) k.leaves.sessions k.book.only_at pieces,
      paused_more trace (g (f trace)) t b (piece_of old.book) (piece_of new.book) pieces
          (at_same t true (trace.paused t))
          (λ s ne. at_other t s true (trace.paused s) ne) was_so.1,
    ))
received_goes_on told old new port t b came h (shuts why k) =
    let f = then_told (was.Data t b ∷ []) in let g = then_told (was.Shut t ∷ []) in
    steps_on told old new (λ trace. g (f trace)) (λ s q. q)
    (two_calls f g (told old.port) (told port) (told new.port) came.told_is k.port)
    (own_closed told old new port t causes.NoMemory k.closes h) h
    (λ trace e was_so. (
      told_data_shut (run_view trace old) (run_view (g (f trace)) new) old.unopened old.ended t b was_so.0
          (came.opened trace e)
          (closes_in (f trace) (record old { port = port }) new t causes.NoMemory
          (was.Shut t) k.closes was_so.0.rising),
      paused_but trace (g (f trace)) t (piece_of old.book) (piece_of new.book)
          (pieces_at old.book new.book t None k.closes.book.only_at)
          (λ s ne. paused_elsewhere (f trace) (was.Shut t) s (ne_eqb t s ne)) was_so.1,
    ))
received_goes_on told old new port t b came h (drops none book port_is rest) =
    let f = then_told (was.Data t b ∷ []) in
    steps_on told old new f (λ s q. q) (ap told port_is ∙ came.told_is) (own_within told old new port rest (
      ap (λ (x : BookState). x.numbered) book,
      ap (λ (x : BookState). x.unsettled) book,
      ap (λ (x : BookState). x.dialect) book,
    ) h) h
    (λ trace e was_so. absurd (open_in_book trace old t was_so.0 (came.opened trace e) none))

-- the port told that the input of a session has ended, and may have
pub record EndsAt {P : Type 0} (told : P → Option PortTrace) (old port : P) (t : ℕ) : Type 0 where
  pub told_is : told port ≡ option_map (then_told (was.EndOfInput t ∷ [])) (told old)
  pub opened : (trace : PortTrace) → told old ≡ Some trace → is_open t trace.events ≡ true

-- the book notes it
pub input_ended_goes_on : {P : Type 0} (told : P → Option PortTrace) (old : WorkerState P) (port : P) (book : BookState) (t : ℕ)
    → EndsAt told old.port port t → IsWorkerServing told old
    → ChangesSession old.book book t (option_map once_input_ended (session_of old.book t))
    → WorkerGoesOn told old (record old { port = port; book = book })
input_ended_goes_on told old port book t came h k =
    let f = then_told (was.EndOfInput t ∷ []) in let new = record old { port = port; book = book } in
    let pieces = pieces_kept old.book book t (option_map once_input_ended (session_of old.book t)) k.only_at
    (input_ended_piece (session_of old.book t)) in
    steps_on told old new f (λ s q. q) came.told_is (own_within told old new port
    (record { end = refl; request = refl; sessions = refl; unopened = refl; strangers = refl; ended = refl }) (
      ap (λ (x : BookState). x.numbered) k.rest,
      ap (λ (x : BookState). x.unsettled) k.rest,
      ap (λ (x : BookState). x.dialect) k.rest,
    ) h) h
    (λ trace e was_so. (
      told_input_ended (run_view trace old) (run_view (f trace) new) old.unopened old.ended t was_so.0 (came.opened trace e)
          refl refl refl refl refl k.only_at pieces,
      paused_kept trace (f trace) (piece_of old.book) (piece_of book) pieces (λ s. refl) was_so.1,
    ))

-- the port told that a session has gone, and may have
pub record LosesAt {P : Type 0} (told : P → Option PortTrace) (old port : P) (t : ℕ) : Type 0 where
  pub told_is : told port ≡ option_map (then_told (was.Gone t ∷ [])) (told old)
  pub opened : (trace : PortTrace) → told old ≡ Some trace → is_open t trace.events ≡ true

-- a session goes
pub gone_goes_on : {P : Type 0} (told : P → Option PortTrace) (old new : WorkerState P) (port : P) (t : ℕ)
    → LosesAt told old.port port t
    → IsWorkerServing told old → new.port ≡ port → Closes (record old { port = port }) new t causes.Gone
    → WorkerGoesOn told old new
gone_goes_on told old new port t loses h port_is k =
    let f = then_told (was.Gone t ∷ []) in
    steps_on told old new f (λ s q. q) (ap told port_is ∙ loses.told_is) (own_closed told old new port t causes.Gone k h) h
    (λ trace e was_so.
    let o = open_here trace.events t (loses.opened trace e) in
    let run = runs_at_port (facts (run_view trace old) t) (was_so.0.each t) o.0 o.1 o.2 in (
      told_gone (run_view trace old) (run_view (f trace) new) old.unopened old.ended t was_so.0
          (closes_in trace (record old { port = port }) new t causes.Gone (was.Gone t) k was_so.0.rising) run,
      paused_but trace (f trace) t (piece_of old.book) (piece_of new.book)
          (pieces_at old.book new.book t None k.book.only_at)
          (λ s ne. paused_elsewhere trace (was.Gone t) s (ne_eqb t s ne)) was_so.1,
    ))

-- where only the port changed
own_moved : {P : Type 0} (told : P → Option PortTrace) (old : WorkerState P) (port : P) → IsWorkerServing told old
    → OwnFacts old (record old { port = port })
own_moved told old port h = record {
  same_end = record { exchange = refl; worker = refl };
  later = later_is (end_of old) (end_of old) refl;
  steady = h.steady;
  dialect = refl;
  strangers = h.strangers;
  unopened = refl;
  ended = refl;
}

-- what a port that tells nothing has gone of
pub stranger_goes_on : {P : Type 0} (told : P → Option PortTrace) (old : WorkerState P) (port : P) (t : ℕ)
    → LosesAt told old.port port t
    → IsWorkerServing told old → session_of old.book t ≡ None → WorkerGoesOn told old (record old { port = port })
stranger_goes_on told old port t loses h none =
    let f = then_told (was.Gone t ∷ []) in
    steps_on told old (record old { port = port }) f (λ s q. q) loses.told_is (own_moved told old port h) h
    (λ trace e was_so. absurd (open_in_book trace old t was_so.0 (loses.opened trace e) none))

-- what the worker does where a session has gone
pub lose_goes_on : {P : Type 0} (told : P → Option PortTrace) (old new : WorkerState P) (port : P) (t : ℕ)
    (o : Option SessionState)
    → o ≡ session_of old.book t → LosesAt told old.port port t → IsWorkerServing told old → new.port ≡ port
    → (is_some (session_of old.book t) ≡ true → Closes (record old { port = port }) new t causes.Gone)
    → (session_of old.book t ≡ None → new ≡ record old { port = port }) → WorkerGoesOn told old new
lose_goes_on told old new port t None o loses h port_is closes keeps =
    subst (λ w. WorkerGoesOn told old w) (sym (keeps (sym o)))
    (stranger_goes_on told old port t loses h (sym o))
lose_goes_on told old new port t (Some s) o loses h port_is closes keeps =
    gone_goes_on told old new port t loses h port_is (closes (ap is_some (sym o)))

-- nothing came
pub idle_goes_on : {P : Type 0} (told : P → Option PortTrace) (old : WorkerState P) (port : P)
    → told port ≡ option_map (then_told []) (told old.port)
    → IsWorkerServing told old → WorkerGoesOn told old (record old { port = port })
idle_goes_on told old port told_is h =
    steps_on told old (record old { port = port }) (then_told []) (λ s q. q) told_is (own_moved told old port h) h
    (λ trace e was_so. subst (λ (l : List PortRecord). TraceFacts (record trace { events = l })
    (record old { port = port }) old.unopened old.ended) (sym (append-nil trace.events)) was_so)

-- the port has ended
pub ended_goes_on : {P : Type 0} (told : P → Option PortTrace) (old : WorkerState P) (port : P)
    → told port ≡ option_map (then_told (was.Ended ∷ [])) (told old.port) → IsWorkerServing told old
    → WorkerGoesOn told old (record old { port = port; ended = true })
ended_goes_on told old port told_is h =
    let f = then_told (was.Ended ∷ []) in let new = record old { port = port; ended = true } in
    steps told old new f (λ s q. q) told_is (record { exchange = refl; worker = refl })
    (later_is (end_of old) (end_of old) refl) refl h.steady h.strangers h
    (λ trace e was_so.
    let k = was_so.0 in let l = trace.events in
    let same = count_same l was.Ended refl in (
      record {
        each = λ s. subst AreFactsConsistent (ap (λ (p : PortFacts). record (facts (run_view trace old) s) { port = p })
            (sym (elsewhere l was.Ended s refl))) (k.each s);
        rising = k.rising;
        counted = subst (λ (y : ℕ). (length old.sessions.items ≤ y)
            × (old.unopened ≡ min (y - length old.sessions.items) (2 ^ 64 - 1))) (sym same) k.counted;
        at_end = ended_now l;
        accepts = accepts_more l was.Ended k.accepts tt;
      },
      paused_kept trace (f trace) (piece_of old.book) (piece_of old.book) (λ s. refl) (λ s. refl) was_so.1,
    ))
