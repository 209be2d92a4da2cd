-- What giving output, feeding a held piece and closing leave true of a worker.
use Rattle.std.proofs.Common.{◌≡◌, ◌≢◌, ℕ, ◌-◌, ◌^◌, ◌≤◌, ◌==◌, Bool, true, false, true≢false, cond, eq-eqb, ne_eqb}
use Rattle.std.proofs.Common.{List, [], ◌∷◌, ◌++◌, length, take, min}
use Rattle.std.proofs.Common.{refl, sym, ap, subst, ◌∙◌, append-nil, Option, Some, None, Result, Ok, Err, is_some, ◌⊎◌, inl, inr}
use Rattle.std.specs.Option.{option_map}
use Rattle.proto.specs.declared.history.Answered.{Answered}
use Rattle.exchange.specs.Ends.{WorkerView}
use Rattle.exchange.specs.Beginnings.{StartsWith}
use Rattle.exchange.proofs.Lists.{starts_self}
use Rattle.worker_port.specs.declared.events.Gone.{Gone}
use Rattle.session_book.specs.declared.causes.EndCause.{EndCause}
use Rattle.session_book.specs.declared.causes.EndCause.TheVariants as causes
use Rattle.session_book.specs.Session.{SessionState, IsInputFull, once_fed, held_fed, gave}
use Rattle.proto.proofs.Options.{some_is}
use Rattle.session_book.specs.Book.{BookState, session_of, out_of, held_of, OnlyAt, ChangesOpen}
use Rattle.worker_port.specs.declared.events.PortRecord.{PortRecord}
use Rattle.worker_port.specs.declared.events.PortRecord.TheVariants as was
use Rattle.worker.specs.declared.worker.WorkerState.{WorkerState}
use Rattle.worker_port.specs.Ports.{PortTrace, then_gave, with_pause, is_open, is_in, opened_count}
use Rattle.worker.specs.Sessions.{RunView, facts, AreFactsConsistent, IsSessionServed}
use Rattle.worker_port.specs.PortFacts.{port_facts}
use Rattle.worker.specs.EndCauses.{CausesRiseFrom, piece_of}
use Rattle.worker.specs.Workers.{end_of, numbered_by, IsTraceKnown, run_view, IsWorkerServing, IsTraceBy, Closes, LeavesWorker}
use Rattle.worker_port.proofs.Facts.{elsewhere, accepted_here}
use Rattle.worker.proofs.SessionSteps.{runs, served_fed, served_holding, served_gave}
use Rattle.worker.proofs.RunViews.{AreSessionsCounted, facts_equal, change_at, at_other, at_same}
use Rattle.worker_port.proofs.Lists.{AcceptsOnlyOpen, ended_same, count_same, accepts_more}
use Rattle.worker.proofs.TraceLaws.{paused_but, paused_too, none_at}
use Rattle.worker.proofs.PieceLaws.{pieces_at}
use Rattle.worker.proofs.WorkerSteps.{WorkerGoesOn, TraceFacts, steps_on, closes_in, own_closed, own_within}
use Rattle.worker.proofs.WorkerSteps.{told_gone, told_open, fact_at, running_on}
use Rattle.proto.proofs.CountLemmas.{either_way}

-- ---- a held piece is fed

-- the view changes at one session, and the list not at all
pub told_within : (v v' : RunView) (unopened : ℕ) (ended : Bool) → IsTraceKnown v unopened ended → v'.events ≡ v.events
    → v'.sessions ≡ v.sessions
    → ((s : ℕ) → AreFactsConsistent (facts v' s)) → IsTraceKnown v' unopened ended
told_within v v' unopened ended h e r each = record {
  each = each;
  rising = subst (CausesRiseFrom 0) (sym r) h.rising;
  counted = subst (λ (y : List PortRecord × List (ℕ × EndCause)). AreSessionsCounted y.0 y.1 unopened)
      (λ i. (sym e i, sym r i)) h.counted;
  at_end = ap (is_in was.Ended) e ∙ h.at_end;
  accepts = subst AcceptsOnlyOpen (sym e) h.accepts;
}

-- where nothing changes but the book and the held piece of one session, what is known of the others
-- stays
pub others_within : (v v' : RunView) (t : ℕ) → v'.dialect ≡ v.dialect → v'.events ≡ v.events → v'.numbered ≡ v.numbered → v'.back ≡ v.back
    → v'.sessions ≡ v.sessions
    → ((s : ℕ) → t ≢ s → session_of v'.book s ≡ session_of v.book s) → ((s : ℕ) → t ≢ s → v'.piece s ≡ v.piece s)
    → (s : ℕ) → t ≢ s → facts v' s ≡ facts v s
others_within v v' t d e p b r book piece s ne =
    facts_equal (facts v' s) (facts v s) d (ap (λ l. port_facts l s) e) (λ i. (facts (record v { numbered = p i }) s).asked)
    (λ i. (facts (record v { back = b i }) s).had) (λ i. (facts (record v { sessions = r i }) s).cause) (book s ne)
    (piece s ne)

-- all that is known stays true where an open session is fed its held piece
pub told_refed : (v v' : RunView) (unopened : ℕ) (ended : Bool) (t : ℕ) (s : SessionState)
    → IsTraceKnown v unopened ended → session_of v.book t ≡ Some s
    → v.piece t ≡ s.held → v'.dialect ≡ v.dialect → v'.events ≡ v.events → v'.numbered ≡ v.numbered
    → v'.back ≡ v.back → v'.sessions ≡ v.sessions
    → ((k : ℕ) → session_of v'.book k ≡ cond (k == t) (Some (held_fed s)) (session_of v.book k))
    → ((k : ℕ) → v'.piece k ≡ cond (k == t) [] (v.piece k)) → IsTraceKnown v' unopened ended
told_refed v v' unopened ended t s h open_is held d e p b r book piece =
    let run = runs (facts v t) s (h.each t) open_is in
    let same : run.running.s ≡ s = some_is run.running.s s (sym run.running.state ∙ open_is) in
    let was_served : IsSessionServed s.held (facts v t) s =
    subst (λ (y : List ℕ × SessionState). IsSessionServed y.0 (facts v t) y.1)
    (λ i. (held i, same i)) run.running.served in
    let served = served_holding (facts v t) (once_fed s s.held) [] [] (served_fed (facts v t) s s.held was_served) in
    let state : session_of v'.book t ≡ Some (held_fed s) =
    book t ∙ at_same t (Some (held_fed s)) (session_of v.book t) in
    let here = fact_at v v' t (port_facts v.events t) (Some (held_fed s)) [] d (ap (λ l. port_facts l t) e) p b r state
    (piece t ∙ at_same t [] (v.piece t)) in
    let now = running_on (facts v t) (port_facts v.events t) (held_fed s) [] run refl refl refl served in
    told_within v v' unopened ended h e r
    (change_at t v v' (others_within v v' t d e p b r
    (λ k ne. book k ∙ at_other t k (Some (held_fed s)) (session_of v.book k) ne)
    (λ k ne. piece k ∙ at_other t k [] (v.piece k) ne)) (subst AreFactsConsistent (sym here) now) (λ k ne. h.each k))

-- what goes on where only the port and the book change
pub within_goes_on : {P : Type 0} (told : P → Option PortTrace) (old new : WorkerState P) (f : PortTrace → PortTrace)
    → LeavesWorker old new
    → ((trace : PortTrace) → IsTraceBy trace (end_of old) old.book → IsTraceBy (f trace) (end_of old) old.book)
    → told new.port ≡ option_map f (told old.port) → new.book.numbered ≡ old.book.numbered
    → new.book.unsettled ≡ old.book.unsettled → new.book.dialect ≡ old.book.dialect → IsWorkerServing told old
    → ((trace : PortTrace) → TraceFacts trace old old.unopened old.ended
    → TraceFacts (f trace) new old.unopened old.ended) → WorkerGoesOn told old new
within_goes_on told old new f rest stays port p u d h each =
    steps_on told old new f stays port (own_within told old new old.port rest (p, u, d) h) h (λ trace e was_so. each trace was_so)

-- ---- output is given

-- the entry of accepted bytes, if there are any
abbrev pub accepted : ℕ → ℕ → List ℕ → List PortRecord
accepted t n out = cond (n == 0) [] (was.Accepted t (take n out) ∷ [])

-- a `give` that accepted n bytes adds the first n of the output to what the session was given
gave_facts : (l : List PortRecord) (t n : ℕ) (out : List ℕ) → port_facts (l ++ accepted t n out) t ≡ record
    (port_facts l t) { given = (port_facts l t).given ++ take n out }
gave_facts l t n out =
    either_way n 0
    (λ (e : n ≡ 0).
    ap (λ b. port_facts (l ++ cond b [] (was.Accepted t (take n out) ∷ [])) t) (eq-eqb n 0 e)
    ∙ ap (λ m. port_facts m t) (append-nil l)
    ∙ (λ i. record (port_facts l t) { given = sym (append-nil (port_facts l t).given) i })
    ∙ (λ i. record (port_facts l t) { given = (port_facts l t).given ++ take (sym e i) out }))
    (λ (ne : n ≢ 0). ap (λ b. port_facts (l ++ cond b [] (was.Accepted t (take n out) ∷ [])) t) (ne_eqb n 0 ne)
    ∙ accepted_here l t (take n out))

-- a `give` to one session leaves what the list says of another
gave_elsewhere : (l : List PortRecord) (t n : ℕ) (out : List ℕ) (s : ℕ) → t ≢ s
    → port_facts (l ++ accepted t n out) s ≡ port_facts l s
gave_elsewhere l t n out s ne =
    either_way n 0
    (λ (e : n ≡ 0). ap (λ b. port_facts (l ++ cond b [] (was.Accepted t (take n out) ∷ [])) s) (eq-eqb n 0 e)
    ∙ ap (λ m. port_facts m s) (append-nil l))
    (λ (some : n ≢ 0). ap (λ b. port_facts (l ++ cond b [] (was.Accepted t (take n out) ∷ [])) s) (ne_eqb n 0 some)
    ∙ elsewhere l (was.Accepted t (take n out)) s (ne_eqb t s ne))

-- the list as a whole
record ListSame (l m : List PortRecord) : Type 0 where
  ended : is_in was.Ended m ≡ is_in was.Ended l
  count : opened_count m ≡ opened_count l
  accepts : AcceptsOnlyOpen l → AcceptsOnlyOpen m

-- a `give` to an open session neither ends the list nor opens a session, and bytes are still
-- accepted for open sessions only
gave_list : (l : List PortRecord) (t n : ℕ) (out : List ℕ) → is_open t l ≡ true
    → ListSame l (l ++ accepted t n out)
gave_list l t n out opened =
    either_way n 0
    (λ (e : n ≡ 0). subst (λ m. ListSame l m)
    (sym (ap (λ b. l ++ cond b [] (was.Accepted t (take n out) ∷ [])) (eq-eqb n 0 e) ∙ append-nil l))
    (record { ended = refl; count = refl; accepts = λ h. h }))
    (λ (ne : n ≢ 0).
    let x = was.Accepted t (take n out) in
    subst (λ m. ListSame l m) (sym (ap (λ b. l ++ cond b [] (x ∷ [])) (ne_eqb n 0 ne)))
    (record { ended = ended_same l x refl; count = count_same l x refl; accepts = λ h. accepts_more l x h opened }))

-- all that is known stays true where n bytes of an open session's output are given
pub told_gave : (v v' : RunView) (unopened : ℕ) (ended : Bool) (t n : ℕ) (s : SessionState)
    → IsTraceKnown v unopened ended → session_of v.book t ≡ Some s
    → v'.dialect ≡ v.dialect → v'.events ≡ v.events ++ accepted t n s.out → v'.numbered ≡ v.numbered → v'.back ≡ v.back
    → v'.sessions ≡ v.sessions
    → ((k : ℕ) → session_of v'.book k ≡ cond (k == t)
    (option_map (λ (x : SessionState). gave x n) (session_of v.book t)) (session_of v.book k))
    → v'.piece ≡ v.piece → IsTraceKnown v' unopened ended
told_gave v v' unopened ended t n s h open_is d e p b r book piece =
    let l = v.events in
    let run = runs (facts v t) s (h.each t) open_is in let st = run.running.s in
    let s_is : Some s ≡ Some st = sym open_is ∙ run.running.state in
    let opened = told_open v unopened ended t s h open_is in
    let same = gave_list l t n s.out opened in
    let served : IsSessionServed (v.piece t)
    (record (facts v t) { port = record (port_facts l t) { given = (port_facts l t).given ++ take n st.out } })
    (gave st n) = served_gave (facts v t) st (v.piece t) n run.running.served in
    let outs : s.out ≡ st.out = ap out_of s_is in
    let port = record (port_facts l t) { given = (port_facts l t).given ++ take n st.out } in
    let state : session_of v'.book t ≡ Some (gave st n) =
    book t ∙ at_same t (option_map (λ (x : SessionState). gave x n) (session_of v.book t))
    (session_of v.book t) ∙ ap (option_map (λ (x : SessionState). gave x n)) run.running.state in
    let here = fact_at v v' t port (Some (gave st n)) (v.piece t) d
    (ap (λ m. port_facts m t) e ∙ gave_facts l t n s.out ∙ ap (λ (o : List ℕ). record
    (port_facts l t) { given = (port_facts l t).given ++ take n o }) outs) p b r state (λ i. piece i t) in
    let now = running_on (facts v t) port (gave st n) (v.piece t) run refl refl refl served in
    let others : (k : ℕ) → t ≢ k → facts v' k ≡ facts v k =
    λ k ne. facts_equal (facts v' k) (facts v k) d (ap (λ m. port_facts m k) e ∙ gave_elsewhere l t n s.out k ne)
    (λ i. (facts (record v { numbered = p i }) k).asked) (λ i. (facts (record v { back = b i }) k).had)
    (λ i. (facts (record v { sessions = r i }) k).cause) (book k ∙ at_other t k
    (option_map (λ (x : SessionState). gave x n) (session_of v.book t)) (session_of v.book k) ne) (λ i. piece i k) in
    record {
      each = change_at t v v' others (subst AreFactsConsistent (sym here) now) (λ k ne. h.each k);
      rising = subst (CausesRiseFrom 0) (sym r) h.rising;
      counted = subst (λ (y : List PortRecord × List (ℕ × EndCause)). AreSessionsCounted y.0 y.1 unopened)
          (λ i. (sym e i, sym r i))
          (subst (λ (y : ℕ). (length v.sessions ≤ y) × (unopened ≡ min (y - length v.sessions) (2 ^ 64 - 1)))
          (sym same.count) h.counted);
      at_end = ap (is_in was.Ended) e ∙ same.ended ∙ h.at_end;
      accepts = subst AcceptsOnlyOpen (sym e) (same.accepts h.accepts);
    }

-- by the history that the end was told of last the trace is still its worker's
still_by : (end : WorkerView) (book : BookState) (history : List Answered) → history ≡ end.seen
    → (trace : PortTrace) → IsTraceBy trace end book → IsTraceBy (record trace { history = history }) end book
still_by end book history is trace (h, d) = (
  record {
    exchange_is = h.exchange_is;
    worker_is = h.worker_is;
    terms_are = h.terms_are;
    later = subst (λ l. StartsWith end.seen l) (sym is) (starts_self end.seen);
  },
  d,
)

-- so it is where bytes are given by it
pub gives_by : {P : Type 0} (old : WorkerState P) (t : ℕ) (b : List ℕ) (result : Result ℕ Gone) (history : List Answered)
    → history ≡ (end_of old).seen
    → (trace : PortTrace) → IsTraceBy trace (end_of old) old.book
    → IsTraceBy (then_gave t b result history trace) (end_of old) old.book
gives_by old t b (Ok n) history is trace h = still_by (end_of old) old.book history is trace h
gives_by old t b (Err e) history is trace h = still_by (end_of old) old.book history is trace h

-- a session whose peer has gone at a `give`
pub lost_goes_on : {P : Type 0} (told : P → Option PortTrace) (old new : WorkerState P) (port : P) (t : ℕ) (s : SessionState)
    (b : List ℕ) (e : Gone) (history : List Answered) → history ≡ (end_of old).seen
    → session_of old.book t ≡ Some s → told port ≡ option_map (then_gave t b (Err e) history) (told old.port)
    → IsWorkerServing told old → new.port ≡ port
    → Closes (record old { port = port }) new t causes.Gone → WorkerGoesOn told old new
lost_goes_on told old new port t s b gone history history_is open_is told_is h port_is k =
    let f = then_gave t b (Err gone) history in
    steps_on told old new f (gives_by old t b (Err gone) history history_is) (ap told port_is ∙ told_is)
    (own_closed told old new port t causes.Gone k h) h
    (λ trace e was_so.
    let run = runs (facts (run_view trace old) t) s (was_so.0.each t) open_is in (
      told_gone (run_view trace old) (run_view (f trace) new) old.unopened old.ended t was_so.0
          (closes_in trace (record old { port = port }) new t causes.Gone (was.Gone t) k was_so.0.rising) run,
      paused_but trace (f trace) t (piece_of old.book) (piece_of new.book)
          (pieces_at old.book new.book t None k.book.only_at)
          (λ q ne. at_other t q false (trace.paused q) ne) was_so.1,
    ))

-- ---- which session it was

-- output that isn't empty is that of a session that is open
pub some_out : (o : Option SessionState) (out : List ℕ) → out ≡ out_of o → length out ≢ 0
    → (s : SessionState) × (o ≡ Some s) × (out ≡ s.out)
some_out None out e ne = absurd (ne (ap (length {A = ℕ}) e))
some_out (Some s) out e ne = (s, refl, e)

-- a session that can't be absent is there
pub some_known : (o : Option SessionState) → (o ≡ None → ⊥) → (s : SessionState) × (o ≡ Some s)
some_known None h = absurd (h refl)
some_known (Some s) h = (s, refl)

-- a session that is said to be there is there
pub some_there : (o : Option SessionState) → is_some o ≡ true → (s : SessionState) × (o ≡ Some s)
some_there None h = absurd (true≢false (sym h))
some_there (Some s) h = (s, refl)

-- ---- what the book offers

-- output that is none or the session's own, and isn't empty, is that of a session that is open
pub offered_is : (o : Option SessionState) (out : List ℕ) → (out ≡ []) ⊎ (out ≡ out_of o) → (length out == 0) ≡ false
    → (s : SessionState) × (o ≡ Some s) × (out ≡ s.out)
offered_is o out (inl none) some = absurd (true≢false (sym (ap (λ (x : List ℕ). length x == 0) none) ∙ some))
offered_is o out (inr is) some = some_out o out is (λ none. true≢false (sym (eq-eqb (length out) 0 none) ∙ some))

-- the held piece of a session was fed, which is resumed
pub refed_goes_on : {P : Type 0} (told : P → Option PortTrace) (old new : WorkerState P) (t : ℕ) → LeavesWorker old new
    → told new.port ≡ option_map (with_pause t false) (told old.port) → IsWorkerServing told old
    → ChangesOpen old.book new.book t (λ (s u : SessionState). ¬ (IsInputFull s s.held) × (u ≡ held_fed s))
    → WorkerGoesOn told old new
refed_goes_on told old new t rest port h k =
    let only : OnlyAt old.book new.book t (Some (held_fed k.s)) =
    subst (λ (x : SessionState). OnlyAt old.book new.book t (Some x)) k.changes.1 k.only.only_at in
    let pieces = pieces_at old.book new.book t (Some (held_fed k.s)) only in
    within_goes_on told old new (with_pause t false) rest (λ s q. q) port
    (ap (λ (b : BookState). b.numbered) k.only.rest) (ap (λ (b : BookState). b.unsettled) k.only.rest)
    (ap (λ (b : BookState). b.dialect) k.only.rest) h
    (λ trace was_so. (
      told_refed (run_view trace old)
          (run_view (with_pause t false trace) new) old.unopened old.ended t k.s was_so.0 k.was_open
          (ap held_of k.was_open) refl refl
          (λ i. numbered_by (rest.end i) (rest.request i))
          (ap (λ (w : WorkerView). w.back) rest.end) rest.sessions only pieces,
      paused_but trace (with_pause t false trace) t (piece_of old.book) (piece_of new.book) pieces
          (λ q ne. at_other t q false (trace.paused q) ne) was_so.1,
    ))

-- ---- a session is paused or resumed

-- so much stays known where only the port's pauses change
turned_known : {P : Type 0} (old new : WorkerState P) (t : ℕ) (pauses : Bool) (trace : PortTrace) → LeavesWorker old new
    → new.book ≡ old.book → IsTraceKnown (run_view trace old) old.unopened old.ended
    → IsTraceKnown (run_view (with_pause t pauses trace) new) old.unopened old.ended
turned_known old new t pauses trace rest same h =
    let v = run_view trace old in let v' = run_view (with_pause t pauses trace) new in
    let p : v'.numbered ≡ v.numbered = λ i. numbered_by (rest.end i) (rest.request i) in
    let b : v'.back ≡ v.back = ap (λ (w : WorkerView). w.back) rest.end in
    told_within v v' old.unopened old.ended h refl rest.sessions
    (λ s. subst AreFactsConsistent (sym (facts_equal (facts v' s) (facts v s) refl refl
    (λ i. (facts (record v { numbered = p i }) s).asked) (λ i. (facts (record v { back = b i }) s).had)
    (λ i. (facts (record v { sessions = rest.sessions i }) s).cause) (ap (λ k. session_of k s) same)
    (ap (λ k. piece_of k s) same))) (h.each s))

-- an open session is paused
pub paused_goes_on : {P : Type 0} (told : P → Option PortTrace) (old new : WorkerState P) (t : ℕ) → LeavesWorker old new
    → new.book ≡ old.book → told new.port ≡ option_map (with_pause t true) (told old.port) → IsWorkerServing told old
    → WorkerGoesOn told old new
paused_goes_on told old new t rest same port h =
    within_goes_on told old new (with_pause t true) rest (λ s q. q) port (ap (λ (b : BookState). b.numbered) same)
    (ap (λ (b : BookState). b.unsettled) same) (ap (λ (b : BookState). b.dialect) same) h
    (λ trace was_so. (
      turned_known old new t true trace rest same was_so.0,
      paused_too trace (with_pause t true trace) t (piece_of old.book) (piece_of new.book) (λ s. ap (λ k. piece_of k s) same)
          (at_same t true (trace.paused t)) (λ q ne. at_other t q true (trace.paused q) ne) was_so.1,
    ))

-- a session is resumed of which no bytes are held
pub resumed_goes_on : {P : Type 0} (told : P → Option PortTrace) (old new : WorkerState P) (t : ℕ) → LeavesWorker old new
    → new.book ≡ old.book → told new.port ≡ option_map (with_pause t false) (told old.port) → piece_of old.book t ≡ []
    → IsWorkerServing told old → WorkerGoesOn told old new
resumed_goes_on told old new t rest same port none h =
    within_goes_on told old new (with_pause t false) rest (λ s q. q) port (ap (λ (b : BookState). b.numbered) same)
    (ap (λ (b : BookState). b.unsettled) same) (ap (λ (b : BookState). b.dialect) same) h
    (λ trace was_so. (
      turned_known old new t false trace rest same was_so.0,
      paused_but trace (with_pause t false trace) t (piece_of old.book) (piece_of new.book)
          (λ s. ap (λ k. piece_of k s) same ∙ none_at t (piece_of old.book) none s)
          (λ q ne. at_other t q false (trace.paused q) ne) was_so.1,
    ))
