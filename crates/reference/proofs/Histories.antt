-- One more entry of a history.
use Rattle.std.proofs.Common.{◌≡◌, ℕ, suc, ◌+◌, ◌≤◌, min, max, Bool, true, false, cond, eqb, ◌&&◌, List, [], ◌∷◌, ◌++◌, length, refl, sym, ap, subst, ◌∙◌}
use Rattle.std.proofs.Common.{inl, arith, map, append_assoc, length-append}
use Rattle.std.specs.List.{AllByRecursion}
use Rattle.std.proofs.lemmas.Bool.{eq-eqb, ne_eqb}
use Rattle.std.proofs.lemmas.List.{append-nil, map-append}
use Rattle.std.proofs.lemmas.List.Elements.{filter-append}
use Rattle.proto.specs.declared.message.Request.{Request}
use Rattle.proto.specs.declared.message.Reply.{Reply}
use Rattle.proto.specs.declared.history.Answered.{Answered}
use Rattle.proto.specs.ClockAnswers.{GivenAnswer}
use Rattle.proto.specs.Sizes.{Sizes}
use Rattle.proto.specs.Steps.{Step, IsCarriedOut}
use Rattle.proto.specs.History.{max_moment, answers_by, worker_share, session_share}
use Rattle.engine.specs.Reaching.{moments_after, last_or, Reaches}
use Rattle.engine.proofs.ReachingLemmas.{moments, moment_after, moments_more, answers_more, reaches_more}
use Rattle.script.specs.Clocks.{ClockState, answer_of, first_answers, AreTimed}
use Rattle.reference.specs.Execution.{Execution, Executes}
use Rattle.reference.specs.SequentialSessions.{Setup, LedTo, IsOfSession, HistoryGoesOn}

-- an answer of a script's clock
abbrev given : ℕ → GivenAnswer
given seconds = record { seconds = seconds; read = [] }

-- the next entry of a session, at this answer of the clock
abbrev pub entry_of : List Answered → ℕ → ℕ → ℕ → Request → Reply → Answered
entry_of h session t seconds q reply = record {
  worker = 0;
  session = session;
  number = length (worker_share h 0) + 1;
  request = q;
  moment = t;
  clock = answers_by [] h ++ given seconds ∷ [];
  reply = reply;
}

-- the moment of one more request is that of the clock's next answer
times_more : (last : ℕ) (answers : List ℕ) (n : ℕ)
    → moments_after last (answers ++ n ∷ [])
    ≡ moments_after last answers ++ moment_after (last_or last (moments_after last answers)) n ∷ []
times_more last [] n = refl
times_more last (a ∷ answers) n = ap (λ (l : List ℕ). moment_after last a ∷ l)
    (times_more (moment_after last a) answers n)

-- the answers and moments with one request more, by the clock's next answer
timed_more : (clock : ClockState) (h : List Answered) (e : Answered) → AreTimed clock h
    → e.clock ≡ answers_by [] h ++ given (answer_of clock (length h)) ∷ []
    → e.moment ≡ moment_after (last_or 0 (moments h)) (answer_of clock (length h)) → AreTimed clock (h ++ e ∷ [])
timed_more clock h e timed clock_is is =
    let told = first_answers clock (length h) in
    let longer : length (h ++ e ∷ []) ≡ suc (length h) = length-append h (e ∷ []) ∙ omega arith in
    let last : e.moment ≡ moment_after (last_or 0 (moments_after 0 told)) (answer_of clock (length h)) =
    is ∙ ap (λ (l : List ℕ). moment_after (last_or 0 l) (answer_of clock (length h))) timed.moments in
    record {
      answers = ap (map (λ (a : GivenAnswer). a.seconds)) (answers_more [] h e ∙ clock_is)
          ∙ map-append (λ (a : GivenAnswer). a.seconds) (answers_by [] h) (given (answer_of clock (length h)) ∷ [])
          ∙ ap (λ (l : List ℕ). l ++ answer_of clock (length h) ∷ []) timed.answers
          ∙ ap (first_answers clock) (sym longer);
      moments = moments_more h e
          ∙ ap (λ (l : List ℕ). l ++ e.moment ∷ []) timed.moments
          ∙ ap (λ (t : ℕ). moments_after 0 told ++ t ∷ []) last
          ∙ sym (times_more 0 told (answer_of clock (length h)))
          ∙ ap (λ (n : ℕ). moments_after 0 (first_answers clock n)) (sym longer);
    }

-- a history that leads further, by a request that is executed
pub led_more : (setup : Setup) (h : List Answered) (session : ℕ) (old new : Execution) (t : ℕ) (q : Request)
    (reply : Reply)
    → LedTo setup h old → Executes old t q reply new
    → LedTo setup (h ++ entry_of h session t (answer_of old.clock 0) q reply ∷ []) new
led_more setup h session old new t q reply led x =
    let e = entry_of h session t (answer_of old.clock 0) q reply in
    let next : answer_of old.clock 0 ≡ answer_of setup.clock (length h) =
    led.clock 0 ∙ ap (answer_of setup.clock) (omega arith) in
    let moment_is : t ≡ moment_after (last_or 0 (moments h)) (answer_of setup.clock (length h)) =
    x.moment_is
    ∙ ap (λ (m : ℕ). moment_after m (answer_of old.clock 0)) (sym led.reaches.moment_is)
    ∙ ap (moment_after (last_or 0 (moments h))) next in
    let steps : IsCarriedOut (Step setup.sizes t) old.cache q x.first new.cache =
    subst (λ (s : Sizes). IsCarriedOut (Step s t) old.cache q x.first new.cache) led.sizes_are x.steps in
    let small : old.moment ≤ max_moment = led.reaches.small in
    let at : t ≡ max old.moment (min (answer_of old.clock 0) max_moment) = x.moment_is in
    record {
      sizes_are = x.sizes_stay ∙ led.sizes_are;
      reaches = subst (Reaches setup.sizes (h ++ e ∷ []) new.cache) (sym x.last)
          (reaches_more setup.sizes h old.cache new.cache old.moment e led.reaches (x.first, x.same, steps) (λ is. inl (x.uncounted is)) (omega arith)
          (given (answer_of old.clock 0)) refl x.moment_is refl);
      timed = timed_more setup.clock h e led.timed
          (ap (λ (seconds : ℕ). answers_by [] h ++ given seconds ∷ []) next) moment_is;
      clock = λ n. x.later n ∙ led.clock (n + 1) ∙ ap (answer_of setup.clock) (omega (arith, length-append h (e ∷ [])));
    }

-- ---- shares

-- a session's share of two histories, joined
pub share-append : (a b : List Answered) (session : ℕ)
    → session_share (a ++ b) 0 session ≡ session_share a 0 session ++ session_share b 0 session
share-append a b session = filter-append (λ (e : Answered). eqb e.worker 0 && eqb e.session session) a b

-- the next entry of a session is the last of its share
pub share_one : (h : List Answered) (session t seconds : ℕ) (q : Request) (reply : Reply)
    → session_share (h ++ entry_of h session t seconds q reply ∷ []) 0 session
    ≡ session_share h 0 session ++ entry_of h session t seconds q reply ∷ []
share_one h session t seconds q reply =
    share-append h (entry_of h session t seconds q reply ∷ []) session
    ∙ ap (λ (b : Bool). session_share h 0 session ++ cond b (entry_of h session t seconds q reply ∷ []) [])
    (eq-eqb session session refl)

-- entries of another session
pub share_other : (entries : List Answered) (session other : ℕ) → AllByRecursion (IsOfSession session) entries
    → (session ≡ other → ⊥)
    → session_share entries 0 other ≡ []
share_other [] session other of apart = refl
share_other (e ∷ entries) session other (first, of) apart =
    let differs : eqb e.session other ≡ false = ne_eqb e.session other (λ is. apart (sym first.session_is ∙ is)) in
    let worker : eqb e.worker 0 ≡ true = eq-eqb e.worker 0 first.worker in
    rw (worker, differs) (share_other entries session other of apart)

-- ---- a history that goes on

-- a history goes on with no entry
pub goes_on_same : (session : ℕ) (h : List Answered) → HistoryGoesOn session h h
goes_on_same session h = record { entries = []; longer = sym (append-nil h); of_session = tt }

-- and with one of the session
pub goes_on_one : (session t seconds : ℕ) (h : List Answered) (q : Request) (reply : Reply)
    → HistoryGoesOn session h (h ++ entry_of h session t seconds q reply ∷ [])
goes_on_one session t seconds h q reply = record {
  entries = entry_of h session t seconds q reply ∷ [];
  longer = refl;
  of_session = (record { worker = refl; session_is = refl }, tt);
}

-- two lists of entries of one session, joined
of-append : (session : ℕ) (a b : List Answered) → AllByRecursion (IsOfSession session) a
    → AllByRecursion (IsOfSession session) b
    → AllByRecursion (IsOfSession session) (a ++ b)
of-append session [] b first second = second
of-append session (e ∷ a) b first second = (first.0, of-append session a b first.1 second)

-- a history goes on, and then on
pub goes_on_on : (session : ℕ) (a b c : List Answered) → HistoryGoesOn session a b → HistoryGoesOn session b c
    → HistoryGoesOn session a c
goes_on_on session a b c first second = record {
  entries = first.entries ++ second.entries;
  longer = second.longer ∙ ap (λ (x : List Answered). x ++ second.entries) first.longer
      ∙ append_assoc a first.entries second.entries;
  of_session = of-append session first.entries second.entries first.of_session second.of_session;
}

-- where a history goes on with one session, the share of another one stays
pub share_goes_on : (session other : ℕ) (a b : List Answered) → HistoryGoesOn session a b → (session ≡ other → ⊥)
    → session_share b 0 other ≡ session_share a 0 other
share_goes_on session other a b on apart =
    ap (λ (h : List Answered). session_share h 0 other) on.longer
    ∙ share-append a on.entries other
    ∙ ap (λ (x : List Answered). session_share a 0 other ++ x)
    (share_other on.entries session other on.of_session apart)
    ∙ append-nil (session_share a 0 other)
