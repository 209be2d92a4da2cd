-- From a group's run over the ports of a script to what the script's bytes make it print.
use Rattle.std.proofs.Common.{◌≡◌, ℕ, zero, suc, ◌+◌, ◌<◌, nat_lt, inl, inr, ⊎_elim, ◌==◌, Bool, true, false, ◌||◌}
use Rattle.std.proofs.Common.{cond, List, [], ◌∷◌, ◌++◌, length, map}
use Rattle.std.proofs.Common.{true≢false, Option, Some, None, All, Contains, refl, sym, ap, subst, ◌∙◌, arith}
use Rattle.std.specs.Prelude.{⊤, flat_map, IsSome, option_map}
use Rattle.std.specs.List.{list_any}
use Rattle.std.proofs.lemmas.List.{length-map, get_or-map}
use Rattle.std.proofs.Common.{length-append, append_assoc, append-nil}
use Rattle.proto.specs.declared.dialect.Dialect.{Dialect}
use Rattle.proto.specs.declared.message.Message.{Message}
use Rattle.proto.specs.declared.history.Posted.{Posted}
use Rattle.proto.specs.declared.history.Answered.{Answered}
use Rattle.proto.specs.ClockAnswers.{GivenAnswer}
use Rattle.proto.specs.History.{worker_share, asked_posted, MomentsFrom, answers_by}
use Rattle.proto.specs.Sizes.{Sizes}
use Rattle.proto.specs.Reading.{Reads}
use Rattle.proto.proofs.GrammarLaws.{has_reading}
use Rattle.exchange.specs.Beginnings.{posted_of}
use Rattle.exchange.specs.Ends.{TableId}
use Rattle.exchange.proofs.Lists.{at_below, at_some}
use Rattle.session_book.specs.declared.causes.EndCause.{EndCause}
use Rattle.session_book.specs.declared.causes.EndCause.TheVariants as causes
use Rattle.engine.specs.Reaching.{moments_after}
use Rattle.engine.proofs.ReachingLemmas.{moments, moment_after}
use Rattle.storage_thread.specs.Serving.{IsTimed}
use Rattle.script.specs.declared.event.ScriptEvent.{ScriptEvent}
use Rattle.script.specs.Clocks.{ClockState, answer_of, first_answers, AreTimed}
use Rattle.script.specs.Scripts.{Workers, AreEventsOf}
use Rattle.worker_port.specs.declared.events.PortRecord.{PortRecord}
use Rattle.worker_port.specs.declared.events.PortRecord.TheVariants as was
use Rattle.worker_port.specs.Ports.{PortTrace, fed, given, is_in}
use Rattle.worker.specs.Sessions.{cause_of}
use Rattle.worker.specs.Reports.{IsCauseOf, AreListed, IsSessionAnswered}
use Rattle.script.specs.declared.clock.RecordingClock.{RecordingClock}
use Rattle.script.specs.ClockLeading.{GivesAnswers}
use Rattle.script.specs.PortEvents.{is_playable}
use Rattle.script.specs.Records.{opened_sessions}
use Rattle.script.specs.Following.{IsPlayed}
use Rattle.script.proofs.EventLemmas.{lt_true}
use Rattle.script.specs.States.{PortState, script_trace, trace_told, PlaysOn}
use Rattle.group.specs.declared.report.GroupWorker.{GroupWorker}
use Rattle.group.specs.declared.report.GroupReport.{GroupReport}
use Rattle.group.specs.Headline.{IsRun}
use Rattle.group.proofs.Places.{at_mapped}
use Rattle.replaying.specs.Printed.{printed_line, lines_from, events_of, IsPort, ArePorts, ArePlayed}
use Rattle.replaying.specs.Replayed.{SessionOutcome, MayEnd, IsOutcomeOf, AreOutcomesOf, outcome_lines, IsReplayOf}

-- ---- what a worker leaves, session by session

-- what came of a worker's session, by the port's list and the worker's report
abbrev outcome_of : GroupWorker PortState → ℕ → SessionOutcome
outcome_of worker s = record {
  number = s;
  came = fed s worker.port.player.records;
  given = given s worker.port.player.records;
  cause = cause_of worker.sessions.items s;
}

-- what came of each session that a worker's port opened, in order
abbrev outcomes_of : GroupWorker PortState → List SessionOutcome
outcomes_of worker = map (outcome_of worker) (opened_sessions worker.port.player.records)

-- the bytes joined for a changed list are those joined for what each element changes to
flat_map-map : {A B : Type 0} (f : B → List ℕ) (g : A → B) (xs : List A)
    → flat_map f (map g xs) ≡ flat_map (λ x. f (g x)) xs
flat_map-map f g [] = refl
flat_map-map f g (x ∷ xs) = ap (λ (l : List ℕ). f (g x) ++ l) (flat_map-map f g xs)

-- the lines by the lists of the workers' ports are the lines by what came of their sessions
lines_are : (w : ℕ) (workers : List (GroupWorker PortState))
    → lines_from w (map events_of workers) ≡ outcome_lines w (map outcomes_of workers)
lines_are w [] = refl
lines_are w (x ∷ workers) =
    (λ i. sym (flat_map-map (λ (o : SessionOutcome). printed_line w o.number o.given) (outcome_of x)
    (opened_sessions x.port.player.records)) i ++ lines_are (w + 1) workers i)

-- the outcomes of some sessions have their numbers, in the same order
numbers_are : (worker : GroupWorker PortState) (xs : List ℕ)
    → map (λ (o : SessionOutcome). o.number) (map (outcome_of worker) xs) ≡ xs
numbers_are worker [] = refl
numbers_are worker (s ∷ xs) = ap (λ (l : List ℕ). s ∷ l) (numbers_are worker xs)

-- what holds of whatever an element changes to holds of all elements of the changed list
all_mapped : {A B : Type 0} (P : B → Type 0) (f : A → B) (xs : List A) → ((x : A) → P (f x)) → All P (map f xs)
all_mapped P f [] each k d low = absurd (omega arith)
all_mapped P f (x ∷ xs) each zero d low = each x
all_mapped P f (x ∷ xs) each (suc k) d low = all_mapped P f xs each k d (omega arith)

-- a session is in the list's openings where the list has it opened
any_opened : (s : ℕ) (events : List PortRecord)
    → list_any (λ t. t == s) (opened_sessions events) ≡ is_in (was.Opened s) events
any_opened s [] = refl
any_opened s (was.Opened t ∷ events) = ap (λ b. (t == s) || b) (any_opened s events)
any_opened s (was.Data t bytes ∷ events) = any_opened s events
any_opened s (was.EndOfInput t ∷ events) = any_opened s events
any_opened s (was.Gone t ∷ events) = any_opened s events
any_opened s (was.Ended ∷ events) = any_opened s events
any_opened s (was.Accepted t bytes ∷ events) = any_opened s events
any_opened s (was.Shut t ∷ events) = any_opened s events

-- a cause that fits the list and the messages of a session fits the messages alone
may_end : (d : Dialect) (events : List PortRecord) (s : ℕ) → is_in (was.EndOfInput s) events ≡ false → (messages : List Message)
    (cause : EndCause) → IsCauseOf d events s messages cause → MayEnd d messages cause
may_end d events s never messages causes.Drained caused = caused.3
may_end d events s never messages causes.EndOfInput caused = true≢false (sym caused.0 ∙ never)
may_end d events s never messages causes.Quit caused = caused.1
may_end d events s never messages causes.Fatal caused = (caused.1, caused.2)
may_end d events s never messages causes.Gone caused = tt
may_end d events s never messages causes.NoMemory caused = tt
may_end d events s never messages causes.Stalled caused = caused.1

-- what holds of the sessions of all requests of a list, as they were posted, holds of an entry's
posted_there : (P : ℕ → Type 0) (entries : List Answered) → All (λ (p : Posted). P p.session) (asked_posted entries)
    → (e : Answered) → Contains entries e → P e.session
posted_there P entries all e has =
    subst P (ap (λ (p : Posted). p.session) (get_or-map posted_of entries has.0 e (posted_of e) has.1)
    ∙ ap (λ (a : Answered). a.session) has.2)
    (all has.0 (posted_of e) (subst (λ n. has.0 < n) (sym (length-map entries posted_of)) has.1))

-- one worker
module _ (d : Dialect) (history : List Answered) (w : ℕ) (events : List ScriptEvent) (worker : GroupWorker PortState)
    (fail_give : ℕ) (can_fail : Bool) (exactly : asked_posted (worker_share history w) ≡ worker.sent)
    (listed : AreListed worker.port.player.records worker.sent worker.sessions.items worker.unopened)
    (answered : (s : ℕ) (cause : EndCause) (messages : List Message) (rest : List ℕ)
    → cause_of worker.sessions.items s ≡ Some cause → Reads d (fed s worker.port.player.records) messages rest
    → IsSessionAnswered d worker.port.player.records history w s cause messages)
    (played : IsPlayed events worker.port.player.records can_fail) (asked_to : can_fail ≡ true → 0 < fail_give) where
  one_outcome : (s : ℕ) → IsOutcomeOf d history w fail_give events (outcome_of worker s)
  one_outcome s =
      let l = worker.port.player.records in let reading = has_reading d (fed s l) in record {
        came_first = played.fed_first s;
        came_all = λ found. let caused =
            (answered s causes.Drained reading.0 reading.1 found reading.2).caused in
            played.fed_all s listed.ended caused.1 caused.2;
        no_room = listed.no_stranger s;
        answered = λ cause found. let a = answered s cause reading.0 reading.1 found reading.2 in record {
          messages = reading.0;
          rest = reading.1;
          reads = reading.2;
          answers = a.answers;
          complete = a.complete;
          may_end = may_end d l s (played.never_over s) reading.0 cause a.caused;
        };
        gone_by = λ found. ⊎_elim (λ line. inl line) (λ could. inr (asked_to could))
            (played.gone_by s (answered s causes.Gone reading.0 reading.1 found reading.2).caused);
      }

  worker_outcomes : AreOutcomesOf d history w fail_give events (outcomes_of worker)
  worker_outcomes = record {
    opened_are = numbers_are worker (opened_sessions worker.port.player.records) ∙ played.opened_all listed.ended;
    each = all_mapped (IsOutcomeOf d history w fail_give events) (outcome_of worker)
        (opened_sessions worker.port.player.records) one_outcome;
    no_other = λ e has.
        ap (list_any (λ s. s == e.session)) (sym (played.opened_all listed.ended))
        ∙ any_opened e.session worker.port.player.records
        ∙ listed.opened e.session (posted_there (λ s. IsSome (cause_of worker.sessions.items s)) (worker_share history w)
        (subst (All (λ (p : Posted). IsSome (cause_of worker.sessions.items p.session))) (sym exactly) listed.placed) e has);
  }

-- ---- the clock

-- a list of a clock's first n answers has n
length-first : (clock : ClockState) (n : ℕ) → length (first_answers clock n) ≡ n
length-first clock zero = refl
length-first clock (suc n) = let more = length-append (first_answers clock n) (answer_of clock n ∷ []) in
    let before = length-first clock n in omega (arith, more, before)

-- a clock's answers give one moment each
length-after : (answers : List ℕ) (last : ℕ) → length (moments_after last answers) ≡ length answers
length-after [] last = refl
length-after (a ∷ answers) last = ap suc (length-after answers (moment_after last a))

-- the moments of a history are those that its clock's answers give, one for each
answers_after : (told : List GivenAnswer) (t : ℕ) (history : List Answered) → MomentsFrom told t history
    → (answers : List GivenAnswer) × (answers_by told history ≡ told ++ answers)
    × (moments history ≡ moments_after t (map (λ (a : GivenAnswer). a.seconds) answers))
answers_after told t [] m = ([], sym (append-nil told), refl)
answers_after told t (e ∷ history) m = let r = answers_after e.clock e.moment history m.3 in (
  m.0 ∷ r.0,
  r.1 ∙ ap (λ (l : List GivenAnswer). l ++ r.0) m.1 ∙ append_assoc told (m.0 ∷ []) r.0,
  ap (λ (l : List ℕ). e.moment ∷ l) r.2
      ∙ ap (λ (z : ℕ). z ∷ moments_after z (map (λ (a : GivenAnswer). a.seconds) r.0)) m.2,
)

-- if a new clock was asked once for each request of a history, its first answers gave the requests
-- their moments
timed_by : (clock : ClockState) (told after : RecordingClock) (history : List Answered) → told.clock ≡ clock
    → told.answers.items ≡ [] → MomentsFrom [] 0 history
    → GivesAnswers told after → IsTimed (Some told.answers.items)
    (Some after.answers.items) history
    → AreTimed clock history
timed_by clock told after history clock_is none legal gives is =
    let seconds : List GivenAnswer → List ℕ = map (λ (a : GivenAnswer). a.seconds) in
    let by = answers_after [] 0 history legal in
    let answered : List ℕ = seconds (answers_by [] history) in
    let moments_are : moments history ≡ moments_after 0 answered =
    by.2 ∙ ap (λ (l : List GivenAnswer). moments_after 0 (seconds l)) (sym by.1) in
    let told_are : Some after.answers.items ≡ Some (told.answers.items ++ answered) = is in
    let listed_are : after.answers.items ≡ told.answers.items ++ answered = cc in
    let answers_are : after.answers.items ≡ answered = listed_are ∙ ap (λ (l : List ℕ). l ++ answered) none in
    let first_are : answered ≡ first_answers clock gives.count =
    sym answers_are ∙ gives.told ∙ (λ i. none i ++ first_answers (clock_is i) gives.count) in
    let count_is : gives.count ≡ length history =
    sym (sym (length-map history (λ (e : Answered). e.moment)) ∙ ap length moments_are ∙ length-after answered 0
    ∙ ap length first_are ∙ length-first clock gives.count) in
    let told_first : answered ≡ first_answers clock (length history) = first_are ∙ ap (first_answers clock) count_is in
    record { answers = told_first; moments = moments_are ∙ ap (moments_after 0) told_first }

-- ---- all workers

-- the lines of the sessions in a group's run over ports that play a script
-- are what is printed for the script's bytes
pub replayed : (sizes : Sizes) (d : Dialect) (exact : Bool) (clock : ClockState) (workers accept fail_give : ℕ) (text : List ℕ) (scripts : Workers)
    → AreEventsOf workers text scripts
    → (exchange : TableId) (ports : List PortState) → ArePorts sizes d exchange accept fail_give scripts ports → (told : RecordingClock)
    → told.clock ≡ clock → told.answers.items ≡ []
    → (report : GroupReport PortState RecordingClock) → IsRun trace_told PlaysOn
    (λ (c : RecordingClock). Some c.answers.items) GivesAnswers ⊤ exact false sizes ports told report
    → ArePlayed report.workers.items
    → IsReplayOf sizes d exact clock workers fail_give text (lines_from 0 (map events_of report.workers.items))
replayed sizes d exact clock workers accept fail_give text scripts read exchange ports ports_are told clock_is none report run played =
    record {
      scripts = scripts;
      read = read;
      history = run.history;
      legal = run.legal;
      inside = subst (λ n. All (λ (e : Answered). e.worker < n) run.history) (sym ports_are.0) run.inside;
      timed = timed_by clock told report.clock run.history clock_is none run.legal.moments run.leads
          run.moments;
      outcomes = map outcomes_of report.workers.items;
      one_each = length-map report.workers.items outcomes_of ∙ run.one_each ∙ sym ports_are.0;
      each = λ w events os there at.
          let x = at_mapped outcomes_of report.workers.items w os at in
          let port = at_some ports w (subst (λ n. w < n) run.one_each
          (at_below report.workers.items w x.0 x.1)) in
          let is : IsPort sizes d exchange accept fail_give w events port.0 = ports_are.1 w events port.0 there port.1 in
          let of = run.each w port.0 x.0 port.1 x.1 in
          let script_is : x.0.port.player.script ≡ events = of.leads.0 ∙ ap (λ (p : PortState). p.player.script) is.1 in
          let plays : is_playable x.0.port.player.script ≡ true = ap is_playable script_is ∙ is.0 in
          let told_is = ap (λ b. cond b (Some (script_trace x.0.port)) None) plays in
          let first : is_playable port.0.player.script ≡ true =
          ap (λ (p : PortState). is_playable p.player.script) is.1 ∙ is.0 in
          let spoken : Option PortTrace → Option Dialect = option_map (λ (trace : PortTrace). trace.dialect) in
          let both : Some x.0.port.dialect ≡ Some port.0.dialect =
          sym (ap spoken told_is) ∙ of.tells ∙ ap spoken (ap (λ b. cond b (Some (script_trace port.0)) None) first) in
          let same : x.0.port.dialect ≡ port.0.dialect = cc in
          let dialect_is : x.0.port.dialect ≡ d = same ∙ ap (λ (p : PortState). p.dialect) is.1 in
          let can_fail_is : x.0.port.player.can_fail ≡ nat_lt 0 fail_give =
          of.leads.2 ∙ ap (λ (p : PortState). p.player.can_fail) is.1 in
          subst (AreOutcomesOf d run.history w fail_give events) x.2
          (worker_outcomes d run.history w events x.0 fail_give x.0.port.player.can_fail of.exactly
          (of.listed (script_trace x.0.port) told_is)
          (λ s cause messages rest found reads.
          subst (λ (e : Dialect). IsSessionAnswered e x.0.port.player.records run.history w s cause messages) dialect_is
          (of.answered (script_trace x.0.port) told_is s cause messages rest found
          (subst (λ (e : Dialect). Reads e (fed s x.0.port.player.records) messages rest) (sym dialect_is) reads)))
          (subst (λ (s : List ScriptEvent). IsPlayed s x.0.port.player.records x.0.port.player.can_fail) script_is
          (played w x.0 x.1 plays))
          (λ could. lt_true 0 fail_give (sym can_fail_is ∙ could)));
      refused = run.refused;
      bounded = run.bounded tt;
      dated = run.dated;
      printed_is = lines_are 0 report.workers.items;
    }
