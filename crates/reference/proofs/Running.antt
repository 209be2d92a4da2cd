-- One more event of a run.
use Rattle.std.proofs.Common.{◌≡◌, ℕ, zero, suc, ◌<◌, ◌≤◌, Bool, true, false, cond, eqb, List, [], ◌∷◌}
use Rattle.std.proofs.Common.{◌++◌, length, get_or, set, map, refl, sym, ap}
use Rattle.std.proofs.Common.{subst, ◌∙◌, arith, inl, inr}
use Rattle.std.specs.Prelude.{All, Contains, filter_map}
use Rattle.std.specs.List.{AllByRecursion}
use Rattle.std.specs.List.Sorted.{IsStrictlyIncreasing}
use Rattle.std.proofs.lemmas.Bool.{cases_eq, cases_lt, eq-eqb, ne_eqb, both_ways}
use Rattle.std.proofs.lemmas.Grind.{flat_map-append}
use Rattle.std.proofs.lemmas.List.{append-nil, map-append, length-map, get_or-map, get_or-set_same, get_or-set_other}
use Rattle.std.proofs.Math.ListN.{length-set}
use Rattle.std.proofs.lemmas.List.Elements.{filter_map-append, All-push, All-weaker, All-contains, Contains-append_left, Contains-get_or, All-from_recursion}
use Rattle.std.proofs.lemmas.List.Elements.{recursion_from_All}
use Rattle.proto.specs.declared.dialect.Dialect.TheVariants.{Strict}
use Rattle.proto.proofs.ReadingLemmas.{reads_empty, reads_before}
use Rattle.proto.specs.declared.history.Answered.{Answered}
use Rattle.proto.specs.Cache.{empty_cache}
use Rattle.proto.specs.History.{session_share}
use Rattle.engine.proofs.ReachingLemmas.{legal_of}
use Rattle.script.specs.Clocks.{answer_of}
use Rattle.script.specs.declared.event.ScriptEvent.{ScriptEvent}
use Rattle.script.specs.declared.event.ScriptEvent.TheVariants.{Open, Send, Gone}
use Rattle.script.specs.Events.{newest_after, newest_of, open_after, is_open_in_script, MayFollow, session_opened_by}
use Rattle.script.specs.Events.{sessions_opened, sent_by, sent_bytes}
use Rattle.script.proofs.TrackLemmas.{newest_more, open_more}
use Rattle.reference.specs.declared.sequential_session.SequentialSession.{SequentialSession}
use Rattle.reference.specs.Execution.{Execution}
use Rattle.reference.specs.SequentialSessions.{Setup, IsOfSession, HistoryGoesOn, AreBytesServed, IsNewSession}
use Rattle.reference.specs.declared.sequential_replay.SessionOutput.{SessionOutput}
use Rattle.reference.specs.SequentialReplays.{IsAnsweredIn, IsAmong, IsReplay, numbers_of, IsFresh, HasRun, FeedsAt, output_of}
use Rattle.reference.proofs.Histories.{share_goes_on}
use Rattle.script.proofs.Positions.{rising_more, rises}

-- ---- what one more event adds

-- two numbers at different positions differ
apart_at : (numbers : List ℕ) (i j : ℕ) → IsStrictlyIncreasing numbers → i < length numbers → j < length numbers
    → (i ≡ j → ⊥)
    → get_or numbers i 0 ≡ get_or numbers j 0 → ⊥
apart_at numbers i j rising within inside apart is =
    elim (cases_lt i j) [
      | inl below ↦ let less = rises numbers i j rising below inside in omega arith
      | inr above ↦ let more = rises numbers j i rising (omega arith) within in omega arith
    ]

-- the bytes of a session, with one event more
pub sent_more : (events : List ScriptEvent) (e : ScriptEvent) (s : ℕ)
    → sent_bytes (events ++ e ∷ []) s ≡ sent_bytes events s ++ sent_by s e
sent_more events e s = flat_map-append (sent_by s) events (e ∷ [])
    ∙ ap (λ (x : List ℕ). sent_bytes events s ++ x) (append-nil (sent_by s e))

-- an event that opens none leaves the sessions that were opened
opened_same : (events : List ScriptEvent) (e : ScriptEvent) → filter_map session_opened_by (e ∷ []) ≡ []
    → sessions_opened (events ++ e ∷ []) ≡ sessions_opened events
opened_same events e none = filter_map-append session_opened_by events (e ∷ [])
    ∙ ap (λ (x : List ℕ). sessions_opened events ++ x) none ∙ append-nil (sessions_opened events)

-- a session that begins is the last of those that were opened
opened_open : (events : List ScriptEvent) (s : ℕ)
    → sessions_opened (events ++ Open s ∷ []) ≡ sessions_opened events ++ s ∷ []
opened_open events s = filter_map-append session_opened_by events (Open s ∷ [])

-- the bytes of another session stay
sent_other : (events : List ScriptEvent) (s t : ℕ) (bytes : List ℕ) → (s ≡ t → ⊥)
    → sent_bytes (events ++ Send s bytes ∷ []) t ≡ sent_bytes events t
sent_other events s t bytes apart =
    sent_more events (Send s bytes) t ∙ ap (λ (b : Bool). sent_bytes events t ++ cond b bytes []) (ne_eqb s t apart)
    ∙ append-nil (sent_bytes events t)

-- a send's bytes go after those of its session
sent_same : (events : List ScriptEvent) (s : ℕ) (bytes : List ℕ)
    → sent_bytes (events ++ Send s bytes ∷ []) s ≡ sent_bytes events s ++ bytes
sent_same events s bytes = sent_more events (Send s bytes) s
    ∙ ap (λ (b : Bool). sent_bytes events s ++ cond b bytes []) (eq-eqb s s refl)

-- ---- what is fresh stays so

-- a session that hasn't begun stays so where the event isn't its own
fresh_from : (events : List ScriptEvent) (e : ScriptEvent) (s : ℕ) → sent_bytes events s ≡ [] → sent_by s e ≡ []
    → open_after s (is_open_in_script events s) e ≡ false
    → (sent_bytes (events ++ e ∷ []) s ≡ []) × (is_open_in_script (events ++ e ∷ []) s ≡ false)
fresh_from events e s none by closed = (
  sent_more events e s ∙ ap (λ (x : List ℕ). x ++ sent_by s e) none ∙ by,
  open_more events e s ∙ closed,
)

-- numbers above the newest one stay unused, whatever event comes
pub fresh_more : (events : List ScriptEvent) (e : ScriptEvent) → IsFresh events → MayFollow events e
    → IsFresh (events ++ e ∷ [])
fresh_more events (Open t) fresh may s above =
    let higher : t < s = rw (newest_more events (Open t)) at above in
    let was = fresh s (omega arith) in
    fresh_from events (Open t) s was.0 refl (ap (λ (b : Bool). cond b true (is_open_in_script events s))
    (ne_eqb t s (omega arith)) ∙ was.1)
fresh_more events (Send t bytes) fresh may s above =
    let higher : newest_of events < s = rw (newest_more events (Send t bytes)) at above in
    let was = fresh s higher in
    let apart : t ≡ s → ⊥ = λ is. both_ways (is_open_in_script events t)
    (ap (is_open_in_script events) is ∙ was.1) may in
    fresh_from events (Send t bytes) s was.0 (ap (λ (b : Bool). cond b bytes []) (ne_eqb t s apart)) was.1
fresh_more events (Gone t) fresh may s above =
    let higher : newest_of events < s = rw (newest_more events (Gone t)) at above in
    let was = fresh s higher in
    fresh_from events (Gone t) s was.0 refl (gone (eqb t s) (is_open_in_script events s) was.1)
  where
    gone : (b o : Bool) → o ≡ false → cond b false o ≡ false
    gone true o e = refl
    gone false o e = e

-- ---- an event that changes no session

-- an event that opens none and sends nothing to a session that is there
run_still : (setup : Setup) (events : List ScriptEvent) (e : ScriptEvent) (now : Execution)
    (sessions : List SequentialSession)
    → HasRun setup events now sessions → MayFollow events e
    → filter_map session_opened_by (e ∷ []) ≡ [] → newest_after (newest_of events) e ≡ newest_of events
    → ((k : ℕ) (d : SequentialSession) → k < length sessions
    → sent_bytes (events ++ e ∷ []) (get_or sessions k d).number ≡ sent_bytes events (get_or sessions k d).number)
    → HasRun setup (events ++ e ∷ []) now sessions
run_still setup events e now sessions run may no_open no_newer bytes =
    let same = opened_same events e no_open in
    let newest = newest_more events e ∙ no_newer in
    record {
      history = run.history;
      led = run.led;
      among = subst (λ (os : List ℕ). AllByRecursion (IsAmong os) run.history) (sym same) run.among;
      numbers = run.numbers ∙ sym same;
      rising = subst IsStrictlyIncreasing (sym same) run.rising;
      highest = subst (λ (os : List ℕ). All (λ (n : ℕ). n ≤ newest_of (events ++ e ∷ [])) os) (sym same)
          (subst (λ (m : ℕ). All (λ (n : ℕ). n ≤ m) (sessions_opened events)) (sym newest) run.highest);
      fresh = fresh_more events e run.fresh may;
      each = λ k d lt.
          let s = get_or sessions k d in
          subst (λ (b : List ℕ). AreBytesServed b (session_share run.history 0 s.number) s) (sym (bytes k d lt))
          (run.each k d lt);
    }

-- a peer that goes changes no session
pub run_gone : (setup : Setup) (events : List ScriptEvent) (session : ℕ) (now : Execution)
    (sessions : List SequentialSession)
    → HasRun setup events now sessions → MayFollow events (Gone session)
    → HasRun setup (events ++ Gone session ∷ []) now sessions
run_gone setup events session now sessions run may =
    run_still setup events (Gone session) now sessions run may refl refl
    (λ k d lt. sent_more events (Gone session) (get_or sessions k d).number
    ∙ append-nil (sent_bytes events (get_or sessions k d).number))

-- a send to a session that isn't there changes none
pub run_skipped : (setup : Setup) (events : List ScriptEvent) (session : ℕ) (bytes : List ℕ) (now : Execution)
    (sessions : List SequentialSession) → HasRun setup events now sessions
    → MayFollow events (Send session bytes) → (Contains (numbers_of sessions) session → ⊥)
    → HasRun setup (events ++ Send session bytes ∷ []) now sessions
run_skipped setup events session bytes now sessions run may none =
    run_still setup events (Send session bytes) now sessions run may refl refl
    (λ k d lt. sent_other events session (get_or sessions k d).number bytes (λ is. none (
    let len = length-map sessions (λ (s : SequentialSession). s.number) in
    subst (λ (n : ℕ). Contains (numbers_of sessions) n)
    (get_or-map (λ (s : SequentialSession). s.number) sessions k d 0 lt ∙ sym is)
    (Contains-get_or (numbers_of sessions) k 0 (omega (arith, len))))))

-- ---- a session that begins

-- what is of some sessions is of them and one more
among_more : (numbers : List ℕ) (n : ℕ) (h : List Answered) → AllByRecursion (IsAmong numbers) h
    → AllByRecursion (IsAmong (numbers ++ n ∷ [])) h
among_more numbers n [] all = tt
among_more numbers n (e ∷ h) all = (
  record { worker = all.0.worker; session = Contains-append_left numbers (n ∷ []) e.session all.0.session },
  among_more numbers n h all.1,
)

-- a session above the newest one has no share of the history
share_none : (h : List Answered) (numbers : List ℕ) (newest n : ℕ) → AllByRecursion (IsAmong numbers) h
    → All (λ (m : ℕ). m ≤ newest) numbers → newest < n → session_share h 0 n ≡ []
share_none [] numbers newest n all highest above = refl
share_none (e ∷ h) numbers newest n all highest above =
    let below : e.session ≤ newest = All-contains (λ (m : ℕ). m ≤ newest) numbers e.session highest all.0.session in
    rw (eq-eqb e.worker 0 all.0.worker, ne_eqb e.session n (omega arith))
    (share_none h numbers newest n all.1 highest above)

-- a new session is served, with no bytes
served_new : (s : SequentialSession) (n : ℕ) → IsNewSession n s → AreBytesServed [] [] s
served_new s n new = record {
  read = [];
  rest = [];
  bytes_are = refl;
  answered = record {
    messages = [];
    reads = reads_empty Strict;
    ended_is = sym new.not_ended;
    asked_is = refl;
    output_is = new.no_output;
  };
  unread_is = λ going. sym new.no_unread;
  no_more = λ going. (reads_empty Strict).1;
}

-- a session begins
pub run_opened : (setup : Setup) (events : List ScriptEvent) (n : ℕ) (now : Execution) (sessions : List SequentialSession)
    (s : SequentialSession)
    → HasRun setup events now sessions → MayFollow events (Open n)
    → IsNewSession n s → HasRun setup (events ++ Open n ∷ []) now (sessions ++ s ∷ [])
run_opened setup events n now sessions s run may new =
    let more = opened_open events n in
    let newest : newest_of (events ++ Open n ∷ []) ≡ n = newest_more events (Open n) in
    let same : (t : ℕ) → sent_bytes (events ++ Open n ∷ []) t ≡ sent_bytes events t =
    λ t. sent_more events (Open n) t ∙ append-nil (sent_bytes events t) in
    let none : session_share run.history 0 n ≡ [] =
    share_none run.history (sessions_opened events) (newest_of events) n run.among run.highest may in
    let no_bytes : sent_bytes (events ++ Open n ∷ []) n ≡ [] = same n ∙ (run.fresh n may).0 in
    let served : AreBytesServed (sent_bytes (events ++ Open n ∷ []) n) (session_share run.history 0 n) s =
    rw (no_bytes, none) (served_new s n new) in
    record {
      history = run.history;
      led = run.led;
      among = subst (λ (os : List ℕ). AllByRecursion (IsAmong os) run.history) (sym more)
          (among_more (sessions_opened events) n run.history run.among);
      numbers = map-append (λ (x : SequentialSession). x.number) sessions (s ∷ [])
          ∙ ap (λ (x : List ℕ). x ++ s.number ∷ []) run.numbers
          ∙ ap (λ (x : ℕ). sessions_opened events ++ x ∷ []) new.number_is ∙ sym more;
      rising = subst IsStrictlyIncreasing (sym more)
          (rising_more (sessions_opened events) n run.rising
          (λ k is. omega (arith, run.highest k 0 (omega arith))));
      highest = subst (λ (os : List ℕ). All (λ (m : ℕ). m ≤ newest_of (events ++ Open n ∷ [])) os) (sym more)
          (subst (λ (top : ℕ). All (λ (m : ℕ). m ≤ top) (sessions_opened events ++ n ∷ [])) (sym newest)
          (All-push (λ (m : ℕ). m ≤ n) (sessions_opened events) n
          (All-weaker (λ (m : ℕ). m ≤ newest_of events) (λ (m : ℕ). m ≤ n) (λ m le. omega arith)
          (sessions_opened events) run.highest) (omega arith)));
      fresh = fresh_more events (Open n) run.fresh may;
      each = All-push (λ (x : SequentialSession). AreBytesServed (sent_bytes (events ++ Open n ∷ []) x.number)
          (session_share run.history 0 x.number) x) sessions s
          (λ k d lt. let x = get_or sessions k d in
          subst (λ (b : List ℕ). AreBytesServed b (session_share run.history 0 x.number) x) (sym (same x.number))
          (run.each k d lt))
          (subst (λ (k : ℕ). AreBytesServed (sent_bytes (events ++ Open n ∷ []) k) (session_share run.history 0 k) s)
          (sym new.number_is) served);
    }

-- ---- a session that is fed

-- entries of one session are of the sessions that it is among
of_among : (session : ℕ) (numbers : List ℕ) (entries : List Answered) → Contains numbers session
    → AllByRecursion (IsOfSession session) entries → AllByRecursion (IsAmong numbers) entries
of_among session numbers [] there of = tt
of_among session numbers (e ∷ entries) there of = (
  record { worker = of.0.worker; session = subst (λ (n : ℕ). Contains numbers n) (sym of.0.session_is) there },
  of_among session numbers entries there of.1,
)

-- two lists of entries of some sessions, joined
among-append : (numbers : List ℕ) (a b : List Answered) → AllByRecursion (IsAmong numbers) a
    → AllByRecursion (IsAmong numbers) b
    → AllByRecursion (IsAmong numbers) (a ++ b)
among-append numbers [] b first second = second
among-append numbers (e ∷ a) b first second = (first.0, among-append numbers a b first.1 second)

-- a session in the place of one with its number leaves the numbers
numbers_set : (sessions : List SequentialSession) (at : ℕ) (old new : SequentialSession) → old ≡ get_or sessions at old
    → new.number ≡ old.number
    → numbers_of (set sessions at new) ≡ numbers_of sessions
numbers_set [] at old new old_is number_is = refl
numbers_set (x ∷ sessions) zero old new old_is number_is =
    ap (λ (n : ℕ). n ∷ numbers_of sessions) (number_is ∙ ap (λ (s : SequentialSession). s.number) old_is)
numbers_set (x ∷ sessions) (suc at) old new old_is number_is =
    ap (λ (ns : List ℕ). x.number ∷ ns) (numbers_set sessions at old new old_is number_is)

-- a session is fed
pub run_fed : (setup : Setup) (events : List ScriptEvent) (session : ℕ) (bytes : List ℕ) (now : Execution)
    (sessions : List SequentialSession) (at : ℕ) (after : Execution) (fed : List SequentialSession)
    → HasRun setup events now sessions → MayFollow events (Send session bytes) → at < length (numbers_of sessions)
    → get_or (numbers_of sessions) at 0 ≡ session
    → FeedsAt sessions at now bytes fed after → HasRun setup (events ++ Send session bytes ∷ []) after fed
run_fed setup events session bytes now sessions at after fed run may inside at_is feeding =
    let e = Send session bytes in
    let old = feeding.old in
    let new = feeding.new in
    let same = opened_same events e refl in
    let newest : newest_of (events ++ e ∷ []) ≡ newest_of events = newest_more events e in
    let len : length (numbers_of sessions) ≡ length sessions =
    length-map sessions (λ (s : SequentialSession). s.number) in
    let within : at < length sessions = omega (arith, len) in
    let old_number : old.number ≡ session = ap (λ (s : SequentialSession). s.number) feeding.old_is
    ∙ sym (get_or-map (λ (s : SequentialSession). s.number) sessions at old 0 within) ∙ at_is in
    let new_number : new.number ≡ session = feeding.feeds.number_stays ∙ old_number in
    let was : AreBytesServed (sent_bytes events old.number) (session_share run.history 0 old.number) old =
    subst (λ (s : SequentialSession). AreBytesServed (sent_bytes events s.number)
    (session_share run.history 0 s.number) s)
    (sym feeding.old_is) (run.each at old within) in
    let by = feeding.feeds.serves setup run.history (sent_bytes events old.number) run.led was in
    let on : HistoryGoesOn session run.history by.history =
    subst (λ (n : ℕ). HistoryGoesOn n run.history by.history) new_number by.goes_on in
    let there : Contains (sessions_opened events) session =
    subst (λ (ns : List ℕ). Contains ns session) run.numbers
    (subst (λ (n : ℕ). Contains (numbers_of sessions) n) at_is
    (Contains-get_or (numbers_of sessions) at 0 (omega (arith, len)))) in
    let among : AllByRecursion (IsAmong (sessions_opened events)) by.history =
    subst (λ (h : List Answered). AllByRecursion (IsAmong (sessions_opened events)) h) (sym on.longer)
    (among-append (sessions_opened events) run.history on.entries run.among
    (of_among session (sessions_opened events) on.entries there on.of_session)) in
    let bytes_are : sent_bytes events old.number ++ bytes ≡ sent_bytes (events ++ e ∷ []) new.number =
    ap (λ (n : ℕ). sent_bytes events n ++ bytes) old_number ∙ sym (sent_same events session bytes)
    ∙ ap (sent_bytes (events ++ e ∷ [])) (sym new_number) in
    let here : AreBytesServed (sent_bytes (events ++ e ∷ []) new.number) (session_share by.history 0 new.number) new =
    subst (λ (b : List ℕ). AreBytesServed b (session_share by.history 0 new.number) new) bytes_are by.served in
    let rising : IsStrictlyIncreasing (numbers_of sessions) = subst IsStrictlyIncreasing (sym run.numbers) run.rising in
    record {
      history = by.history;
      led = by.led;
      among = subst (λ (os : List ℕ). AllByRecursion (IsAmong os) by.history) (sym same) among;
      numbers = ap numbers_of feeding.after_is
          ∙ numbers_set sessions at old new feeding.old_is feeding.feeds.number_stays ∙ run.numbers ∙ sym same;
      rising = subst IsStrictlyIncreasing (sym same) run.rising;
      highest = subst (λ (os : List ℕ). All (λ (n : ℕ). n ≤ newest_of (events ++ e ∷ [])) os) (sym same)
          (subst (λ (m : ℕ). All (λ (n : ℕ). n ≤ m) (sessions_opened events)) (sym newest) run.highest);
      fresh = fresh_more events e run.fresh may;
      each = subst
          (λ (all : List SequentialSession). All
          (λ (s : SequentialSession). AreBytesServed (sent_bytes (events ++ e ∷ []) s.number)
          (session_share by.history 0 s.number) s) all) (sym feeding.after_is)
          (λ k d lt.
          elim (cases_eq k at) [
            | inl is ↦
                let x-is : get_or (set sessions at new) k d ≡ new = ap (λ (i : ℕ). get_or (set sessions at new) i d) is
                ∙ get_or-set_same sessions at new d within in
                subst (λ (s : SequentialSession). AreBytesServed (sent_bytes (events ++ e ∷ []) s.number)
                (session_share by.history 0 s.number) s) (sym x-is) here
            | inr other ↦
                let k_in : k < length sessions = omega (arith, length-set sessions at new) in
                let x = get_or sessions k d in
                let x-is : get_or (set sessions at new) k d ≡ x = get_or-set_other sessions at k new d other in
                let apart : session ≡ x.number → ⊥ = λ is.
                apart_at (numbers_of sessions) k at rising (omega (arith, len)) (omega (arith, len)) other
                (get_or-map (λ (s : SequentialSession). s.number) sessions k d 0 k_in ∙ sym is ∙ sym at_is) in
                subst (λ (s : SequentialSession). AreBytesServed (sent_bytes (events ++ e ∷ []) s.number)
                (session_share by.history 0 s.number) s) (sym x-is)
                (subst (λ (b : List ℕ). AreBytesServed b (session_share by.history 0 x.number) x)
                (sym (sent_other events session x.number bytes apart))
                (subst (λ (share : List Answered). AreBytesServed (sent_bytes events x.number) share x)
                (sym (share_goes_on session x.number run.history by.history on apart)) (run.each k d k_in)))
          ]);
    }

-- ---- the first and the last

-- before the first event nothing has run
pub run_none : (setup : Setup) (now : Execution) → now.sizes ≡ setup.sizes → now.cache ≡ empty_cache 0 → now.moment ≡ 0
    → ((n : ℕ) → answer_of now.clock n ≡ answer_of setup.clock n) → HasRun setup [] now []
run_none setup now sizes cache moment clock = record {
  history = [];
  led = record {
    sizes_are = sizes;
    reaches = record {
      caches = [];
      chain = tt;
      cache_is = sym cache;
      moments_are = tt;
      moment_is = sym moment;
      small = rw moment (omega arith);
      counts = tt;
      numbers = λ worker. tt;
    };
    timed = record { answers = refl; moments = refl };
    clock = λ n. clock n ∙ ap (answer_of setup.clock) (omega arith);
  };
  among = tt;
  numbers = refl;
  rising = λ k within. absurd (omega arith);
  highest = λ k d lt. absurd (omega arith);
  fresh = λ s above. (refl, refl);
  each = λ k d lt. absurd (omega arith);
}

-- what a session was served is what it is answered in the history
answered_in : (history : List Answered) (bytes : List ℕ) (s : SequentialSession)
    → AreBytesServed bytes (session_share history 0 s.number) s
    → IsAnsweredIn history bytes (output_of s)
answered_in history bytes s served =
    let a = served.answered in
    record {
      messages = a.messages;
      rest = served.rest;
      reads = reads_before Strict bytes served.read served.rest a.messages served.bytes_are a.reads
          (λ going. served.no_more (sym a.ended_is ∙ going));
      asked_all = a.asked_is;
      output_is = a.output_is;
    }

-- and so it is for each session
outputs_are : (history : List Answered) (events : List ScriptEvent) (sessions : List SequentialSession)
    → AllByRecursion (λ (s : SequentialSession). AreBytesServed (sent_bytes events s.number)
    (session_share history 0 s.number) s) sessions
    → AllByRecursion (λ (g : SessionOutput). IsAnsweredIn history (sent_bytes events g.session) g)
    (map output_of sessions)
outputs_are history events [] each = tt
outputs_are history events (s ∷ sessions) each =
    (answered_in history (sent_bytes events s.number) s each.0, outputs_are history events sessions each.1)

-- the outputs stand in the order of the sessions
sessions_are : (sessions : List SequentialSession)
    → map (λ (g : SessionOutput). g.session) (map output_of sessions) ≡ numbers_of sessions
sessions_are [] = refl
sessions_are (s ∷ sessions) = ap (λ (ns : List ℕ). s.number ∷ ns) (sessions_are sessions)

-- what has run is a replay
pub replay_is : (setup : Setup) (events : List ScriptEvent) (now : Execution) (sessions : List SequentialSession)
    → HasRun setup events now sessions → IsReplay setup.sizes setup.clock events (map output_of sessions)
replay_is setup events now sessions run = record {
  history = run.history;
  legal = legal_of setup.sizes run.history now.cache now.moment run.led.reaches;
  among = run.among;
  timed = run.led.timed;
  sessions = sessions_are sessions ∙ run.numbers;
  each = All-from_recursion (λ (g : SessionOutput). IsAnsweredIn run.history (sent_bytes events g.session) g)
      (map output_of sessions)
      (outputs_are run.history events sessions
      (recursion_from_All (λ (s : SequentialSession). AreBytesServed (sent_bytes events s.number)
      (session_share run.history 0 s.number) s) sessions run.each));
}
