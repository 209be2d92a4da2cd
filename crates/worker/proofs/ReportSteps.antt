-- What a worker that has drained reports.
use Rattle.std.proofs.Common.{◌≡◌, ◌≢◌, ◌⊎◌, inl, inr, ⊎_elim, ℕ, zero, suc, ◌<◌, ◌==◌, ◌&&◌, Bool, true, false}
use Rattle.std.proofs.Common.{true≢false, cond, eq-eqb, nat_lt, lt-ltb, List, [], ◌∷◌, ◌++◌, length, map, refl}
use Rattle.std.proofs.Common.{sym, ap, subst, ◌∙◌, append-nil, arith, Option, Some, None, is_some}
use Rattle.std.specs.Prelude.{IsSome, slice_index_or}
use Rattle.std.specs.List.{filter, list_any, last_or}
use Rattle.proto.specs.declared.dialect.Dialect.{Dialect}
use Rattle.proto.specs.declared.message.Request.{Request}
use Rattle.proto.specs.declared.message.Reply.{Reply}
use Rattle.proto.specs.declared.message.FatalKind.{FatalKind}
use Rattle.proto.specs.declared.message.Message.{Message}
use Rattle.proto.specs.declared.message.Message.TheVariants.{Ask, Local, Quit, Fatal}
use Rattle.proto.specs.declared.history.Posted.{Posted}
use Rattle.proto.specs.declared.history.Answered.{Answered}
use Rattle.proto.specs.History.{worker_share, session_share, asked_posted, asked, had}
use Rattle.proto.specs.Grammar.{SpellsNone}
use Rattle.proto.specs.Reading.{Reads, asks, ends_session}
use Rattle.proto.specs.Answers.{said}
use Rattle.exchange.specs.Beginnings.{StartsWith, posted_of}
use Rattle.exchange.specs.Ends.{WorkerView}
use Rattle.session_book.specs.declared.causes.EndCause.{EndCause}
use Rattle.session_book.specs.declared.causes.EndCause.TheVariants as causes
use Rattle.session_book.specs.Session.{SessionState, messages_left, ended_by, ending_of, finished_by, IsEmptied, Stops}
use Rattle.session_book.specs.Session.{ended, waiting, no_message}
use Rattle.session_book.specs.Book.{session_of, held_of}
use Rattle.session_book.proofs.Reading.{has_ended_by, none_ends}
use Rattle.worker_port.specs.Ports.{fed, given}
use Rattle.worker.specs.Sessions.{SessionFacts, RunView, facts, asked_by, had_by, cause_of, IsKnownAs, IsReportedAs, IsClosed, IsRunning, IsSessionServed}
use Rattle.worker.specs.Sessions.{BeginsWith}
use Rattle.worker.specs.Workers.{IsTraceKnown}
use Rattle.worker.specs.Reports.{IsReported, IsCauseOf}
use Rattle.worker.proofs.EndCauseLemmas.{rises_strictly}
use Rattle.worker.proofs.Answering.{said_further, begins_on}
use Rattle.worker.proofs.Readings.{same_reading, first_of_reading}
use Rattle.worker.proofs.SessionSteps.{not_both, opened_if_placed}
use Rattle.proto.proofs.AskLemmas.{asks-append}

-- ---- the share of a session

-- of one more entry, testing worker and session at once picks what testing the worker first and
-- then the session picks
by_worker : (b c : Bool) (e : Answered) (ss fs : List Answered) (s : ℕ) (ws : List Answered)
    → ss ≡ filter (λ (e : Answered). e.session == s) ws
    → cond (b && (e.session == s)) (e ∷ ss) ss ≡ filter (λ (e : Answered). e.session == s) (cond b (e ∷ ws) ws)
by_worker true c e ss fs s ws h = ap (λ (x : List Answered). cond (e.session == s) (e ∷ x) x) h
by_worker false c e ss fs s ws h = h

-- a session's share of a history is what its worker's share has of the session
pub share_of : (history : List Answered) (w s : ℕ)
    → session_share history w s ≡ filter (λ (e : Answered). e.session == s) (worker_share history w)
share_of [] w s = refl
share_of (e ∷ history) w s = by_worker (e.worker == w) true e (session_share history w s) [] s (worker_share history w)
    (share_of history w s)

-- one more entry, taken on both sides or on neither, leaves the requests answered the same as those
-- posted
asked_if : (c : Bool) (e : Answered) (l : List Answered) (m : List Posted)
    → map (λ (x : Answered). x.request) l ≡ map (λ (p : Posted). p.request) m
    → map (λ (x : Answered). x.request) (cond c (e ∷ l) l)
    ≡ map (λ (p : Posted). p.request) (cond c (posted_of e ∷ m) m)
asked_if true e l m h = ap (λ (x : List Request). e.request ∷ x) h
asked_if false e l m h = h

-- the requests of a session, from those that were posted
pub asked_from : (l : List Answered) (s : ℕ)
    → asked (filter (λ (e : Answered). e.session == s) l) ≡ asked_by (asked_posted l) s
asked_from [] s = refl
asked_from (e ∷ l) s = asked_if (e.session == s) e (filter (λ (x : Answered). x.session == s) l)
    (filter (λ (p : Posted). p.session == s) (asked_posted l)) (asked_from l s)

-- answered requests have as many requests as replies
same_count : (l : List Answered) → length (map (λ (e : Answered). e.request) l)
    ≡ length (map (λ (e : Answered). e.reply) l)
same_count [] = refl
same_count (e ∷ l) = let h = same_count l in omega arith

-- where each posted request came back, a session has as many replies as requests
pub as_many : (back : List Answered) (numbered : List Posted) (s : ℕ) → asked_posted back ≡ numbered
    → length (asked_by numbered s) ≡ length (had_by back s)
as_many back numbered s e = ap (λ (p : List Posted). length (asked_by p s)) (sym e)
    ∙ ap (length {A = Request}) (sym (asked_from back s))
    ∙ same_count (filter (λ (x : Answered). x.session == s) back)

-- ---- the messages

-- where no request is left without its reply, no message is left
left_none : (ms : List Message) (rs : List Reply) → length (asks (messages_left ms rs)) ≡ 0 → messages_left ms rs ≡ []
left_none [] rs e = refl
left_none (Ask q quiet ∷ ms) [] e = absurd (omega arith)
left_none (Ask q quiet ∷ ms) (r ∷ rs) e = left_none ms rs e
left_none (Local kind ∷ ms) rs e = left_none ms rs e
left_none (Quit ∷ ms) rs e = left_none ms rs e
left_none (Fatal kind ∷ ms) rs e = left_none ms rs e

-- where something has ended the session a message does
ended_true : (ms : List Message) (c : EndCause) → ended_by None ms ≡ Some c → list_any ends_session ms ≡ true
ended_true ms c e = sym (has_ended_by ms) ∙ ap is_some e

-- a message that doesn't end the session leaves to the others what has
ended_behind : (m : Message) (ms : List Message) → ends_session m ≡ false → ended_by None (m ∷ ms) ≡ ended_by None ms
ended_behind (Ask q quiet) ms e = refl
ended_behind (Local kind) ms e = refl
ended_behind Quit ms e = absurd cc
ended_behind (Fatal kind) ms e = absurd cc

-- what has ended a session whose bytes are read is its last message
by_last : (d : Dialect) (b : List ℕ) (o : Option Message) (ms : List Message) (c : EndCause) → Reads d b ms []
    → ended_by None ms ≡ Some c → (m : Message) × (last_or o ms ≡ Some m) × (ended_by None (m ∷ []) ≡ Some c)
by_last d b o [] c r e = absurd cc
by_last d b o (m ∷ ms) c (p, behind, split, spells, inl r) e = (
  m,
  ap (last_or (Some m)) r.1,
  subst (λ (ns : List Message). ended_by None (m ∷ ns) ≡ Some c) r.1 e,
)
by_last d b o (m ∷ ms) c (p, behind, split, spells, inr r) e =
    by_last d behind (Some m) ms c r.1 (sym (ended_behind m ms r.0) ∙ e)

-- the message by which a session ends with Quit
is_quit : (m : Message) → ended_by None (m ∷ []) ≡ Some causes.Quit → m ≡ Quit
is_quit (Ask q quiet) e = absurd cc
is_quit (Local kind) e = absurd cc
is_quit Quit e = refl
is_quit (Fatal kind) e = absurd cc

-- and one by which it ends with Fatal
is_fatal : (m : Message) → ended_by None (m ∷ []) ≡ Some causes.Fatal → (kind : FatalKind) × (m ≡ Fatal kind)
is_fatal (Ask q quiet) e = absurd cc
is_fatal (Local kind) e = absurd cc
is_fatal Quit e = absurd cc
is_fatal (Fatal kind) e = (kind, refl)

-- ---- one session

-- a session's requests are the first of its messages', and the bytes given are a beginning of their
-- answers; both are complete but where it has gone or memory was refused; and the cause is one of
-- it
record IsFinal (v : RunView) (s : ℕ) (cause : EndCause) (messages : List Message) : Type 0 where
  first : StartsWith (asks messages) (asked_by v.numbered s)
  beginning : StartsWith (said messages (had_by v.back s)) (given s v.events)
  complete : cause ≢ causes.Gone → cause ≢ causes.NoMemory → cause ≢ causes.Stalled → (asked_by v.numbered s ≡ asks messages)
      × (given s v.events ≡ said messages (had_by v.back s))
  caused : IsCauseOf v.dialect v.events s messages cause

-- where all of the messages were read, asked and answered
final_whole : (v : RunView) (s : ℕ) (cause : EndCause) (messages read : List Message) → messages ≡ read
    → asked_by v.numbered s ≡ asks read
    → given s v.events ≡ said read (had_by v.back s) → IsCauseOf v.dialect v.events s read cause → IsFinal v s cause messages
final_whole v s cause messages read same asked_is given_is caused =
    let a : asked_by v.numbered s ≡ asks messages = asked_is ∙ ap asks (sym same) in
    let b : given s v.events ≡ said messages (had_by v.back s) =
    given_is ∙ ap (λ (ms : List Message). said ms (had_by v.back s)) (sym same) in record {
      first = ([], sym a ∙ sym (append-nil (asked_by v.numbered s)));
      beginning = ([], sym b ∙ sym (append-nil (given s v.events)));
      complete = λ not_gone enough was_read. (a, b);
      caused = subst (λ (ms : List Message). IsCauseOf v.dialect v.events s ms cause) (sym same) caused;
    }

-- where only the first were
final_begun : (v : RunView) (s : ℕ) (cause : EndCause) (messages read more : List Message) → messages ≡ read ++ more
    → asked_by v.numbered s ≡ asks read → StartsWith (said read (had_by v.back s)) (given s v.events)
    → (cause ≡ causes.Gone) ⊎ (cause ≡ causes.NoMemory) ⊎ (cause ≡ causes.Stalled)
    → IsCauseOf v.dialect v.events s messages cause → IsFinal v s cause messages
final_begun v s cause messages read more split asked_is said_is partial caused =
    let on : StartsWith (said messages (had_by v.back s)) (said read (had_by v.back s)) = subst
    (λ (ms : List Message). StartsWith (said ms (had_by v.back s)) (said read (had_by v.back s))) (sym split)
    (said_further read more (had_by v.back s)) in record {
      first = (
        asks more,
        ap asks split ∙ asks-append read more
            ∙ ap (λ (x : List Request). x ++ asks more) (sym asked_is),
      );
      beginning = begins_on (given s v.events) (said read (had_by v.back s))
          (said messages (had_by v.back s)) said_is on;
      complete = λ not_gone enough was_read.
          absurd (⊎_elim (λ is. not_gone is) (λ r. ⊎_elim (λ is. enough is) (λ is. was_read is) r) partial);
      caused = caused;
    }

-- a closed session that a message has ended has read all messages that its bytes spell
whole_read : (v : RunView) (s : ℕ) (c : EndCause) (messages : List Message) (rest : List ℕ) (h : IsClosed (facts v s) c)
    → Reads v.dialect (fed s v.events) messages rest → ended_by None h.messages ≡ Some c → messages ≡ h.messages
whole_read v s c messages rest h reads e =
    same_reading v.dialect (fed s v.events) h.rest rest h.messages messages h.read
    (λ goes_on. absurd (true≢false (sym (ended_true h.messages c e) ∙ goes_on))) reads

-- a closed session is final with its cause, whatever messages its bytes spell
final_closed : (v : RunView) (s : ℕ) (c : EndCause) (messages : List Message) (rest : List ℕ) → IsClosed (facts v s) c
    → Reads v.dialect (fed s v.events) messages rest → IsFinal v s c messages
final_closed v s causes.Drained messages rest h reads = absurd h.caused
final_closed v s causes.EndOfInput messages rest h reads = let w = h.caused in
    final_whole v s causes.EndOfInput messages h.messages (same_reading v.dialect (fed s v.events) h.rest rest h.messages messages
    h.read (λ goes_on. w.none) reads) h.asked w.whole.0 (w.input_ended, w.shut, none_ends h.messages w.whole.2)
final_closed v s causes.Quit messages rest h reads = let w = h.caused.1 in
    let last = by_last v.dialect h.read.read None h.messages causes.Quit h.read.reads w.2 in
    final_whole v s causes.Quit messages h.messages (whole_read v s causes.Quit messages rest h reads w.2) h.asked w.0
    (h.caused.0, last.1 ∙ ap Some (is_quit last.0 last.2))
final_closed v s causes.Fatal messages rest h reads = let w = h.caused.1 in
    let last = by_last v.dialect h.read.read None h.messages causes.Fatal h.read.reads w.2 in
    let fatal = is_fatal last.0 last.2 in
    final_whole v s causes.Fatal messages h.messages (whole_read v s causes.Fatal messages rest h reads w.2) h.asked w.0
    (h.caused.0, fatal.0, last.1 ∙ ap Some fatal.1)
final_closed v s causes.Gone messages rest h reads = let m =
    first_of_reading v.dialect (fed s v.events) h.rest rest h.messages messages h.read reads in
    final_begun v s causes.Gone messages h.messages m.0 m.1 h.asked h.said (inl refl) h.caused
final_closed v s causes.NoMemory messages rest h reads = let m =
    first_of_reading v.dialect (fed s v.events) h.rest rest h.messages messages h.read reads in
    final_begun v s causes.NoMemory messages h.messages m.0 m.1 h.asked h.said (inr (inl refl)) h.caused
final_closed v s causes.Stalled messages rest h reads = let m =
    first_of_reading v.dialect (fed s v.events) h.rest rest h.messages messages h.read reads in
    final_begun v s causes.Stalled messages h.messages m.0 m.1 h.asked h.said (inr (inr refl)) h.caused

-- a session that is still open has read all that spells a message
ended_none : (s : SessionState) → s.queue ≡ [] → s.out ≡ [] → finished_by s ≡ None → s.ended ≡ None
ended_none s q o e = none_first s.ended _ (sym (λ i. cond ((length (q i) == 0) && (length (o i) == 0)) (ending_of s) None) ∙ e)
  where
    none_first : (o x : Option EndCause) → cond (is_some o) o x ≡ None → o ≡ None
    none_first None x e = refl
    none_first (Some c) x e = absurd cc

-- nor has its input ended
input_not_ended : (s : SessionState) → s.queue ≡ [] → IsEmptied s → s.ended ≡ None → s.input_ended ≡ false
input_not_ended s q h none =
    let short : nat_lt (length s.unread) s.need ≡ true = lt-ltb (length s.unread) s.need (too_short s h.out none h.stops) in
    untaken s.input_ended (sym (λ i. cond ((length (q i) == 0) && (length (h.out i) == 0))
    (cond (is_some (none i)) (none i) (cond (s.input_ended && (length (h.held i) == 0) && short i) (Some causes.EndOfInput) None)) None)
    ∙ h.unfinished)
  where
    too_short : (s : SessionState) → s.out ≡ [] → s.ended ≡ None → Stops s → length s.unread < s.need
    too_short s o e (ended h) = absurd (true≢false (sym h ∙ ap is_some e))
    too_short s o e (waiting h) = let len : length s.out ≡ 0 = ap (length {A = ℕ}) o in absurd (omega arith)
    too_short s o e (no_message h none) = h

    untaken : (b : Bool) → cond (b && true && true) (Some causes.EndOfInput) None ≡ None → b ≡ false
    untaken true e = absurd cc
    untaken false e = refl

-- once a session that hasn't ended and has no output reads no further, no beginning of its unread
-- bytes spells a message
no_more : (s : SessionState) → s.out ≡ [] → s.ended ≡ None → Stops s → SpellsNone s.dialect s.unread
no_more s o e (ended h) = absurd (true≢false (sym h ∙ ap is_some e))
no_more s o e (waiting h) = let len : length s.out ≡ 0 = ap (length {A = ℕ}) o in absurd (omega arith)
no_more s o e (no_message h none) = none

-- a running session that is emptied, and has as many replies as requests, is final with the cause
-- Drained
final_drained : (v : RunView) (s : ℕ) (messages : List Message) (rest : List ℕ) → (run : IsRunning (facts v s))
    → v.piece s ≡ held_of (session_of v.book s) → IsEmptied run.s
    → length (asked_by v.numbered s) ≡ length (had_by v.back s) → Reads v.dialect (fed s v.events) messages rest
    → IsFinal v s causes.Drained messages
final_drained v s messages rest run held emptied many reads =
    let st = run.s in
    let none : v.piece s ≡ [] = held ∙ ap held_of run.state ∙ emptied.held in
    let r : IsSessionServed [] (facts v s) st = subst (λ q. IsSessionServed q (facts v s) st) none run.served in
    let asked_len : length (asked_by v.numbered s) ≡ length (asks r.messages) = ap (length {A = Request}) r.asked in
    let no_asks : length (asks st.queue) ≡ 0 = omega (arith, r.has_said.replied, many, asked_len) in
    let queue : st.queue ≡ [] = r.has_said.queue ∙ left_none r.messages (had_by v.back s)
    (ap (λ (ms : List Message). length (asks ms)) (sym r.has_said.queue) ∙ no_asks) in
    let ends = ended_none st queue emptied.out emptied.unfinished in
    let spelled_none : SpellsNone v.dialect st.unread =
    rw r.has_read.dialect at (no_more st emptied.out ends emptied.stops) in
    let begun : BeginsWith v.dialect (fed s v.events) r.messages st.unread = record {
      read = r.has_read.read;
      whole = r.fed ∙ append-nil r.bytes ∙ r.has_read.whole
          ∙ ap (λ (x : List ℕ). (r.has_read.read ++ st.unread) ++ x)
          (r.has_read.nothing_dropped ends) ∙ append-nil (r.has_read.read ++ st.unread);
      reads = r.has_read.reads;
    } in
    let same = same_reading v.dialect (fed s v.events) st.unread rest r.messages messages begun (λ e. spelled_none) reads in
    final_whole v s causes.Drained messages r.messages same r.asked
    (sym (append-nil (given s v.events)) ∙ ap (λ (x : List ℕ). given s v.events ++ x) (sym emptied.out)
    ∙ r.has_said.whole)
    (sym r.input_ended ∙ input_not_ended st queue emptied ends, run.gone, run.shut, none_ends r.messages (sym r.has_read.ended ∙ ends))

-- a session with an entry in the report is final, where it has as many replies as requests and, if
-- it is still open, is emptied
final_placed : (v : RunView) (s : ℕ) (c : EndCause) (messages : List Message) (rest : List ℕ)
    → IsReportedAs (facts v s) (Some c)
    → v.piece s ≡ held_of (session_of v.book s)
    → (c ≡ causes.Drained → (st : SessionState) → session_of v.book s ≡ Some st → IsEmptied st)
    → length (asked_by v.numbered s) ≡ length (had_by v.back s) → Reads v.dialect (fed s v.events) messages rest
    → IsFinal v s c messages
final_placed v s causes.Drained messages rest h none emptied many reads =
    final_drained v s messages rest h none (emptied refl h.s h.state) many reads
final_placed v s causes.EndOfInput messages rest h none emptied many reads =
    final_closed v s causes.EndOfInput messages rest h reads
final_placed v s causes.Quit messages rest h none emptied many reads =
    final_closed v s causes.Quit messages rest h reads
final_placed v s causes.Fatal messages rest h none emptied many reads =
    final_closed v s causes.Fatal messages rest h reads
final_placed v s causes.Gone messages rest h none emptied many reads =
    final_closed v s causes.Gone messages rest h reads
final_placed v s causes.NoMemory messages rest h none emptied many reads =
    final_closed v s causes.NoMemory messages rest h reads
final_placed v s causes.Stalled messages rest h none emptied many reads =
    final_closed v s causes.Stalled messages rest h reads

-- a session at whose entry in the report a cause stands is running or closed, as that cause says
placed_as : (f : SessionFacts) (c : EndCause) (o : Bool) (k : Option EndCause) → IsKnownAs o k f → k ≡ Some c
    → IsReportedAs f (Some c)
placed_as f c false k h e = absurd (not_both k c h.1 e)
placed_as f c true k h e = subst (λ x. IsReportedAs f x) e h

-- ---- sessions that aren't in the report

-- for a session that isn't in the report no bytes were accepted and no request was asked
unplaced_given : (f : SessionFacts) (o : Bool) (k : Option EndCause) → IsKnownAs o k f → k ≡ None
    → (f.port.given ≡ []) × (f.asked ≡ [])
unplaced_given f false k h e = (h.0.given, h.0.asked)
unplaced_given f true k h e = let u = subst (λ x. IsReportedAs f x) e h in (u.given, u.asked)

-- something was asked for a session of which a request stands among those posted
asked_some : (before after : List Posted) (p : Posted) → asked_by (before ++ p ∷ after) p.session ≡ [] → ⊥
asked_some [] after p e = let bad : p.request ∷ asked_by after p.session ≡ [] = sym
    (ap (λ b. map (λ (x : Posted). x.request) (cond b (p ∷ filter (λ (x : Posted). x.session == p.session) after)
    (filter (λ (x : Posted). x.session == p.session) after))) (eq-eqb p.session p.session refl)) ∙ e in absurd (cc)
asked_some (x ∷ before) after p e = asked_some before after p
    (behind_none (x.session == p.session) x (before ++ p ∷ after) p.session e)
  where
    behind_none : (b : Bool) (x : Posted) (l : List Posted) (t : ℕ)
        → map (λ (y : Posted). y.request)
        (cond b (x ∷ filter (λ (y : Posted). y.session == t) l) (filter (λ (y : Posted). y.session == t) l)) ≡ []
        → asked_by l t ≡ []
    behind_none true x l t e = absurd (cc)
    behind_none false x l t e = e

-- an opened one was shut
unplaced_shut : (f : SessionFacts) (o : Bool) (k : Option EndCause) → IsKnownAs o k f → o ≡ true → k ≡ None
    → f.port.shut ≡ true
unplaced_shut f false k h o e = absurd (true≢false (sym o))
unplaced_shut f true k h o e = let u = subst (λ x. IsReportedAs f x) e h in u.shut

-- of a cause that is there it can be said which one it is
there_is : (k : Option EndCause) → IsSome k → (c : EndCause) × (k ≡ Some c)
there_is None h = absurd (true≢false (sym h))
there_is (Some c) h = (c, refl)

-- a cause that can't be missing is there
is_there : (k : Option EndCause) → (k ≡ None → ⊥) → IsSome k
is_there None h = absurd (h refl)
is_there (Some c) h = refl

-- ---- the report

-- a list at one of its elements
split_at : {A : Type 0} (xs : List A) (k : ℕ) (d : A) → k < length xs
    → (before : List A) × (after : List A) × (xs ≡ before ++ slice_index_or xs k d ∷ after)
split_at [] k d low = absurd (omega arith)
split_at (y ∷ xs) zero d low = ([], xs, refl)
split_at (y ∷ xs) (suc k) d low = let t = split_at xs k d (omega arith) in (y ∷ t.0, t.1, λ i. y ∷ t.2 i)

-- the report is right where the port has ended and all is known, each request came back, and each
-- session that is still open is emptied
pub reported : (v : RunView) (end : WorkerView) (unopened : ℕ) → IsTraceKnown v unopened true → v.numbered ≡ end.sent
    → v.back ≡ end.back
    → asked_posted end.back ≡ end.sent → ((s : ℕ) → v.piece s ≡ held_of (session_of v.book s))
    → ((s : ℕ) → cause_of v.sessions s ≡ Some causes.Drained → (st : SessionState) → session_of v.book s ≡ Some st
    → IsEmptied st)
    → IsReported v.dialect v.events end v.sessions unopened
reported v end unopened h numbered back all none emptied = record {
  listed = record {
    ended = h.at_end;
    once = rises_strictly 0 v.sessions h.rising;
    opened = λ s e. let c = there_is (cause_of v.sessions s) e in opened_if_placed (facts v s) c.0 (h.each s) c.1;
    refused = λ s o e. unplaced_shut (facts v s) (facts v s).port.opened (facts v s).cause (h.each s).known o e;
    counted = h.counted;
    accepts = h.accepts;
    no_stranger = λ s e. (unplaced_given (facts v s) (facts v s).port.opened (facts v s).cause (h.each s).known e).0;
    placed = λ k d low.
        let p = slice_index_or end.sent k d in let t = split_at end.sent k d low in
        is_there (cause_of v.sessions p.session)
        (λ e. asked_some t.0 t.1 p (ap (λ (l : List Posted). asked_by l p.session) (sym t.2 ∙ sym numbered)
        ∙ (unplaced_given (facts v p.session) (facts v p.session).port.opened (facts v p.session).cause
        (h.each p.session).known e).1));
  };
  answered = λ history share asks_all s c messages rest e reads.
      let many : length (asked_by v.numbered s) ≡ length (had_by v.back s) =
      as_many v.back v.numbered s (ap asked_posted back ∙ all ∙ sym numbered) in
      let placed = placed_as (facts v s) c (facts v s).port.opened (facts v s).cause (h.each s).known e in
      let k = final_placed v s c messages rest placed (none s) (λ d. emptied s (e ∙ ap Some d)) many reads in
      let qa : asked (session_share history end.worker s) ≡ asked_by v.numbered s =
      ap asked (share_of history end.worker s)
      ∙ asked_from (worker_share history end.worker) s
      ∙ ap (λ (l : List Posted). asked_by l s) (asks_all ∙ sym numbered) in
      let qh : had (session_share history end.worker s) ≡ had_by v.back s = ap had (share_of history end.worker s)
      ∙ ap (λ (l : List Answered). had_by l s) (share ∙ sym back) in record {
        answers = record {
          first = subst (λ x. StartsWith (asks messages) x) (sym qa) k.first;
          begins = subst (λ x. StartsWith (said messages x) (given s v.events)) (sym qh) k.beginning;
        };
        complete = λ not_gone enough was_read. let w = k.complete not_gone enough was_read in (qa ∙ w.0, w.1 ∙ ap (said messages) (sym qh));
        caused = k.caused;
      };
}
