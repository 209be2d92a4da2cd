-- What each step leaves of what is known of its session.
use Rattle.std.proofs.Common.{◌≡◌, ℕ, ◌<◌, ◌⊎◌, inl, inr, Bool, true, false, cond, true≢false}
use Rattle.std.proofs.Common.{List, [], ◌∷◌, ◌++◌, length, take, refl, sym, ap, subst, ◌∙◌}
use Rattle.std.proofs.Common.{append_assoc, append-nil, arith, Option, Some, None, is_some}
use Rattle.std.proofs.lemmas.List.{length-append}
use Rattle.proto.specs.declared.dialect.Dialect.{Dialect}
use Rattle.proto.specs.Lines.{IsLenient}
use Rattle.proto.specs.declared.message.Request.{Request}
use Rattle.proto.specs.declared.message.Reply.{Reply}
use Rattle.proto.specs.declared.message.Message.{Message}
use Rattle.proto.specs.declared.message.Message.TheVariants.{Ask, Local, Quit, Fatal}
use Rattle.proto.specs.Grammar.{SpellsNone}
use Rattle.proto.specs.Reading.{asks}
use Rattle.proto.specs.Answers.{said}
use Rattle.exchange.specs.Beginnings.{StartsWith}
use Rattle.session_book.specs.declared.causes.EndCause.{EndCause}
use Rattle.session_book.specs.declared.causes.EndCause.TheVariants as causes
use Rattle.session_book.specs.Session.{SessionState, ended_by, new_session, once_fed, once_input_ended, holding, ReadsMessages}
use Rattle.session_book.specs.Session.{with_reply, gave}
use Rattle.session_book.specs.Accounts.{HasRead, HasSaid}
use Rattle.worker.specs.Sessions.{SessionFacts, IsUntouched, IsUnopened, IsSessionServed, IsRunning, BeginsWith, IsWhole, IsCaused, IsClosed, IsReportedAs}
use Rattle.worker.specs.Sessions.{IsKnownAs, AreFactsConsistent}
use Rattle.worker.proofs.Answering.{said_more, said_all, begins_on}
use Rattle.session_book.proofs.AccountLaws.{starts_accounts, read_keeps, settle_keeps}
use Rattle.worker.proofs.BookLaws.{feed_keeps, give_keeps}
use Rattle.proto.proofs.AskLemmas.{asks-append}

-- nothing is both there and missing
pub not_both : {A : Type 0} (o : Option A) (x : A) → o ≡ None → o ≡ Some x → ⊥
not_both o x none some = true≢false (sym (ap is_some some) ∙ ap is_some none)

-- ---- a session that is open in the book is running

-- the session was opened, stands in the report with Drained, and is open at the port and in the
-- book
pub record Runs (f : SessionFacts) : Type 0 where
  pub opened : f.port.opened ≡ true
  pub cause : f.cause ≡ Some causes.Drained
  pub running : IsRunning f

-- a session with a state in the book was opened, has the cause Drained and is running
runs_as : (f : SessionFacts) (s : SessionState) (o : Bool) (c : Option EndCause) → IsKnownAs o c f → f.state ≡ Some s
    → (o ≡ true) × (c ≡ Some causes.Drained) × IsRunning f
runs_as f s false c h e = absurd (not_both f.state s h.0.state e)
runs_as f s true None h e = absurd (not_both f.state s h.state e)
runs_as f s true (Some causes.Drained) h e = (refl, refl, h)
runs_as f s true (Some causes.EndOfInput) h e = absurd (not_both f.state s h.state e)
runs_as f s true (Some causes.Quit) h e = absurd (not_both f.state s h.state e)
runs_as f s true (Some causes.Fatal) h e = absurd (not_both f.state s h.state e)
runs_as f s true (Some causes.Gone) h e = absurd (not_both f.state s h.state e)
runs_as f s true (Some causes.NoMemory) h e = absurd (not_both f.state s h.state e)
runs_as f s true (Some causes.Stalled) h e = absurd (not_both f.state s h.state e)

-- a session that is open in the book runs, where its facts are consistent
pub runs : (f : SessionFacts) (s : SessionState) → AreFactsConsistent f → f.state ≡ Some s → Runs f
runs f s h e = let r = runs_as f s f.port.opened f.cause h.known e in
    record { opened = r.0; cause = r.1; running = r.2 }

-- the same of a session that the port's list has open
runs_from : (f : SessionFacts) (o : Bool) (c : Option EndCause) → IsKnownAs o c f → o ≡ true → f.port.gone ≡ false
    → f.port.shut ≡ false
    → (c ≡ Some causes.Drained) × IsRunning f
runs_from f false c h o g s = absurd (true≢false (sym o))
runs_from f true None h o g s = absurd (true≢false (sym h.shut ∙ s))
runs_from f true (Some causes.Drained) h o g s = (refl, h)
runs_from f true (Some causes.EndOfInput) h o g s = absurd (true≢false (sym h.caused.shut ∙ s))
runs_from f true (Some causes.Quit) h o g s = absurd (true≢false (sym h.caused.0 ∙ s))
runs_from f true (Some causes.Fatal) h o g s = absurd (true≢false (sym h.caused.0 ∙ s))
runs_from f true (Some causes.Gone) h o g s = absurd (true≢false (sym h.caused ∙ g))
runs_from f true (Some causes.NoMemory) h o g s = absurd (true≢false (sym h.caused ∙ s))
runs_from f true (Some causes.Stalled) h o g s = absurd (true≢false (sym h.caused.0 ∙ s))

-- a session that the port's list has opened, and neither gone nor shut, runs, where its facts are
-- consistent
pub runs_at_port : (f : SessionFacts) → AreFactsConsistent f → f.port.opened ≡ true → f.port.gone ≡ false
    → f.port.shut ≡ false → Runs f
runs_at_port f h o g s = let r = runs_from f f.port.opened f.cause h.known o g s in
    record { opened = o; cause = r.0; running = r.1 }

-- a session that was never opened
untouched_as : (f : SessionFacts) (o : Bool) (c : Option EndCause) → IsKnownAs o c f → o ≡ false
    → IsUntouched f × (c ≡ None)
untouched_as f false c h e = h
untouched_as f true c h e = absurd (true≢false e)

-- of a session that was never opened nothing came, nothing was done for it, and it isn't in the
-- report
pub untouched : (f : SessionFacts) → AreFactsConsistent f → f.port.opened ≡ false → IsUntouched f × (f.cause ≡ None)
untouched f h e = untouched_as f f.port.opened f.cause h.known e

-- the facts of a running session are consistent where it was opened and has the cause Drained
pub is_running : (f : SessionFacts) → f.port.opened ≡ true → f.cause ≡ Some causes.Drained → IsRunning f
    → AreFactsConsistent f
is_running f o c h = record {
  known = subst (λ b. IsKnownAs b f.cause f) (sym o)
      (subst (λ k. IsReportedAs f k) (sym c) h);
}

-- a session that runs on in this state, of which by now other things may have come, been asked, had
-- and given
pub runs_on : (f g : SessionFacts) (s : SessionState) (held : List ℕ) → Runs f → g.port.opened ≡ f.port.opened
    → g.port.gone ≡ f.port.gone → g.port.shut ≡ f.port.shut → g.cause ≡ f.cause → IsSessionServed held g s
    → AreFactsConsistent (record g { state = Some s; piece = held })
runs_on f g s held r opened gone shut cause served =
    is_running (record g { state = Some s; piece = held }) (opened ∙ r.opened) (cause ∙ r.cause)
    (record {
      gone = gone ∙ r.running.gone;
      shut = shut ∙ r.running.shut;
      s = s;
      state = refl;
      served = record {
        bytes = served.bytes;
        messages = served.messages;
        fed = served.fed;
        has_read = served.has_read;
        has_said = served.has_said;
        asked = served.asked;
        input_ended = served.input_ended;
      };
    })

-- a closed session is as its cause in the report says
placed_closed : (f : SessionFacts) (c : EndCause) → IsClosed f c → IsReportedAs f (Some c)
placed_closed f causes.Drained h = absurd h.caused
placed_closed f causes.EndOfInput h = h
placed_closed f causes.Quit h = h
placed_closed f causes.Fatal h = h
placed_closed f causes.Gone h = h
placed_closed f causes.NoMemory h = h
placed_closed f causes.Stalled h = h

-- the facts of a closed session are consistent where it was opened and has its cause in the report
pub is_closed : (f : SessionFacts) (c : EndCause) → f.port.opened ≡ true → f.cause ≡ Some c → IsClosed f c
    → AreFactsConsistent f
is_closed f c o e h = record {
  known = subst (λ b. IsKnownAs b f.cause f) (sym o)
      (subst (λ k. IsReportedAs f k) (sym e) (placed_closed f c h));
}

-- the facts of a session that was shut at once are consistent where it was opened and isn't in the
-- report
pub is_unopened : (f : SessionFacts) → f.port.opened ≡ true → f.cause ≡ None → IsUnopened f → AreFactsConsistent f
is_unopened f o e h = record {
  known = subst (λ b. IsKnownAs b f.cause f) (sym o)
      (subst (λ k. IsReportedAs f k) (sym e) h);
}

-- ---- the accounts of a session

-- a session of which nothing came, and for which nothing was asked, had or given, is served in the
-- state of a new one
pub served_new : (f : SessionFacts) → f.port.fed ≡ [] → f.port.given ≡ [] → f.had ≡ [] → f.asked ≡ [] → f.piece ≡ []
    → f.port.input_ended ≡ false → IsSessionServed f.piece f (new_session f.dialect)
served_new f fed_is given_is had_is asked_is piece_is goes_on = record {
  bytes = [];
  messages = [];
  fed = fed_is ∙ sym piece_is;
  has_read = (starts_accounts f.dialect).0;
  has_said = subst (λ (x : List Reply × List ℕ). HasSaid [] x.0 x.1 (new_session f.dialect))
      (λ i. (sym had_is i, sym given_is i)) (starts_accounts f.dialect).1;
  asked = asked_is;
  input_ended = sym goes_on;
}

-- bytes came, which are held at first
pub served_came : (f : SessionFacts) (s : SessionState) (held more : List ℕ) → IsSessionServed held f s
    → IsSessionServed (held ++ more) (record f { port = record f.port { fed = f.port.fed ++ more } }) s
served_came f s held more h = record {
  bytes = h.bytes;
  messages = h.messages;
  fed = ap (λ (x : List ℕ). x ++ more) h.fed ∙ append_assoc h.bytes held more;
  has_read = h.has_read;
  has_said = h.has_said;
  asked = h.asked;
  input_ended = h.input_ended;
}

-- what a session is fed leaves whether its input has ended
fed_input_ended : (ended : Bool) (s : SessionState) (b : List ℕ)
    → (cond ended s (record s { unread = s.unread ++ b })).input_ended ≡ s.input_ended
fed_input_ended true s b = refl
fed_input_ended false s b = refl

-- held bytes are fed
pub served_fed : (f : SessionFacts) (s : SessionState) (held : List ℕ) → IsSessionServed held f s
    → IsSessionServed [] f (once_fed s held)
served_fed f s held h =
    let k = feed_keeps f.dialect h.bytes held f.port.given h.messages f.had s h.has_read h.has_said in record {
      bytes = h.bytes ++ held;
      messages = h.messages;
      fed = h.fed ∙ sym (append-nil (h.bytes ++ held));
      has_read = k.0;
      has_said = k.1;
      asked = h.asked;
      input_ended = fed_input_ended (is_some s.ended) s held ∙ h.input_ended;
    }

-- a piece is held, or no longer
pub served_holding : (f : SessionFacts) (s : SessionState) (held piece : List ℕ) → IsSessionServed held f s
    → IsSessionServed held f (holding s piece)
served_holding f s held piece h = record {
  bytes = h.bytes;
  messages = h.messages;
  fed = h.fed;
  has_read = record {
    read = h.has_read.read;
    dropped = h.has_read.dropped;
    whole = h.has_read.whole;
    dialect = h.has_read.dialect;
    reads = h.has_read.reads;
    ended = h.has_read.ended;
    nothing_dropped = h.has_read.nothing_dropped;
  };
  has_said = record { whole = h.has_said.whole; queue = h.has_said.queue; replied = h.has_said.replied };
  asked = h.asked;
  input_ended = h.input_ended;
}

-- the input has ended
pub served_input_ended : (f : SessionFacts) (s : SessionState) (held : List ℕ) → IsSessionServed held f s
    → IsSessionServed held (record f { port = record f.port { input_ended = true } }) (once_input_ended s)
served_input_ended f s held h = record {
  bytes = h.bytes;
  messages = h.messages;
  fed = h.fed;
  has_read = record {
    read = h.has_read.read;
    dropped = h.has_read.dropped;
    whole = h.has_read.whole;
    dialect = h.has_read.dialect;
    reads = h.has_read.reads;
    ended = h.has_read.ended;
    nothing_dropped = h.has_read.nothing_dropped;
  };
  has_said = record { whole = h.has_said.whole; queue = h.has_said.queue; replied = h.has_said.replied };
  asked = h.asked;
  input_ended = refl;
}

-- messages are read, and their requests asked
pub served_read : (f : SessionFacts) (s after : SessionState) (held : List ℕ) (more : List Message)
    → ReadsMessages s more after → IsSessionServed held f s
    → IsSessionServed held (record f { asked = f.asked ++ asks more }) after
served_read f s after held more r h =
    let k = read_keeps f.dialect h.bytes f.port.given h.messages more f.had s after r h.has_read h.has_said in record {
      bytes = h.bytes;
      messages = h.messages ++ more;
      fed = h.fed;
      has_read = k.0;
      has_said = k.1;
      asked = ap (λ (x : List Request). x ++ asks more) h.asked ∙ sym (asks-append h.messages more);
      input_ended = r.input_ended ∙ h.input_ended;
    }

-- a reply is settled
pub served_settled : (f : SessionFacts) (s : SessionState) (held : List ℕ) (r : Reply) → 0 < length (asks s.queue)
    → IsSessionServed held f s
    → IsSessionServed held (record f { had = f.had ++ r ∷ [] }) (with_reply s r)
served_settled f s held r some h =
    let k = settle_keeps f.dialect h.bytes f.port.given h.messages f.had r s some h.has_read h.has_said in record {
      bytes = h.bytes;
      messages = h.messages;
      fed = h.fed;
      has_read = k.0;
      has_said = k.1;
      asked = h.asked;
      input_ended = h.input_ended;
    }

-- output is given
pub served_gave : (f : SessionFacts) (s : SessionState) (held : List ℕ) (n : ℕ) → IsSessionServed held f s
    → IsSessionServed held (record f { port = record f.port { given = f.port.given ++ take n s.out } }) (gave s n)
served_gave f s held n h =
    let k = give_keeps f.dialect h.bytes f.port.given n h.messages f.had s h.has_read h.has_said in record {
      bytes = h.bytes;
      messages = h.messages;
      fed = h.fed;
      has_read = k.0;
      has_said = k.1;
      asked = h.asked;
      input_ended = h.input_ended;
    }

-- ---- closing

-- the bytes that came of a session begin with spellings of the messages that it has read
pub begins : (d : Dialect) (bytes held total : List ℕ) (ms : List Message) (s : SessionState) → total ≡ bytes ++ held
    → HasRead d bytes ms s → (rest : List ℕ) × BeginsWith d total ms rest
begins d bytes held total ms s e h = (
  (s.unread ++ h.dropped) ++ held,
  record {
    read = h.read;
    whole = e ∙ ap (λ (x : List ℕ). x ++ held) (h.whole ∙ append_assoc h.read s.unread h.dropped)
        ∙ append_assoc h.read (s.unread ++ h.dropped) held;
    reads = h.reads;
  },
)

-- the facts of a session that is closed: what came, was given, asked and had stays
pub record Stays (f g : SessionFacts) : Type 0 where
  pub dialect : g.dialect ≡ f.dialect
  pub fed : g.port.fed ≡ f.port.fed
  pub given : g.port.given ≡ f.port.given
  pub asked : g.asked ≡ f.asked
  pub had : g.had ≡ f.had
  pub state : g.state ≡ None

-- a served session that is gone or shut is closed with a cause that is one of it, where what came,
-- was given, asked and had stays
closed_as : (f g : SessionFacts) (s : SessionState) (held : List ℕ) (c : EndCause) (h : IsSessionServed held f s)
    → Stays f g → IsCaused g h.messages ((s.unread ++ h.has_read.dropped) ++ held) c
    → (g.port.gone ≡ true) ⊎ (g.port.shut ≡ true) → IsClosed g c
unfolding begins
closed_as f g s held c h k caused closed =
    let b = begins f.dialect h.bytes held g.port.fed h.messages s (k.fed ∙ h.fed) h.has_read in record {
      messages = h.messages;
      rest = b.0;
      read = rw k.dialect b.1;
      asked = k.asked ∙ h.asked;
      said = (s.out, ap (said h.messages) k.had ∙ sym h.has_said.whole ∙ ap (λ (x : List ℕ). x ++ s.out) (sym k.given));
      caused = caused;
      closed = closed;
      state = k.state;
    }

-- a served session that has gone is closed with the cause Gone
pub closed_gone : (f g : SessionFacts) (s : SessionState) (held : List ℕ) → IsSessionServed held f s → Stays f g
    → g.port.gone ≡ true → IsClosed g causes.Gone
closed_gone f g s held h k gone = closed_as f g s held causes.Gone h k gone (inl gone)

-- a served session that was shut may be closed with the cause NoMemory
pub closed_no_memory : (f g : SessionFacts) (s : SessionState) (held : List ℕ) → IsSessionServed held f s → Stays f g
    → g.port.shut ≡ true
    → IsClosed g causes.NoMemory
closed_no_memory f g s held h k shut = closed_as f g s held causes.NoMemory h k shut (inr shut)

-- and a lenient one with the cause Stalled
pub closed_stalled : (f g : SessionFacts) (s : SessionState) (held : List ℕ) → IsSessionServed held f s → Stays f g
    → g.port.shut ≡ true → IsLenient g.dialect → IsClosed g causes.Stalled
closed_stalled f g s held h k shut lenient = closed_as f g s held causes.Stalled h k (shut, lenient) (inr shut)

-- the same where one more reply came back, which found no memory
pub closed_starved : (f g : SessionFacts) (s : SessionState) (held : List ℕ) (r : Reply) → IsSessionServed held f s
    → Stays (record f { had = f.had ++ r ∷ [] }) g → g.port.shut ≡ true → IsClosed g causes.NoMemory
closed_starved f g s held r h k shut =
    let b = begins f.dialect h.bytes held g.port.fed h.messages s (k.fed ∙ h.fed) h.has_read in
    let first : StartsWith (said h.messages f.had) f.port.given = (s.out, sym h.has_said.whole) in
    let more = begins_on f.port.given (said h.messages f.had) (said h.messages (f.had ++ r ∷ [])) first
    (said_more h.messages f.had (r ∷ [])) in record {
      messages = h.messages;
      rest = b.0;
      read = rw k.dialect b.1;
      asked = k.asked ∙ h.asked;
      said = (more.0, ap (said h.messages) k.had ∙ more.1 ∙ ap (λ (x : List ℕ). x ++ more.0) (sym k.given));
      caused = shut;
      closed = inr shut;
      state = k.state;
    }

-- what ends a session is Quit or a fatal message
abbrev IsEnding : Option EndCause → Type 0
IsEnding o = (o ≡ None) ⊎ (o ≡ Some causes.Quit) ⊎ (o ≡ Some causes.Fatal)

-- a session may end by Quit
quits : IsEnding (Some causes.Quit)
quits = inr (inl refl)

-- a session may end by a fatal message
fails : IsEnding (Some causes.Fatal)
fails = inr (inr refl)

-- whatever messages are read, nothing has ended the session, or Quit or a fatal message has
ending : (o : Option EndCause) (ms : List Message) → IsEnding o → IsEnding (ended_by o ms)
ending o [] h = h
ending o (Ask q quiet ∷ ms) h = ending o ms h
ending o (Local kind ∷ ms) h = ending o ms h
ending o (Quit ∷ ms) h = ending (Some causes.Quit) ms quits
ending o (Fatal kind ∷ ms) h = ending (Some causes.Fatal) ms fails

-- all was answered and given: it is closed with what has ended it
whole_as : (f g : SessionFacts) (s : SessionState) (held : List ℕ) (o : Option EndCause) (h : IsSessionServed held f s)
    → Stays f g → s.queue ≡ [] → s.out ≡ []
    → s.ended ≡ o → IsWhole g h.messages o
whole_as f g s held o h k queue out ended = (
  k.given ∙ sym (append-nil f.port.given) ∙ ap (λ (x : List ℕ). f.port.given ++ x) (sym out) ∙ h.has_said.whole
      ∙ ap (said h.messages) (sym k.had),
  (let none : length (asks s.queue) ≡ 0 = ap (λ ms. length (asks ms)) queue in
      let had_is : length g.had ≡ length f.had = ap (length {A = Reply}) k.had in omega (arith, h.has_said.replied)),
  sym h.has_read.ended ∙ ended,
)

-- Quit or Fatal is the cause of closing a session that it has ended, where that was shut with all
-- answered and given
caused_by : (g : SessionFacts) (ms : List Message) (rest : List ℕ) (c : EndCause) → IsEnding (Some c) → g.port.shut ≡ true
    → IsWhole g ms (Some c) → IsCaused g ms rest c
caused_by g ms rest causes.Quit e shut w = (shut, w)
caused_by g ms rest causes.Fatal e shut w = (shut, w)
caused_by g ms rest causes.Drained (inl e) shut w = cc
caused_by g ms rest causes.Drained (inr (inl e)) shut w = cc
caused_by g ms rest causes.Drained (inr (inr e)) shut w = cc
caused_by g ms rest causes.EndOfInput (inl e) shut w = cc
caused_by g ms rest causes.EndOfInput (inr (inl e)) shut w = cc
caused_by g ms rest causes.EndOfInput (inr (inr e)) shut w = cc
caused_by g ms rest causes.Gone (inl e) shut w = cc
caused_by g ms rest causes.Gone (inr (inl e)) shut w = cc
caused_by g ms rest causes.Gone (inr (inr e)) shut w = cc
caused_by g ms rest causes.NoMemory (inl e) shut w = cc
caused_by g ms rest causes.NoMemory (inr (inl e)) shut w = cc
caused_by g ms rest causes.NoMemory (inr (inr e)) shut w = cc
caused_by g ms rest causes.Stalled (inl e) shut w = cc
caused_by g ms rest causes.Stalled (inr (inl e)) shut w = cc
caused_by g ms rest causes.Stalled (inr (inr e)) shut w = cc

-- with its input, of which none is held or left to be read, ends a session that no message has
-- ended
pub record RunsOut (s : SessionState) (c : EndCause) : Type 0 where
  pub is : c ≡ causes.EndOfInput
  pub open_yet : s.ended ≡ None
  pub input_ended : s.input_ended ≡ true
  pub held : s.held ≡ []
  pub none : SpellsNone s.dialect s.unread

-- what ends a session: a message, or the end of its input
abbrev pub Ends : SessionState → EndCause → Type 0
Ends s c = (s.ended ≡ Some c) ⊎ RunsOut s c

-- a served session without queue and output that was shut is closed with what has ended it
pub closed_finished : (f g : SessionFacts) (s : SessionState) (held : List ℕ) (c : EndCause) → IsSessionServed held f s
    → Stays f g → s.queue ≡ [] → s.out ≡ [] → held ≡ s.held → g.port.input_ended ≡ f.port.input_ended → Ends s c
    → g.port.shut ≡ true → IsClosed g c
closed_finished f g s held c h k queue out holds same (inl ended) shut =
    let is : IsEnding (Some c) = subst IsEnding (sym h.has_read.ended ∙ ended) (ending None h.messages (inl refl)) in
    closed_as f g s held c h k (caused_by g h.messages ((s.unread ++ h.has_read.dropped) ++ held) c is shut
    (whole_as f g s held (Some c) h k queue out ended)) (inr shut)
closed_finished f g s held c h k queue out holds same (inr o) shut =
    let behind : List ℕ = (s.unread ++ h.has_read.dropped) ++ held in
    let behind_is : behind ≡ s.unread = ap (λ (x : List ℕ). (s.unread ++ h.has_read.dropped) ++ x) (holds ∙ o.held)
    ∙ append-nil (s.unread ++ h.has_read.dropped)
    ∙ ap (λ (x : List ℕ). s.unread ++ x) (h.has_read.nothing_dropped o.open_yet) ∙ append-nil s.unread in
    let dialect : s.dialect ≡ g.dialect = h.has_read.dialect ∙ sym k.dialect in
    closed_as f g s held c h k (subst (λ (x : EndCause). IsCaused g h.messages behind x) (sym o.is) (record {
      input_ended = same ∙ sym h.input_ended ∙ o.input_ended;
      shut = shut;
      none = subst (λ (y : Dialect × List ℕ). SpellsNone y.0 y.1) (λ i. (dialect i, sym behind_is i)) o.none;
      whole = whole_as f g s held None h k queue out o.open_yet;
    })) (inr shut)

-- ---- an answer to a closed session is dropped

-- one more reply leaves why a session was closed
caused_more : (f : SessionFacts) (r : Reply) (ms : List Message) (rest : List ℕ) (c : EndCause) → IsCaused f ms rest c
    → IsCaused (record f { had = f.had ++ r ∷ [] }) ms rest c
caused_more f r ms rest causes.Drained h = h
caused_more f r ms rest causes.EndOfInput h = record {
  input_ended = h.input_ended;
  shut = h.shut;
  none = h.none;
  whole = (
    h.whole.0 ∙ sym (said_all ms f.had (r ∷ []) h.whole.1),
    omega (arith, h.whole.1, length-append f.had (r ∷ [])),
    h.whole.2,
  );
}
caused_more f r ms rest causes.Quit h = (
  h.0,
  (h.1.0 ∙ sym (said_all ms f.had (r ∷ []) h.1.1), omega (arith, h.1.1, length-append f.had (r ∷ [])), h.1.2),
)
caused_more f r ms rest causes.Fatal h = (
  h.0,
  (h.1.0 ∙ sym (said_all ms f.had (r ∷ []) h.1.1), omega (arith, h.1.1, length-append f.had (r ∷ [])), h.1.2),
)
caused_more f r ms rest causes.Gone h = h
caused_more f r ms rest causes.NoMemory h = h
caused_more f r ms rest causes.Stalled h = h

-- a closed session is closed still when one more reply came back for it
pub closed_dropped : (f : SessionFacts) (r : Reply) (c : EndCause) → IsClosed f c
    → IsClosed (record f { had = f.had ++ r ∷ [] }) c
closed_dropped f r c h = record {
  messages = h.messages;
  rest = h.rest;
  read = h.read;
  asked = h.asked;
  said = begins_on f.port.given (said h.messages f.had) (said h.messages (f.had ++ r ∷ [])) h.said
      (said_more h.messages f.had (r ∷ []));
  caused = caused_more f r h.messages h.rest c h.caused;
  closed = h.closed;
  state = h.state;
}

-- one more reply leaves what is known of a session that isn't open and has asked something
dropped_as : (f : SessionFacts) (r : Reply) (o : Bool) (c : Option EndCause) → f.state ≡ None → (f.asked ≡ [] → ⊥)
    → IsKnownAs o c f
    → IsKnownAs o c (record f { had = f.had ++ r ∷ [] })
dropped_as f r false c none some h = absurd (some h.0.asked)
dropped_as f r true None none some h = absurd (some h.asked)
dropped_as f r true (Some causes.Drained) none some h = absurd (not_both f.state h.s none h.state)
dropped_as f r true (Some causes.EndOfInput) none some h = closed_dropped f r causes.EndOfInput h
dropped_as f r true (Some causes.Quit) none some h = closed_dropped f r causes.Quit h
dropped_as f r true (Some causes.Fatal) none some h = closed_dropped f r causes.Fatal h
dropped_as f r true (Some causes.Gone) none some h = closed_dropped f r causes.Gone h
dropped_as f r true (Some causes.NoMemory) none some h = closed_dropped f r causes.NoMemory h
dropped_as f r true (Some causes.Stalled) none some h = closed_dropped f r causes.Stalled h

-- the facts of a session that isn't open and has asked something stay consistent with one more
-- reply
pub dropped : (f : SessionFacts) (r : Reply) → f.state ≡ None → (f.asked ≡ [] → ⊥) → AreFactsConsistent f
    → AreFactsConsistent (record f { had = f.had ++ r ∷ [] })
dropped f r none some h = record { known = dropped_as f r f.port.opened f.cause none some h.known }

-- a session with an entry was opened
placed_opened : (f : SessionFacts) (d : EndCause) (o : Bool) (c : Option EndCause) → IsKnownAs o c f → c ≡ Some d
    → o ≡ true
placed_opened f d false c h e = absurd (not_both c d h.1 e)
placed_opened f d true c h e = refl

-- a session that has a cause in the report was opened, where its facts are consistent
pub opened_if_placed : (f : SessionFacts) (d : EndCause) → AreFactsConsistent f → f.cause ≡ Some d
    → f.port.opened ≡ true
opened_if_placed f d h e = placed_opened f d f.port.opened f.cause h.known e
