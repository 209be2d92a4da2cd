-- What a session was served, message by message.
use Rattle.std.proofs.Common.{◌≡◌, ℕ, ◌+◌, ◌-◌, ◌<◌, ◌≤◌, Bool, true, false, List, [], ◌∷◌, ◌++◌, length, take}
use Rattle.std.proofs.Common.{drop, Some, None, refl, sym, ap, subst, ◌∙◌}
use Rattle.std.proofs.Common.{arith, append_assoc}
use Rattle.std.proofs.Math.Seq.{take-add}
use Rattle.std.proofs.lemmas.Bool.{both_ways}
use Rattle.std.proofs.lemmas.List.{append-nil, map-append, length-map, length-take, length-drop, take_all, take-append-drop}
use Rattle.proto.specs.declared.dialect.Dialect.TheVariants.{Strict}
use Rattle.proto.specs.declared.message.Request.{Request}
use Rattle.proto.specs.declared.message.Reply.{Reply}
use Rattle.proto.specs.declared.message.Message.{Message}
use Rattle.proto.specs.declared.message.Message.TheVariants.{Ask, Local, Quit, Fatal}
use Rattle.proto.specs.declared.history.Answered.{Answered}
use Rattle.proto.specs.Grammar.{Spells, SpellsNone}
use Rattle.proto.specs.Reading.{ends_session, asks}
use Rattle.proto.specs.Answers.{answer, is_ask, said}
use Rattle.proto.specs.History.{session_share, had}
use Rattle.script.specs.Clocks.{answer_of}
use Rattle.reference.specs.Execution.{Execution, AnswersBehind}
use Rattle.reference.specs.SequentialSessions.{Setup, LedTo, AreBytesAnswered, HistoryGoesOn, LedOnTo, AnswersNext, AnswersAll, Feeds}
use Rattle.reference.specs.declared.sequential_session.SequentialSession.{SequentialSession}
use Rattle.proto.proofs.MessageReader.{spelling_nonempty}
use Rattle.reference.proofs.MessageLists.{read_more, ended_more, said_ask, said_other, asks_other}
use Rattle.reference.proofs.Histories.{entry_of, led_more, share_one, goes_on_same, goes_on_one, goes_on_on}
use Rattle.proto.proofs.AskLemmas.{asks-append}

-- as many replies as requests
replies : (read : List ℕ) (share : List Answered) (output : List ℕ) (ended : Bool)
    (a : AreBytesAnswered read share output ended)
    → length (had share) ≡ length (asks a.messages)
replies read share output ended a =
    length-map {A = Answered} {B = Reply} share (λ e. e.reply)
    ∙ sym (length-map {A = Answered} {B = Request} share (λ e. e.request)) ∙ ap length a.asked_is

-- a request that is answered
answered_ask : (read : List ℕ) (share : List Answered) (output piece : List ℕ) (q : Request) (quiet : Bool)
    (e : Answered)
    → AreBytesAnswered read share output false → Spells Strict piece (Ask q quiet)
    → e.request ≡ q → AreBytesAnswered (read ++ piece) (share ++ e ∷ [])
    (output ++ answer (Ask q quiet) (Some e.reply)) false
answered_ask read share output piece q quiet e a spells is = record {
  messages = a.messages ++ Ask q quiet ∷ [];
  reads = read_more read piece a.messages (Ask q quiet) a.ended_is a.reads spells;
  ended_is = ended_more a.messages (Ask q quiet) a.ended_is;
  asked_is = map-append (λ (x : Answered). x.request) share (e ∷ [])
      ∙ ap (λ (qs : List Request). qs ++ e.request ∷ []) a.asked_is
      ∙ ap (λ (x : Request). asks a.messages ++ x ∷ []) is ∙ sym (asks-append a.messages (Ask q quiet ∷ []));
  output_is = ap (λ (x : List ℕ). x ++ answer (Ask q quiet) (Some e.reply)) a.output_is
      ∙ sym (said_ask a.messages (had share) q quiet e.reply (replies read share output false a))
      ∙ ap (λ (rs : List Reply). said (a.messages ++ Ask q quiet ∷ []) rs)
      (sym (map-append (λ (x : Answered). x.reply) share (e ∷ [])));
}

-- another message that is answered
answered_other : (read : List ℕ) (share : List Answered) (output piece : List ℕ) (m : Message) → is_ask m ≡ false
    → AreBytesAnswered read share output false → Spells Strict piece m
    → AreBytesAnswered (read ++ piece) share (output ++ answer m None) (ends_session m)
answered_other read share output piece m other a spells = record {
  messages = a.messages ++ m ∷ [];
  reads = read_more read piece a.messages m a.ended_is a.reads spells;
  ended_is = ended_more a.messages m a.ended_is;
  asked_is = a.asked_is ∙ sym (asks_other a.messages m other);
  output_is = ap (λ (x : List ℕ). x ++ answer m None) a.output_is
      ∙ sym (said_other a.messages (had share) m other (replies read share output false a));
}

-- a message that is no request leads to the same history
led_other : (setup : Setup) (session : ℕ) (h : List Answered) (read output piece after : List ℕ) (old new : Execution)
    (m : Message) → is_ask m ≡ false → LedTo setup h old
    → AreBytesAnswered read (session_share h 0 session) output false → (new ≡ old) × (after ≡ output ++ answer m None)
    → Spells Strict piece m
    → LedOnTo setup session h new (read ++ piece) after (ends_session m)
led_other setup session h read output piece after old new m other led a is spells = record {
  history = h;
  goes_on = goes_on_same session h;
  led = subst (λ (x : Execution). LedTo setup h x) (sym is.0) led;
  answered = subst (λ (x : List ℕ). AreBytesAnswered (read ++ piece) (session_share h 0 session) x (ends_session m))
      (sym is.1)
      (answered_other read (session_share h 0 session) output piece m other a spells);
}

-- a message is answered, and the history goes on with it where it is a request
pub led_message : (setup : Setup) (session : ℕ) (h : List Answered) (read output piece after : List ℕ)
    (old new : Execution) (m : Message) → LedTo setup h old
    → AreBytesAnswered read (session_share h 0 session) output false → AnswersBehind old m new output after
    → Spells Strict piece m
    → LedOnTo setup session h new (read ++ piece) after (ends_session m)
led_message setup session h read output piece after old new (Ask q quiet) led a (t, reply, x, is) spells =
    let seconds = answer_of old.clock 0 in let e = entry_of h session t seconds q reply in
    let shown = answered_ask read (session_share h 0 session) output piece q quiet e a spells refl in
    record {
      history = h ++ e ∷ [];
      goes_on = goes_on_one session t seconds h q reply;
      led = led_more setup h session old new t q reply led x;
      answered = subst (λ (share : List Answered). AreBytesAnswered (read ++ piece) share after false)
          (sym (share_one h session t seconds q reply))
          (subst (λ (out : List ℕ). AreBytesAnswered (read ++ piece) (session_share h 0 session ++ e ∷ []) out false)
          (sym is) shown);
    }
led_message setup session h read output piece after old new (Local kind) led a is spells =
    led_other setup session h read output piece after old new
    (Local kind) refl led a is spells
led_message setup session h read output piece after old new Quit led a is spells =
    led_other setup session h read output piece
    after old new Quit refl led a is spells
led_message setup session h read output piece after old new (Fatal kind) led a is spells =
    led_other setup session h read output piece after old new
    (Fatal kind) refl led a is spells

-- one led on to another
pub led_on : (setup : Setup) (session : ℕ) (h : List Answered) (mid new : Execution) (read output more after : List ℕ)
    (ended : Bool) (first : LedOnTo setup session h mid read output false)
    → LedOnTo setup session first.history new more after ended → LedOnTo setup session h new more after ended
led_on setup session h mid new read output more after ended first second = record {
  history = second.history;
  goes_on = goes_on_on session h first.history second.history first.goes_on second.goes_on;
  led = second.led;
  answered = second.answered;
}

-- one message more
pub answers_more : (old mid new : Execution) (unread output o1 o2 : List ℕ) (taken n : ℕ) (ended : Bool)
    → AnswersAll old unread taken false mid output o1 → AnswersNext mid (drop taken unread) (Some (n, ended)) new o1 o2
    → AnswersAll old unread (taken + n) ended new output o2
answers_more old mid new unread output o1 o2 taken n ended before (m, within, spells, ended_is, x) =
    λ setup session history read led a.
    let first = before setup session history read led a in
    let second = led_message setup session first.history (read ++ take taken unread) o1
    (take n (drop taken unread)) o2 mid new m first.led first.answered x spells in
    let joined = led_on setup session history mid new (read ++ take taken unread) o1
    ((read ++ take taken unread) ++ take n (drop taken unread)) o2 (ends_session m) first second in
    let bytes_are : (read ++ take taken unread) ++ take n (drop taken unread) ≡ read ++ take (taken + n) unread =
    append_assoc read (take taken unread) (take n (drop taken unread))
    ∙ ap (λ (x : List ℕ). read ++ x) (sym (take-add taken n unread)) in
    subst (λ (bytes : List ℕ). LedOnTo setup session history new bytes o2 ended) bytes_are
    (subst (λ (b : Bool). LedOnTo setup session history new
    ((read ++ take taken unread) ++ take n (drop taken unread)) o2 b) (sym ended_is) joined)

-- nothing was read yet
pub answers_none : (old : Execution) (unread output : List ℕ) → AnswersAll old unread 0 false old output output
answers_none old unread output = λ setup session history read led a. record {
  history = history;
  goes_on = goes_on_same session history;
  led = led;
  answered = subst (λ (bytes : List ℕ). AreBytesAnswered bytes (session_share history 0 session) output false)
      (sym (append-nil read)) a;
}

-- what is found has a byte at least
pub found_some : (mid new : Execution) (unread o1 o2 : List ℕ) (n : ℕ) (ended : Bool)
    → AnswersNext mid unread (Some (n, ended)) new o1 o2 → 0 < n
found_some mid new unread o1 o2 n ended (m, within, spells, ended_is, x) =
    omega (arith, spelling_nonempty Strict (take n unread) m spells, length-take n unread)

-- ---- a session

-- a session that has ended is fed
pub fed_ended : (s : SequentialSession) (before : Execution) (piece : List ℕ) → s.ended ≡ true
    → Feeds s before piece s before
fed_ended s before piece ended = record {
  number_stays = refl;
  serves = λ setup history bytes led served. record {
    history = history;
    goes_on = goes_on_same s.number history;
    led = led;
    served = record {
      read = served.read;
      rest = served.rest ++ piece;
      bytes_are = ap (λ (b : List ℕ). b ++ piece) served.bytes_are ∙ append_assoc served.read served.rest piece;
      answered = served.answered;
      unread_is = λ going. absurd (both_ways s.ended going ended);
      no_more = λ going. absurd (both_ways s.ended going ended);
    };
  };
}

-- one that goes on is fed, and its messages are answered
pub fed_going : (old new : SequentialSession) (before after : Execution) (piece : List ℕ) (taken : ℕ) → old.ended ≡ false
    → new.number ≡ old.number
    → AnswersAll before (old.unread.items ++ piece) taken new.ended after old.output.items new.output.items
    → (new.ended ≡ false → SpellsNone Strict (drop taken (old.unread.items ++ piece)))
    → new.unread.items ≡ drop taken (old.unread.items ++ piece) → Feeds old before piece new after
fed_going old new before after piece taken going number_is all none left_is = record {
  number_stays = number_is;
  serves = λ setup history bytes led served.
      let all_bytes = old.unread.items ++ piece in
      let share = session_share history 0 old.number in
      let a : AreBytesAnswered served.read share old.output.items false = subst
      (λ (b : Bool). AreBytesAnswered served.read share old.output.items b) going served.answered in
      let on = all setup old.number history served.read led a in
      let bytes_are : bytes ++ piece ≡ (served.read ++ take taken all_bytes) ++ drop taken all_bytes =
      ap (λ (b : List ℕ). b ++ piece) (served.bytes_are
      ∙ ap (λ (r : List ℕ). served.read ++ r) (served.unread_is going))
      ∙ append_assoc served.read old.unread.items piece
      ∙ ap (λ (x : List ℕ). served.read ++ x) (sym (take-append-drop taken all_bytes))
      ∙ sym (append_assoc served.read (take taken all_bytes) (drop taken all_bytes)) in
      record {
        history = on.history;
        goes_on = subst (λ (n : ℕ). HistoryGoesOn n history on.history) (sym number_is) on.goes_on;
        led = on.led;
        served = record {
          read = served.read ++ take taken all_bytes;
          rest = drop taken all_bytes;
          bytes_are = bytes_are;
          answered = subst
              (λ (n : ℕ). AreBytesAnswered (served.read ++ take taken all_bytes)
              (session_share on.history 0 n) new.output.items new.ended) (sym number_is) on.answered;
          unread_is = λ e. sym left_is;
          no_more = none;
        };
      };
}

-- what stands after so many bytes, as a slice to the end
pub behind : (taken : ℕ) (bytes : List ℕ) → take (length bytes - taken) (drop taken bytes) ≡ drop taken bytes
behind taken bytes = take_all (length bytes - taken) (drop taken bytes) (omega (arith, length-drop taken bytes))

-- what was found lies within the bytes
pub found_within : (mid new : Execution) (unread o1 o2 : List ℕ) (taken n : ℕ) (ended : Bool)
    → AnswersNext mid (drop taken unread) (Some (n, ended)) new o1 o2 → taken ≤ length unread
    → taken + n ≤ length unread
found_within mid new unread o1 o2 taken n ended (m, within, spells, ended_is, x) le =
    omega (arith, length-drop taken unread)
