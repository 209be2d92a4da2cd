-- A session's reading, message by message.
use Rattle.std.proofs.Common.{◌≡◌, ℕ, ◌+◌, ◌<◌, ◌≤◌, Bool, true, false, List, [], ◌∷◌, ◌++◌}
use Rattle.std.proofs.Common.{length, take, drop, Option, Some, None, Ok, Err, is_some, refl, sym}
use Rattle.std.proofs.Common.{ap, subst, ◌∙◌, arith, inl, inr, append_assoc, length-append, take-append-drop}
use Rattle.std.proofs.lemmas.List.{append-nil}
use Rattle.std.proofs.lemmas.Bool.{both_ways}
use Rattle.proto.specs.declared.message.Request.{Request}
use Rattle.proto.specs.declared.message.Message.{Message}
use Rattle.proto.specs.declared.message.Message.TheVariants.{Ask, Local, Quit, Fatal}
use Rattle.proto.specs.declared.dialect.Dialect.{Dialect}
use Rattle.proto.specs.Grammar.{Spells}
use Rattle.session_book.specs.declared.causes.Unasked.{Unasked}
use Rattle.session_book.specs.Input.{InputState, Begins}
use Rattle.proto.specs.Needs.{IsUnfinished}
use Rattle.proto.specs.Reading.{asks}
use Rattle.proto.specs.Answers.{said, is_ask}
use Rattle.proto.proofs.MessageReader.{spelling_nonempty}
use Rattle.session_book.specs.declared.causes.EndCause.{EndCause}
use Rattle.session_book.specs.declared.session.TheConstants.{MAX_WAITING}
use Rattle.session_book.specs.Session.{SessionState, messages_left, ended_by, need_after, begins_asked, ReadsMessages}
use Rattle.session_book.specs.Session.{AskAtLast, Stops, no_message, IsReady, ReadsMessage, TakesNothing, ReadsAsk}
use Rattle.session_book.specs.Session.{TriesNext, looked, at_rest}
use Rattle.session_book.proofs.Needing.{unfinished_short}
use Rattle.session_book.proofs.Answering.{said-append, left-append, left_waits, said_waits}
use Rattle.session_book.proofs.Reading.{ended_by-append, not_ended_before, none_ends}
use Rattle.proto.proofs.AskLemmas.{asks-append}
use Rattle.proto.proofs.ReadingLemmas.{reads_empty, reads_one, reads_on}

-- each message takes a byte at least
pub takes_less : (before after : SessionState) (m : Message) → ReadsMessage before m after
    → length after.unread < length before.unread
takes_less before after m h = rw h.unread
    (omega (arith, length-append h.piece after.unread, spelling_nonempty before.dialect h.piece m h.spells))

-- a queue that begins with a request, or is empty, stays as it is
pub left_stays : (queue : List Message) → begins_asked queue ≡ true → messages_left queue [] ≡ queue
left_stays [] e = refl
left_stays (m ∷ ms) e = left_waits m ms e

-- and nothing is said to it
pub said_stays : (queue : List Message) → begins_asked queue ≡ true → said queue [] ≡ []
said_stays [] e = refl
said_stays (m ∷ ms) e = said_waits m ms e

-- nor does a request behind it change that
pub asked_behind : (queue : List Message) (q : Request) (quiet : Bool) → begins_asked queue ≡ true
    → begins_asked (queue ++ Ask q quiet ∷ []) ≡ true
asked_behind [] q quiet e = refl
asked_behind (m ∷ ms) q quiet e = e

-- nothing was read yet
pub reads_nothing : (s : SessionState) → begins_asked s.queue ≡ true → ReadsMessages s [] s
reads_nothing s asked = record {
  read = [];
  reads = reads_empty s.dialect;
  dialect = refl;
  unread = refl;
  not_ended = λ e. refl;
  ended = refl;
  queue = rw append-nil (sym (left_stays s.queue asked));
  out = rw (append-nil, said_stays s.queue asked, append-nil) refl;
  need = inl refl;
  held = refl;
  input_ended = refl;
}

-- once a message was read, one byte is needed
need_one : (need : ℕ) (ms : List Message) (m : Message) → need_after need (ms ++ m ∷ []) ≡ 1
need_one need [] m = refl
need_one need (n ∷ ms) m = refl

-- what hasn't ended can't have been ended before
never : (ended : Option EndCause) (ms : List Message) → ended_by ended ms ≡ None → is_some ended ≡ true → ⊥
never ended ms none some = both_ways (is_some ended)
    (ap (λ (o : Option EndCause). is_some o) (not_ended_before ended ms none)) some

-- where nothing has ended a session after these messages, none of them ends one
none_left : (ended : Option EndCause) (ms : List Message) → ended_by ended ms ≡ None → ended_by None ms ≡ None
none_left ended ms e = ap (λ (o : Option EndCause). ended_by o ms) (sym (not_ended_before ended ms e)) ∙ e

-- one more message is read
pub reads_more : (before now after : SessionState) (ms : List Message) (m : Message) → ReadsMessages before ms now
    → now.ended ≡ None
    → ReadsMessage now m after → ReadsMessages before (ms ++ m ∷ []) after
reads_more before now after ms m h none t =
    let open_yet : ended_by before.ended ms ≡ None = sym h.ended ∙ none in
    let grouped : (before.queue ++ ms) ++ m ∷ [] ≡ before.queue ++ (ms ++ m ∷ []) =
    append_assoc before.queue ms (m ∷ []) in
    record {
      read = h.read ++ t.piece;
      reads = reads_on before.dialect (h.read ++ t.piece) h.read t.piece [] ms (m ∷ []) refl
          (none_ends ms (none_left before.ended ms open_yet)) h.reads
          (reads_one before.dialect t.piece m (rw h.dialect at t.spells));
      dialect = t.dialect ∙ h.dialect;
      unread = h.unread ∙ ap (λ (x : List ℕ). h.read ++ x) t.unread ∙ sym (append_assoc h.read t.piece after.unread);
      not_ended = λ e. absurd (never before.ended ms open_yet e);
      ended = t.ended ∙ ap (λ (e : Option EndCause). ended_by e (m ∷ [])) h.ended
          ∙ sym (ended_by-append before.ended ms (m ∷ []));
      queue = t.queue ∙ ap (λ (q : List Message). messages_left (q ++ m ∷ []) []) h.queue
          ∙ sym (left-append (before.queue ++ ms) (m ∷ []) [] (omega arith))
          ∙ ap (λ (q : List Message). messages_left q []) grouped;
      out = t.out ∙ ap (λ (x : List ℕ). x ++ said (now.queue ++ m ∷ []) []) h.out
          ∙ append_assoc before.out (said (before.queue ++ ms) []) (said (now.queue ++ m ∷ []) [])
          ∙ ap (λ (q : List Message). before.out ++ (said (before.queue ++ ms) [] ++ said (q ++ m ∷ []) [])) h.queue
          ∙ ap (λ (x : List ℕ). before.out ++ x)
          (sym (said-append (before.queue ++ ms) (m ∷ []) [] (omega arith))
          ∙ ap (λ (q : List Message). said q []) grouped);
      need = inl (t.need ∙ sym (need_one before.need ms m));
      held = t.held ∙ h.held;
      input_ended = t.input_ended ∙ h.input_ended;
    }

-- the parser has found no further message
pub reads_no_more : (before now after : SessionState) (ms : List Message) → ReadsMessages before ms now
    → TakesNothing now after → ReadsMessages before ms after
reads_no_more before now after ms h t = record {
  read = h.read;
  reads = h.reads;
  dialect = ap (λ (s : SessionState). s.dialect) t.rest ∙ h.dialect;
  unread = h.unread ∙ ap (λ (s : SessionState). h.read ++ s.unread) (sym t.rest);
  not_ended = h.not_ended;
  ended = ap (λ (s : SessionState). s.ended) t.rest ∙ h.ended;
  queue = ap (λ (s : SessionState). s.queue) t.rest ∙ h.queue;
  out = ap (λ (s : SessionState). s.out) t.rest ∙ h.out;
  need = inr (rw h.dialect at t.unfinished);
  held = ap (λ (s : SessionState). s.held) t.rest ∙ h.held;
  input_ended = ap (λ (s : SessionState). s.input_ended) t.rest ∙ h.input_ended;
}

-- in front of messages of which only the last may be a request, one may stand that is none
no_ask_first : (n : Message) (ns : List Message) → is_ask n ≡ false → AskAtLast ns → AskAtLast (n ∷ ns)
no_ask_first n [] other h = tt
no_ask_first n (o ∷ ns) other h = (other, h)

-- behind messages that are no requests one may come
pub asks_at_last : (ms : List Message) (m : Message) → asks ms ≡ [] → AskAtLast (ms ++ m ∷ [])
asks_at_last [] m e = tt
asks_at_last (Ask q quiet ∷ ms) m e = absurd cc
asks_at_last (Local kind ∷ ms) m e = no_ask_first (Local kind) (ms ++ m ∷ []) refl (asks_at_last ms m e)
asks_at_last (Quit ∷ ms) m e = no_ask_first Quit (ms ++ m ∷ []) refl (asks_at_last ms m e)
asks_at_last (Fatal kind ∷ ms) m e = no_ask_first (Fatal kind) (ms ++ m ∷ []) refl (asks_at_last ms m e)

-- of messages that have no request none before the last is one
pub no_asks : (ms : List Message) → asks ms ≡ [] → AskAtLast ms
no_asks [] e = tt
no_asks (Ask q quiet ∷ ms) e = absurd cc
no_asks (Local kind ∷ ms) e = no_ask_first (Local kind) ms refl (no_asks ms e)
no_asks (Quit ∷ ms) e = no_ask_first Quit ms refl (no_asks ms e)
no_asks (Fatal kind ∷ ms) e = no_ask_first (Fatal kind) ms refl (no_asks ms e)

-- messages were read, none of them a request, with at most a call of the parser for each; where
-- there were fewer bytes than needed nothing was read
pub record HasReadLocals (before : SessionState) (looks : ℕ) (now : SessionState) (looks_now : ℕ) : Type 0 where
  pub messages : List Message
  pub reads : ReadsMessages before messages now
  pub no_ask : asks messages ≡ []
  pub waits : MAX_WAITING < length before.out → messages ≡ []
  pub most_looks : looks_now ≤ looks + length messages
  pub nothing : length before.unread < before.need → (now ≡ before) × (looks_now ≡ looks)

-- The parser found a message, which the first n bytes spell: they are taken.
pub read_found : (now view : SessionState) (i seen left : InputState) (n : ℕ) (m : Message) (queue : List Message) (out : List ℕ)
    (ended : Option EndCause) → view ≡ now → now.ended ≡ None → view.dialect ≡ i.dialect → view.unread ≡ i.unread → Begins i m n
    → seen ≡ i → left ≡ record seen { unread = drop n seen.unread; need = 1 } → ended ≡ ended_by None (m ∷ [])
    → queue ≡ messages_left (view.queue ++ m ∷ []) [] → out ≡ view.out ++ said (view.queue ++ m ∷ []) []
    → ReadsMessage now m
    (record view { dialect = left.dialect; unread = left.unread; need = left.need; queue = queue; out = out; ended = ended })
read_found now view i seen left n m queue out ended same open_yet dialect_is unread_is begins seen_is left_is ended_is queue_is out_is =
    let none : view.ended ≡ None = ap (λ (s : SessionState). s.ended) same ∙ open_yet in
    let taken : left ≡ record i { unread = drop n i.unread; need = 1 } =
    left_is ∙ ap (λ (x : InputState). record x { unread = drop n x.unread; need = 1 }) seen_is in
    subst (λ (s : SessionState).
    ReadsMessage s m
    (record view { dialect = left.dialect; unread = left.unread; need = left.need; queue = queue; out = out; ended = ended })) same
    (record {
      piece = take n i.unread;
      spells = subst (λ (d : Dialect). Spells d (take n i.unread) m) (sym dialect_is) begins.spells;
      dialect = ap (λ (x : InputState). x.dialect) taken ∙ sym dialect_is;
      unread = unread_is ∙ sym (take-append-drop n i.unread)
          ∙ ap (λ (x : InputState). take n i.unread ++ x.unread) (sym taken);
      ended = ended_is ∙ ap (λ (e : Option EndCause). ended_by e (m ∷ [])) (sym none);
      queue = queue_is;
      out = out_is;
      need = ap (λ (x : InputState). x.need) taken;
      held = refl;
      input_ended = refl;
    })

-- the parser found none, and says what it needs
pub read_more : (now view : SessionState) (i left : InputState) → view ≡ now → view.dialect ≡ i.dialect → view.unread ≡ i.unread
    → IsUnfinished i.dialect i.unread left.need → left ≡ record i { need = left.need }
    → TakesNothing now (record view { dialect = left.dialect; unread = left.unread; need = left.need })
read_more now view i left same dialect_is unread_is unfinished left_is =
    let dialect : left.dialect ≡ view.dialect = ap (λ (x : InputState). x.dialect) left_is ∙ sym dialect_is in
    let unread : left.unread ≡ view.unread = ap (λ (x : InputState). x.unread) left_is ∙ sym unread_is in
    subst (λ (s : SessionState). TakesNothing s (record view { dialect = left.dialect; unread = left.unread; need = left.need })) same
    (record {
      unfinished = subst (λ (d : Dialect). IsUnfinished d left.unread left.need) (sym dialect_is)
          (subst (λ (b : List ℕ). IsUnfinished i.dialect b left.need) (unread_is_of i left left_is) unfinished);
      rest = ap (λ (d : Dialect). record view { dialect = d; unread = left.unread; need = left.need }) dialect
          ∙ ap (λ (b : List ℕ). record view { unread = b; need = left.need }) unread;
    })
  where
    unread_is_of : (i left : InputState) → left ≡ record i { need = left.need } → i.unread ≡ left.unread
    unread_is_of i left e = sym (ap (λ (x : InputState). x.unread) e)

-- a message that isn't a request
pub not_ask : (m : Message) → ((q : Request) (quiet : Bool) → m ≡ Ask q quiet → ⊥) → is_ask m ≡ false
not_ask (Ask q quiet) h = absurd (h q quiet refl)
not_ask (Local kind) h = refl
not_ask Quit h = refl
not_ask (Fatal kind) h = refl

-- a single message that is no request asks nothing
none_asked : (m : Message) → is_ask m ≡ false → asks (m ∷ []) ≡ []
none_asked (Ask q quiet) e = absurd cc
none_asked (Local kind) e = refl
none_asked Quit e = refl
none_asked (Fatal kind) e = refl

-- a session without the bytes that it needs isn't ready at first
too_short : (before now : SessionState) (looks looks_now : ℕ) → HasReadLocals before looks now looks_now → IsReady now
    → length before.unread < before.need → ⊥
too_short before now looks looks_now h ready short =
    let same : now ≡ before = (h.nothing short).0 in
    let enough : before.need ≤ length before.unread = rw same at ready.enough in
    omega arith

-- nor is one whose output waits
too_much : (before now : SessionState) (looks looks_now : ℕ) → HasReadLocals before looks now looks_now → IsReady now
    → MAX_WAITING < length before.out → ⊥
too_much before now looks looks_now h ready input_ended =
    let longer : length now.out ≡ length before.out + length (said (before.queue ++ h.messages) []) =
    ap length h.reads.out
    ∙ length-append before.out (said (before.queue ++ h.messages) []) in
    omega (arith, ready.room, longer)

-- a message that is no request was read
pub reads_local : (before now after : SessionState) (looks looks_now looks_after : ℕ)
    → HasReadLocals before looks now looks_now
    → IsReady now → looks_after ≤ looks_now + 1 → (m : Message) → is_ask m ≡ false → ReadsMessage now m after
    → HasReadLocals before looks after looks_after
reads_local before now after looks looks_now looks_after h ready one m no_ask t = record {
  messages = h.messages ++ m ∷ [];
  reads = reads_more before now after h.messages m h.reads ready.not_ended t;
  no_ask = rw (asks-append, h.no_ask) (none_asked m no_ask);
  waits = λ over. absurd (too_much before now looks looks_now h ready over);
  most_looks = omega (arith, h.most_looks, length-append h.messages (m ∷ []));
  nothing = λ short. absurd (too_short before now looks looks_now h ready short);
}

-- at the beginning no messages were read, and the parser wasn't called
pub starts_locals : (s : SessionState) (looks : ℕ) → begins_asked s.queue ≡ true → HasReadLocals s looks s looks
starts_locals s looks asked = record {
  messages = [];
  reads = reads_nothing s asked;
  no_ask = refl;
  waits = λ over. refl;
  most_looks = omega arith;
  nothing = λ short. (refl, refl);
}

-- a request was read
pub reads_ask : (before now after : SessionState) (looks looks_now looks_after : ℕ) (q : Request) (quiet : Bool)
    → HasReadLocals before looks now looks_now → IsReady now → looks_after ≤ looks_now + 1
    → ReadsMessage now (Ask q quiet) after → ReadsAsk before looks (Ok (Some q)) after looks_after
reads_ask before now after looks looks_now looks_after q quiet h ready one t = record {
  messages = h.messages ++ Ask q quiet ∷ [];
  reading = record {
    reads = reads_more before now after h.messages (Ask q quiet) h.reads ready.not_ended t;
    ask_at_last = asks_at_last h.messages (Ask q quiet) h.no_ask;
    requests_are = rw (asks-append, h.no_ask) refl;
    waits = λ over. absurd (too_much before now looks looks_now h ready over);
    most_looks = omega (arith, h.most_looks, length-append h.messages (Ask q quiet ∷ []));
    no_look = λ short. absurd (too_short before now looks looks_now h ready short);
  };
  none = λ e. absurd cc;
  refused = λ f e. absurd cc;
}

-- the parser found no further message
pub reads_none : (before now after : SessionState) (looks looks_now looks_after : ℕ)
    → HasReadLocals before looks now looks_now
    → IsReady now → looks_after ≤ looks_now + 1 → TakesNothing now after
    → ReadsAsk before looks (Ok None) after looks_after
reads_none before now after looks looks_now looks_after h ready one t = record {
  messages = h.messages;
  reading = record {
    reads = reads_no_more before now after h.messages h.reads t;
    ask_at_last = no_asks h.messages h.no_ask;
    requests_are = h.no_ask;
    waits = h.waits;
    most_looks = omega (arith, h.most_looks);
    no_look = λ short. absurd (too_short before now looks looks_now h ready short);
  };
  none = λ e.
      let unfinished : IsUnfinished after.dialect after.unread after.need =
      rw (ap (λ (s : SessionState). s.dialect) t.rest) t.unfinished in
      no_message (unfinished_short after.dialect after.unread after.need unfinished) unfinished.none;
  refused = λ f e. absurd cc;
}

-- the session reads no further
pub reads_stops : (before now : SessionState) (looks looks_now : ℕ) → HasReadLocals before looks now looks_now
    → Stops now
    → ReadsAsk before looks (Ok None) now looks_now
reads_stops before now looks looks_now h stops = record {
  messages = h.messages;
  reading = record {
    reads = h.reads;
    ask_at_last = no_asks h.messages h.no_ask;
    requests_are = h.no_ask;
    waits = h.waits;
    most_looks = omega (arith, h.most_looks);
    no_look = λ short. (h.nothing short).1;
  };
  none = λ e. stops;
  refused = λ f e. absurd cc;
}

-- there was no memory for a message, which stays unread
pub reads_refused : (before now after : SessionState) (looks looks_now looks_after : ℕ) (unasked : Unasked)
    → HasReadLocals before looks now looks_now → IsReady now → looks_after ≤ looks_now + 1 → after ≡ now
    → ReadsAsk before looks (Err unasked) after looks_after
reads_refused before now after looks looks_now looks_after unasked h ready one same = record {
  messages = h.messages;
  reading = record {
    reads = rw same h.reads;
    ask_at_last = no_asks h.messages h.no_ask;
    requests_are = h.no_ask;
    waits = h.waits;
    most_looks = omega (arith, h.most_looks);
    no_look = λ short. absurd (too_short before now looks looks_now h ready short);
  };
  none = λ e. absurd cc;
  refused = λ f e. rw same ready;
}

-- ---- what one try for a message has come to

-- a message was read, so the session was ready
pub record HasRead (now after : SessionState) (looks_now looks_after : ℕ) (m : Message) : Type 0 where
  pub ready : IsReady now
  pub one : looks_after ≤ looks_now + 1
  pub read : ReadsMessage now m after

pub has_read : (now after : SessionState) (looks_now looks_after : ℕ) (m : Message)
    → TriesNext now looks_now (Ok (Some m)) after looks_after → HasRead now after looks_now looks_after m
has_read now after looks_now looks_after m (looked is one read) = record { ready = is; one = one; read = read }
has_read now after looks_now looks_after m (at_rest stops none same looks) = absurd cc

-- none was
pub tries_none : (before now after : SessionState) (looks looks_now looks_after : ℕ) → HasReadLocals before looks now looks_now
    → TriesNext now looks_now (Ok None) after looks_after → ReadsAsk before looks (Ok None) after looks_after
tries_none before now after looks looks_now looks_after h (looked is one read) =
    reads_none before now after looks looks_now looks_after h is one read
tries_none before now after looks looks_now looks_after h (at_rest stops none same looks_same) =
    rw (same, looks_same) (reads_stops before now looks looks_now h stops)

-- there was no memory for one
pub tries_refused : (before now after : SessionState) (looks looks_now looks_after : ℕ) (unasked : Unasked)
    → HasReadLocals before looks now looks_now → TriesNext now looks_now (Err unasked) after looks_after
    → ReadsAsk before looks (Err unasked) after looks_after
tries_refused before now after looks looks_now looks_after unasked h (looked is one same) =
    reads_refused before now after looks looks_now looks_after unasked h is one same
tries_refused before now after looks looks_now looks_after unasked h (at_rest stops none same looks_same) = absurd cc
