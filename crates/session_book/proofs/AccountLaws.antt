-- What a caller carries over a whole run.
use Rattle.std.proofs.Common.{◌≡◌, ℕ, ◌+◌, ◌≤◌, true, List, [], ◌∷◌, ◌++◌, length, Option, Some, None, is_some, refl}
use Rattle.std.proofs.Common.{sym, ap, subst, ◌∙◌, arith, inl, inr}
use Rattle.std.proofs.Common.{append_assoc, length-append}
use Rattle.std.specs.Prelude.{◌⊎◌}
use Rattle.std.specs.List.{list_any}
use Rattle.std.proofs.lemmas.List.{append-nil}
use Rattle.std.proofs.lemmas.Bool.{both_ways}
use Rattle.proto.specs.declared.dialect.Dialect.{Dialect}
use Rattle.proto.specs.declared.message.Message.{Message}
use Rattle.proto.specs.declared.message.Reply.{Reply}
use Rattle.proto.specs.Reading.{ends_session, Reads, asks}
use Rattle.proto.specs.Answers.{said}
use Rattle.proto.proofs.GrammarLaws.{has_reading, has_one_reading}
use Rattle.session_book.specs.declared.causes.EndCause.{EndCause}
use Rattle.session_book.specs.Session.{SessionState, messages_left, ended_by, ReadsMessages}
use Rattle.session_book.specs.Accounts.{HasRead, HasSaid, StartsAccounts, ReadKeeps, SettleKeeps, ReadBegins, ReadIsWhole, SaidBegins}
use Rattle.session_book.proofs.Answering.{said-append, left-append, said_more, left_more, asks-left}
use Rattle.session_book.proofs.Reading.{ended_by-append, not_ended_before, has_ended_by, none_ends}
use Rattle.proto.proofs.AskLemmas.{asks-append}
use Rattle.proto.proofs.ReadingLemmas.{reads_empty, reads_on, reads_before}

-- something has ended a session, or nothing has
some_or_none : (o : Option EndCause) → (is_some o ≡ true) ⊎ (o ≡ None)
some_or_none None = inr refl
some_or_none (Some c) = inl refl

-- of a new session, fed nothing, no message was read and nothing was said
pub starts_accounts : StartsAccounts
starts_accounts d = (
  record {
    read = [];
    dropped = [];
    whole = refl;
    dialect = refl;
    reads = reads_empty d;
    ended = refl;
    nothing_dropped = λ e. refl;
  },
  record { whole = refl; queue = refl; replied = refl },
)

-- what is read behind, nothing where the session has ended, is read with what was read before
joined_reads : (d : Dialect) (read behind : List ℕ) (ms more : List Message) (ended : Option EndCause)
    → ended ≡ ended_by None ms → (is_some ended ≡ true → more ≡ [])
    → Reads d read ms [] → Reads d behind more [] → Reads d (read ++ behind) (ms ++ more) []
joined_reads d read behind ms more ended is stops h k =
    elim (some_or_none ended) [
      | inl some ↦
          let none : behind ≡ [] = (subst (λ (ns : List Message). Reads d behind ns []) (stops some) k).0 in
          rw (stops some, none, append-nil ms, append-nil read) h
      | inr none ↦ reads_on d (read ++ behind) read behind [] ms more refl (none_ends ms (sym is ∙ none)) h k
    ]

-- bytes in front of what is unread are regrouped
regroup : (p q u d : List ℕ) → p ++ (q ++ u) ++ d ≡ (p ++ q) ++ u ++ d
regroup p q u d = simp append_assoc

-- once more messages are read, the bytes fed were read as all of the messages, the new ones last
read_more : (d : Dialect) (bytes : List ℕ) (ms more : List Message) (s after : SessionState)
    → ReadsMessages s more after
    → HasRead d bytes ms s → HasRead d bytes (ms ++ more) after
read_more d bytes ms more s after r h = record {
  read = h.read ++ r.read;
  dialect = r.dialect ∙ h.dialect;
  dropped = h.dropped;
  whole = h.whole ∙ ap (λ (x : List ℕ). h.read ++ x ++ h.dropped) r.unread ∙ regroup h.read r.read after.unread h.dropped;
  reads = joined_reads d h.read r.read ms more s.ended h.ended r.not_ended h.reads
      (subst (λ (dialect : Dialect). Reads dialect r.read more []) h.dialect r.reads);
  ended = r.ended ∙ ap (λ (e : Option EndCause). ended_by e more) h.ended ∙ sym (ended_by-append None ms more);
  nothing_dropped = λ e. h.nothing_dropped (not_ended_before s.ended more (sym r.ended ∙ e));
}

-- no more replies were settled than requests were read
few : (ms : List Message) (rs : List Reply) (given : List ℕ) (s : SessionState) → HasSaid ms rs given s
    → length rs ≤ length (asks ms)
few ms rs given s h = omega (arith, h.replied)

-- once more messages are read, the bytes given and the output are what was said to all of them
say_more : (given : List ℕ) (ms more : List Message) (rs : List Reply) (s after : SessionState)
    → ReadsMessages s more after
    → HasSaid ms rs given s → HasSaid (ms ++ more) rs given after
say_more given ms more rs s after r h =
    let le : length rs ≤ length (asks ms) = few ms rs given s h in
    let queue : after.queue ≡ messages_left (ms ++ more) rs =
    r.queue ∙ ap (λ (q : List Message). messages_left (q ++ more) []) h.queue ∙ sym (left-append ms more rs le) in
    let le_all : length rs ≤ length (asks (ms ++ more)) =
    rw asks-append (omega (arith, length-append (asks ms) (asks more))) in
    record {
      whole = ap (λ (x : List ℕ). given ++ x) r.out ∙ sym (append_assoc given s.out (said (s.queue ++ more) []))
          ∙ ap (λ (x : List ℕ). x ++ said (s.queue ++ more) []) h.whole
          ∙ ap (λ (q : List Message). said ms rs ++ said (q ++ more) []) h.queue
          ∙ sym (said-append ms more rs le);
      queue = queue;
      replied = rw queue (asks-left (ms ++ more) rs le_all);
    }

-- reading keeps what is known of the bytes read and of the answers said
pub read_keeps : ReadKeeps
read_keeps d bytes given ms more rs s after r h k =
    (read_more d bytes ms more s after r h, say_more given ms more rs s after r k)

-- settling a reply keeps both
pub settle_keeps : SettleKeeps
settle_keeps d bytes given ms rs r s asked h k =
    let queue : messages_left s.queue (r ∷ []) ≡ messages_left ms (rs ++ r ∷ []) =
    ap (λ (q : List Message). messages_left q (r ∷ [])) k.queue ∙ sym (left_more ms rs (r ∷ [])) in
    let one : length (rs ++ r ∷ []) ≡ length rs + 1 = length-append rs (r ∷ []) in (
      record {
        read = h.read;
        dropped = h.dropped;
        whole = h.whole;
        dialect = h.dialect;
        reads = h.reads;
        ended = h.ended;
        nothing_dropped = h.nothing_dropped;
      },
      record {
        whole = sym (append_assoc given s.out (said s.queue (r ∷ [])))
            ∙ ap (λ (x : List ℕ). x ++ said s.queue (r ∷ [])) k.whole
            ∙ ap (λ (q : List Message). said ms rs ++ said q (r ∷ [])) k.queue ∙ sym (said_more ms rs (r ∷ []));
        queue = queue;
        replied = omega (arith, asks-left s.queue (r ∷ []) asked, k.replied, one);
      },
    )

-- ---- beginnings

-- a session that has ended has read all
whole_ended : (d : Dialect) (bytes rest : List ℕ) (ms all : List Message) (s : SessionState) → is_some s.ended ≡ true
    → HasRead d bytes ms s → Reads d bytes all rest → all ≡ ms
whole_ended d bytes rest ms all s ended h r =
    let has : list_any ends_session ms ≡ true = sym (has_ended_by ms)
    ∙ ap (λ (o : Option EndCause). is_some o) (sym h.ended) ∙ ended in
    let mine : Reads d bytes ms (s.unread ++ h.dropped) =
    reads_before d bytes h.read (s.unread ++ h.dropped) ms (h.whole ∙ append_assoc h.read s.unread h.dropped) h.reads
    (λ e. absurd (both_ways _ e has)) in
    (has_one_reading d bytes rest (s.unread ++ h.dropped) all ms r mine).0

-- reading goes on behind what was read of a session that hasn't ended
reads_behind : (d : Dialect) (bytes rest : List ℕ) (ms more : List Message) (s : SessionState) → s.ended ≡ None → HasRead d bytes ms s
    → Reads d s.unread more rest → Reads d bytes (ms ++ more) rest
reads_behind d bytes rest ms more s none h r =
    let kept : bytes ≡ h.read ++ s.unread =
    h.whole ∙ ap (λ (d : List ℕ). h.read ++ s.unread ++ d) (h.nothing_dropped none) ∙ append-nil _ in
    reads_on d bytes h.read s.unread rest ms more kept (none_ends ms (sym h.ended ∙ none)) h.reads r

-- the messages read are the first of those that the bytes spell
pub read_begins : ReadBegins
read_begins d bytes rest ms all s h r =
    elim (some_or_none s.ended) [
      | inl ended ↦ ([], whole_ended d bytes rest ms all s ended h r ∙ sym (append-nil ms))
      | inr none ↦
          let (more, left_over, below) = has_reading d s.unread in (
            more,
            (has_one_reading d bytes rest left_over all (ms ++ more) r
                (reads_behind d bytes left_over ms more s none h below)).0,
          )
    ]

-- the messages read are all that the bytes spell, once the session has ended or no message is left
pub read_is_whole : ReadIsWhole
read_is_whole d bytes rest ms all s (inl ended) h r = whole_ended d bytes rest ms all s ended h r
read_is_whole d bytes rest ms all s (inr none_spelled) h r =
    elim (some_or_none s.ended) [
      | inl ended ↦ whole_ended d bytes rest ms all s ended h r
      | inr none ↦
          (has_one_reading d bytes rest s.unread all (ms ++ []) r
          (reads_behind d bytes s.unread ms [] s none h (refl, none_spelled))).0 ∙ append-nil ms
    ]

-- the bytes given are the first of what is said to more messages with more replies
pub said_begins : SaidBegins
said_begins given ms more rs others s h = (
  s.out ++ said (messages_left ms rs ++ more) [] ++ said (messages_left (ms ++ more) rs) others,
  said_more (ms ++ more) rs others
      ∙ ap (λ (x : List ℕ). x ++ said (messages_left (ms ++ more) rs) others)
      (said-append ms more rs (few ms rs given s h)
      ∙ ap (λ (x : List ℕ). x ++ said (messages_left ms rs ++ more) []) (sym h.whole))
      ∙ simp append_assoc,
)
