-- The book's laws that its proofs don't name.
use Rattle.std.proofs.Common.{◌≡◌, ℕ, true≢false, cond, List, [], ◌++◌, take, drop, refl, sym, ap, ◌∙◌}
use Rattle.std.proofs.Common.{append_assoc, append-nil, take-append-drop, Option}
use Rattle.std.proofs.Common.{Some, None, is_some}
use Rattle.proto.specs.declared.dialect.Dialect.{Dialect}
use Rattle.proto.specs.declared.message.Reply.{Reply}
use Rattle.proto.specs.declared.message.Message.{Message}
use Rattle.session_book.specs.declared.causes.EndCause.{EndCause}
use Rattle.session_book.specs.Session.{SessionState}
use Rattle.session_book.specs.Accounts.{HasRead, HasSaid, FeedKeeps, GiveKeeps}

-- by whether the session has ended
fed_by : (d : Dialect) (o : Option EndCause) (bytes piece given : List ℕ) (ms : List Message) (replies : List Reply)
    (s : SessionState) → s.ended ≡ o
    → HasRead d bytes ms s → HasSaid ms replies given s
    → HasRead d (bytes ++ piece) ms (cond (is_some o) s (record s { unread = s.unread ++ piece }))
    × HasSaid ms replies given (cond (is_some o) s (record s { unread = s.unread ++ piece }))
fed_by d None bytes piece given ms replies s e h k = (
  record {
    read = h.read;
    dropped = [];
    whole = ap (λ (x : List ℕ). x ++ piece)
        (h.whole ∙ ap (λ (x : List ℕ). (h.read ++ s.unread) ++ x) (h.nothing_dropped e)
        ∙ append-nil (h.read ++ s.unread)) ∙ append_assoc h.read s.unread piece
        ∙ sym (append-nil (h.read ++ (s.unread ++ piece)));
    dialect = h.dialect;
    reads = h.reads;
    ended = h.ended;
    nothing_dropped = λ x. refl;
  },
  record { whole = k.whole; queue = k.queue; replied = k.replied },
)
fed_by d (Some c) bytes piece given ms replies s e h k = (
  record {
    read = h.read;
    dropped = h.dropped ++ piece;
    whole = ap (λ (x : List ℕ). x ++ piece) h.whole ∙ append_assoc (h.read ++ s.unread) h.dropped piece;
    dialect = h.dialect;
    reads = h.reads;
    ended = h.ended;
    nothing_dropped = λ x. absurd (true≢false (sym (ap is_some e) ∙ ap is_some x));
  },
  k,
)

-- a session that is fed a piece has read the same messages of the longer input, and said the same
pub feed_keeps : FeedKeeps
feed_keeps d bytes piece given ms replies s h k = fed_by d s.ended bytes piece given ms replies s refl h k

-- a session that gives n bytes of its output has read the same messages, and all it gave and still
-- has to give is what was said
pub give_keeps : GiveKeeps
give_keeps d bytes given n ms replies s h k = (
  record {
    read = h.read;
    dropped = h.dropped;
    whole = h.whole;
    dialect = h.dialect;
    reads = h.reads;
    ended = h.ended;
    nothing_dropped = h.nothing_dropped;
  },
  record {
    whole = append_assoc given (take n s.out) (drop n s.out)
        ∙ ap (λ (x : List ℕ). given ++ x) (take-append-drop n s.out)
        ∙ k.whole;
    queue = k.queue;
    replied = k.replied;
  },
)
