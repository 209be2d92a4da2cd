-- What a worker offers to a session begins the answers to its messages.
use Rattle.std.proofs.Common.{◌≡◌, ◌==◌, ℕ, List, [], ◌∷◌, ◌++◌, map, refl, sym, ap, subst, ◌∙◌, Option, Some, length}
use Rattle.std.specs.Option.{option_to_list}
use Rattle.std.specs.List.{filter}
use Rattle.std.proofs.lemmas.List.{map-append}
use Rattle.std.proofs.lemmas.List.Elements.{filter-append}
use Rattle.proto.specs.declared.message.Reply.{Reply}
use Rattle.proto.specs.declared.message.Message.{Message}
use Rattle.proto.specs.declared.history.Posted.{Posted}
use Rattle.proto.specs.declared.history.Answered.{Answered}
use Rattle.proto.specs.History.{worker_share, session_share, asked_posted, asked, had}
use Rattle.proto.specs.Reading.{asks}
use Rattle.proto.specs.Answers.{said}
use Rattle.proto.proofs.AskLemmas.{asks-append}
use Rattle.proto.proofs.HistoryLemmas.{all_read}
use Rattle.proto.proofs.Options.{some_is}
use Rattle.exchange.specs.Beginnings.{StartsWith}
use Rattle.exchange.specs.Ends.{WorkerView, WasTold}
use Rattle.exchange.proofs.Lists.{starts_trans, starts_longer, starts_take}
use Rattle.session_book.specs.Session.{SessionState}
use Rattle.session_book.specs.Book.{session_of}
use Rattle.worker_port.specs.Ports.{fed, given}
use Rattle.worker_port.specs.Giving.{MayBeSent}
use Rattle.worker.specs.Sessions.{RunView, facts, asked_by, had_by, AreFactsConsistent, IsSessionServed}
use Rattle.worker.specs.Workers.{numbered_by}
use Rattle.worker.proofs.SessionSteps.{runs, begins}
use Rattle.worker.proofs.Answering.{said_more, said_further, begins_on}
use Rattle.worker.proofs.Readings.{first_of_reading}
use Rattle.worker.proofs.ReportSteps.{share_of, asked_from}

-- the requests of a session among the first posts are the first of its requests
pub asked_first : (posts first : List Posted) (s : ℕ) → StartsWith posts first
    → StartsWith (asked_by posts s) (asked_by first s)
asked_first posts first s h = (
  asked_by h.0 s,
  ap (λ l. asked_by l s) h.1
      ∙ ap (map (λ (p : Posted). p.request)) (filter-append (λ (p : Posted). p.session == s) first h.0)
      ∙ map-append (λ (p : Posted). p.request) (filter (λ (p : Posted). p.session == s) first)
      (filter (λ (p : Posted). p.session == s) h.0),
)

-- the replies of a session among the first answers are the first of its replies
had_first : (all first : List Answered) (s : ℕ) → StartsWith all first → StartsWith (had_by all s) (had_by first s)
had_first all first s h = (
  had_by h.0 s,
  ap (λ l. had_by l s) h.1
      ∙ ap (map (λ (a : Answered). a.reply)) (filter-append (λ (a : Answered). a.session == s) first h.0)
      ∙ map-append (λ (a : Answered). a.reply) (filter (λ (a : Answered). a.session == s) first)
      (filter (λ (a : Answered). a.session == s) h.0),
)

-- the output of an open session may be given
pub may_be_given : (v : RunView) (end : WorkerView) (request : Option Posted) (t : ℕ) (s : SessionState)
    → AreFactsConsistent (facts v t) → session_of v.book t ≡ Some s → v.numbered ≡ numbered_by end request
    → v.back ≡ end.back → WasTold end
    → MayBeSent end.terms v.dialect end.worker end.seen t (fed t v.events) (given t v.events) s.out
may_be_given v end request t s h open_is numbered back told =
    let run = runs (facts v t) s h open_is in
    let same : run.running.s ≡ s = some_is run.running.s s (sym run.running.state ∙ open_is) in
    let served : IsSessionServed (v.piece t) (facts v t) s =
    subst (λ (x : SessionState). IsSessionServed (v.piece t) (facts v t) x) same run.running.served in
    let ms = served.messages in
    let hist = end.seen in
    let begun = begins v.dialect served.bytes (v.piece t) (fed t v.events) ms s served.fed served.has_read in
    let share = share_of hist end.worker t in
    let asked_is : asked (session_share hist end.worker t) ≡ asked_by (asked_posted (worker_share hist end.worker)) t =
    ap asked share ∙ asked_from (worker_share hist end.worker) t in
    let had_is : had (session_share hist end.worker t) ≡ had_by (worker_share hist end.worker) t = ap had share in
    let replies : StartsWith (had_by (worker_share hist end.worker) t) (had_by v.back t) =
    had_first (worker_share hist end.worker) v.back t
    (subst (λ l. StartsWith (worker_share hist end.worker) l) (sym back) told.back) in
    let sent : StartsWith v.numbered (asked_posted (worker_share hist end.worker)) =
    subst (λ l. StartsWith l (asked_posted (worker_share hist end.worker))) (sym numbered)
    (starts_longer end.sent (asked_posted (worker_share hist end.worker)) (option_to_list request)
    (subst (λ l. StartsWith end.sent l) (sym told.asked) (starts_take end.sent (length (worker_share hist end.worker))))) in
    let now : StartsWith (said ms (had_by v.back t)) (given t v.events ++ s.out) =
    ([], sym served.has_said.whole ∙ sym_nil (given t v.events ++ s.out)) in
    record {
      legal = told.legal.legal;
      read = all_read end.terms hist told.legal;
      refused = told.legal.refused;
      said_there = λ messages rest reads.
          let m = first_of_reading v.dialect (fed t v.events) begun.0 rest ms messages begun.1 reads in
          let asks_on : StartsWith (asks messages) (asks ms) = (asks m.0, ap asks m.1 ∙ asks-append ms m.0) in
          let asked_on : StartsWith (asks ms) (asked_by (asked_posted (worker_share hist end.worker)) t) =
          subst (λ l. StartsWith l (asked_by (asked_posted (worker_share hist end.worker)) t)) served.asked
          (asked_first v.numbered (asked_posted (worker_share hist end.worker)) t sent) in
          let more : StartsWith (said ms (had_by (worker_share hist end.worker) t)) (said ms (had_by v.back t)) =
          subst (λ (rs : List Reply). StartsWith (said ms rs) (said ms (had_by v.back t))) (sym replies.1)
          (said_more ms (had_by v.back t) replies.0) in
          let further : StartsWith (said messages (had_by (worker_share hist end.worker) t))
          (said ms (had_by (worker_share hist end.worker) t)) =
          subst (λ (all : List Message). StartsWith (said all (had_by (worker_share hist end.worker) t))
          (said ms (had_by (worker_share hist end.worker) t))) (sym m.1)
          (said_further ms m.0 (had_by (worker_share hist end.worker) t)) in
          record {
            first = subst (λ l. StartsWith (asks messages) l) (sym asked_is)
                (starts_trans (asks messages) (asks ms) (asked_by (asked_posted (worker_share hist end.worker)) t) asks_on
                asked_on);
            begins = subst (λ rs. StartsWith (said messages rs) (given t v.events ++ s.out)) (sym had_is)
                (begins_on (given t v.events ++ s.out) (said ms (had_by v.back t))
                (said messages (had_by (worker_share hist end.worker) t)) now
                (begins_on (said ms (had_by v.back t)) (said ms (had_by (worker_share hist end.worker) t))
                (said messages (had_by (worker_share hist end.worker) t)) more further));
          };
    }
  where
    sym_nil : (l : List ℕ) → l ≡ l ++ []
    sym_nil [] = refl
    sym_nil (x ∷ l) = ap (λ (k : List ℕ). x ∷ k) (sym_nil l)
