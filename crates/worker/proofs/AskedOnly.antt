-- What a worker has sent for a session are the first of the requests that the bytes spell which
-- came of it.
use Rattle.std.proofs.Common.{◌≡◌, ℕ, true, false, Bool, List, [], ◌++◌, sym, ap, subst, ◌∙◌, Option, Some, None}
use Rattle.proto.specs.declared.message.Message.{Message}
use Rattle.proto.specs.declared.history.Posted.{Posted}
use Rattle.proto.specs.Reading.{Reads, asks}
use Rattle.proto.proofs.AskLemmas.{asks-append}
use Rattle.exchange.specs.Beginnings.{StartsWith}
use Rattle.exchange.specs.Ends.{WorkerView}
use Rattle.exchange.proofs.Lists.{starts_trans, starts_longer, starts_self}
use Rattle.session_book.specs.declared.causes.EndCause.{EndCause}
use Rattle.session_book.specs.declared.causes.EndCause.TheVariants as causes
use Rattle.worker_port.specs.Ports.{PortTrace}
use Rattle.worker_port.specs.Giving.{HasAskedOnly, sent_for}
use Rattle.worker.specs.declared.worker.WorkerState.{WorkerState}
use Rattle.worker.specs.Sessions.{SessionFacts, facts, asked_by, AreFactsConsistent, IsKnownAs, BeginsWith}
use Rattle.worker.specs.Workers.{IsWorkerServing, run_view, end_of, numbered_by}
use Rattle.worker.proofs.SessionSteps.{begins}
use Rattle.worker.proofs.Readings.{first_of_reading}
use Rattle.worker.proofs.GiveSteps.{asked_first}

module _ (f : SessionFacts) (messages : List Message) (rest : List ℕ) (reads : Reads f.dialect f.port.fed messages rest) where
  none_asked : f.asked ≡ [] → StartsWith (asks messages) f.asked
  none_asked e = (asks messages, ap (λ l. l ++ asks messages) (sym e))

  first_asked : (ms : List Message) (left : List ℕ) → BeginsWith f.dialect f.port.fed ms left → f.asked ≡ asks ms
      → StartsWith (asks messages) f.asked
  first_asked ms left begun asked = let m = first_of_reading f.dialect f.port.fed left rest ms messages begun reads in
      subst (λ l. StartsWith (asks messages) l) (sym asked) (asks m.0, ap asks m.1 ∙ asks-append ms m.0)

  known_asked : (opened : Bool) (cause : Option EndCause) → IsKnownAs opened cause f → StartsWith (asks messages) f.asked
  known_asked false cause k = none_asked k.0.asked
  known_asked true None k = none_asked k.asked
  known_asked true (Some causes.Drained) k = let served = k.served in
      let begun = begins f.dialect served.bytes f.piece f.port.fed served.messages k.s served.fed served.has_read in
      first_asked served.messages begun.0 begun.1 served.asked
  known_asked true (Some causes.EndOfInput) k = first_asked k.messages k.rest k.read k.asked
  known_asked true (Some causes.Quit) k = first_asked k.messages k.rest k.read k.asked
  known_asked true (Some causes.Fatal) k = first_asked k.messages k.rest k.read k.asked
  known_asked true (Some causes.Gone) k = first_asked k.messages k.rest k.read k.asked
  known_asked true (Some causes.NoMemory) k = first_asked k.messages k.rest k.read k.asked
  known_asked true (Some causes.Stalled) k = first_asked k.messages k.rest k.read k.asked

  pub asked_only : AreFactsConsistent f → StartsWith (asks messages) f.asked
  asked_only h = known_asked f.port.opened f.cause h.known

-- so it is between the steps of a worker
pub has_asked_only : {P : Type 0} (told : P → Option PortTrace) (w : WorkerState P) → IsWorkerServing told w
    → (trace : PortTrace) → told w.port ≡ Some trace → HasAskedOnly trace w.batch.end.exchange w.batch.end.worker w.batch.end.sent
has_asked_only told w h trace e = let whose = (h.whose trace e).0 in
    let end : WorkerView = end_of w in
    let sent : List Posted = w.batch.end.sent in
    let posts : List Posted = numbered_by end w.request in
    let first : StartsWith posts sent = starts_trans posts end.sent sent
    (starts_longer end.sent end.sent _ (starts_self end.sent))
    (starts_longer sent sent w.batch.put (starts_self sent)) in record {
      exchange = sym whose.exchange_is;
      worker = sym whose.worker_is;
      asked = λ s messages rest reads. starts_trans (asks messages) (asked_by posts s) (sent_for sent s)
          (asked_only (facts (run_view trace w) s) messages rest reads ((h.known trace e).each s))
          (asked_first posts sent s first);
    }
