-- The headline: what holds once a group has ended.
use Rattle.std.specs.Prelude.{◌≡◌, ℕ, ◌^◌, ◌-◌, ◌<◌, ◌≤◌, ⊤, Bool, true, false, List, length, min, All}
use Rattle.std.specs.Prelude.{Option, Some, option_map, slice_index}
use mathlib.Core.Option.{some}
use lib.ListN.{get_elem?}
use Rattle.proto.specs.declared.message.Message.{Message}
use Rattle.proto.specs.declared.history.Answered.{Answered}
use Rattle.proto.specs.Sizes.{Sizes}
use Rattle.proto.specs.History.{Legal, RefusesBy, worker_share, asked_posted}
use Rattle.proto.specs.Reading.{Reads}
use Rattle.exchange.specs.declared.opening.Gathered.{Gathered}
use Rattle.exchange.specs.Beginnings.{StartsWith}
use Rattle.storage_thread.specs.Keeping.{MayAlwaysForgetNothing, MayLeave}
use Rattle.engine.specs.Deadlines.{IsAsAsked}
use Rattle.storage_thread.specs.Serving.{IsTimed}
use Rattle.session_book.specs.declared.causes.EndCause.{EndCause}
use Rattle.worker_port.specs.Ports.{PortTrace, fed}
use Rattle.worker.specs.Sessions.{cause_of}
use Rattle.worker.specs.Reports.{AreListed, IsSessionAnswered}
use Rattle.group.specs.declared.fault.GroupFault.{GroupFault}
use Rattle.group.specs.declared.fault.GroupFault.TheVariants.{NoMemory, NoThread, NotNew}
use Rattle.group.specs.declared.report.GroupWorker.{GroupWorker}
use Rattle.group.specs.declared.report.GroupReport.{GroupReport}

-- what holds of worker w, whose port this was: the history has what it sent, once and in order, and
-- its sessions were answered. No answer came that it hadn't asked for. The port still tells if it
-- told before, and keeps its dialect.
pub record IsWorkerOf {P : Type 0} (told : P → Option PortTrace) (leads_to : P → P → Type 0) (history : List Answered)
    (gathered : Gathered) (port : P) (w : ℕ) (worker : GroupWorker P) : Type 0 where
  pub exactly : asked_posted (worker_share history w) ≡ worker.sent
  pub sent : slice_index gathered.sent w ≡ length worker.sent
  pub back : slice_index gathered.back w ≡ length worker.sent
  pub strangers : worker.strangers ≡ 0
  pub leads : leads_to port worker.port
  pub tells : option_map (λ (trace : PortTrace). trace.dialect) (told worker.port)
      ≡ option_map (λ (trace : PortTrace). trace.dialect) (told port)
  pub listed : (trace : PortTrace) → told worker.port ≡ Some trace
      → AreListed trace.events worker.sent worker.sessions.items worker.unopened
  pub answered : (trace : PortTrace) → told worker.port ≡ Some trace
      → (s : ℕ) (cause : EndCause) (messages : List Message) (rest : List ℕ)
      → cause_of worker.sessions.items s ≡ Some cause → Reads trace.dialect (fed s trace.events) messages rest
      → IsSessionAnswered trace.dialect trace.events history w s cause messages
  pub given_by : (trace : PortTrace) → told worker.port ≡ Some trace → StartsWith history trace.history

-- The headline: there is a legal history of these workers, at the moments of this clock. Its length
-- is the number executed, which stays at the greatest number. Each port's worker was answered in
-- it, and no other worker was. It refuses memory as the store may. For a store that keeps, each
-- beginning of it may forget nothing, if it stores little and sets no deadline. For one that is
-- exact, each entry may have the very deadline that was asked for.
pub record IsRun {P C : Type 0} (told : P → Option PortTrace) (leads_to : P → P → Type 0)
    (clock_told : C → Option (List ℕ)) (clock_leads : C → C → Type 0) (keeps : Type 0) (exact may_refuse : Bool)
    (sizes : Sizes) (ports : List P) (clock : C) (report : GroupReport P C) : Type 0 where
  pub history : List Answered
  pub legal : Legal sizes history
  pub inside : All (λ (e : Answered). e.worker < length ports) history
  pub counted : report.executed ≡ min (length history) (2 ^ 64 - 1)
  pub moments : IsTimed (clock_told clock) (clock_told report.clock) history
  pub leads : clock_leads clock report.clock
  pub one_each : length report.workers.items ≡ length ports
  pub each : (w : ℕ) (port : P) (worker : GroupWorker P) → get_elem? ports w ≡ some port
      → get_elem? report.workers.items w ≡ some worker → IsWorkerOf told leads_to history report.gathered port w worker
  pub none_beyond : (w : ℕ) → length ports ≤ w
      → (slice_index report.gathered.sent w ≡ 0) × (slice_index report.gathered.back w ≡ 0)
  pub refused : RefusesBy may_refuse history
  pub bounded : keeps → MayAlwaysForgetNothing sizes history
  pub dated : exact ≡ true → MayLeave IsAsAsked sizes history

-- After this fault no thread of the group has begun: none was started, or the start said to those
-- that were not to begin.
abbrev pub NoneBegan : GroupFault → Type 0
NoneBegan NoMemory = ⊤
NoneBegan (NoThread off) = off.begins.value ≡ false
NoneBegan NotNew = ⊤
