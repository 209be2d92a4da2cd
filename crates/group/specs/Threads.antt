-- What the threads of a group leave.
use Rattle.std.specs.Prelude.{◌≡◌, ℕ, ◌^◌, ◌-◌, ◌<◌, ⊤, Bool, true, false, List, [], length, map, min, All}
use Rattle.std.specs.Prelude.{Option, Some, None, is_some, IsSome, IfSome}
use mathlib.Core.Option.{some}
use lib.ListN.{get_elem?}
use Rattle.proto.specs.declared.dialect.Dialect.{Dialect}
use Rattle.proto.specs.declared.terms.Terms.{Terms}
use Rattle.proto.specs.declared.logged_clock.ClockStart.{ClockStart}
use Rattle.proto.specs.Cache.{Cache, empty_cache}
use Rattle.proto.specs.Sizes.{Sizes}
use Rattle.proto.specs.declared.history.Answered.{Answered}
use Rattle.proto.specs.History.{Legal, RefusesBy}
use Rattle.exchange.specs.Ends.{TableId, WorkerView, StorageView, new_worker_view, new_storage_view}
use Rattle.storage_thread.specs.Keeping.{MayAlwaysForgetNothing, MayLeave}
use Rattle.engine.specs.Deadlines.{IsAsAsked}
use Rattle.storage_thread.specs.Serving.{IsSameExchange, IsTimed}
use Rattle.storage_thread.specs.declared.serving.StorageReport.{StorageReport}
use Rattle.worker_port.specs.Ports.{PortTrace}
use Rattle.worker_port.specs.Giving.{IsTraceOf}
use Rattle.worker.specs.declared.run.WorkerReport.{WorkerReport}
use Rattle.worker.specs.Reports.{IsReported, HasSaidBye}
use Rattle.group.specs.declared.start.Finished.{Finished}
use Rattle.group.specs.declared.fault.GroupFault.{GroupFault}
use Rattle.group.specs.declared.fault.GroupFault.TheVariants.{NoMemory, NoThread, NotNew}
use Rattle.group.specs.declared.report.GroupWorker.{GroupWorker}

-- what a worker's thread leaves of the port and the end that it was given
pub record KeepsWorker {P : Type 0} (told : P → Option PortTrace) (leads_to : P → P → Type 0) (port : P)
    (end : WorkerView)
    (report : WorkerReport P) : Type 0 where
  pub leads : leads_to port report.port
  pub tells : is_some (told report.port) ≡ is_some (told port)
  pub bye : HasSaidBye end report.worker_end
  pub strangers : report.strangers ≡ 0
  pub reported : (trace : PortTrace) → told report.port ≡ Some trace
      → IsReported trace.dialect trace.events report.worker_end report.sessions.items report.unopened
  pub whose : (trace : PortTrace) → told report.port ≡ Some trace → IsTraceOf trace report.worker_end
  pub spelled : (first trace : PortTrace) → told port ≡ Some first → told report.port ≡ Some trace
      → trace.dialect ≡ first.dialect

-- what the storage thread leaves of the clock and the end that it was given, over a store that
-- keeps what it stores where `keeps` says so, deadlines to the second where `exact` does, and may
-- be refused memory for an item where `may_refuse` does
pub record KeepsStorage {C : Type 0} (told : C → Option (List ℕ)) (leads_to : C → C → Type 0) (keeps : Type 0)
    (exact may_refuse : Bool) (clock : C) (end : StorageView) (report : StorageReport C) : Type 0 where
  pub same : IsSameExchange end report.storage_end
  pub none_open : report.storage_end.open_request ≡ None
  pub legal : Legal end.terms.geometry report.storage_end.history
  pub inside : All (λ (e : Answered). e.worker < end.workers) report.storage_end.history
  pub counted : report.executed ≡ min (length report.storage_end.history) (2 ^ 64 - 1)
  pub moments : IsTimed (told clock) (told report.clock) report.storage_end.history
  pub leads : leads_to clock report.clock
  pub refused : RefusesBy may_refuse report.storage_end.history
  pub bounded : keeps → MayAlwaysForgetNothing end.terms.geometry report.storage_end.history
  pub dated : exact ≡ true → MayLeave IsAsAsked end.terms.geometry report.storage_end.history

-- what a thread leaves that waited for the start `id`: it ran exactly if it was told to begin, and
-- what it left is kept
pub record IsFinished {T : Type 0} (id : ℕ) (keeps : T → Type 0) (finished : Finished T) : Type 0 where
  pub of_start : finished.told.of ≡ id
  pub did_run : finished.told.value ≡ true → IsSome finished.ran
  pub did_not : finished.told.value ≡ false → finished.ran ≡ None
  pub kept : IfSome finished.ran keeps

-- why the threads that waited for the start `id` didn't run, once they were started: it said so
abbrev pub IsCalledOff : ℕ → GroupFault → Type 0
IsCalledOff id NoMemory = ⊥
IsCalledOff id (NoThread off) = (off.start.value.id ≡ id) × (off.begins.value ≡ false)
IsCalledOff id NotNew = ⊤

-- the ports of workers 0, 1 and so on, of this exchange, by these terms and in this dialect, at
-- which nothing has happened yet
abbrev pub ArePortsOf : {P : Type 0} → (P → Option PortTrace) → TableId → Terms → Dialect → List P → Type 0
ArePortsOf {P} told exchange terms d ports =
    (w : ℕ) (port : P) → get_elem? ports w ≡ some port → (trace : PortTrace) → told port ≡ Some trace
    → (trace.worker ≡ w) × (trace.terms ≡ terms) × (trace.dialect ≡ d) × (trace.events ≡ []) × (trace.history ≡ [])
    × (trace.exchange ≡ exchange)

-- a store by these terms that has no entry and was asked nothing, and a clock by them, which was
-- asked nothing where it says what it starts from
abbrev pub StartsEmpty : {E C : Type 0} → (E → Cache) → (E → ℕ) → (E → Sizes) → Bool → (C → Option (List ℕ))
    → (C → Option ClockStart) → Terms → E → C → Type 0
StartsEmpty cache moment sizes may_refuse told start terms store clock =
    (cache store ≡ empty_cache 0) × (moment store ≡ 0) × (sizes store ≡ terms.geometry)
    × (terms.may_refuse ≡ false → may_refuse ≡ false)
    × (terms.system_clock ≡ true → IsSome (start clock)) × (IsSome (start clock) → told clock ≡ Some [])

-- two lists of one length, whose elements go together place by place
abbrev pub AreEach : {A B : Type 0} → (A → B → Type 0) → List A → List B → Type 0
AreEach {A} {B} P xs ys =
    (length xs ≡ length ys) × ((w : ℕ) (a : A) (b : B) → get_elem? xs w ≡ some a → get_elem? ys w ≡ some b → P a b)

-- the ends of some reports
abbrev pub ends_of : {P : Type 0} → List (WorkerReport P) → List WorkerView
ends_of reports = map (λ r. r.worker_end) reports

-- what the group says of each worker, by its report
abbrev pub worker_of : {P : Type 0} → WorkerReport P → GroupWorker P
worker_of r = record {
  port = r.port;
  sent = r.worker_end.sent;
  sessions = r.sessions;
  unopened = r.unopened;
  strangers = r.strangers;
}

abbrev pub workers_of : {P : Type 0} → List (WorkerReport P) → List (GroupWorker P)
workers_of reports = map worker_of reports

-- What all workers' threads left, which were given these ports and the ends of storage's exchange.
pub record AreJoined {P : Type 0} (told : P → Option PortTrace) (leads_to : P → P → Type 0) (terms : Terms)
    (storage : StorageView)
    (ports : List P) (reports : List (WorkerReport P)) : Type 0 where
  pub one_each : length reports ≡ length ports
  pub each : (w : ℕ) (port : P) (report : WorkerReport P) → get_elem? ports w ≡ some port
      → get_elem? reports w ≡ some report
      → KeepsWorker told leads_to port (new_worker_view storage.exchange terms w) report

-- what the storage thread left, which was given this clock and its end of the exchange that was
-- made for these ports
abbrev pub IsLeftByStorage : {P C : Type 0} → (C → Option (List ℕ)) → (C → C → Type 0) → Type 0 → Bool → Bool → Terms → List P → C
    → StorageReport C → Type 0
IsLeftByStorage told leads_to keeps exact may_refuse terms ports clock report =
    KeepsStorage told leads_to keeps exact may_refuse clock (new_storage_view report.storage_end.exchange terms (length ports)) report
