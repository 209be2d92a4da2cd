-- What serving leaves.
use Rattle.std.specs.Prelude.{◌≡◌, ℕ, ⊤, false, List, [], map, length, Option, Some}
use mathlib.Core.Option.{some}
use lib.ListN.{get_elem?}
use Rattle.command_line.specs.declared.options.ServeOptions.{ServeOptions}
use Rattle.proto.specs.declared.dialect.Dialect.{Dialect}
use Rattle.proto.specs.Sizes.{Sizes}
use Rattle.exchange.specs.Ends.{TableId}
use Rattle.exchange.specs.Made.{ExchangeView}
use Rattle.worker_port.specs.Giving.{by_system_clock}
use Rattle.worker_port.specs.Ports.{PortTrace}
use Rattle.net.specs.declared.port.MioPort.{MioPort}
use Rattle.net.specs.Traces.{trace_of, IsNew}
use Rattle.proto.specs.ClockAnswers.{ClockLog, seconds_since}
use Rattle.segcache.specs.StoreState.{Store}
use Rattle.segcache.specs.NewStores.{IsNewStore}
use Rattle.group.specs.declared.report.GroupReport.{GroupReport}
use Rattle.group.specs.Headline.{IsRun}

-- what a port over sockets tells
abbrev pub socket_told : {R : Type 0} → MioPort R → Option PortTrace
socket_told port = Some (trace_of port.served)

-- what the system's clock tells
abbrev pub clock_told : ClockLog → Option (List ℕ)
clock_told clock = Some (map (seconds_since clock.start) clock.readings)

-- each is the port of its worker at this exchange, of which nothing was told
abbrev pub AreNewPorts : {R : Type 0} → Sizes → Dialect → TableId → List (MioPort R) → Type 0
AreNewPorts {R} sizes d exchange ports =
    (w : ℕ) (port : MioPort R) → get_elem? ports w ≡ some port → IsNew sizes d w exchange (trace_of port.served)

-- a new store as the options say, which hashes this seed before each key
abbrev pub IsStoreFor : Sizes → ℕ → ServeOptions → Store → Type 0
IsStoreFor sizes seed options store = IsNewStore sizes seed options.update_in_place options.dialect options.eviction
    options.exact_ttls store

-- what is served over, as the options say: a new store, an exchange, and a new port of each of its
-- workers
pub record IsSetUp {R : Type 0} (sizes : Sizes) (seed : ℕ) (options : ServeOptions) (exchange : ExchangeView)
    (ports : List (MioPort R)) (store : Store) : Type 0 where
  pub workers : exchange.workers ≡ options.workers
  pub terms : exchange.terms ≡ by_system_clock sizes
  pub new_ports : AreNewPorts sizes options.dialect exchange.id ports
  pub count : length ports ≡ options.workers
  pub new_store : IsStoreFor sizes seed options store

-- A group ran as the options say over new ports and a new store, both of these sizes, and over the
-- system's clock, which was not read yet, and left this report. The store hashes this seed before
-- each key. Each answer of the clock is the seconds of a reading.
pub record IsServed {R : Type 0} (sizes : Sizes) (seed : ℕ) (options : ServeOptions)
    (report : GroupReport (MioPort R) ClockLog) : Type 0 where
  pub exchange : TableId
  pub ports : List (MioPort R)
  pub new_ports : AreNewPorts sizes options.dialect exchange ports
  pub count : length ports ≡ options.workers
  pub store : Store
  pub new_store : IsStoreFor sizes seed options store
  pub clock : ClockLog
  pub unread : clock.readings ≡ []
  pub run : IsRun socket_told (λ _ _. ⊤) clock_told (λ _ _. ⊤) ⊤ options.exact_ttls false sizes ports
      clock report
