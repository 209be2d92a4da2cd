-- What `segcached replay` prints for a script.
use Rattle.std.specs.Prelude.{◌≡◌, ℕ, ◌+◌, Bool, true, false, List, [], ◌∷◌, ◌++◌, ◌==◌, length, codes, decimal, flat_map}
use Rattle.std.specs.Prelude.{map, if◌then◌else◌, Some, ⊤}
use mathlib.Core.Option.{some}
use lib.ListN.{get_elem?}
use Rattle.hex.specs.Hex.{encode_lower}
use Rattle.proto.specs.declared.dialect.Dialect.{Dialect}
use Rattle.proto.specs.declared.eviction.Eviction.{Eviction}
use Rattle.proto.specs.Sizes.{Sizes}
use Rattle.script.specs.declared.event.ScriptEvent.{ScriptEvent}
use Rattle.script.specs.Clocks.{ClockState}
use Rattle.script.specs.Scripts.{Workers, AreEventsOf}
use Rattle.exchange.specs.Ends.{TableId}
use Rattle.worker_port.specs.declared.events.PortRecord.{PortRecord}
use Rattle.worker_port.specs.Ports.{given}
use Rattle.script.specs.declared.clock.RecordingClock.{RecordingClock}
use Rattle.script.specs.ClockLeading.{GivesAnswers}
use Rattle.script.specs.PortEvents.{is_playable}
use Rattle.script.specs.Records.{opened_sessions}
use Rattle.script.specs.Following.{IsPlayed}
use Rattle.script.specs.States.{PortState, new_player, with_faults, trace_told, PlaysOn}
use Rattle.segcache.specs.StoreState.{Store}
use Rattle.segcache.specs.NewStores.{IsNewStore}
use Rattle.group.specs.declared.report.GroupWorker.{GroupWorker}
use Rattle.group.specs.declared.report.GroupReport.{GroupReport}
use Rattle.group.specs.Headline.{IsRun}

-- the bytes in hexadecimal, or a dash where there are none
abbrev pub in_hexadecimal : List ℕ → List ℕ
in_hexadecimal bytes = if length bytes == 0 then codes "-" else encode_lower bytes

-- the line of a worker's session that was given these bytes
abbrev pub printed_line : ℕ → ℕ → List ℕ → List ℕ
printed_line worker session bytes = decimal worker ++ codes " " ++ decimal session ++ codes " " ++ in_hexadecimal bytes
    ++ codes "\n"

-- the lines of a worker's sessions, in the order in which they were opened
abbrev pub printed_lines : ℕ → List PortRecord → List ℕ
printed_lines worker events = flat_map (λ (session : ℕ). printed_line worker session (given session events))
    (opened_sessions events)

-- the lines of the workers from this one on
abbrev pub lines_from : ℕ → List (List PortRecord) → List ℕ
lines_from worker [] = []
lines_from worker (events ∷ more) = printed_lines worker events ++ lines_from (worker + 1) more

abbrev pub events_of : GroupWorker PortState → List PortRecord
events_of worker = worker.port.player.records

-- the port of a worker of this exchange that tells, over a store of these sizes and in this
-- dialect, with all these events left to play, and with these faults
abbrev pub IsPort : Sizes → Dialect → TableId → ℕ → ℕ → ℕ → List ScriptEvent → PortState → Type 0
IsPort sizes d exchange accept fail_give worker events port =
    (is_playable events ≡ true)
    × (port ≡ record {
      player = with_faults accept fail_give (new_player events);
      sizes = sizes;
      dialect = d;
      worker = worker;
      exchange = exchange;
      history = [];
    })

-- a port for the events of each worker
abbrev pub ArePorts : Sizes → Dialect → TableId → ℕ → ℕ → Workers → List PortState → Type 0
ArePorts sizes d exchange accept fail_give scripts ports =
    (length scripts ≡ length ports)
    × ((w : ℕ) (events : List ScriptEvent) (port : PortState) → get_elem? scripts w ≡ some events
    → get_elem? ports w ≡ some port → IsPort sizes d exchange accept fail_give w events port)

-- where the script may be played as it stands, the port's list is what the script does
abbrev pub IsPlayedAt : PortState → Type 0
IsPlayedAt port = is_playable port.player.script ≡ true
    → IsPlayed port.player.script port.player.records port.player.can_fail

-- it is so at the port of each of these workers
abbrev pub ArePlayed : List (GroupWorker PortState) → Type 0
ArePlayed workers = (k : ℕ) (x : GroupWorker PortState) → get_elem? workers k ≡ some x → IsPlayedAt x.port

-- a new store, of whatever seed
pub record IsReplayStore (sizes : Sizes) (in_place : Bool) (d : Dialect) (eviction : Eviction) (exact : Bool) (store : Store)
    : Type 0 where
  pub seed : ℕ
  pub new : IsNewStore sizes seed in_place d eviction exact store

-- The script has these events for this number of workers. A group of them ran over ports with these
-- events, over a new store that changes values in place or doesn't, evicts by this rule, and keeps
-- deadlines to the second or doesn't, and over a new clock; and what each session was given is
-- printed, in order of worker and session.
pub record IsPrinted (sizes : Sizes) (in_place : Bool) (d : Dialect) (eviction : Eviction) (exact : Bool) (clock : ClockState)
    (workers accept fail_give : ℕ) (text printed : List ℕ) : Type 0 where
  pub scripts : Workers
  pub read : AreEventsOf workers text scripts
  pub exchange : TableId
  pub ports : List PortState
  pub ports_are : ArePorts sizes d exchange accept fail_give scripts ports
  pub store : Store
  pub store_is : IsReplayStore sizes in_place d eviction exact store
  pub told : RecordingClock
  pub told_is : (told.clock ≡ clock) × (told.answers.items ≡ [])
  pub report : GroupReport PortState RecordingClock
  pub run : IsRun trace_told PlaysOn (λ c. Some c.answers.items) GivesAnswers ⊤ exact false sizes ports told report
  pub printed_is : printed ≡ lines_from 0 (map events_of report.workers.items)
