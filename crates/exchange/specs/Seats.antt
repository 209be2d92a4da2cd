-- What the fields of the two ends have to do with their seats, and what each of them shows.
use Rattle.std.specs.Prelude.{◌≡◌, ◌≢◌, ◌⊎◌, ℕ, ◌+◌, ◌*◌, ◌^◌, ◌<◌, ◌≤◌, List, [], ◌∷◌}
use Rattle.std.specs.Prelude.{length, Option, Some, None, MatchOption, is_some, Bool}
use Rattle.std.specs.Prelude.{true, false}
use Rattle.std.specs.Prelude.{slice_index}
use mathlib.Core.Option.{some}
use lib.ListN.{get_elem?}
use Rattle.atomic_table.specs.Seated.{TableId}
use Rattle.atomic_table.specs.Table.{rest}
use Rattle.atomic_table.specs.declared.shared.Seat.{Seat}
use Rattle.proto.specs.declared.limits.TheConstants.{WINDOW}
use Rattle.proto.specs.declared.terms.Terms.{Terms}
use Rattle.proto.specs.declared.history.Posted.{Posted}
use Rattle.proto.specs.declared.history.Answered.{Answered}
use Rattle.proto.specs.History.{worker_share}
use Rattle.exchange.specs.declared.messages.LaneMessage.{LaneMessage}
use Rattle.exchange.specs.declared.messages.LaneMessage.TheVariants.{Ask}
use Rattle.exchange.specs.declared.rule.WorkerState.{WorkerState}
use Rattle.exchange.specs.declared.rule.StorageState.{StorageState}
use Rattle.exchange.specs.declared.rule.LaneView.{LaneView}
use Rattle.exchange.specs.declared.rule.LaneView.TheVariants.{Nobody, Worker, Storage, Comparing, Told, TwoTold, Checking}
use Rattle.exchange.specs.Lanes.{SeatState, known_by, slots_of, lane_slot, first_worker_state, storage_state_with}
use Rattle.exchange.specs.Steps.{placed_count, with_history, with_history_and_answer, Learnt}
use Rattle.exchange.specs.Steps.{lane_request}
use Rattle.exchange.specs.Ends.{WorkerView, WorkerLaneView, StorageView, StorageLanesView, ToldView}
use Rattle.exchange.specs.Ends.{IsToldHistory, max_posts, settled_count, LastLook}

-- The views

-- what a contract sees of a worker's end
abbrev pub worker_view : TableId → WorkerState → WorkerView
worker_view table worker =
    record {
      exchange = table;
      worker = worker.worker;
      terms = worker.terms;
      sent = worker.sent;
      said_bye = worker.said_bye;
      back = worker.back;
      seen = worker.seen;
      loads = worker.loads;
    }

-- what a contract sees of a worker's end that sends in batches
abbrev pub worker_lane_view : TableId → WorkerState → WorkerLaneView
worker_lane_view table worker = record { end = worker_view table worker; put = worker.put }

-- the request that storage holds
abbrev pub open_in : Option (ℕ × LaneMessage) → Option (ℕ × Posted)
open_in None = None
open_in (Some held) = lane_request held.0 held.1

-- what a contract sees of storage's end
abbrev pub storage_view : TableId → ℕ → ℕ → StorageState → StorageView
storage_view table workers last storage =
    record {
      exchange = table;
      workers = workers;
      terms = storage.terms;
      taken = storage.taken;
      open_request = open_in storage.holding;
      history = storage.history;
      byes = storage.byes;
      looks = storage.looks;
      last = last;
    }

-- what a contract sees of storage's end that tells of its answers in batches
abbrev pub storage_lanes_view : TableId → ℕ → ℕ → StorageState → StorageLanesView
storage_lanes_view table workers last storage = record {
  end = storage_view table workers last storage;
  told = storage.told;
}

-- some sizes, for views that aren't a worker's or storage's
abbrev pub any_terms : Terms
any_terms = record { geometry = record { segment_size = 4096; segments = 8; largest_item = 512 }; system_clock = false; may_refuse = true }

-- what the view of a worker's seat says
abbrev pub worker_state_in : LaneView → WorkerState
worker_state_in (Worker worker) = worker
worker_state_in Nobody = first_worker_state any_terms 0
worker_state_in (Storage storage) = first_worker_state any_terms 0
worker_state_in (Comparing storage worker) = worker
worker_state_in (Told told) = first_worker_state any_terms 0
worker_state_in (TwoTold told other) = first_worker_state any_terms 0
worker_state_in (Checking worker told) = worker

-- what the view of storage's seat says
abbrev pub storage_state_in : LaneView → StorageState
storage_state_in (Storage storage) = storage
storage_state_in Nobody = storage_state_with any_terms 0
storage_state_in (Worker worker) = storage_state_with any_terms 0
storage_state_in (Comparing storage worker) = storage
storage_state_in (Told told) = storage_state_with any_terms 0
storage_state_in (TwoTold told other) = storage_state_with any_terms 0
storage_state_in (Checking worker told) = storage_state_with any_terms 0

-- what the view of a history's seat says
abbrev pub told_in : LaneView → List Answered
told_in (Told told) = told
told_in Nobody = []
told_in (Worker worker) = []
told_in (Storage storage) = []
told_in (Comparing storage worker) = []
told_in (TwoTold told other) = told
told_in (Checking worker told) = told

-- the history whose seat this is
abbrev pub told_at : SeatState → List Answered
told_at me = told_in (known_by me)

-- the same of a seat that is put away, by its view
abbrev pub told_in_seat : List LaneView → List Answered
told_in_seat [] = []
told_in_seat (view ∷ views) = told_in view

-- what a contract sees of a history that was told
abbrev pub told_view : TableId → List Answered → ToldView
told_view table told = record { exchange = table; items = told }

-- what the worker knows whose seat this is
abbrev pub worker_at : SeatState → WorkerState
worker_at me = worker_state_in (known_by me)

-- what storage knows whose seat this is
abbrev pub storage_at : SeatState → StorageState
storage_at me = storage_state_in (known_by me)

-- The table

-- the table has the words and slots of a lane for each worker
abbrev pub IsTableSized : TableId → ℕ → Type 0
IsTableSized table workers = (table.words ≡ 16 * workers + 8) × (table.slots ≡ WINDOW * workers)

-- the words and slots of this worker's lane are in the table
abbrev pub IsLane : TableId → ℕ → Type 0
IsLane table lane = (16 * lane + 16 < table.words) × (WINDOW * lane + WINDOW ≤ table.slots) × (lane < 8)

-- a seat at the table
abbrev pub LaneSeat : Type 0
LaneSeat = Seat (Option LaneMessage) LaneView

-- a step keeps the table and the seat's number
abbrev pub SameSeat : LaneSeat → LaneSeat → Type 0
SameSeat old new = (new.table_id ≡ old.table_id) × (new.id ≡ old.id)

-- the slot that the seat took last, and what stands there
abbrev pub HoldsSlot : SeatState → ℕ → Option LaneMessage → Type 0
HoldsSlot me slot content = slots_of me ≡ (slot, content) ∷ rest (slots_of me)

-- with another content in the slot that it took last
abbrev pub exchanged_to : SeatState → ℕ → Option LaneMessage → SeatState
exchanged_to me slot content = (known_by me, (slot, content) ∷ rest (slots_of me))

-- A worker's end

-- what is known of the history that a worker saw
abbrev pub StateWasTold : WorkerState → Type 0
StateWasTold worker = IsToldHistory worker.terms worker.worker worker.sent worker.back worker.seen
    (length (worker_share worker.seen worker.worker))

-- The fields of a worker's end agree with what its seat knows, and no slot is out with it
pub record WorkerAgrees (me : SeatState) (worker sent put back known : ℕ) (said_bye : Bool) : Type 0 where
  pub seated : me ≡ (Worker (worker_at me), [])
  pub worker_is : (worker_at me).worker ≡ worker
  pub sent_is : length (worker_at me).sent ≡ sent
  pub put_is : length (worker_at me).put ≡ put
  pub back_is : length (worker_at me).back ≡ back
  pub bye_is : (worker_at me).said_bye ≡ said_bye
  pub idle : (worker_at me).slot_held ≡ 0
  pub order : (back ≤ known) × (known ≤ sent) × (sent + put ≤ back + WINDOW) × (sent + put ≤ max_posts)
  pub all_back : said_bye ≡ true → (back ≡ sent) × (put ≡ 0)
  pub known_is : length (worker_share (worker_at me).seen (worker_at me).worker) ≡ known
  pub told : StateWasTold (worker_at me)

-- the seat is this worker's, has sent or put this many requests, and may put one more message
abbrev pub MayPost : SeatState → ℕ → ℕ → Type 0
MayPost me worker count = (me ≡ (Worker (worker_at me), [])) × ((worker_at me).worker ≡ worker)
    × (placed_count (worker_at me) ≡ count)
    × ((worker_at me).slot_held ≡ 0) × ((worker_at me).said_bye ≡ false)
    × (placed_count (worker_at me) < length (worker_at me).back + WINDOW) × (count < 2 ^ 63)

-- the seat is this worker's, has taken back `back` answers, holds no slot, and saw a further one
abbrev pub HasSeen : SeatState → ℕ → ℕ → Type 0
HasSeen me worker back = (me ≡ (Worker (worker_at me), [])) × ((worker_at me).worker ≡ worker)
    × (length (worker_at me).back ≡ back)
    × ((worker_at me).slot_held ≡ 0)
    × (length (worker_at me).back
    < length (worker_share (worker_at me).seen (worker_at me).worker))

-- the seat is this worker's, has sent `sent` requests and taken back `back` answers, and holds no
-- slot
abbrev pub MayTake : SeatState → ℕ → ℕ → ℕ → Type 0
MayTake me worker sent back = (me ≡ (Worker (worker_at me), [])) × ((worker_at me).worker ≡ worker)
    × (length (worker_at me).sent ≡ sent)
    × (length (worker_at me).back ≡ back) × ((worker_at me).slot_held ≡ 0)

-- What a take tells: it read the done word and was told of a history. An answer is the next one of
-- that history. There is none where all answers there were taken before
abbrev pub StateTakes : WorkerState → ℕ → Option Answered → WorkerState → Type 0
StateTakes worker done result after = (told : List Answered) × Learnt worker done told
    × MatchOption result ((worker.back ≡ worker_share told worker.worker) × (after ≡ with_history worker done told))
    (λ answer. (get_elem? (worker_share told worker.worker) (length worker.back) ≡ some answer)
    × (after ≡ with_history_and_answer worker done told answer))

-- Storage's end

-- storage's seat holds no slot, has settled `count` messages of the lane, and an earlier look at
-- the lane named a message that isn't settled
abbrev pub HasSeenMessage : SeatState → ℕ → ℕ → Type 0
HasSeenMessage me lane count = (me ≡ (Storage (storage_at me), []))
    × (settled_count (storage_at me).history (storage_at me).byes lane ≡ count)
    × ((storage_at me).holding ≡ None) × ((place posted : ℕ)
    × (get_elem? (storage_at me).looks place ≡ some (lane, posted))
    × (settled_count (storage_at me).history (storage_at me).byes lane < posted))

-- The look that came last is one at this lane which found this posted word, or there was none
abbrev pub IsNamed : StorageState → ℕ → ℕ → ℕ → Type 0
IsNamed storage lane named workers = (((storage.looks ≡ []) × (named ≡ 0)) ⊎ LastLook storage.looks lane named)
    × (lane < workers)

-- storage's seat holds the slot of this message of the lane, of which `count` were settled before
abbrev pub HoldsTaken : SeatState → ℕ → ℕ → LaneMessage → Type 0
HoldsTaken me lane count message = (me ≡ (Storage (storage_at me), (lane_slot lane count, None) ∷ []))
    × (settled_count (storage_at me).history (storage_at me).byes lane ≡ count)
    × ((storage_at me).holding ≡ Some (lane, message)) × (count + 1 < 2 ^ 64)

-- The answers that no worker was told of are all of this lane, and there are some exactly where
-- `untold` says so
pub record HasUntold (storage : StorageState) (untold : Bool) (lane workers : ℕ) : Type 0 where
  pub none_untold : untold ≡ false → storage.told ≡ storage.history
  pub some_untold : untold ≡ true
      → length (worker_share storage.told lane) < length (worker_share storage.history lane)
  pub others : (other : ℕ) → other ≢ lane → worker_share storage.history other ≡ worker_share storage.told other
  pub inside : lane < workers

-- the slot that storage holds
abbrev pub carried_by : StorageState → Option (ℕ × LaneMessage) → List (ℕ × Option LaneMessage)
carried_by storage None = []
carried_by storage (Some held) = (lane_slot held.0 (settled_count storage.history storage.byes held.0), None) ∷ []

-- The fields of storage's end agree with what its seat knows
pub record StorageAgrees (me : SeatState) (workers last : ℕ) (counts : List ℕ) (open_now : Bool) : Type 0 where
  pub seated : me ≡ (
    Storage (storage_at me),
    carried_by (storage_at me) (storage_at me).holding,
  )
  pub few : (0 < workers) × (workers ≤ 8) × (last < workers)
  pub room : length counts ≡ 8
  pub counts_are : (lane : ℕ) → lane < workers
      → slice_index counts lane ≡ settled_count (storage_at me).history (storage_at me).byes lane
  pub open_is : open_now ≡ is_some (open_in (storage_at me).holding)
  pub holds : (lane : ℕ) (message : LaneMessage) → (storage_at me).holding ≡ Some (lane, message)
      → (lane < workers) × (settled_count (storage_at me).history (storage_at me).byes lane + 1 < 2 ^ 64)
      × ((posted : Posted) × (message ≡ Ask posted))
