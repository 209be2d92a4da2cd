-- The rule of the lanes, and what each step tells. A lane has the words 16 * lane + 8 (posted) and
-- 16 * lane + 16 (done), and the slots from WINDOW * lane on. These words, and word 0, which is
-- never stored, lie 64 bytes apart, so that no two share a cache line. A message uses the slot
-- WINDOW * lane + number % WINDOW, where the numbers begin at 0.
use Rattle.std.specs.Prelude.{◌≡◌, ◌≢◌, ℕ, suc, ◌+◌, ◌*◌, ◌%◌, ◌<◌, ◌≤◌, List, [], ◌∷◌, ◌++◌, map, length, take, slice_index, Option, Some, None, Bool}
use Rattle.std.specs.Prelude.{true, false, ◌==◌, if◌then◌else◌}
use mathlib.Core.Option.{none, some}
use mathlib.Core.Option as maybe
use lib.ListN.{get_elem?}
use Rattle.atomic_table.specs.Table.{State, Me}
use Rattle.proto.specs.declared.limits.TheConstants.{WINDOW}
use Rattle.proto.specs.declared.history.Posted.{Posted}
use Rattle.proto.specs.declared.history.Answered.{Answered}
use Rattle.exchange.specs.declared.messages.LaneMessage.{LaneMessage}
use Rattle.exchange.specs.declared.messages.LaneMessage.TheVariants.{Ask, Bye, Answer}
use Rattle.proto.specs.declared.terms.Terms.{Terms}
use Rattle.exchange.specs.declared.messages.LaneKey.{LaneKey}
use Rattle.exchange.specs.declared.rule.WorkerState.{WorkerState}
use Rattle.exchange.specs.declared.rule.StorageState.{StorageState}
use Rattle.exchange.specs.declared.rule.LaneView.{LaneView}
use Rattle.exchange.specs.declared.rule.LaneView.TheVariants.{Nobody, Worker, Storage, Comparing, Told, TwoTold, Checking}
use Rattle.proto.specs.Counts.{times}
use Rattle.exchange.specs.Beginnings.{StartsWith}
use Rattle.proto.specs.History.{worker_share, asked_posted, LegalBy}

-- what stands in the slots that no seat holds: the table calls these slots' contents homes
abbrev pub UnheldSlots : Type 0
UnheldSlots = List (maybe.Option (Option LaneMessage))

-- What a seat knows, and the slots that it holds, each with what stands there. It stays a pair,
-- since the rules of atomic_table, which the rule of the lanes is given to, speak of seats by this
-- type of theirs.
abbrev pub SeatState : Type 0
SeatState = Me (Option LaneMessage) LaneView

-- what a seat knows
abbrev pub known_by : SeatState → LaneView
known_by me = me.0

-- the slots that a seat holds, the one that it took last as the first
abbrev pub slots_of : SeatState → List (ℕ × Option LaneMessage)
slots_of me = me.1

-- a bye, where it was said
abbrev pub bye_at_end : Bool → List LaneMessage
bye_at_end true = Bye ∷ []
bye_at_end false = []

-- a worker's messages: its requests, and its bye as the last one
abbrev pub messages : WorkerState → List LaneMessage
messages worker = map Ask worker.sent ++ bye_at_end worker.said_bye

-- the message of this lane that the storage thread holds
abbrev pub open_at : Option (ℕ × LaneMessage) → ℕ → maybe.Option LaneMessage
open_at None lane = none
open_at (Some held) lane = if held.0 == lane then some held.1 else none

-- 1 where there is a message, else 0
abbrev pub count_of : maybe.Option LaneMessage → ℕ
count_of none = 0
count_of (some message) = 1

-- the slot of the message with this number of the lane
abbrev pub lane_slot : ℕ → ℕ → ℕ
lane_slot lane number = WINDOW * lane + number % WINDOW

-- for each message number what stands in its slot, unless a seat holds that slot
abbrev pub SlotContents : Type 0
SlotContents = ℕ → maybe.Option (maybe.Option (Option LaneMessage))

-- what stands in this lane's slots
abbrev pub at_home : UnheldSlots → ℕ → SlotContents
at_home homes lane = λ number. get_elem? homes (lane_slot lane number)

-- One lane at any moment, over what the worker knows, its share of what was answered, the first of
-- that share that it can know of, how many byes of it were taken, the message that storage holds of
-- it, its two words, and what stands in its slots. Posted counts the worker's messages, done the
-- entries that it can know of and the bye, and at most WINDOW lie between. The entries are the
-- first of the requests, and the answers that were taken back are the first of the entries. The
-- answers that weren't taken back stand in their slots, and so do the messages that storage hasn't
-- taken, and after the messages the requests that the worker put and hasn't sent. All other slots
-- of the window are empty, but for the one that the worker holds.
pub record IsLaneConsistent (worker : WorkerState) (mine told : List Answered) (byes : ℕ) (held : maybe.Option LaneMessage)
    (posted done : ℕ) (at : SlotContents) : Type 0 where
  pub posted_is : posted ≡ length (messages worker)
  pub done_is : done ≡ length told + byes
  pub told_is : StartsWith mine told
  pub order : (done ≤ posted) × (posted ≤ done + WINDOW)
  pub asked_is : asked_posted mine ≡ take (length mine) worker.sent
  pub answered : length mine ≤ length worker.sent
  pub known : StartsWith told worker.back
  pub numbered : (number : ℕ) (request : Posted) → get_elem? (worker.sent ++ worker.put) number ≡ some request
      → request.number ≡ suc number
  pub leaves : 0 < byes → (worker.said_bye ≡ true)
  pub all_back : worker.said_bye ≡ true → length worker.back ≡ length worker.sent
  pub behind : length mine + byes + count_of held ≤ length (messages worker)
  pub open_is : (message : LaneMessage) → held ≡ some message
      → get_elem? (messages worker) (length mine + byes) ≡ some message
  pub slot_held_is : 0 < worker.slot_held → (length (messages worker) + length worker.put < worker.slot_held)
      × (worker.slot_held ≤ length worker.back + WINDOW)
  pub within : length (messages worker) + length worker.put ≤ length worker.back + WINDOW
  pub answers : (number : ℕ) (answer : Answered) → length worker.back ≤ number → get_elem? mine number ≡ some answer
      → at number ≡ some (some (Some (Answer answer)))
  pub requests : (number : ℕ) (message : LaneMessage) → length mine + byes + count_of held ≤ number
      → get_elem? (messages worker) number ≡ some message
      → at number ≡ some (some (Some message))
  pub unsent : (number : ℕ) (request : Posted) → get_elem? worker.put number ≡ some request
      → at (length (messages worker) + number) ≡ some (some (Some (Ask request)))
  pub frees : (number : ℕ) → length (messages worker) + length worker.put ≤ number
      → number < length worker.back + WINDOW
      → suc number ≢ worker.slot_held
      → at number ≡ some (some None)

-- this lane of the table
abbrev pub IsLaneOfTable : List ℕ → UnheldSlots → StorageState → WorkerState → ℕ → Type 0
IsLaneOfTable words homes storage worker lane =
    IsLaneConsistent worker (worker_share storage.history lane) (worker_share storage.told lane) (times lane storage.byes)
    (open_at storage.holding lane) (slice_index words (16 * lane + 8)) (slice_index words (16 * lane + 16))
    (at_home homes lane)

-- What storage and a worker find where their ends come together. `AreCompared` says what follows of
-- their views, in which the request that storage holds is the open one.
pub record EndsAgree (storage : StorageState) (worker : WorkerState) : Type 0 where
  pub legal : LegalBy storage.terms storage.history
  pub same_terms : worker.terms ≡ storage.terms
  pub told : StartsWith storage.history worker.seen
  pub back : StartsWith (worker_share storage.history worker.worker) worker.back
  pub sent : asked_posted (worker_share storage.history worker.worker)
      ≡ take (length (worker_share storage.history worker.worker)) worker.sent
  pub answered : length (worker_share storage.history worker.worker) ≤ length worker.sent
  pub held : (request : Posted) → storage.holding ≡ Some (worker.worker, Ask request)
      → get_elem? worker.sent (length (worker_share storage.history worker.worker)) ≡ some request
  pub all_back : worker.said_bye ≡ true → length worker.back ≡ length worker.sent
  pub leaves : 0 < times worker.worker storage.byes → worker.said_bye ≡ true

-- The view of each seat is what the states say: the first seat is storage's. The history of a seat
-- that knows no more than one begins what was told.
module _ (key : LaneKey) (states : ℕ → WorkerState) (storage_state : StorageState) where
  abbrev pub IsViewOf : ℕ → LaneView → Type 0
  IsViewOf seat Nobody = Unit {0}
  IsViewOf seat (Worker worker) = (worker.worker < storage_state.made) × (states worker.worker ≡ worker)
      × (worker.worker < key.workers)
  IsViewOf seat (Storage storage) = (seat ≡ 0) × (storage_state ≡ storage)
  IsViewOf seat (Comparing storage worker) = (seat ≡ 0) × (storage_state ≡ storage) × EndsAgree storage worker
  IsViewOf seat (Told told) = StartsWith storage_state.told told
  IsViewOf seat (TwoTold told other) = StartsWith storage_state.told told × StartsWith storage_state.told other
  IsViewOf seat (Checking worker told) = ((worker.worker < storage_state.made) × (states worker.worker ≡ worker)
      × (worker.worker < key.workers)) × StartsWith storage_state.told told

-- the worker whose seat this is
abbrev pub worker_seated : LaneView → maybe.Option ℕ
worker_seated Nobody = none
worker_seated (Worker worker) = some worker.worker
worker_seated (Storage storage) = none
worker_seated (Comparing storage worker) = none
worker_seated (Told told) = none
worker_seated (TwoTold told other) = none
worker_seated (Checking worker told) = some worker.worker

-- no two seats are of one worker
abbrev pub AreApart : List LaneView → Type 0
AreApart views = (seat other : ℕ) (view other_view : LaneView) (worker : ℕ) → get_elem? views seat ≡ some view
    → get_elem? views other ≡ some other_view → worker_seated view ≡ some worker → worker_seated other_view ≡ some worker
    → seat ≡ other

-- what a worker knows at first
abbrev pub first_worker_state : Terms → ℕ → WorkerState
first_worker_state terms worker = record {
  worker = worker;
  terms = terms;
  sent = [];
  put = [];
  said_bye = false;
  back = [];
  seen = [];
  loads = [];
  slot_held = 0;
}

-- what storage knows once it has made this many workers, and done nothing else
abbrev pub storage_state_with : Terms → ℕ → StorageState
storage_state_with terms made = record {
  terms = terms;
  made = made;
  taken = [];
  history = [];
  told = [];
  byes = [];
  holding = None;
  looks = [];
}

-- The rule, at every moment and over all words, slots and views: the history is legal, each lane is
-- in order, each worker has seen a beginning of the history, and the views are what was counted
-- here.
pub record LanesHold (key : LaneKey) (table : State (Option LaneMessage) LaneView) : Type 0 where
  pub states : ℕ → WorkerState
  pub storage_state : StorageState
  pub legal : LegalBy key.terms storage_state.history
  pub legal_told : LegalBy key.terms storage_state.told
  pub told_first : StartsWith storage_state.history storage_state.told
  pub same_terms : storage_state.terms ≡ key.terms
  pub wide : length table.words ≡ 16 * key.workers + 8
  pub deep : length table.homes ≡ WINDOW * key.workers
  pub each_lane : (lane : ℕ) → lane < key.workers → IsLaneOfTable table.words table.homes storage_state (states lane) lane
  pub each_seen : (lane : ℕ) → lane < key.workers
      → StartsWith storage_state.told (states lane).seen × ((states lane).terms ≡ key.terms)
      × ((states lane).worker ≡ lane)
  pub each_view : (seat : ℕ) (view : LaneView) → get_elem? table.views seat ≡ some view
      → IsViewOf key states storage_state seat view
  pub apart : AreApart table.views
  pub looked : (place lane posted : ℕ) → get_elem? storage_state.looks place ≡ some (lane, posted) → lane < key.workers
      → posted ≤ length (messages (states lane))
  pub later : (lane : ℕ) → storage_state.made ≤ lane → states lane ≡ first_worker_state key.terms lane

-- the view of the first seat
abbrev pub opening_view : LaneKey → LaneView
opening_view key = Storage (storage_state_with key.terms 0)
