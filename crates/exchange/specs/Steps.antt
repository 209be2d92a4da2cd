-- What each step tells, and what it makes of a view.
use Rattle.std.specs.Prelude.{◌≡◌, ◌⊎◌, ℕ, suc, ◌+◌, ◌*◌, ◌<◌, ◌≤◌, List, [], ◌∷◌, ◌++◌, length, Option, Some, None, true}
use Rattle.std.specs.Option.{option_to_list}
use mathlib.Core.Option.{some}
use lib.ListN.{get_elem?}
use Rattle.atomic_table.specs.Table.{Step, rest}
use Rattle.proto.specs.declared.limits.TheConstants.{WINDOW}
use Rattle.proto.specs.declared.history.Posted.{Posted}
use Rattle.proto.specs.declared.history.Answered.{Answered}
use Rattle.exchange.specs.declared.messages.LaneMessage.{LaneMessage}
use Rattle.exchange.specs.declared.messages.LaneMessage.TheVariants.{Ask, Bye, Answer}
use Rattle.exchange.specs.declared.rule.WorkerState.{WorkerState}
use Rattle.exchange.specs.declared.rule.StorageState.{StorageState}
use Rattle.exchange.specs.declared.rule.LaneView.{LaneView}
use Rattle.exchange.specs.declared.rule.LaneView.TheVariants.{Nobody, Worker, Storage, Comparing, Told, TwoTold, Checking}
use Rattle.proto.specs.Counts.{times}
use Rattle.exchange.specs.Beginnings.{StartsWith, AreOfOne}
use Rattle.proto.specs.History.{worker_share, asked_posted}
use Rattle.exchange.specs.Ends.{IsDoneHistory, settled_count}
use Rattle.exchange.specs.Lanes.{SeatState, known_by, slots_of, lane_slot, first_worker_state, EndsAgree}

-- what a step tells: the step, the seat before, the word that was found, and the seat after
abbrev StepTells : Type 1
StepTells = Step (Option LaneMessage) → SeatState → ℕ → SeatState → Type 0

-- holding the slot of the message before this number
abbrev pub holding_slot : WorkerState → ℕ → WorkerState
holding_slot worker number = record worker { slot_held = number }

-- how many requests were sent or put
abbrev pub placed_count : WorkerState → ℕ
placed_count worker = length worker.sent + length worker.put

-- with one more request in its slot
abbrev pub put_on : WorkerState → Posted → WorkerState
put_on worker request = record worker { put = worker.put ++ request ∷ []; slot_held = 0 }

-- with all that was put sent
abbrev pub all_sent : WorkerState → WorkerState
all_sent worker = record worker { sent = worker.sent ++ worker.put; put = [] }

-- with a bye
abbrev pub with_bye : WorkerState → WorkerState
with_bye worker = record worker { said_bye = true; slot_held = 0 }

-- told of this history by the done word
abbrev pub with_history : WorkerState → ℕ → List Answered → WorkerState
with_history worker done told = record worker { seen = told; loads = worker.loads ++ done ∷ [] }

-- the same, with an answer of it
abbrev pub with_history_and_answer : WorkerState → ℕ → List Answered → Answered → WorkerState
with_history_and_answer worker done told answer = record (with_history worker done told) {
  back = worker.back ++ answer ∷ [];
}

-- the same, and holding the slot of the answer, which is a later message's slot too
abbrev pub with_slot_taken : WorkerState → ℕ → List Answered → Answered → WorkerState
with_slot_taken worker done told answer = record (with_history_and_answer worker done told answer) {
  slot_held = suc (length worker.back + WINDOW);
}

-- holding the slot of the next answer of the history that it saw, which is a later message's slot
-- too
abbrev pub with_seen_slot_taken : WorkerState → Answered → WorkerState
with_seen_slot_taken worker answer = record worker {
  back = worker.back ++ answer ∷ [];
  slot_held = suc (length worker.back + WINDOW);
}

-- the worker takes the slot of its next message
abbrev pub tells_begin : StepTells
tells_begin step before found after = (worker : WorkerState) → known_by before ≡ Worker worker
    → after ≡ (
      Worker (holding_slot worker (suc (placed_count worker))),
      (lane_slot worker.worker (placed_count worker), None) ∷ slots_of before,
    )

-- the worker gives the slot back, with a request in it
abbrev pub request_put : StepTells
request_put step before found after = (worker : WorkerState) (request : Posted) (slot : ℕ)
    → before ≡ (Worker worker, (slot, Some (Ask request)) ∷ [])
    → after ≡ (Worker (put_on worker request), [])

-- the store of posted
abbrev pub tells_post : StepTells
tells_post step before found after = (worker : WorkerState) → before ≡ (Worker worker, [])
    → after ≡ (Worker (all_sent worker), [])

-- the worker takes the slot of the next answer of the history that it saw
abbrev pub seen_taken : StepTells
seen_taken step before found after = (worker : WorkerState) (answer : Answered) → known_by before ≡ Worker worker
    → get_elem? (worker_share worker.seen worker.worker) (length worker.back) ≡ some answer
    → after ≡ (
      Worker (with_seen_slot_taken worker answer),
      (lane_slot worker.worker (length worker.back), Some (Answer answer)) ∷ slots_of before,
    )

-- the store of posted, with a bye
abbrev pub bye_posted : StepTells
bye_posted step before found after = (worker : WorkerState) (slot : ℕ)
    → before ≡ (Worker worker, (slot, Some Bye) ∷ []) → after ≡ (Worker (with_bye worker), [])

-- what a worker learns at the load of done
abbrev pub Learnt : WorkerState → ℕ → List Answered → Type 0
Learnt worker done told =
    IsDoneHistory worker.terms worker.worker worker.sent worker.said_bye worker.back worker.seen told done

-- at the load of done: the next answer's slot is taken, or all answers of the history were taken
-- before
abbrev pub DoneTells : WorkerState → ℕ → List (ℕ × Option LaneMessage) → SeatState → List Answered → Type 0
DoneTells worker done slots after told = Learnt worker done told
    × (length worker.back < done → length worker.back < length worker.sent
    → (answer : Answered) × (get_elem? (worker_share told worker.worker) (length worker.back) ≡ some answer)
    × (after ≡ (
      Worker (with_slot_taken worker done told answer),
      (lane_slot worker.worker (length worker.back), Some (Answer answer)) ∷ slots,
    )))
    × ((done ≤ length worker.back) ⊎ (length worker.sent ≤ length worker.back)
    → (worker.back ≡ worker_share told worker.worker) × (after ≡ (Worker (with_history worker done told), slots)))

-- the load of done
abbrev pub done_loaded : StepTells
done_loaded step before done after = (worker : WorkerState) → known_by before ≡ Worker worker → (told : List Answered)
    × DoneTells worker done (slots_of before) after told

-- the worker gives a slot back, empty
abbrev pub slot_returned : StepTells
slot_returned step before found after = (worker : WorkerState) → known_by before ≡ Worker worker
    → after ≡ (Worker (holding_slot worker 0), rest (slots_of before))

-- with a look at this lane, whose posted word is the count
abbrev pub looked_at : StorageState → ℕ → ℕ → StorageState
looked_at storage lane count = record storage { looks = storage.looks ++ (lane, count) ∷ [] }

-- the request that a message of this worker is
abbrev pub lane_request : ℕ → LaneMessage → Option (ℕ × Posted)
lane_request lane (Ask request) = Some (lane, request)
lane_request lane Bye = None
lane_request lane (Answer answer) = None

-- with the message taken from this lane
abbrev pub with_message_held : StorageState → ℕ → LaneMessage → StorageState
with_message_held storage lane message = record storage {
  holding = Some (lane, message);
  taken = storage.taken
      ++ option_to_list (lane_request lane message);
}

-- with an answer to what is held
abbrev pub with_held_answered : StorageState → Answered → StorageState
with_held_answered storage answer = record storage { history = storage.history ++ answer ∷ []; holding = None }

-- with all answers told of
abbrev pub all_told : StorageState → StorageState
all_told storage = record storage { told = storage.history }

-- with a bye of this worker
abbrev pub bye_settled : StorageState → ℕ → StorageState
bye_settled storage lane = record storage { byes = lane ∷ storage.byes; holding = None }

-- The message is the next one of this lane, of which no Bye was settled: a Bye, or a request whose
-- number is 1 more than that of the worker's last entry in the history.
abbrev pub IsNextOfLane : StorageState → ℕ → LaneMessage → Type 0
IsNextOfLane storage lane message = (times lane storage.byes ≡ 0) × (((request : Posted) × (message ≡ Ask request)
    × (request.number ≡ suc (length (worker_share storage.history lane)))) ⊎ (message ≡ Bye))

-- storage takes the next message of the lane
abbrev pub SeenTells : StorageState → ℕ → List (ℕ × Option LaneMessage) → SeatState → Type 0
SeenTells storage lane slots after = (message : LaneMessage) × IsNextOfLane storage lane message
    × (after ≡ (
      Storage (with_message_held storage lane message),
      (lane_slot lane (settled_count storage.history storage.byes lane), Some message) ∷ slots,
    ))

-- the load of the posted word of a lane
abbrev pub posted_loaded : StepTells
posted_loaded step before count after = (storage : StorageState) (lane : ℕ) → known_by before ≡ Storage storage
    → step.word ≡ 16 * lane + 8 → after ≡ (Storage (looked_at storage lane count), slots_of before)

-- a load of done, if a look at the lane named a message that isn't settled: the next message's slot
-- is taken
abbrev pub seen_opened : StepTells
seen_opened step before found after = (storage : StorageState) (lane place count : ℕ)
    → known_by before ≡ Storage storage → step.word ≡ 16 * lane + 16
    → get_elem? storage.looks place ≡ some (lane, count)
    → settled_count storage.history storage.byes lane < count → SeenTells storage lane (slots_of before) after

-- a load of done, with an answer
abbrev pub tells_answer : StepTells
tells_answer step before found after = (storage : StorageState) (answer : Answered) (slot : ℕ)
    → before ≡ (Storage storage, (slot, Some (Answer answer)) ∷ [])
    → after ≡ (Storage (with_held_answered storage answer), [])

-- the store of done, for all answers of its lane
abbrev pub told_done : StepTells
told_done step before found after = (storage : StorageState) → known_by before ≡ Storage storage
    → after ≡ (Storage (all_told storage), slots_of before)

-- the store of done, after a Bye
abbrev pub settle_bye : StepTells
settle_bye step before found after = (storage : StorageState) (lane slot : ℕ)
    → before ≡ (Storage storage, (slot, None) ∷ []) → storage.holding ≡ Some (lane, Bye)
    → after ≡ (Storage (bye_settled storage lane), [])

-- how storage makes a worker
abbrev pub with_one_more : LaneView → LaneView
with_one_more (Storage storage) = Storage (record storage { made = suc storage.made })
with_one_more Nobody = Nobody
with_one_more (Worker worker) = Worker worker
with_one_more (Comparing storage worker) = Comparing storage worker
with_one_more (Told told) = Told told
with_one_more (TwoTold told other) = TwoTold told other
with_one_more (Checking worker told) = Checking worker told

abbrev pub new_worker : LaneView → LaneView
new_worker (Storage storage) = Worker (first_worker_state storage.terms storage.made)
new_worker Nobody = Nobody
new_worker (Worker worker) = Nobody
new_worker (Comparing storage worker) = Nobody
new_worker (Told told) = Nobody
new_worker (TwoTold told other) = Nobody
new_worker (Checking worker told) = Nobody

-- how storage and a worker compare
abbrev pub comparing : LaneView → LaneView → LaneView
comparing (Storage storage) (Worker worker) = Comparing storage worker
comparing (Storage storage) Nobody = Storage storage
comparing (Storage storage) (Storage other) = Storage storage
comparing (Storage storage) (Comparing other worker) = Storage storage
comparing (Storage storage) (Told told) = Storage storage
comparing (Storage storage) (TwoTold told other) = Storage storage
comparing (Storage storage) (Checking worker told) = Storage storage
comparing Nobody view = Nobody
comparing (Worker worker) view = Worker worker
comparing (Comparing storage worker) view = Comparing storage worker
comparing (Told told) view = Told told
comparing (TwoTold told other) view = TwoTold told other
comparing (Checking worker told) view = Checking worker told

-- what the two find then, and storage goes on alone
abbrev pub tells_comparison : StepTells
tells_comparison step before found after = (storage : StorageState) (worker : WorkerState)
    → known_by before ≡ Comparing storage worker → EndsAgree storage worker × (after ≡ (Storage storage, slots_of before))

-- a view that stays as it is
abbrev pub unchanged : LaneView → LaneView
unchanged view = view

-- what a seat knows that is cut off a worker's: the history that the worker was told of last; one
-- that is cut off a history's knows that history
abbrev pub noting : LaneView → LaneView
noting Nobody = Nobody
noting (Worker worker) = Told worker.seen
noting (Storage storage) = Nobody
noting (Comparing storage worker) = Nobody
noting (Told told) = Told told
noting (TwoTold told other) = Nobody
noting (Checking worker told) = Nobody

-- how a history meets a worker
abbrev pub meeting_worker : WorkerState → LaneView → LaneView
meeting_worker worker Nobody = Worker worker
meeting_worker worker (Worker other) = Worker worker
meeting_worker worker (Storage storage) = Worker worker
meeting_worker worker (Comparing storage other) = Worker worker
meeting_worker worker (Told told) = Checking worker told
meeting_worker worker (TwoTold told other) = Worker worker
meeting_worker worker (Checking other told) = Worker worker

-- how a history meets another one
abbrev pub meeting_told : List Answered → LaneView → LaneView
meeting_told told Nobody = Told told
meeting_told told (Worker worker) = Told told
meeting_told told (Storage storage) = Told told
meeting_told told (Comparing storage worker) = Told told
meeting_told told (Told other) = TwoTold told other
meeting_told told (TwoTold other another) = Told told
meeting_told told (Checking worker other) = Told told

-- how a history that was told meets a worker, or another one
abbrev pub meeting : LaneView → LaneView → LaneView
meeting Nobody view = Nobody
meeting (Worker worker) view = meeting_worker worker view
meeting (Storage storage) view = Storage storage
meeting (Comparing storage worker) view = Comparing storage worker
meeting (Told told) view = meeting_told told view
meeting (TwoTold told other) view = TwoTold told other
meeting (Checking worker told) view = Checking worker told

-- What a worker and a history that any worker was told of find: it has no request of this worker
-- that wasn't sent yet, and it and the history that this worker was told of last are of one
-- history.
pub record IsOfOneWith (worker : WorkerState) (told : List Answered) : Type 0 where
  pub asked : StartsWith worker.sent (asked_posted (worker_share told worker.worker))
  pub one : AreOfOne worker.seen told

-- what a worker and a history find, and the worker goes on alone
abbrev pub tells_check : StepTells
tells_check step before found after = (worker : WorkerState) (told : List Answered)
    → known_by before ≡ Checking worker told → IsOfOneWith worker told × (after ≡ (Worker worker, slots_of before))

-- what two histories find, and the first goes on alone
abbrev pub tells_two : StepTells
tells_two step before found after = (told other : List Answered) → known_by before ≡ TwoTold told other
    → AreOfOne told other × (after ≡ (Told told, slots_of before))
