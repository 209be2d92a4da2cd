-- What contracts see of the ends of an exchange, and what a call of each end tells.
use Rattle.std.specs.Prelude.{◌≡◌, ◌≢◌, ◌⊎◌, ℕ, ◌+◌, ◌-◌, ◌<◌, ◌≤◌, ◌^◌, List, [], ◌∷◌, ◌++◌, length, map, take, All, Option, Some, None, MatchOption, Bool}
use Rattle.std.specs.Prelude.{true, false, ◌==◌, if◌then◌else◌, IfSome}
use Rattle.std.specs.List.{filter, range_with_len}
use mathlib.Core.Option.{some}
use lib.ListN.{get_elem?}
pub use Rattle.atomic_table.specs.Seated.{TableId}
use Rattle.proto.specs.declared.limits.TheConstants.{WINDOW}
use Rattle.proto.specs.declared.terms.Terms.{Terms}
use Rattle.proto.specs.declared.history.Posted.{Posted}
use Rattle.proto.specs.declared.history.Answered.{Answered}
use Rattle.proto.specs.History.{LegalBy, worker_share, asked_posted}
use Rattle.exchange.specs.declared.messages.Taken.{Taken}
use Rattle.exchange.specs.declared.messages.Taken.TheVariants.{Asked, Bye}
use Rattle.proto.specs.Counts.{times}
use Rattle.exchange.specs.Beginnings.{StartsWith, posted_of}

-- What a worker knows: the exchange that its end belongs to, the terms by which histories are
-- legal, the requests that it sent, whether it said bye, the answers that it took back, the history
-- that it was told of last, and the counts of done messages that it read, one a `take`.
pub record WorkerView : Type 0 where
  pub exchange : TableId
  pub worker : ℕ
  pub terms : Terms
  pub sent : List Posted
  pub said_bye : Bool
  pub back : List Answered
  pub seen : List Answered
  pub loads : List ℕ

-- What storage knows: the exchange, its number of workers, the terms by which histories are legal,
-- the requests that it took, each with its worker, the one of them that isn't answered yet, the
-- history of those that are, the workers whose bye was taken, the newest first, the lanes that it
-- looked at, each with the count of posted messages that it read there, and the lane that it took
-- from last.
pub record StorageView : Type 0 where
  pub exchange : TableId
  pub workers : ℕ
  pub terms : Terms
  pub taken : List (ℕ × Posted)
  pub open_request : Option (ℕ × Posted)
  pub history : List Answered
  pub byes : List ℕ
  pub looks : List (ℕ × ℕ)
  pub last : ℕ

-- What a worker knows whose end sends its requests in batches: the same, and the requests that it
-- put and hasn't sent.
pub record WorkerLaneView : Type 0 where
  pub end : WorkerView
  pub put : List Posted

-- What storage knows that tells the workers of its answers in batches: the same, where the history
-- has all that it answered, and the first entries of it that the workers can be told of.
pub record StorageLanesView : Type 0 where
  pub end : StorageView
  pub told : List Answered

-- A history that a worker was told of, and the exchange at which it was.
pub record ToldView : Type 0 where
  pub exchange : TableId
  pub items : List Answered

-- Making

-- a worker's end as it is made
abbrev pub new_worker_view : TableId → Terms → ℕ → WorkerView
new_worker_view exchange terms worker =
    record {
      exchange = exchange;
      worker = worker;
      terms = terms;
      sent = [];
      said_bye = false;
      back = [];
      seen = [];
      loads = [];
    }

-- storage's end as it is made; the first lane comes after the last one
abbrev pub new_storage_view : TableId → Terms → ℕ → StorageView
new_storage_view exchange terms workers =
    record {
      exchange = exchange;
      workers = workers;
      terms = terms;
      taken = [];
      open_request = None;
      history = [];
      byes = [];
      looks = [];
      last = workers - 1;
    }

-- an end for each worker, in their order
abbrev pub AreNew : TableId → Terms → List WorkerView → Type 0
AreNew exchange terms ends = (worker : ℕ) (view : WorkerView) → get_elem? ends worker ≡ some view
    → view ≡ new_worker_view exchange terms worker

-- the ends as one call of `make` gives them
abbrev pub AreMade : ℕ → Terms → List WorkerView → StorageView → Type 0
AreMade workers terms ends storage = (length ends ≡ workers) × AreNew storage.exchange terms ends
    × (storage ≡ new_storage_view storage.exchange terms workers)

abbrev pub IsCount : ℕ → Type 0
IsCount workers = (1 ≤ workers) × (workers ≤ 8)

-- A worker's calls

-- the most requests of a worker in one run
abbrev pub max_posts : ℕ
max_posts = 2 ^ 62

-- fewer than WINDOW requests are outstanding, the worker hasn't said bye, and it hasn't sent its
-- last request
abbrev pub CanPost : WorkerView → Type 0
CanPost view = (length view.sent < length view.back + WINDOW) × (view.said_bye ≡ false) × (length view.sent < max_posts)

-- A history that a worker was told of: it is legal, the worker's requests there are the first
-- `count` of those that it sent, and the answers that it took back are the first of its entries
-- there.
pub record IsToldHistory (terms : Terms) (worker : ℕ) (sent : List Posted) (taken told : List Answered)
    (count : ℕ) : Type 0 where
  pub legal : LegalBy terms told
  pub asked : asked_posted (worker_share told worker) ≡ take count sent
  pub back : StartsWith (worker_share told worker) taken

-- What a worker is told if it reads how many of its messages are done: a history that begins with
-- the one that it had seen, in which its requests are the first `done` of those that it sent, or
-- all of them if its bye is one of the messages that are done.
pub record IsDoneHistory (terms : Terms) (worker : ℕ) (sent : List Posted) (said_bye : Bool)
    (taken seen told : List Answered) (done : ℕ) : Type 0 where
  pub history : IsToldHistory terms worker sent taken told done
  pub later : StartsWith told seen
  pub counted : (done ≡ length (worker_share told worker)) ⊎ ((said_bye ≡ true) × (done ≡ length sent + 1))

-- the same of a worker's view
abbrev pub IsToldDone : WorkerView → ℕ → List Answered → Type 0
IsToldDone view done told =
    IsDoneHistory view.terms view.worker view.sent view.said_bye view.back view.seen told done

-- told of this history by the count of done messages
abbrev pub with_history : WorkerView → ℕ → List Answered → WorkerView
with_history view done told = record view { seen = told; loads = view.loads ++ done ∷ [] }

-- the same, with an answer of it
abbrev pub with_history_and_answer : WorkerView → ℕ → List Answered → Answered → WorkerView
with_history_and_answer view done told answered = record (with_history view done told) { back = view.back ++ answered ∷ [] }

-- A `take` tells the worker a history. An answer is the next one of its entries there; none comes
-- exactly where it took all of them back before.
abbrev pub TakesAnswer : WorkerView → Option Answered → WorkerView → Type 0
TakesAnswer old result new = (done : ℕ) × (told : List Answered) × IsToldDone old done told × MatchOption result
    ((old.back ≡ worker_share told old.worker) × (new ≡ with_history old done told))
    (λ answered. (get_elem? (worker_share told old.worker) (length old.back) ≡ some answered)
    × (new ≡ with_history_and_answer old done told answered))

-- what is known of the history that a worker was told of last
abbrev pub WasTold : WorkerView → Type 0
WasTold view = IsToldHistory view.terms view.worker view.sent view.back view.seen
    (length (worker_share view.seen view.worker))

-- What a `take_seen` tells: an answer is the next one of the worker's entries in the history that
-- it was told of last; none comes exactly where it took all of them back before.
abbrev pub TakesSeen : WorkerView → Option Answered → WorkerView → Type 0
TakesSeen old result new = WasTold old × MatchOption result
    ((old.back ≡ worker_share old.seen old.worker) × (new ≡ old))
    (λ answered. (get_elem? (worker_share old.seen old.worker) (length old.back) ≡ some answered)
    × (new ≡ record old { back = old.back ++ answered ∷ [] }))

-- an answer that is taken is the worker's, and to the next of the requests that it sent
abbrev pub IsToNextSent : WorkerView → Option Answered → Type 0
IsToNextSent view result = IfSome result (λ a. (a.worker ≡ view.worker)
    × (get_elem? view.sent (length view.back) ≡ some (posted_of a)))

-- fewer than WINDOW requests are outstanding or put, the worker hasn't said bye, and it hasn't put
-- its last request
abbrev pub CanPut : WorkerLaneView → Type 0
CanPut view = (length view.end.sent + length view.put < length view.end.back + WINDOW) × (view.end.said_bye ≡ false)
    × (length view.end.sent + length view.put < max_posts)

-- with all that was put sent, in order
abbrev pub with_put_sent : WorkerLaneView → WorkerLaneView
with_put_sent view = record { end = record view.end { sent = view.end.sent ++ view.put }; put = [] }

-- Storage's calls

-- how many messages of this lane storage has settled
abbrev pub settled_count : List Answered → List ℕ → ℕ → ℕ
settled_count history byes lane = length (worker_share history lane) + times lane byes

-- the lanes in turn: those after the one that was taken from last, then those from the first one up
-- to it
abbrev pub lanes_in_turn : ℕ → ℕ → List ℕ
lanes_in_turn workers last = range_with_len (last + 1) (workers - (last + 1)) ++ range_with_len 0 (last + 1)

-- the lanes of some looks
abbrev pub lanes_of : List (ℕ × ℕ) → List ℕ
lanes_of looks = map (λ (look : ℕ × ℕ). look.0) looks

-- the counts of posted messages that storage read in this lane
abbrev pub looks_of_lane : List (ℕ × ℕ) → ℕ → List ℕ
looks_of_lane looks lane = map (λ (look : ℕ × ℕ). look.1) (filter (λ (look : ℕ × ℕ). look.0 == lane) looks)

-- no look found a message that isn't done
abbrev pub FoundNone : StorageView → List (ℕ × ℕ) → Type 0
FoundNone view looks = All (λ (look : ℕ × ℕ). look.1 ≤ settled_count view.history view.byes look.0) looks

-- one more look at this lane, which found no message that isn't done
abbrev pub LookedOnce : StorageView → StorageView → ℕ → Type 0
LookedOnce old new lane = (count : ℕ) × (count ≤ settled_count old.history old.byes lane)
    × (looks_of_lane new.looks lane ≡ looks_of_lane old.looks lane ++ count ∷ [])

-- The next message of this lane: no bye of it came before, and a request has the number after that
-- of the worker's last entry.
abbrev pub IsNextMessage : StorageView → ℕ → Taken → Type 0
IsNextMessage view lane (Asked worker posted) =
    (worker ≡ lane) × (times lane view.byes ≡ 0) × (posted.number ≡ length (worker_share view.history lane) + 1)
IsNextMessage view lane (Bye worker) = (worker ≡ lane) × (times lane view.byes ≡ 0)

-- what taking a message from this lane changes: a request is open, a bye is done
abbrev pub with_taken : StorageView → ℕ → Taken → StorageView
with_taken view lane (Asked worker posted) = record view {
  taken = view.taken ++ (lane, posted) ∷ [];
  open_request = Some (lane, posted);
  last = lane;
}
with_taken view lane (Bye worker) = record view { byes = lane ∷ view.byes; last = lane }

-- what one look at this lane tells: there is no message that isn't done, or the next one is taken
abbrev pub LooksAt : StorageView → ℕ → Option Taken → StorageView → Type 0
LooksAt old lane result new = (count : ℕ) × MatchOption result
    ((count ≤ settled_count old.history old.byes lane) × (new ≡ record old { looks = old.looks ++ (lane, count) ∷ [] }))
    (λ message. (settled_count old.history old.byes lane < count) × IsNextMessage old lane message
    × (new ≡ record (with_taken old lane message) { looks = old.looks ++ (lane, count) ∷ [] }))

-- Where `next` finds none, it looked at all lanes in turn and found none there.
abbrev pub FindsNone : StorageView → StorageView → Type 0
FindsNone old new = (looks : List (ℕ × ℕ)) × (lanes_of looks ≡ lanes_in_turn old.workers old.last) × FoundNone old looks
    × (new ≡ record old { looks = old.looks ++ looks })

-- Else it looked at the lanes in turn up to the first one with a message that isn't done, and takes
-- that one.
pub record FindsOne (old new : StorageView) (message : Taken) : Type 0 where
  pub lane : ℕ
  pub posted : ℕ
  pub before : List (ℕ × ℕ)
  pub inside : lane < old.workers
  pub in_turn : StartsWith (lanes_in_turn old.workers old.last) (lanes_of (before ++ (lane, posted) ∷ []))
  pub none_before : FoundNone old before
  pub found : settled_count old.history old.byes lane < posted
  pub is_next : IsNextMessage old lane message
  pub after : new ≡ record (with_taken old lane message) { looks = old.looks ++ (before ++ (lane, posted) ∷ []) }

-- the look that came last was at this lane, and found this count of posted messages
abbrev pub LastLook : List (ℕ × ℕ) → ℕ → ℕ → Type 0
LastLook looks lane count = (before : List (ℕ × ℕ)) × (looks ≡ before ++ (lane, count) ∷ [])

-- What a `next_seen` tells: it takes the next message of the lane that was looked at last; none
-- comes exactly where the count that was found there names no message that isn't done.
abbrev pub SeesNext : StorageView → Option Taken → StorageView → Type 0
SeesNext old result new = MatchOption result
    (((lane count : ℕ) → LastLook old.looks lane count → count ≤ settled_count old.history old.byes lane) × (new ≡ old))
    (λ message. (lane : ℕ) × (count : ℕ) × LastLook old.looks lane count × (lane < old.workers)
    × (settled_count old.history old.byes lane < count) × IsNextMessage old lane message
    × (new ≡ with_taken old lane message))

-- what an answer to the open request changes
abbrev pub with_answer : StorageView → Answered → StorageView
with_answer view answered = record view { history = view.history ++ answered ∷ []; open_request = None }

-- this worker, and no other, has answers that it wasn't told of
abbrev pub IsUntold : StorageLanesView → ℕ → Type 0
IsUntold view worker = (length (worker_share view.told worker) < length (worker_share view.end.history worker))
    × ((other : ℕ) → other ≢ worker → worker_share view.end.history other ≡ worker_share view.told other)

-- Gathering

-- the ends are of one exchange, and no two are of one worker
pub record AreTogether (ends : List WorkerView) (storage : StorageView) : Type 0 where
  pub exchange : (place : ℕ) (view : WorkerView) → get_elem? ends place ≡ some view → view.exchange ≡ storage.exchange
  pub apart : (place other_place : ℕ) (view other : WorkerView) → get_elem? ends place ≡ some view
      → get_elem? ends other_place ≡ some other
      → view.worker ≡ other.worker → place ≡ other_place

-- the open request, where it is the worker's
abbrev pub open_of : Option (ℕ × Posted) → ℕ → List Posted
open_of None worker = []
open_of (Some open_now) worker = if open_now.0 == worker then open_now.1 ∷ [] else []

-- What storage and a worker find where their ends come together. A bye that storage took of the
-- worker, the worker said.
pub record AreCompared (storage : StorageView) (view : WorkerView) : Type 0 where
  pub inside : view.worker < storage.workers
  pub terms : view.terms ≡ storage.terms
  pub legal : LegalBy storage.terms storage.history
  pub seen : StartsWith storage.history view.seen
  pub back : StartsWith (worker_share storage.history view.worker) view.back
  pub sent : StartsWith view.sent (asked_posted (worker_share storage.history view.worker)
      ++ open_of storage.open_request view.worker)
  pub all : view.said_bye ≡ true → (view.back ≡ worker_share storage.history view.worker)
      × (asked_posted (worker_share storage.history view.worker) ≡ view.sent)
  pub bye : 0 < times view.worker storage.byes → view.said_bye ≡ true

-- the numbers of requests and of answers of a worker
pub record AreCounted (storage : StorageView) (view : WorkerView) (sent back : ℕ) : Type 0 where
  pub compared : AreCompared storage view
  pub sent_is : sent ≡ length view.sent
  pub back_is : back ≡ length view.back
