-- What the storage thread makes of requests.
use Rattle.std.specs.Prelude.{◌≡◌, ℕ, ◌<◌, ◌≤◌, max, min, List, [], ◌∷◌, ◌++◌, map, All, Option, Some, None, IfSome}
use Rattle.std.specs.Prelude.{option_map, Bool, true}
use Rattle.proto.specs.ClockAnswers.{GivenAnswer, IsRead}
use Rattle.proto.specs.declared.logged_clock.ClockStart.{ClockStart}
use Rattle.proto.specs.declared.history.Posted.{Posted}
use Rattle.proto.specs.declared.history.Answered.{Answered}
use Rattle.proto.specs.Cache.{Cache}
use Rattle.proto.specs.declared.clock.AskedClock.{AskedClock}
use Rattle.proto.specs.History.{max_moment, answers_by}
use Rattle.engine.specs.Reaching.{Reaches}
use Rattle.proto.specs.Counts.{times}
use Rattle.exchange.specs.Beginnings.{posted_of}
use Rattle.exchange.specs.declared.messages.Taken.{Taken}
use Rattle.exchange.specs.Ends.{StorageView, IsNextMessage, with_taken}

-- The clock was asked once, and the new moment is that of its answer.
abbrev pub AsksClock : {C : Type 0} → (C → Option (List ℕ)) → (C → Option ClockStart) → AskedClock C → ℕ
    → AskedClock C → ℕ → Type 0
AsksClock {C} told start old last new moment =
    (answer : GivenAnswer)
    × (told new.clock ≡ option_map (λ (told : List ℕ). told ++ answer.seconds ∷ []) (told old.clock))
    × (new.answers ≡ old.answers ++ answer ∷ []) × (moment ≡ max last (min answer.seconds max_moment))
    × IfSome (start old.clock) (λ from. IsRead from answer) × (start new.clock ≡ start old.clock)

-- where that is required, the clock counts from a start, and the history's moments are those of its
-- readings since
abbrev pub IsReadSince : Bool → Option ClockStart → List Answered → Type 0
IsReadSince is_required start history =
    is_required ≡ true → (from : ClockStart) × (start ≡ Some from) × All (IsRead from) (answers_by [] history)

-- a clock that tells its answers has told those by which the history has its moments, and no other
abbrev pub IsTimed : Option (List ℕ) → Option (List ℕ) → List Answered → Type 0
IsTimed old new history =
    new ≡ option_map (λ (told : List ℕ). told ++ map (λ (a : GivenAnswer). a.seconds) (answers_by [] history)) old

-- a request of the history, as it was taken
abbrev pub taken_as : Answered → ℕ × Posted
taken_as e = (e.worker, posted_of e)

-- one bye of each worker was taken, and no other
abbrev pub SaidBye : StorageView → Type 0
SaidBye v = (w : ℕ) → w < v.workers → times w v.byes ≡ 1

-- an end of which nothing was taken
abbrev pub IsUnused : StorageView → Type 0
IsUnused v = (v.taken ≡ []) × (v.open_request ≡ None) × (v.history ≡ []) × (v.byes ≡ [])

-- the same exchange
abbrev pub IsSameExchange : StorageView → StorageView → Type 0
IsSameExchange old new = (new.exchange ≡ old.exchange) × (new.workers ≡ old.workers) × (new.terms ≡ old.terms)

-- nothing was taken, and nothing but the looks at the lanes has changed
abbrev pub GetsNone : StorageView → StorageView → Type 0
GetsNone old new = (looks : List (ℕ × ℕ)) × (new ≡ record old { looks = looks })

-- The next message of a lane was taken, and nothing else but the looks at the lanes has changed.
pub record GetsMessage (old new : StorageView) (t : Taken) : Type 0 where
  pub lane : ℕ
  pub inside : lane < old.workers
  pub is_next : IsNextMessage old lane t
  pub looks : List (ℕ × ℕ)
  pub after : new ≡ record (with_taken old lane t) { looks = looks }

-- the open request is the worker's next one, and was answered with an entry at this moment, after
-- these answers of the clock
abbrev pub AnswersOpenRequest : StorageView → StorageView → ℕ → Posted → ℕ → List GivenAnswer → Type 0
AnswersOpenRequest old new worker posted moment clock =
    (e : Answered) × (e.worker ≡ worker) × (posted_of e ≡ posted) × (e.moment ≡ moment) × (e.clock ≡ clock)
    × (new ≡ record old { history = old.history ++ e ∷ []; open_request = None })

-- What holds between two requests: all that was taken was executed, once each and in order.
pub record IsStorageServing (old new : StorageView) (cache : Cache) (moment : ℕ) : Type 0 where
  pub same : IsSameExchange old new
  pub shut : new.open_request ≡ None
  pub taken : new.taken ≡ map taken_as new.history
  pub reaches : Reaches new.terms.geometry new.history cache moment
  pub known : All (λ (e : Answered). e.worker < new.workers) new.history
  pub inside : All (λ w. w < new.workers) new.byes
  pub once : (w : ℕ) → times w new.byes ≤ 1
