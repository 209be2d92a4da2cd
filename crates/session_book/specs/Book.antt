-- The sessions of one worker.
use Rattle.std.specs.Prelude.{◌≡◌, ℕ, ◌+◌, ◌<◌, ◌≤◌, ◌⊎◌, Bool, true, false, List, []}
use Rattle.std.specs.Prelude.{◌∷◌, ◌++◌, map, length, Option, Some, None, Result, Ok, Err, IsSome}
use Rattle.std.specs.Prelude.{slice_get, drop, max, filter, ◌==◌, if◌then◌else◌}
use Rattle.std.specs.Map.{lookup}
use Rattle.std.specs.Bool.{nat_eq}
use Rattle.proto.specs.declared.dialect.Dialect.{Dialect}
use Rattle.proto.specs.Lines.{IsLenient}
use Rattle.proto.specs.declared.message.Request.{Request}
use Rattle.proto.specs.declared.message.Message.{Message}
use Rattle.proto.specs.declared.history.Answered.{Answered}
use Rattle.proto.specs.declared.no_memory.NoMemory.{NoMemory}
use Rattle.proto.specs.Answers.{said}
use Rattle.proto.specs.Reading.{asks}
use Rattle.session_book.specs.declared.causes.Unsettled.{Unsettled}
use Rattle.session_book.specs.declared.causes.Unasked.{Unasked}
use Rattle.session_book.specs.declared.causes.Received.{Received}
use Rattle.session_book.specs.declared.causes.Received.TheVariants as received
use Rattle.session_book.specs.declared.causes.Settled.{Settled}
use Rattle.session_book.specs.declared.causes.Settled.TheVariants as outcomes
use Rattle.proto.specs.declared.limits.TheConstants.{WINDOW}
use Rattle.proto.specs.declared.limits.TheConstants.{MAX_POSTS}
use Rattle.proto.specs.Sessions.{most_sessions}
use Rattle.session_book.specs.declared.load.TheConstants.{SMALL_ANSWER}
use Rattle.session_book.specs.declared.input.TheConstants.{MAX_SMALL_MESSAGE}
use Rattle.session_book.specs.Session.{SessionState, begins_asked, TakesPiece, IsInputFull, held_fed, ReadsUpTo, IsReady, Stops, with_reply, IsEmptied}

-- A worker's book: the worker's number; the dialect of its sessions' lines; the open sessions by
-- their numbers; how many requests got a number; the unsettled requests in the order of their
-- numbers; the greatest number of a session opened, and how many were; and how often the parser was
-- called.
pub record BookState : Type 0 where
  pub worker : ℕ
  pub dialect : Dialect
  pub sessions : List (ℕ × SessionState)
  pub numbered : ℕ
  pub unsettled : List Unsettled
  pub greatest : ℕ
  pub opened : ℕ
  pub looks : ℕ

-- the session of this number, if it is open
abbrev pub session_of : BookState → ℕ → Option SessionState
session_of book session = lookup (nat_eq session) book.sessions

-- how many of the unsettled requests are of the session
abbrev pub unsettled_in : List Unsettled → ℕ → ℕ
unsettled_in unsettled session = length (filter (λ u. u.session == session) unsettled)

-- The unsettled requests of each open session are those in its queue, which is empty or begins with
-- one; and no number above the greatest one opened is in use.
pub record IsBook (book : BookState) : Type 0 where
  pub asked : (session : ℕ) (s : SessionState) → session_of book session ≡ Some s → begins_asked s.queue ≡ true
  pub queued : (session : ℕ) (s : SessionState) → session_of book session ≡ Some s
      → length (asks s.queue) ≡ unsettled_in book.unsettled session
  pub open_below : (session : ℕ) → book.greatest < session → session_of book session ≡ None
  pub unsettled_below : (session : ℕ) → book.greatest < session → unsettled_in book.unsettled session ≡ 0

-- the output that wasn't given yet, none of a session that isn't open
abbrev pub out_of : Option SessionState → List ℕ
out_of None = []
out_of (Some s) = s.out

-- the piece that is held, none of a session that isn't open
abbrev pub held_of : Option SessionState → List ℕ
held_of None = []
held_of (Some s) = s.held

-- only this session is another one: it is so afterwards, or not open
abbrev pub OnlyAt : BookState → BookState → ℕ → Option SessionState → Type 0
OnlyAt before after session s =
    (other : ℕ) → session_of after other ≡ (if other == session then s else session_of before other)

-- and nothing else of the book changes
pub record ChangesSession (before after : BookState) (session : ℕ) (s : Option SessionState) : Type 0 where
  pub only_at : OnlyAt before after session s
  pub rest : after ≡ record before { sessions = after.sessions }

-- only the session changes, which is open, from one of these states to one of those
pub record ChangesOpen (before after : BookState) (session : ℕ)
    (Changes : SessionState → SessionState → Type 0) : Type 0 where
  pub s : SessionState
  pub t : SessionState
  pub was_open : session_of before session ≡ Some s
  pub changes : Changes s t
  pub only : ChangesSession before after session (Some t)

-- What becomes of a piece that came.
abbrev pub Receives : BookState → ℕ → List ℕ → Received → BookState → Type 0
Receives before session piece received.Fed after =
    ChangesOpen before after session (λ s t. TakesPiece s piece received.Fed t)
Receives before session piece received.Held after =
    ChangesOpen before after session (λ s t. TakesPiece s piece received.Held t)
Receives before session piece received.Refused after = IsSome (session_of before session) × (after ≡ before)
Receives before session piece received.Unknown after = (session_of before session ≡ None) × (after ≡ before)

-- What becomes of the held piece: it is fed where it fits, or there is none, or it doesn't fit yet.
-- Out of memory, nothing changes.
abbrev pub FeedsHeldOf : BookState → ℕ → Result Bool NoMemory → BookState → Type 0
FeedsHeldOf before session (Ok true) after =
    ChangesOpen before after session (λ s t. ¬ (IsInputFull s s.held) × (t ≡ held_fed s))
FeedsHeldOf before session (Ok false) after =
    ((s : SessionState) → session_of before session ≡ Some s → (s.held ≡ []) ⊎ IsInputFull s s.held) × (after ≡ before)
FeedsHeldOf before session (Err e) after = IsSome (session_of before session) × (after ≡ before)

-- a session can't be opened with this number, or none can
abbrev pub IsKnown : BookState → ℕ → Type 0
IsKnown book session = (session ≤ book.greatest) ⊎ (most_sessions book.dialect ≤ book.opened)

-- the request with its number, where one is given
abbrev pub given_in : Result (Option (Request × ℕ)) Unasked → List (Request × ℕ)
given_in (Ok (Some given)) = given ∷ []
given_in (Ok None) = []
given_in (Err e) = []

-- a request that was given is unsettled
abbrev pub unsettled_of : ℕ → Request × ℕ → Unsettled
unsettled_of session a = record { number = a.1; session = session }

-- why no request is given: the window is full, all numbers were given, or the session reads no
-- further
pub data GivesNone (before : BookState) (s : SessionState) : Type 0 where
  full : WINDOW ≤ length before.unsettled → GivesNone before s
  spent : MAX_POSTS ≤ before.numbered → GivesNone before s
  stops : Stops s → GivesNone before s

-- The session s is read up to the request that is given, with the worker's next number. Of the rest
-- of the book only what is said here changes.
pub record NextAsk (before : BookState) (session : ℕ) (s : SessionState)
    (result : Result (Option (Request × ℕ)) Unasked) (after : BookState) : Type 0 where
  pub messages : List Message
  pub read : SessionState
  pub reading : ReadsUpTo s before.looks messages (map (λ a. a.0) (given_in result)) read after.looks
  pub only_at : OnlyAt before after session (Some read)
  pub numbers : map (λ a. a.1) (given_in result) ≡ map (λ a. before.numbered + 1) (given_in result)
  pub rest : after ≡ record before {
    sessions = after.sessions;
    numbered = before.numbered + length (given_in result);
    unsettled = before.unsettled ++ map (unsettled_of session) (given_in result);
    looks = after.looks;
  }
  pub room : length after.unsettled ≤ max WINDOW (length before.unsettled)
  pub enough : after.numbered ≤ max MAX_POSTS before.numbered
  pub none : result ≡ Ok None → GivesNone before read
  pub refused : (e : Unasked) → result ≡ Err e → IsReady read

-- the answer is that of the oldest unsettled request
abbrev pub IsOldest : BookState → Answered → Type 0
IsOldest book answered =
    slice_get book.unsettled 0 ≡ Some (record { number = answered.number; session = answered.session })

-- the oldest request is no longer unsettled, and at its session only this is so
pub record SettlesOldest (before after : BookState) (answered : Answered) (s : Option SessionState) : Type 0 where
  pub oldest : IsOldest before answered
  pub only_at : OnlyAt before after answered.session s
  pub rest : after ≡ record before { sessions = after.sessions; unsettled = drop 1 before.unsettled }

-- the reply goes to the session's first unsettled request
pub record SettlesReply (before after : BookState) (answered : Answered) : Type 0 where
  pub s : SessionState
  pub was_open : session_of before answered.session ≡ Some s
  pub unsettled : 0 < length (asks s.queue)
  pub settles : SettlesOldest before after answered (Some (with_reply s answered.reply))

-- the session is closed, since there was no room for what it is to be said, which isn't nothing
pub record Starves (before after : BookState) (answered : Answered) : Type 0 where
  pub s : SessionState
  pub was_open : session_of before answered.session ≡ Some s
  pub something : ¬ (said s.queue (answered.reply ∷ []) ≡ [])
  pub settles : SettlesOldest before after answered None

-- What becomes of an answer: it is a stranger where it isn't that of the oldest unsettled request;
-- else it is dropped where its session was closed, or its bytes go to its session, which is closed
-- where they find no room.
abbrev pub Settles : BookState → Answered → Settled → BookState → Type 0
Settles before answered outcomes.Stranger after = ¬ (IsOldest before answered) × (after ≡ before)
Settles before answered outcomes.Dropped after =
    (session_of before answered.session ≡ None) × SettlesOldest before after answered None
Settles before answered outcomes.Kept after = SettlesReply before after answered
Settles before answered outcomes.Starved after = Starves before after answered

-- the session is open, and something of it is left to be read, given or shut
pub record IsUnemptied (book : BookState) (session : ℕ) : Type 0 where
  pub s : SessionState
  pub there : session_of book session ≡ Some s
  pub left : ¬ (IsEmptied s)

-- the session has more output that wasn't given than a small answer has, or its next message needs
-- room of its own
abbrev pub MayStall : SessionState → Type 0
MayStall s = (SMALL_ANSWER < length s.out) ⊎ (MAX_SMALL_MESSAGE < s.need)

-- the sessions are lenient, and this one is open and holds much memory
pub record IsStalled (book : BookState) (session : ℕ) : Type 0 where
  pub lenient : IsLenient book.dialect
  pub s : SessionState
  pub there : session_of book session ≡ Some s
  pub much : MayStall s

-- the session is open, and no piece of it is held
pub record MayResume (book : BookState) (session : ℕ) : Type 0 where
  pub s : SessionState
  pub there : session_of book session ≡ Some s
  pub none_held : s.held ≡ []
