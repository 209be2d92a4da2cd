-- The sessions that a port has opened.
use Rattle.std.specs.Prelude.{◌≡◌, ◌≢◌, ℕ, ◌<◌, Bool, true, false, not, ◌==◌, if◌then◌else◌, List, [], ◌∷◌, ◌++◌}
use Rattle.std.specs.Prelude.{length, map, slice_index, Contains, Option}
use Rattle.std.specs.Prelude.{Some, None, option_map, MatchOption}
use Rattle.script.specs.declared.sessions.Stage.{Stage}
use Rattle.script.specs.declared.sessions.Stage.TheVariants.{Playing, Paused, Closed}

-- a session with the bytes that it was given
pub record ScriptSessionState : Type 0 where
  pub number : ℕ
  pub stage : Stage
  pub output : List ℕ

abbrev pub numbers : List ScriptSessionState → List ℕ
numbers sessions = map (λ (x : ScriptSessionState). x.number) sessions

-- the last number, or this one where there is none
abbrev pub last_from : ℕ → List ℕ → ℕ
last_from n [] = n
last_from n (x ∷ xs) = last_from x xs

-- the number that was opened last, 0 before the first
abbrev pub newest : List ScriptSessionState → ℕ
newest sessions = last_from 0 (numbers sessions)

abbrev pub session_entry : List ScriptSessionState → ℕ → Option ScriptSessionState
session_entry [] session = None
session_entry (x ∷ sessions) session = if x.number == session then Some x else session_entry sessions session

abbrev pub is_closed : Stage → Bool
is_closed Playing = false
is_closed Paused = false
is_closed Closed = true

abbrev pub is_paused : Stage → Bool
is_paused Playing = false
is_paused Paused = true
is_paused Closed = false

abbrev pub is_some_and : (ScriptSessionState → Bool) → Option ScriptSessionState → Bool
is_some_and p (Some x) = p x
is_some_and p None = false

abbrev pub was_closed : List ScriptSessionState → ℕ → Bool
was_closed sessions session = is_some_and (λ (x : ScriptSessionState). is_closed x.stage)
    (session_entry sessions session)

abbrev pub is_session_open : List ScriptSessionState → ℕ → Bool
is_session_open sessions session = is_some_and (λ (x : ScriptSessionState). not (is_closed x.stage))
    (session_entry sessions session)

abbrev pub is_session_paused : List ScriptSessionState → ℕ → Bool
is_session_paused sessions session = is_some_and (λ (x : ScriptSessionState). is_paused x.stage)
    (session_entry sessions session)

-- the position of a number, if it is there
abbrev pub IsPositionOf : List ℕ → ℕ → Option ℕ → Type 0
IsPositionOf numbers number position =
    MatchOption position (Contains numbers number → ⊥)
    (λ at. (at < length numbers) × (slice_index numbers at ≡ number))

abbrev pub with_stage : Stage → ScriptSessionState → ScriptSessionState
with_stage stage x = record x { stage = stage }

abbrev pub with_output : List ℕ → ScriptSessionState → ScriptSessionState
with_output bytes x = record x { output = x.output ++ bytes }

-- one session changes, and the others stay
pub record ChangesScriptSession (old : List ScriptSessionState) (session : ℕ) (change : ScriptSessionState → ScriptSessionState)
    (new : List ScriptSessionState) : Type 0 where
  pub numbers_are : numbers new ≡ numbers old
  pub here : session_entry new session ≡ option_map change (session_entry old session)
  pub others : (t : ℕ) → t ≢ session → session_entry new t ≡ session_entry old t

-- an open session has these bytes after its output, and the others stay
pub record AcceptsAt (old : List ScriptSessionState) (session : ℕ) (bytes : List ℕ)
    (new : List ScriptSessionState) : Type 0 where
  pub was_open : is_session_open old session ≡ true
  pub at : ChangesScriptSession old session (with_output bytes) new
