-- Histories: lists of answered requests, and which are legal.
use Rattle.std.specs.Prelude.{◌≡◌, ℕ, ◌+◌, ◌^◌, max, min, ⊤, ◌⊎◌, ◌&&◌, List, [], ◌∷◌, ◌++◌, Bool, true, false, All, map, filter, ◌==◌}
use mathlib.Core.Option.{some}
use lib.ListN.{get_elem?}
use Rattle.proto.specs.declared.message.Request.{Request}
use Rattle.proto.specs.declared.message.Request.TheVariants.{Stats}
use Rattle.proto.specs.declared.message.Reply.{Reply}
use Rattle.proto.specs.declared.message.Reply.TheVariants.{NoMemory}
use Rattle.proto.specs.declared.history.Posted.{Posted}
use Rattle.proto.specs.declared.history.Answered.{Answered}
use Rattle.proto.specs.declared.terms.Terms.{Terms}
use Rattle.proto.specs.declared.logged_clock.ClockStart.{ClockStart}
use Rattle.proto.specs.ClockAnswers.{GivenAnswer, IsRead}
use Rattle.proto.specs.Sizes.{Sizes}
use Rattle.proto.specs.Cache.{Cache, empty_cache}
use Rattle.proto.specs.Commands.{shows_hits}
use Rattle.proto.specs.Steps.{Step, IsCarriedOut}
use Rattle.proto.specs.Tallies.{no_counts, CountsFrom}

-- After these answers of the clock, and this moment, each request has one answer more, and its
-- moment: that answer, up to the greatest moment, or the moment before where that is greater. So
-- moments never fall.
abbrev pub MomentsFrom : List GivenAnswer → ℕ → List Answered → Type 0
MomentsFrom told t [] = ⊤
MomentsFrom told t (e ∷ history) =
    (answer : GivenAnswer) × (e.clock ≡ told ++ answer ∷ []) × (e.moment ≡ max t (min answer.seconds (2 ^ 62)))
    × MomentsFrom e.clock e.moment history

-- the greatest moment
abbrev pub max_moment : ℕ
max_moment = 2 ^ 62

-- the clock's answers that gave a history its moments, after these
abbrev pub answers_by : List GivenAnswer → List Answered → List GivenAnswer
answers_by told [] = told
answers_by told (e ∷ history) = answers_by e.clock history

-- The requests are carried out by their steps, one after the other, from the cache before, and
-- these are the caches that they leave. `IsStep` says what a step at a moment is. What a `stats` is
-- told isn't the cache's matter.
abbrev pub Chain : (ℕ → Cache → Request → Reply → Cache → Type 0) → Cache → List Answered → List Cache → Type 0
Chain IsStep before [] [] = ⊤
Chain IsStep before (e ∷ history) (after ∷ caches) =
    (reply : Reply) × ((reply ≡ e.reply) ⊎ (e.request ≡ Stats))
    × IsCarriedOut (IsStep e.moment) before e.request reply after × Chain IsStep after history caches
Chain _ _ _ _ = ⊥

-- the entries are numbered n, n + 1 and so on
abbrev pub NumbersFrom : ℕ → List Answered → Type 0
NumbersFrom n [] = ⊤
NumbersFrom n (e ∷ history) = (e.number ≡ n) × NumbersFrom (n + 1) history

abbrev pub worker_share : List Answered → ℕ → List Answered
worker_share history worker = filter (λ e. e.worker == worker) history

abbrev pub session_share : List Answered → ℕ → ℕ → List Answered
session_share history worker session = filter (λ e. e.worker == worker && e.session == session) history

abbrev pub had : List Answered → List Reply
had history = map (λ e. e.reply) history

abbrev pub asked_posted : List Answered → List Posted
asked_posted history = map (λ e. record { session = e.session; number = e.number; request = e.request }) history

abbrev pub asked : List Answered → List Request
asked history = map (λ e. e.request) history

pub record Legal (sizes : Sizes) (history : List Answered) : Type 0 where
  pub moments : MomentsFrom [] 0 history
  pub caches : List Cache
  pub chain : Chain (Step sizes) (empty_cache 0) history caches
  pub counts : CountsFrom no_counts history
  pub numbers : (worker place : ℕ) (e : Answered) → get_elem? (worker_share history worker) place ≡ some e → e.number ≡ place + 1

-- Where no request that stores may be refused memory, each entry that was shows hits, or is a
-- `stats`.
abbrev pub RefusesBy : Bool → List Answered → Type 0
RefusesBy may_refuse history = may_refuse ≡ false → All (λ (e : Answered). e.reply ≡ NoMemory
    → (shows_hits e.request ≡ true) ⊎ (e.request ≡ Stats)) history

-- A history that is legal for these sizes, and refuses memory as the terms say. Where they say so,
-- the clock's answers in it are readings of the system's clock, one for each entry, all counted
-- from one start.
pub record LegalBy (terms : Terms) (history : List Answered) : Type 0 where
  pub legal : Legal terms.geometry history
  pub read : terms.system_clock ≡ true → (start : ClockStart) × All (IsRead start) (answers_by [] history)
  pub refused : RefusesBy terms.may_refuse history
