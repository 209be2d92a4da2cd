-- Stores that keep deadlines to the second.
use Rattle.std.specs.Prelude.{◌≡◌, ◌≢◌, ℕ, ◌<◌, ◌^◌, Bool, true, nat_lt, List, Option, Some, None}
use Rattle.std.specs.FinMap as map
use Rattle.proto.specs.declared.message.Request.{Request}
use Rattle.proto.specs.declared.message.Reply.{Reply}
use Rattle.proto.specs.declared.message.Reply.TheVariants.{NoMemory}
use Rattle.proto.specs.Sizes.{Sizes}
use Rattle.proto.specs.Cache.{Entry, Cache}
use Rattle.proto.specs.Commands.{Outcome}
use Rattle.proto.specs.Steps.{Step}
use Rattle.engine.specs.Outcomes.{outcome_at}

-- whether a store can keep a deadline to the second: there is none, or it is below 2^48
abbrev pub is_storable_deadline : Option ℕ → Bool
is_storable_deadline None = true
is_storable_deadline (Some deadline) = nat_lt deadline 281474976710656

-- The entry that was stored is there then as it was asked for, with the very deadline, if that is
-- below 2^48.
abbrev pub IsAsAsked : Outcome → Cache → Type 0
IsAsAsked done after = (key : List ℕ) (e : Entry) → done.stored ≡ Some key → map.get done.entries key ≡ Some e
    → ((deadline : ℕ) → e.deadline ≡ Some deadline → deadline < 2 ^ 48) → map.get after.entries key ≡ Some e

-- a request that isn't refused memory leaves what it stores so
abbrev pub StoresAsAsked : Sizes → Cache → ℕ → Request → Reply → Cache → Type 0
StoresAsAsked sizes before t q reply after = reply ≢ NoMemory → IsAsAsked (outcome_at sizes before t q) after

-- a step that stores its entry so
abbrev pub IsExactStep : Sizes → ℕ → Cache → Request → Reply → Cache → Type 0
IsExactStep sizes t before q reply after = Step sizes t before q reply after × StoresAsAsked sizes before t q reply after

-- a step, which stores its entry so where deadlines are kept to the second
abbrev pub IsKeepingStep : Bool → Sizes → ℕ → Cache → Request → Reply → Cache → Type 0
IsKeepingStep exact sizes t before q reply after =
    Step sizes t before q reply after × (exact ≡ true → StoresAsAsked sizes before t q reply after)

-- A store that keeps deadlines to the second goes on so, and another one too. Where it does, the
-- request stores its entry as it asks.
abbrev pub KeepsDeadlines : {E : Type 0} → (E → Sizes) → (E → Cache) → (E → Bool) → E → ℕ → Request → Reply → E → Type 0
KeepsDeadlines sizes cache exact old t q reply new =
    (exact new ≡ exact old) × (exact old ≡ true → StoresAsAsked (sizes old) (cache old) t q reply (cache new))
