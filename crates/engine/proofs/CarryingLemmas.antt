-- Requests of one step and of several.
use Rattle.std.proofs.Common.{◌≡◌, ℕ, ℤ, true, List, [], ◌∷◌, refl, sym, subst, map}
use Rattle.std.specs.Prelude.{if◌then◌else◌}
use Rattle.proto.specs.declared.message.Request.{Request}
use Rattle.proto.specs.declared.message.Request.TheVariants.{GetAndTouch}
use Rattle.proto.specs.declared.message.Request.TheVariants as requests
use Rattle.proto.specs.declared.message.Touch.{Touch}
use Rattle.proto.specs.declared.message.Reply.{Reply}
use Rattle.proto.specs.declared.message.Reply.TheVariants.{NoMemory}
use Rattle.proto.specs.Stored.{is_no_memory}
use Rattle.proto.specs.Sizes.{Sizes}
use Rattle.proto.specs.Cache.{Cache}
use Rattle.proto.specs.Commands.{SetsNoDeadline}
use Rattle.proto.specs.Steps.{Step, touched_by, TouchesEach, IsCarriedOut}

-- what a step may be
abbrev StepBy : Type 1
StepBy = Cache → Request → Reply → Cache → Type 0

-- touches that are more than steps
pub touches_weaker : (P Q : StepBy) → ((before : Cache) (q : Request) (reply : Reply) (after : Cache) → P before q reply after → Q before q reply after)
    → (before : Cache) (touches : List Touch) (shown reply : Reply) (after : Cache) → TouchesEach P before touches shown reply after
    → TouchesEach Q before touches shown reply after
touches_weaker P Q weaker before [] shown reply after t = t
touches_weaker P Q weaker before (asked ∷ more) shown reply after t = (
  t.0,
  t.1,
  weaker before (requests.Touch asked) t.0 t.1 t.2,
  touches_weaker P Q weaker t.1 more (if is_no_memory t.0 then NoMemory else shown) reply after t.3,
)

-- a step behind which nothing is touched
pub carried_alone : (P : StepBy) (before : Cache) (q : Request) (reply : Reply) (after : Cache) → P before q reply after
    → touched_by q reply ≡ [] → IsCarriedOut P before q reply after
carried_alone P before q reply after step none =
    (reply, after, step, subst (λ (l : List Touch). TouchesEach P after l reply reply after) (sym none) (refl, refl))

-- behind a step that was refused memory nothing is touched
pub touched_refused : (q : Request) (reply : Reply) → is_no_memory reply ≡ true → touched_by q reply ≡ []
touched_refused (GetAndTouch keys with_cas exptime) reply refused = rw refused refl
touched_refused _ reply refused = refl

-- nor behind a request that sets no deadline
pub touched_undated : (q : Request) (reply : Reply) → SetsNoDeadline q → touched_by q reply ≡ []
touched_undated (GetAndTouch keys with_cas exptime) reply sets = absurd sets
touched_undated _ reply sets = refl

-- which is one step
pub one_step : (sizes : Sizes) (before : Cache) (t : ℕ) (q : Request) (reply : Reply) (after : Cache) → SetsNoDeadline q
    → IsCarriedOut (Step sizes t) before q reply after → Step sizes t before q reply after
one_step sizes before t q reply after sets s =
    let none = touched_undated q s.0 sets in
    let same : (reply ≡ s.0) × (after ≡ s.1) =
    subst (λ (l : List Touch). TouchesEach (Step sizes t) s.1 l s.0 reply after) none s.3 in
    subst (λ (r : Reply). Step sizes t before q r after) (sym same.0)
    (subst (λ (c : Cache). Step sizes t before q s.0 c) (sym same.1) s.2)

-- the touches that give each of these keys the deadline of an exptime
abbrev pub touches_of : ℤ → List (List ℕ) → List Touch
touches_of exptime keys = map (λ (key : List ℕ). record { key = key; exptime = exptime }) keys

-- what is left to be touched leads on from where the touches so far have led
abbrev pub LeadsOn : StepBy → Cache → List Touch → Reply → Cache → List Touch → Reply → Type 0
LeadsOn P old all first now left shown =
    (reply : Reply) (after : Cache) → TouchesEach P now left shown reply after → TouchesEach P old all first reply after

-- one touch more
pub leads_more : (P : StepBy) (exptime : ℤ) (old now next : Cache) (all : List Touch) (words rest : List (List ℕ)) (key : List ℕ)
    (first shown answered told : Reply)
    → LeadsOn P old all first now (touches_of exptime words) shown → words ≡ key ∷ rest
    → P now (requests.Touch (record { key = key; exptime = exptime })) answered next
    → told ≡ (if is_no_memory answered then NoMemory else shown) → LeadsOn P old all first next (touches_of exptime rest) told
leads_more P exptime old now next all words rest key first shown answered told leads is step same reply after t =
    leads reply after (subst (λ (ws : List (List ℕ)). TouchesEach P now (touches_of exptime ws) shown reply after) (sym is)
    (answered, next, step, subst (λ (r : Reply). TouchesEach P next (touches_of exptime rest) r reply after) same t))

-- no touch is left
pub leads_to_end : (P : StepBy) (exptime : ℤ) (old now : Cache) (all : List Touch) (words : List (List ℕ)) (first shown : Reply)
    → LeadsOn P old all first now (touches_of exptime words) shown → words ≡ [] → TouchesEach P old all first shown now
leads_to_end P exptime old now all words first shown leads none =
    leads shown now (subst (λ (ws : List (List ℕ)). TouchesEach P now (touches_of exptime ws) shown shown now) (sym none) (refl, refl))

-- a step, and the touches behind it, which are more than steps
pub carried_touches : (P Q : StepBy) → ((before : Cache) (q : Request) (reply : Reply) (after : Cache) → P before q reply after → Q before q reply after)
    → (before next : Cache) (q : Request) (touches : List Touch) (shown reply : Reply) (after : Cache) → Q before q shown next
    → touched_by q shown ≡ touches → TouchesEach P next touches shown reply after → IsCarriedOut Q before q reply after
carried_touches P Q weaker before next q touches shown reply after step is each = (
  shown,
  next,
  step,
  subst (λ (l : List Touch). TouchesEach Q next l shown reply after) (sym is)
      (touches_weaker P Q weaker next touches shown reply after each),
)
