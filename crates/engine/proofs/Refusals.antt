-- Only a request that shows hits is refused memory, where storing isn't.
use Rattle.std.proofs.Common.{◌≡◌, ◌≢◌, ℕ, Bool, true, false, refl, sym, ap, subst, ◌∙◌, inl, inr}
use Rattle.proto.specs.declared.message.Request.{Request}
use Rattle.proto.specs.declared.message.Request.TheVariants.{Stats}
use Rattle.proto.specs.declared.message.Reply.{Reply}
use Rattle.proto.specs.declared.message.Reply.TheVariants.{NoMemory}
use Rattle.proto.specs.Sizes.{Sizes, item_limit}
use Rattle.proto.specs.Cache.{Cache}
use Rattle.proto.proofs.Outcomes.{IsGet, shown_act}
use Rattle.engine.specs.Outcomes.{outcome_at, needs_memory}

-- a `stats` needs no memory of its store
pub needs_none : (may_refuse : Bool) (sizes : Sizes) (before : Cache) (t : ℕ) (q : Request) → q ≡ Stats
    → needs_memory may_refuse (outcome_at sizes before t q) ≡ false
needs_none true sizes before t q is = rw is refl
needs_none false sizes before t q is = rw is refl

-- where storing isn't refused memory, what is refused shows hits
pub refused_get : (may_refuse : Bool) (sizes : Sizes) (cache : Cache) (t : ℕ) (q asked : Request) (reply : Reply)
    → (needs_memory may_refuse (outcome_at sizes cache t q) ≡ false → reply ≢ NoMemory) → asked ≡ q → may_refuse ≡ false
    → reply ≡ NoMemory → IsGet asked
refused_get may_refuse sizes cache t q asked reply succeeds same none is =
    let done = outcome_at sizes cache t q in
    elim (shown_act (item_limit sizes) cache t q) [
      | inl shows ↦ subst IsGet (sym same) shows
      | inr other ↦ absurd (succeeds (ap (λ (b : Bool). needs_memory b done) none ∙ other) is)
    ]
