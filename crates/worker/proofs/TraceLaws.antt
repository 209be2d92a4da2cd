-- What the calls of a port make of its trace, and which sessions that leaves paused.
use Rattle.std.proofs.Common.{◌≡◌, ◌≢◌, ℕ, ◌==◌, Bool, true, false, true≢false, ◌||◌, cond, eq-eqb, List, [], ◌∷◌}
use Rattle.std.proofs.Common.{refl, sym, ap, ◌∙◌, Option, Some}
use Rattle.std.proofs.Common.{None, is_some}
use Rattle.std.specs.Option.{option_map}
use Rattle.proto.proofs.Options.{some_is}
use Rattle.worker_port.specs.declared.events.PortRecord.{PortRecord}
use Rattle.worker_port.specs.declared.events.PortRecord.TheVariants as was
use Rattle.worker_port.specs.Ports.{PortTrace, is_in, then_told}
use Rattle.worker.specs.Workers.{ArePaused}
use Rattle.worker_port.proofs.Facts.{about}
use Rattle.worker.proofs.RunViews.{at_other}
use Rattle.proto.proofs.CountLemmas.{either_way}

-- what a port tells after a call, it told before but for what the call added
pub told_before : (f : PortTrace → PortTrace) (o o' : Option PortTrace) → o' ≡ option_map f o → (after : PortTrace)
    → o' ≡ Some after
    → (trace : PortTrace) × (o ≡ Some trace) × (f trace ≡ after)
told_before f None o' e after h = absurd (cc)
told_before f (Some trace) o' e after h = (trace, refl, some_is (f trace) after (sym e ∙ h))

-- a port that tells goes on to tell, and no other begins to
pub tells_as : (f : PortTrace → PortTrace) (o o' : Option PortTrace) → o' ≡ option_map f o → is_some o' ≡ is_some o
tells_as f None o' e = ap is_some e
tells_as f (Some trace) o' e = ap is_some e

-- a port that wasn't called
pub same_trace : (o o' : Option PortTrace) → o' ≡ o → o' ≡ option_map (λ trace. trace) o
same_trace None o' e = e
same_trace (Some trace) o' e = e

-- two calls
pub two_calls : (f g : PortTrace → PortTrace) (o m o' : Option PortTrace) → m ≡ option_map f o → o' ≡ option_map g m
    → o' ≡ option_map (λ trace. g (f trace)) o
two_calls f g None m o' e h = h ∙ ap (option_map g) e
two_calls f g (Some trace) m o' e h = h ∙ ap (option_map g) e

-- ---- which sessions an entry ends

-- an entry about another session doesn't end this one
pub ends_elsewhere : (x : PortRecord) (s : ℕ) → about s x ≡ false
    → (is_in (was.Gone s) (x ∷ []) || is_in (was.Shut s) (x ∷ [])) ≡ false
ends_elsewhere (was.Opened t) s e = refl
ends_elsewhere (was.Data t b) s e = refl
ends_elsewhere (was.EndOfInput t) s e = refl
ends_elsewhere (was.Gone t) s e = ap (λ b. (b || false) || false) e
ends_elsewhere was.Ended s e = refl
ends_elsewhere (was.Accepted t b) s e = refl
ends_elsewhere (was.Shut t) s e = ap (λ b. (false || b) || false) e

-- an entry about another session leaves a session paused, or not
pub paused_elsewhere : (trace : PortTrace) (x : PortRecord) (s : ℕ) → about s x ≡ false
    → (then_told (x ∷ []) trace).paused s ≡ trace.paused s
paused_elsewhere trace x s e = ap (λ b. cond b false (trace.paused s)) (ends_elsewhere x s e)

-- ---- the sessions of which bytes are held are paused

-- nothing more is held, and nothing is resumed
pub paused_kept : (trace after : PortTrace) (old new : ℕ → List ℕ) → ((s : ℕ) → new s ≡ old s)
    → ((s : ℕ) → after.paused s ≡ trace.paused s)
    → ArePaused trace old → ArePaused after new
paused_kept trace after old new held same h = λ s some. same s ∙ h s (λ e. some (held s ∙ e))

-- no more is held of one session, and the others stay paused
pub paused_but : (trace after : PortTrace) (t : ℕ) (old new : ℕ → List ℕ) → ((s : ℕ) → new s ≡ cond (s == t) [] (old s))
    → ((s : ℕ) → t ≢ s → after.paused s ≡ trace.paused s) → ArePaused trace old → ArePaused after new
paused_but trace after t old new held same h =
    λ s some.
    either_way t s
    (λ (e : t ≡ s). absurd (some (held s ∙ ap (λ b. cond b [] (old s)) (eq-eqb s t (sym e)))))
    (λ (ne : t ≢ s). same s ne ∙ h s (λ e. some (held s ∙ at_other t s [] (old s) ne ∙ e)))

-- one more session is paused
pub paused_too : (trace after : PortTrace) (t : ℕ) (old new : ℕ → List ℕ) → ((s : ℕ) → new s ≡ old s)
    → after.paused t ≡ true → ((s : ℕ) → t ≢ s → after.paused s ≡ trace.paused s) → ArePaused trace old
    → ArePaused after new
paused_too trace after t old new held here same h =
    λ s some.
    either_way t s (λ (e : t ≡ s). ap after.paused (sym e) ∙ here)
    (λ (ne : t ≢ s). same s ne ∙ h s (λ e. some (held s ∙ e)))

-- what is held of none at one session stays so if that is taken away
pub none_at : (t : ℕ) (old : ℕ → List ℕ) → old t ≡ [] → (s : ℕ) → old s ≡ cond (s == t) [] (old s)
none_at t old none s =
    either_way t s
    (λ (e : t ≡ s). ap old (sym e) ∙ none ∙ sym (ap (λ b. cond b [] (old s)) (eq-eqb s t (sym e))))
    (λ (ne : t ≢ s). sym (at_other t s [] (old s) ne))

-- bytes are held of one more session, which is paused
pub paused_more : (trace after : PortTrace) (t : ℕ) (b : List ℕ) (old new : ℕ → List ℕ)
    → ((s : ℕ) → new s ≡ cond (s == t) b (old s))
    → after.paused t ≡ true → ((s : ℕ) → t ≢ s → after.paused s ≡ trace.paused s) → ArePaused trace old
    → ArePaused after new
paused_more trace after t b old new held here same h =
    λ s some.
    either_way t s
    (λ (e : t ≡ s). ap after.paused (sym e) ∙ here)
    (λ (ne : t ≢ s). same s ne ∙ h s (λ e. some (held s ∙ at_other t s b (old s) ne ∙ e)))

-- of a session that isn't paused no bytes are held
pub resumed_holds_none : (piece : List ℕ) (paused : Bool) → ((piece ≡ [] → ⊥) → paused ≡ true) → paused ≡ false
    → piece ≡ []
resumed_holds_none [] paused h e = refl
resumed_holds_none (x ∷ xs) paused h e = absurd (true≢false (sym (h (λ q. absurd (cc))) ∙ e))
