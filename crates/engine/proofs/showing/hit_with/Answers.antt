use Rattle.std.proofs.Common.{◌≡◌, ℕ, ◌<◌, ◌^◌, Some, sym, subst, ◌∙◌, arith}
use Rattle.std.proofs.lemmas.Option.{none-some}
use Rattle.engine.proofs.HitLemmas.{hit_within}
use Rattle.engine.proofs.showing.hit_with.Goals.{then-with_cas, else-with_cas}
use Rattle.engine.proofs.showing.hit_with.Goals as goal

pub returns-clause-room : goal.returns-clause-room
returns-clause-room c =
    let f : c.args.flags < 2 ^ 32 = c.ranges.flags.fits in
    let cas : c.args.cas < 2 ^ 64 = c.ranges.cas.fits in
    let shown : (n : ℕ) → c.if-with_cas.result ≡ Some n → n < 2 ^ 64 =
    λ n e. elim c.if-with_cas.branch [
      | then-with_cas w ↦
          (let both : Some c.args.cas ≡ Some n = sym w.result-is ∙ e in
          let is : c.args.cas ≡ n = cc in
          subst (λ (k : ℕ). k < 2 ^ 64) is cas)
      | else-with_cas w ↦ absurd (none-some n (sym w.result-is ∙ e))
    ] in
    hit_within (record { key = c.args.key.now; flags = c.args.flags; value = c.args.value.now; cas = c.if-with_cas.result })
    (omega (arith, f)) c.requires shown
