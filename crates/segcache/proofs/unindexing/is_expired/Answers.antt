use Rattle.std.proofs.Common.{◌≡◌, true, false, sym, ap, ◌∙◌, rules}
use Rattle.segcache.specs.OwnDeadlines.{may_expire}
use Rattle.segcache.proofs.LiveSegments.{none_expires, all_expired}
use Rattle.segcache.proofs.unindexing.is_expired.Goals as goal

pub returns-then-not-may_expire-clause-alive : goal.returns-then-not-may_expire-clause-alive
returns-then-not-may_expire-clause-alive c =
    let p = c.args.pool.now in
    let t = c.args.moment in
    let n = c.args.segment in
    let never : c.may_expire.result ≡ false = search rules in
    λ refused dead.
    none_expires p t n c.requires.dated
    (ap (λ d. may_expire p.exact d t) (sym c.deadline.ensures)
    ∙ ap (λ b. may_expire b c.deadline.result t) (sym c.is_exact-exact.ensures) ∙ sym c.may_expire.ensures ∙ never)

pub returns-then-not-exact-clause-dead : goal.returns-then-not-exact-clause-dead
returns-then-not-exact-clause-dead c =
    let p = c.args.pool.now in
    let t = c.args.moment in
    let n = c.args.segment in
    let plain : c.is_exact-exact.result ≡ false = search rules in
    let come : c.may_expire.result ≡ true = search rules in
    λ given.
    all_expired p c.args.marks.now t n c.requires.dated (sym c.is_exact-exact.ensures ∙ plain)
    (ap (λ d. may_expire p.exact d t) (sym c.deadline.ensures)
    ∙ ap (λ b. may_expire b c.deadline.result t) (sym c.is_exact-exact.ensures) ∙ sym c.may_expire.ensures ∙ come)
