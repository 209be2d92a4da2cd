use Rattle.std.proofs.Common.{◌≡◌, ◌<◌, ℕ, List, Option, [], length, sym, ap, subst, ◌∙◌, arith}
use Rattle.std.specs.Prelude.{All, IfSome, IsSome, MatchOption}
use Rattle.std.proofs.lemmas.List.Elements.{All-weaker}
use Rattle.segments.specs.declared.pool.Pool.TheInside.{Inside}
use Rattle.segments.specs.Pools.{PoolState, segment_at}
use Rattle.segments.specs.Merges.{IsVictim}
use Rattle.segments.specs.Rules.{IsVictimOf, NoVictimOf}
use Rattle.segments.specs.LeastReadRule.{look_count}
use Rattle.segments.specs.Inside.{pool_of}
use Rattle.segments.proofs.PoolLemmas.{order_inside, pool_kept}
use Rattle.segments.proofs.InTimeLemmas.{IsFoundBy, victim_found, victim_in_chain}
use Rattle.segments.proofs.pool.Pool.victim.Goals as goal

pub victim-requires-clause-looked : goal.victim-requires-clause-looked
victim-requires-clause-looked c =
    let v = ap (λ (p : PoolState). length p.order) c.self.view_is in
    let l = ap length c.deref.ensures.value in
    let w = c.look_count-looked.ensures.within in
    omega (arith, v, l, w)

pub victim-requires-clause-counted : goal.victim-requires-clause-counted
victim-requires-clause-counted c =
    let a = c.self.inside in
    let count = c.self.invariant.count in
    let hits = c.self.invariant.hit_count in
    let P : ℕ → Type 0 = λ n. n < length a.hits.counts in
    subst (All P) (sym c.deref.ensures.value)
    (All-weaker (λ n. n < length a.segments.items) P (λ n lt. omega (arith, lt, count, hits)) a.order.items
    (order_inside a c.self.invariant))

-- what was found, in the words of the pool
found_by : (a : Inside) (k : ℕ) (order : List ℕ) (found : Option ℕ) → order ≡ a.order.items → k ≡ look_count (pool_of a)
    → MatchOption found (NoVictimOf a.eviction k order) (IsVictimOf a.eviction k order a.hits)
    → IsFoundBy (pool_of a) found
found_by a k order found o h m =
    let F : ℕ → List ℕ → Type 0 = λ k xs. MatchOption found (NoVictimOf a.eviction k xs) (IsVictimOf a.eviction k xs a.hits) in
    subst (λ k. F k a.order.items) h (subst (F k) o m)

pub returns-clause-victim : goal.returns-clause-victim
returns-clause-victim c =
    let a = c.self.inside in
    let f = found_by a c.look_count-looked.result c.deref.result.now c.victim.result c.deref.ensures.value
    (c.look_count-looked.ensures.value ∙ ap look_count (sym c.self.view_is)) c.victim.ensures in
    subst (λ q. MatchOption c.victim.result (q.order ≡ []) (IsVictim q)) c.self.view_is
    (victim_found (pool_of a) c.victim.result (pool_kept a c.self.invariant) f)

pub returns-clause-in_chain : goal.returns-clause-in_chain
returns-clause-in_chain c =
    let a = c.self.inside in
    let f = found_by a c.look_count-looked.result c.deref.result.now c.victim.result c.deref.ensures.value
    (c.look_count-looked.ensures.value ∙ ap look_count (sym c.self.view_is)) c.victim.ensures in
    subst (λ q. IfSome c.victim.result (λ n. IsSome (segment_at q n))) c.self.view_is
    (victim_in_chain (pool_of a) c.victim.result (pool_kept a c.self.invariant) f)
