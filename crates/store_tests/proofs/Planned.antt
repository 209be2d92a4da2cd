-- Marks of a pool for which a merge was planned, or none could be.
use Rattle.std.proofs.Common.{◌≡◌, Bool, true, false, sym, ap, subst}
use Rattle.std.specs.Prelude.{MatchBool}
use Rattle.segments.specs.Pools.{PoolState, Plan, IsPool}
use Rattle.segments.specs.Merges.{IsPlan, NoneQualifies, with_merge_planned, without_plan}
use Rattle.segments.specs.Marks.{Marks, KnowsPool, lives_by}
use Rattle.segments.proofs.MarkedPlaces.{knows_planned, knows_unplanned}

-- marks that know a pool still know it once a merge was planned or none could be, and the pool's
-- sizes stay
pub planned_known : (t : Marks) (p q : PoolState) (b : Bool)
    → MatchBool b ((plan : Plan) × IsPlan (lives_by t) p plan × (q ≡ with_merge_planned p plan))
    (NoneQualifies p × (q ≡ without_plan p))
    → KnowsPool t p → IsPool q → KnowsPool t q × (q.sizes ≡ p.sizes)
planned_known t p q true h known k = (
  subst (KnowsPool t) (sym h.2) (knows_planned t p h.0 known (subst IsPool h.2 k)),
  ap (λ r. r.sizes) h.2,
)
planned_known t p q false h known k = (
  subst (KnowsPool t) (sym h.1) (knows_unplanned t p known (subst IsPool h.1 k)),
  ap (λ r. r.sizes) h.1,
)
