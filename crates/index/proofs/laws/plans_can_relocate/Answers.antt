use Rattle.index.proofs.RelocatablePlans.{plan_relocates}
use Rattle.index.proofs.laws.plans_can_relocate.Goals as goal

pub returns : goal.returns
returns c = plan_relocates
