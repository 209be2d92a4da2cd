use Rattle.std.proofs.Common.{refl}
use Rattle.engine.proofs.commands.Engine.execute.Goals as goal

pub returns-in-Add-clause-leaves : goal.returns-in-Add-clause-leaves
returns-in-Add-clause-leaves g c = rw c.in-Add.is (c.put_where.ensures.add refl)

pub returns-in-Replace-clause-leaves : goal.returns-in-Replace-clause-leaves
returns-in-Replace-clause-leaves g c = rw c.in-Replace.is (c.put_where-in-Replace.ensures.replace refl)
