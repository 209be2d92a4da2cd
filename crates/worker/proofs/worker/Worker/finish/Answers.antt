use Rattle.std.proofs.Common.{sym, ◌∙◌}
use Rattle.worker.proofs.WorkerSteps.{continues}
use Rattle.worker.proofs.PortSteps.{finished_open, finish_goes_on}
use Rattle.worker.proofs.worker.Worker.finish.Goals as goal

pub shut-requires : goal.shut-requires
shut-requires g c = finished_open g.P.Port.told c.self.inside.state c.args.session c.in-Some.cause c.self.invariant
    (rw c.self.view_is (sym c.requires.finished ∙ c.in-Some.is))

pub invariant_of-self : goal.invariant_of-self
invariant_of-self g c = (finish_goes_on g.P.Port.told c.self.inside.state c.shut.new.self c.args.session c.in-Some.cause
    c.shut.ensures.shuts c.self.invariant (rw c.self.view_is (sym c.requires.finished ∙ c.in-Some.is))
    (rw c.self.view_is (rw c.in-Some.is at c.requires.read))).serving

pub returns : goal.returns
returns g c =
    continues c.self.view_is c.shut.ensures.leads
    (finish_goes_on g.P.Port.told c.self.inside.state c.shut.new.self c.args.session c.in-Some.cause
    c.shut.ensures.shuts c.self.invariant (rw c.self.view_is (sym c.requires.finished ∙ c.in-Some.is))
    (rw c.self.view_is (rw c.in-Some.is at c.requires.read)))
