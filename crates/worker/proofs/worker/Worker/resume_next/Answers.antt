use Rattle.std.proofs.Common.{refl, ap, ◌∙◌}
use Rattle.session_book.specs.Book.{held_of}
use Rattle.worker.proofs.WorkerSteps.{WorkerGoesOn, continues, open_at}
use Rattle.worker.proofs.OutputSteps.{resumed_goes_on}
use Rattle.worker.proofs.worker.Worker.resume_next.Given.{Over}
use Rattle.worker.proofs.worker.Worker.resume_next.Goals as goal
use Rattle.worker.proofs.worker.Worker.resume_next.Goals.{After-resume}

pub resume-requires : goal.resume-requires
resume-requires g c = let w = c.self.inside.state in let m = c.in-Some.ensures.open in
    open_at g.P.Port.told w c.in-Some.session m.s c.self.invariant m.there

turned : (g : Over) (c : After-resume g) → WorkerGoesOn g.P.Port.told c.self.inside.state
    (record c.self.inside.state { port = c.resume.new.self; book = c.next_to_resume.new.self })
turned g c = let w = c.self.inside.state in
    resumed_goes_on g.P.Port.told w (record w { port = c.resume.new.self; book = c.next_to_resume.new.self }) c.in-Some.session
    (record { end = refl; request = refl; sessions = refl; unopened = refl; strangers = refl; ended = refl })
    c.next_to_resume.ensures.same c.resume.ensures.told
    (ap held_of c.in-Some.ensures.open.there ∙ c.in-Some.ensures.open.none_held) c.self.invariant

pub invariant_of-self-2 : goal.invariant_of-self-2
invariant_of-self-2 g c = (turned g (goal.at.invariant_of-self-2 g c).After-resume).serving

pub returns : goal.returns
returns g c = continues c.self.view_is c.resume.ensures.leads (turned g (goal.at.returns g c).After-resume)
