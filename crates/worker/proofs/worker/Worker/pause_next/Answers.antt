use Rattle.std.proofs.Common.{refl}
use Rattle.session_book.specs.Book.{session_of}
use Rattle.worker.proofs.WorkerSteps.{WorkerGoesOn, continues, open_at}
use Rattle.worker.proofs.OutputSteps.{paused_goes_on, some_there}
use Rattle.worker.proofs.worker.Worker.pause_next.Given.{Over}
use Rattle.worker.proofs.worker.Worker.pause_next.Goals as goal
use Rattle.worker.proofs.worker.Worker.pause_next.Goals.{After-pause}

pub pause-requires : goal.pause-requires
pause-requires g c = let w = c.self.inside.state in let s = some_there (session_of w.book c.in-Some.session) c.in-Some.ensures.open in
    open_at g.P.Port.told w c.in-Some.session s.0 c.self.invariant s.1

turned : (g : Over) (c : After-pause g) → WorkerGoesOn g.P.Port.told c.self.inside.state
    (record c.self.inside.state { port = c.pause.new.self; book = c.next_to_pause.new.self })
turned g c = let w = c.self.inside.state in
    paused_goes_on g.P.Port.told w (record w { port = c.pause.new.self; book = c.next_to_pause.new.self }) c.in-Some.session
    (record { end = refl; request = refl; sessions = refl; unopened = refl; strangers = refl; ended = refl })
    c.next_to_pause.ensures.same c.pause.ensures.told c.self.invariant

pub invariant_of-self-2 : goal.invariant_of-self-2
invariant_of-self-2 g c = (turned g (goal.at.invariant_of-self-2 g c).After-pause).serving

pub returns : goal.returns
returns g c = continues c.self.view_is c.pause.ensures.leads (turned g (goal.at.returns g c).After-pause)
