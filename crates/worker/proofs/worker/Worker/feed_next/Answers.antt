use Rattle.std.proofs.Common.{Ok, Err, true, refl, ap, subst, ◌∙◌, Result, Bool}
use Rattle.proto.specs.declared.no_memory.NoMemory.{NoMemory}
use Rattle.session_book.specs.declared.causes.EndCause.TheVariants as causes
use Rattle.session_book.specs.Book.{BookState, session_of, FeedsHeldOf}
use Rattle.worker.specs.Workers.{Shuts}
use Rattle.worker.proofs.WorkerSteps.{WorkerGoesOn, continues, no_memory_goes_on, open_at}
use Rattle.worker.proofs.OutputSteps.{refed_goes_on, some_there}
use Rattle.worker.proofs.worker.Worker.feed_next.Given.{Over}
use Rattle.worker.proofs.worker.Worker.feed_next.Goals as goal
use Rattle.worker.proofs.worker.Worker.feed_next.Goals.{In-Ok-true, In-Err, After-resume, After-shut}

-- the piece fitted
fed : (g : Over) (c : In-Ok-true g)
    → FeedsHeldOf c.self.inside.state.book c.in-Some.session (Ok true) c.feed_held.new.self
fed g c = subst (λ (y : BookState × Result Bool NoMemory). FeedsHeldOf y.0 c.in-Some.session y.1 c.feed_held.new.self)
    (λ i. (c.next_ready.ensures i, (c.in-Ok-true.is ∙ ap Ok c.in-Ok-true.field-0-test) i)) c.feed_held.ensures

pub resume-requires : goal.resume-requires
resume-requires g c = let k = fed g (goal.at.resume-requires g c).In-Ok-true in
    open_at g.P.Port.told c.self.inside.state c.in-Some.session k.s c.self.invariant k.was_open

refed : (g : Over) (c : After-resume g) (k : FeedsHeldOf c.self.inside.state.book c.in-Some.session (Ok true) c.feed_held.new.self)
    → WorkerGoesOn g.P.Port.told c.self.inside.state
    (record c.self.inside.state { port = c.resume.new.self; book = c.feed_held.new.self })
refed g c k = let w = c.self.inside.state in
    refed_goes_on g.P.Port.told w (record w { port = c.resume.new.self; book = c.feed_held.new.self }) c.in-Some.session
    (record { end = refl; request = refl; sessions = refl; unopened = refl; strangers = refl; ended = refl })
    c.resume.ensures.told c.self.invariant k

pub invariant_of-self-in-Ok-true : goal.invariant_of-self-in-Ok-true
invariant_of-self-in-Ok-true g c = let at = goal.at.invariant_of-self-in-Ok-true g c in
    (refed g at.After-resume (fed g at.In-Ok-true)).serving

pub returns-in-Ok-true : goal.returns-in-Ok-true
returns-in-Ok-true g c = let at = goal.at.returns-in-Ok-true g c in
    continues c.self.view_is c.resume.ensures.leads (refed g at.After-resume (fed g at.In-Ok-true))

-- it didn't, as memory ran out
starved : (g : Over) (c : In-Err g)
    → FeedsHeldOf c.self.inside.state.book c.in-Some.session (Err c.in-Err.field-0) c.feed_held.new.self
starved g c = subst (λ (y : BookState × Result Bool NoMemory). FeedsHeldOf y.0 c.in-Some.session y.1 c.feed_held.new.self)
    (λ i. (c.next_ready.ensures i, c.in-Err.is i)) c.feed_held.ensures

pub shut-requires : goal.shut-requires
shut-requires g c = let w = c.self.inside.state in
    let k = starved g (goal.at.shut-requires g c).In-Err in let s = some_there (session_of w.book c.in-Some.session) k.0 in
    open_at g.P.Port.told w c.in-Some.session s.0 c.self.invariant s.1

shut_so : (g : Over) (c : After-shut g)
    → FeedsHeldOf c.self.inside.state.book c.in-Some.session (Err c.in-Err.field-0) c.feed_held.new.self
    → WorkerGoesOn g.P.Port.told c.self.inside.state c.shut.new.self
shut_so g c k = let w = c.self.inside.state in let t = c.in-Some.session in
    let s = some_there (session_of w.book t) k.0 in
    no_memory_goes_on g.P.Port.told w c.shut.new.self t s.0 (subst
    (λ (b : BookState). Shuts g.P.Port.told (record w { book = b }) c.shut.new.self t causes.NoMemory) k.1
    c.shut.ensures.shuts) c.self.invariant s.1

pub invariant_of-self-in-Err : goal.invariant_of-self-in-Err
invariant_of-self-in-Err g c = let at = goal.at.invariant_of-self-in-Err g c in
    (shut_so g at.After-shut (starved g at.In-Err)).serving

pub returns-in-Err : goal.returns-in-Err
returns-in-Err g c = let at = goal.at.returns-in-Err g c in
    continues c.self.view_is c.shut.ensures.leads (shut_so g at.After-shut (starved g at.In-Err))
