use Rattle.std.proofs.Common.{refl}
use Rattle.worker.specs.Workers.{end_of}
use Rattle.worker.proofs.WorkerSteps.{continues, open_at}
use Rattle.worker.proofs.SettleSteps.{none_taken_goes_on, is_oldest, kept_goes_on, dropped_goes_on, starved_goes_on}
use Rattle.worker.proofs.worker.Worker.settle_next.Goals as goal

pub invariant_of-self-in-Kept : goal.invariant_of-self-in-Kept
invariant_of-self-in-Kept g c = let w = c.self.inside.state in let a = c.in-Some.answered in
    (kept_goes_on g.P.Port.told w (record w { batch = c.take_answer.new.batch; book = c.settle.new.self }) a
    (record { port = refl; request = refl; sessions = refl; unopened = refl; strangers = refl; ended = refl })
    c.in-Some.ensures c.self.invariant c.in-Kept.ensures).serving

pub returns-in-Kept : goal.returns-in-Kept
returns-in-Kept g c = let w = c.self.inside.state in let a = c.in-Some.answered in
    continues c.self.view_is (g.met.P.Port.leads_reflexive _)
    (kept_goes_on g.P.Port.told w (record w { batch = c.take_answer.new.batch; book = c.settle.new.self }) a
    (record { port = refl; request = refl; sessions = refl; unopened = refl; strangers = refl; ended = refl })
    c.in-Some.ensures c.self.invariant c.in-Kept.ensures)

pub invariant_of-self-in-Dropped : goal.invariant_of-self-in-Dropped
invariant_of-self-in-Dropped g c = let w = c.self.inside.state in let a = c.in-Some.answered in
    (dropped_goes_on g.P.Port.told w (record w { batch = c.take_answer.new.batch; book = c.settle.new.self }) a
    (record { port = refl; request = refl; sessions = refl; unopened = refl; strangers = refl; ended = refl })
    c.in-Some.ensures c.self.invariant c.in-Dropped.ensures.0 c.in-Dropped.ensures.1).serving

pub returns-in-Dropped : goal.returns-in-Dropped
returns-in-Dropped g c = let w = c.self.inside.state in let a = c.in-Some.answered in
    continues c.self.view_is (g.met.P.Port.leads_reflexive _)
    (dropped_goes_on g.P.Port.told w (record w { batch = c.take_answer.new.batch; book = c.settle.new.self }) a
    (record { port = refl; request = refl; sessions = refl; unopened = refl; strangers = refl; ended = refl })
    c.in-Some.ensures c.self.invariant c.in-Dropped.ensures.0 c.in-Dropped.ensures.1)

pub invariant_of-self-in-Starved : goal.invariant_of-self-in-Starved
invariant_of-self-in-Starved g c = let w = c.self.inside.state in let a = c.in-Some.answered in
    (starved_goes_on g.P.Port.told w (record w { batch = c.take_answer.new.batch; book = c.settle.new.self })
    c.shut.new.self a c.in-Starved.ensures.s
    (record { port = refl; request = refl; sessions = refl; unopened = refl; strangers = refl; ended = refl })
    c.in-Some.ensures c.self.invariant c.in-Starved.ensures.was_open c.in-Starved.ensures.settles c.shut.ensures.shuts).serving

pub returns-in-Starved : goal.returns-in-Starved
returns-in-Starved g c = let w = c.self.inside.state in let a = c.in-Some.answered in
    continues c.self.view_is c.shut.ensures.leads
    (starved_goes_on g.P.Port.told w (record w { batch = c.take_answer.new.batch; book = c.settle.new.self })
    c.shut.new.self a c.in-Starved.ensures.s
    (record { port = refl; request = refl; sessions = refl; unopened = refl; strangers = refl; ended = refl })
    c.in-Some.ensures c.self.invariant c.in-Starved.ensures.was_open c.in-Starved.ensures.settles c.shut.ensures.shuts)

pub invariant_of-self-in-Stranger : goal.invariant_of-self-in-Stranger
invariant_of-self-in-Stranger g c =
    let w = c.self.inside.state in let a = c.in-Some.answered in
    absurd (c.in-Stranger.ensures.0 (is_oldest (end_of w) w.request w.book a c.self.invariant.steady c.in-Some.ensures.own))

pub returns-in-Stranger : goal.returns-in-Stranger
returns-in-Stranger g c =
    let w = c.self.inside.state in let a = c.in-Some.answered in
    absurd (c.in-Stranger.ensures.0 (is_oldest (end_of w) w.request w.book a c.self.invariant.steady c.in-Some.ensures.own))

pub shut-requires : goal.shut-requires
shut-requires g c =
    let w = c.self.inside.state in let a = c.in-Some.answered in
    open_at g.P.Port.told w a.session c.in-Starved.ensures.s c.self.invariant c.in-Starved.ensures.was_open

pub invariant_of-self : goal.invariant_of-self
invariant_of-self g c = (none_taken_goes_on g.P.Port.told c.self.inside.state c.take_answer.new.batch c.in_default.ensures c.self.invariant).serving

pub returns-in_default : goal.returns-in_default
returns-in_default g c =
    continues c.self.view_is (g.met.P.Port.leads_reflexive _)
    (none_taken_goes_on g.P.Port.told c.self.inside.state c.take_answer.new.batch c.in_default.ensures c.self.invariant)
