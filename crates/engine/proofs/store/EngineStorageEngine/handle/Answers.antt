use Rattle.engine.proofs.EngineLemmas.{step_from_handled, refused_stays, none_refused, handled_by}
use Rattle.engine.proofs.KeepingLemmas.{kept_from_handled}
use Rattle.engine.proofs.store.EngineStorageEngine.handle.Goals as goal

pub returns-clause-handled : goal.returns-clause-handled
returns-clause-handled g c =
    let m = g.M.LiveMap in
    handled_by m c.args.self.now c.advance.new.self c.args.now c.args.request.now c.execute.result c.execute.new.self
    c.advance.ensures.cache c.advance.ensures.sizes c.advance.ensures.moment c.advance.ensures.in_place c.advance.ensures.dialect c.advance.ensures.alike
    c.advance.ensures.kept c.execute.ensures.leaves

pub returns-clause-promised : goal.returns-clause-promised
returns-clause-promised g c =
    c.keep_promises.ensures.promised c.args.self.now c.args.now c.args.request.now c.execute.result c.execute.new.self
    (returns-clause-handled g c)

pub returns-clause-step : goal.returns-clause-step
returns-clause-step g c =
    let m = g.M.LiveMap in
    step_from_handled m c.args.self.now c.args.now c.args.request.now c.execute.result c.execute.new.self
    (returns-clause-handled g c)

pub returns-clause-refused : goal.returns-clause-refused
returns-clause-refused g c =
    let m = g.M.LiveMap in
    refused_stays m c.args.self.now c.args.now c.args.request.now c.execute.result c.execute.new.self
    (returns-clause-handled g c)

pub returns-clause-succeeds : goal.returns-clause-succeeds
returns-clause-succeeds g c =
    let m = g.M.LiveMap in
    none_refused m c.args.self.now c.args.now c.args.request.now c.execute.result c.execute.new.self
    (returns-clause-handled g c)

pub returns-clause-kept : goal.returns-clause-kept
returns-clause-kept g c =
    let m = g.M.LiveMap in
    kept_from_handled m c.args.self.now c.args.now c.args.request.now c.execute.result c.execute.new.self
    (returns-clause-handled g c)

pub returns-clause-deadlines : goal.returns-clause-deadlines
returns-clause-deadlines g c =
    c.keep_promises.ensures.deadlines c.args.self.now c.args.now c.args.request.now c.execute.result c.execute.new.self
    (returns-clause-handled g c)
