use mir.Val.{SFits}
use Rattle.std.proofs.Common.{rules, w64, ℤ, subst}
use Rattle.std.proofs.lemmas.Int.{to_z-of_z}
use Rattle.proto.specs.declared.message.Request.TheVariants as requests
use Rattle.proto.specs.declared.message.Request.{Request}
use Rattle.engine.specs.Engines.{LeavesExecuted}
use Rattle.engine.proofs.EngineLemmas.{step_from_handled, handled_by}
use Rattle.engine.proofs.store.EngineStorageEngine.touch.Goals as goal

pub returns-clause-handled : goal.returns-clause-handled
returns-clause-handled g c =
    let m = g.M.LiveMap in
    let q : Request = requests.Touch (record { key = c.args.key.now; exptime = c.args.exptime }) in
    let fits : SFits w64 c.args.exptime = search rules in
    let leaves = subst (λ (e : ℤ). LeavesExecuted m c.advance.new.self (requests.Touch (record { key = c.args.key.now; exptime = e }))
    c.touch.result c.touch.new.self) (to_z-of_z w64 c.args.exptime fits) c.touch.ensures in
    handled_by m c.args.self.now c.advance.new.self c.args.now q c.touch.result c.touch.new.self
    c.advance.ensures.cache c.advance.ensures.sizes c.advance.ensures.moment c.advance.ensures.in_place c.advance.ensures.dialect c.advance.ensures.alike
    c.advance.ensures.kept leaves

pub returns-clause-promised : goal.returns-clause-promised
returns-clause-promised g c =
    let q : Request = requests.Touch (record { key = c.args.key.now; exptime = c.args.exptime }) in
    c.keep_promises.ensures.promised c.args.self.now c.args.now q c.touch.result c.touch.new.self
    (returns-clause-handled g c)

pub returns-clause-step : goal.returns-clause-step
returns-clause-step g c =
    let q : Request = requests.Touch (record { key = c.args.key.now; exptime = c.args.exptime }) in
    step_from_handled g.M.LiveMap c.args.self.now c.args.now q c.touch.result c.touch.new.self
    (returns-clause-handled g c)

pub returns-clause-deadlines : goal.returns-clause-deadlines
returns-clause-deadlines g c =
    let q : Request = requests.Touch (record { key = c.args.key.now; exptime = c.args.exptime }) in
    c.keep_promises.ensures.deadlines c.args.self.now c.args.now q c.touch.result c.touch.new.self
    (returns-clause-handled g c)
