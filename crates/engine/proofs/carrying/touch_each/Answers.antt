use Rattle.std.proofs.Common.{w64, to_z, of_z, ◌≡◌, ℤ, true, subst, ◌∙◌}
use Rattle.proto.specs.declared.message.Request.{Request}
use Rattle.proto.specs.declared.message.Request.TheVariants as requests
use Rattle.proto.specs.Sizes.{Sizes}
use Rattle.proto.specs.Steps.{Step}
use Rattle.engine.specs.Deadlines.{StoresAsAsked, IsKeepingStep}
use Rattle.engine.proofs.CarryingLemmas.{touches_of, leads_more}
use Rattle.engine.proofs.carrying.touch_each.Goals as goal

-- one key more is touched
pub loop-key-preserved : goal.loop-key-preserved
loop-key-preserved g c =
    let m = g.S.StorageEngine in
    let inv = c.loop-key.invariant in
    let e : ℤ = to_z w64 (of_z w64 c.args.exptime) in
    let asked : Request = requests.Touch (record { key = c.in-Some.key.now; exptime = e }) in
    let sizes = m.sizes c.args.store.now in
    let old = m.cache c.loop-key.store in
    let new = m.cache c.touch-answered.new.self in
    let answered = c.touch-answered.result in
    let step : Step sizes c.args.now old asked answered new =
    subst (λ (s : Sizes). Step s c.args.now old asked answered new) inv.sizes c.touch-answered.ensures.step in
    let stores : m.is_exact c.args.store.now ≡ true → StoresAsAsked sizes old c.args.now asked answered new =
    λ on. subst (λ (s : Sizes). StoresAsAsked s old c.args.now asked answered new) inv.sizes
    (c.touch-answered.ensures.deadlines.1 (inv.exact ∙ on)) in
    record {
      leads = leads_more (IsKeepingStep (m.is_exact c.args.store.now) sizes c.args.now) e (m.cache c.args.store.now) old new
          (touches_of e c.iter-words.result) c.loop-key.words c.next.new.self c.in-Some.key.now c.args.shown c.loop-key.shown answered
          c.with_answer-shown.result inv.leads c.in-Some.ensures (step, stores) c.with_answer-shown.ensures;
      sizes = c.touch-answered.ensures.sizes ∙ inv.sizes;
      moment = c.touch-answered.ensures.moment;
      exact = c.touch-answered.ensures.deadlines.0 ∙ inv.exact;
    }
