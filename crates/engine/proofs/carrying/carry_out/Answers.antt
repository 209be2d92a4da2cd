use mir.Val.{SFits}
use Rattle.std.proofs.Common.{rules, w64, ◌≡◌, ℤ, [], subst, refl, ◌∙◌}
use Rattle.std.proofs.lemmas.Int.{to_z-of_z}
use Rattle.proto.specs.declared.message.Request.{Request}
use Rattle.proto.specs.Sizes.{Sizes}
use Rattle.proto.specs.Steps.{Step, touched_by, TouchesEach}
use Rattle.engine.specs.Deadlines.{StoresAsAsked, IsExactStep, IsKeepingStep}
use Rattle.engine.proofs.Refusals.{needs_none, refused_get}
use Rattle.engine.proofs.CarryingLemmas.{touches_of, carried_alone, carried_touches}
use Rattle.engine.proofs.carrying.carry_out.Goals as goal

pub returns-in-Some-clause-steps : goal.returns-in-Some-clause-steps
returns-in-Some-clause-steps g c =
    let m = g.S.StorageEngine in
    let q = c.args.request.now in
    let exptime = c.in-Some.exptime in
    let keys = c.in-Some.keys.now in
    let shown = c.handle-shown.result in
    let next = m.cache c.handle-shown.new.self in
    let after = m.cache c.touch_each.new.store in
    let keeping = IsKeepingStep (m.is_exact c.handle-shown.new.self) (m.sizes c.handle-shown.new.self) c.args.now in
    let fits : SFits w64 exptime = search rules in
    let is : touched_by q shown ≡ touches_of exptime keys =
    subst (λ (x : Request). touched_by x shown ≡ touches_of exptime keys) c.handle-shown.ensures.request c.in-Some.ensures.0 in
    let each : TouchesEach keeping next (touches_of exptime keys) shown c.touch_each.result after =
    subst (λ (e : ℤ). TouchesEach keeping next (touches_of e keys) shown c.touch_each.result after) (to_z-of_z w64 exptime fits)
    c.touch_each.ensures.touched in
    carried_touches keeping (Step (m.sizes c.args.store.now) c.args.now)
    (λ old asked given new step. subst (λ (z : Sizes). Step z c.args.now old asked given new) c.handle-shown.ensures.sizes step.0)
    (m.cache c.args.store.now) next q (touches_of exptime keys) shown c.touch_each.result after c.handle-shown.ensures.step is each

pub returns-in-Some-clause-deadlines : goal.returns-in-Some-clause-deadlines
returns-in-Some-clause-deadlines g c on =
    let m = g.S.StorageEngine in
    let q = c.args.request.now in
    let exptime = c.in-Some.exptime in
    let keys = c.in-Some.keys.now in
    let shown = c.handle-shown.result in
    let next = m.cache c.handle-shown.new.self in
    let after = m.cache c.touch_each.new.store in
    let keeping = IsKeepingStep (m.is_exact c.handle-shown.new.self) (m.sizes c.handle-shown.new.self) c.args.now in
    let fits : SFits w64 exptime = search rules in
    let is : touched_by q shown ≡ touches_of exptime keys =
    subst (λ (x : Request). touched_by x shown ≡ touches_of exptime keys) c.handle-shown.ensures.request c.in-Some.ensures.0 in
    let each : TouchesEach keeping next (touches_of exptime keys) shown c.touch_each.result after =
    subst (λ (e : ℤ). TouchesEach keeping next (touches_of e keys) shown c.touch_each.result after) (to_z-of_z w64 exptime fits)
    c.touch_each.ensures.touched in
    carried_touches keeping (IsExactStep (m.sizes c.args.store.now) c.args.now) (λ old asked given new step. (
      subst (λ (z : Sizes). Step z c.args.now old asked given new) c.handle-shown.ensures.sizes step.0,
      subst (λ (z : Sizes). StoresAsAsked z old c.args.now asked given new) c.handle-shown.ensures.sizes
          (step.1 (c.handle-shown.ensures.deadlines.0 ∙ on)),
    )) (m.cache c.args.store.now) next q (touches_of exptime keys) shown c.touch_each.result after
    (c.handle-shown.ensures.step, c.handle-shown.ensures.deadlines.1 on) is each

pub returns-in-None-clause-steps : goal.returns-in-None-clause-steps
returns-in-None-clause-steps g c =
    let m = g.S.StorageEngine in
    let none : touched_by c.args.request.now c.handle-shown.result ≡ [] =
    subst (λ (q : Request). touched_by q c.handle-shown.result ≡ []) c.handle-shown.ensures.request c.in-None.ensures in
    carried_alone (Step (m.sizes c.args.store.now) c.args.now) (m.cache c.args.store.now)
    c.args.request.now c.handle-shown.result (m.cache c.handle-shown.new.self) c.handle-shown.ensures.step none

pub returns-in-None-clause-refused : goal.returns-in-None-clause-refused
returns-in-None-clause-refused g c none is =
    let m = g.S.StorageEngine in
    refused_get m.may_refuse (m.sizes c.args.store.now) (m.cache c.args.store.now) c.args.now c.args.request.now c.args.request.now
    c.handle-shown.result c.handle-shown.ensures.succeeds refl none is

pub returns-in-None-clause-told : goal.returns-in-None-clause-told
returns-in-None-clause-told g c is =
    let m = g.S.StorageEngine in
    c.handle-shown.ensures.succeeds
    (needs_none m.may_refuse (m.sizes c.args.store.now) (m.cache c.args.store.now) c.args.now c.args.request.now is)

pub returns-in-None-clause-deadlines : goal.returns-in-None-clause-deadlines
returns-in-None-clause-deadlines g c on =
    let m = g.S.StorageEngine in
    let none : touched_by c.args.request.now c.handle-shown.result ≡ [] =
    subst (λ (q : Request). touched_by q c.handle-shown.result ≡ []) c.handle-shown.ensures.request c.in-None.ensures in
    carried_alone (IsExactStep (m.sizes c.args.store.now) c.args.now) (m.cache c.args.store.now) c.args.request.now c.handle-shown.result
    (m.cache c.handle-shown.new.self) (c.handle-shown.ensures.step, c.handle-shown.ensures.deadlines.1 on) none
