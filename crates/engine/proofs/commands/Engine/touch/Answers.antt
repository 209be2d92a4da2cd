use mir.Val.{SFits}
use Rattle.std.proofs.Common.{rules, w64, ◌≡◌, ℕ, ℤ, Option, Some, false, sym, ap, ◌∙◌, append-nil, refl}
use Rattle.std.proofs.lemmas.Int.{to_z-of_z}
use Rattle.std.specs.FinMap as map
use Rattle.proto.specs.Cache.{Entry, has_arrived, deadline_of}
use Rattle.engine.specs.Shown.{entry_of}
use Rattle.engine.proofs.TouchLemmas.{asking, leaves_there, leaves_anew}
use Rattle.engine.proofs.commands.Engine.touch.Goals as goal

pub returns-then-may_stay : goal.returns-then-may_stay
returns-then-may_stay g c =
    let m = g.M.LiveMap in
    let old = c.args.self.now in
    let key = c.args.key.now in
    let exptime = c.args.exptime in
    let fits : SFits w64 exptime = search rules in
    let e : Entry = entry_of c.in-Some.entry in
    let asked : Option ℕ = c.deadline_of-deadline.result in
    let there : map.get (m.entries old.map) key ≡ Some e = sym c.in-Some.ensures.found in
    let is : asked ≡ deadline_of exptime (m.moment old.map) =
    c.deadline_of-deadline.ensures ∙ ap (λ (z : ℤ). deadline_of z c.last_moment.result) (to_z-of_z w64 exptime fits)
    ∙ ap (deadline_of exptime) c.last_moment.ensures in
    let waits : has_arrived asked (m.moment old.map) ≡ false =
    ap (has_arrived asked) (sym c.last_moment-2.ensures) ∙ sym c.has_arrived.ensures ∙ c.if-has_arrived.false in
    let new = record old { map = c.count_touch.new.self } in
    leaves_there m old new key exptime e asked c.may_stay.result there is waits
    c.if-may_stay.true (c.may_stay.ensures.decides e there) (c.may_stay.ensures.may_stay c.if-may_stay.true e there)
    (c.may_stay.ensures.kept c.if-may_stay.true e there) refl refl refl refl
    c.count_touch.ensures.sizes c.count_touch.ensures.moment c.count_touch.ensures.entries c.count_touch.ensures.counted
    c.count_touch.ensures.kept

pub returns-in-Ok : goal.returns-in-Ok
returns-in-Ok g c =
    let m = g.M.LiveMap in
    let old = c.args.self.now in
    let key = c.args.key.now in
    let exptime = c.args.exptime in
    let fits : SFits w64 exptime = search rules in
    let e : Entry = entry_of c.in-Some.entry in
    let asked : Option ℕ = c.deadline_of-deadline.result in
    let there : map.get (m.entries old.map) key ≡ Some e = sym c.in-Some.ensures.found in
    let is : asked ≡ deadline_of exptime (m.moment old.map) =
    c.deadline_of-deadline.ensures ∙ ap (λ (z : ℤ). deadline_of z c.last_moment.result) (to_z-of_z w64 exptime fits)
    ∙ ap (deadline_of exptime) c.last_moment.ensures in
    let waits : has_arrived asked (m.moment old.map) ≡ false =
    ap (has_arrived asked) (sym c.last_moment-2.ensures) ∙ sym c.has_arrived.ensures ∙ c.if-has_arrived.false in
    let value : c.as_slice.result.now ≡ c.in-Some.entry.value.now =
    c.as_slice.ensures ∙ c.put.ensures ∙ append-nil c.in-Some.entry.value.now in
    let w : Entry = record { value = c.as_slice.result.now; flags = e.flags; deadline = asked; cas = e.cas } in
    let same : w ≡ asking e asked = (λ i. record { value = value i; flags = e.flags; deadline = asked; cas = e.cas }) in
    let new = record old { map = c.write.new.self; scratch = c.put.new.self } in
    leaves_anew m old new key exptime e w asked
    c.may_stay.result there is waits c.if-may_stay.false (c.may_stay.ensures.decides e there) c.in-Ok.ensures.sizes_same
    c.in-Ok.ensures.moment_same refl refl refl refl same c.in-Ok.ensures.written c.in-Ok.ensures.exactly c.in-Ok.ensures.kept
