use Rattle.std.proofs.Common.{sym, subst, ◌∙◌, refl}
use Rattle.segments.proofs.Places.{appended}
use Rattle.segments.proofs.MovedPlaces.{same_place_itself}
use Rattle.segments.specs.Marks.{KnowsPool}
use Rattle.segments.proofs.MarkedPlaces.{knows_appended, knows_longer, item_within}
use Rattle.store_tests.proofs.pool.stock.Stock.append.Goals as goal

pub mark-requires : goal.mark-requires
mark-requires c =
    let s = c.args.self.now in
    let place = c.in-Ok.place in
    let a = appended s.pool _ _ _ c.append.new.self place s.known.pool c.in-Ok.ensures.appended in
    let known = knows_longer s.marks s.pool _ _ _ c.append.new.self place s.known c.append.ensures.pool a in
    let same = same_place_itself place in
    item_within s.marks c.append.new.self place known (rw (a.items place) (rw same refl))

pub invariant_of-self-2 : goal.invariant_of-self-2
invariant_of-self-2 c =
    let s = c.args.self.now in
    let a = appended s.pool _ _ _ c.append.new.self c.in-Ok.place s.known.pool c.in-Ok.ensures.appended in
    record {
      sizes = a.sizes ∙ s.sizes;
      known = subst (λ t. KnowsPool t c.append.new.self) (sym c.mark.ensures)
          (knows_appended s.marks s.pool _ _ _ c.append.new.self c.in-Ok.place s.known c.append.ensures.pool a);
    }
