use Rattle.std.proofs.Common.{sym, ap, subst, ◌∙◌, arith}
use Rattle.index.specs.Slots.{is_used, place_of}
use Rattle.index.specs.Table.{Table, HasPlace}
use Rattle.index.proofs.index.Index.place_in.Goals as goal

pub returns-then-is_used : goal.returns-then-is_used
returns-then-is_used c =
    let found = c.get-found.result in
    subst (λ (t : Table). HasPlace t found.place) c.self.view_is
    (record {
      at = c.args.slot;
      in_range = omega arith;
      used = ap is_used (sym c.get-found.ensures) ∙ sym c.is_used.ensures ∙ c.if-is_used.true;
      place_is = ap place_of (sym c.get-found.ensures);
    })
