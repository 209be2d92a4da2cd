use Rattle.std.proofs.Common.{sym, ◌∙◌}
use Rattle.std.specs.Prelude.{vec_capacity}
use Rattle.index.proofs.SlotRows.{narrow_set, wide_set}
use Rattle.index.proofs.slots.Slots.set_packed.Goals as goal

pub returns-then-is_narrow : goal.returns-then-is_narrow
returns-then-is_narrow c =
    rw (← c.self.view_is) (narrow_set c.self.inside.layout c.self.inside.narrow.items c.self.inside.wide.items
    (vec_capacity c.self.inside.narrow) (vec_capacity c.self.inside.wide) c.args.at c.args.packed
    (sym c.is_narrow.ensures ∙ c.if-is_narrow.true))

pub returns-else-is_narrow : goal.returns-else-is_narrow
returns-else-is_narrow c =
    rw (← c.self.view_is) (wide_set c.self.inside.layout c.self.inside.narrow.items c.self.inside.wide.items
    (vec_capacity c.self.inside.narrow) (vec_capacity c.self.inside.wide) c.args.at c.args.packed
    (sym c.is_narrow.ensures ∙ c.if-is_narrow.false))
