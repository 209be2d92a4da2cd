use Rattle.std.proofs.Common.{sym, ◌∙◌}
use Rattle.std.specs.Prelude.{vec_capacity}
use Rattle.index.proofs.SlotRows.{narrow_push, wide_push}
use Rattle.index.proofs.slots.Slots.push.Goals as goal

pub returns-then-is_narrow : goal.returns-then-is_narrow
returns-then-is_narrow c =
    rw (← c.self.view_is) (rw (c.push_reserved.ensures.items, c.push_reserved.ensures.capacity)
    (narrow_push c.self.inside.layout c.self.inside.narrow.items c.self.inside.wide.items
    (vec_capacity c.self.inside.narrow) (vec_capacity c.self.inside.wide) (sym c.is_narrow.ensures ∙ c.if-is_narrow.true)))

pub returns-else-is_narrow : goal.returns-else-is_narrow
returns-else-is_narrow c =
    rw (← c.self.view_is)
    (rw (c.push_reserved-else-is_narrow.ensures.items, c.push_reserved-else-is_narrow.ensures.capacity)
    (wide_push c.self.inside.layout c.self.inside.narrow.items c.self.inside.wide.items
    (vec_capacity c.self.inside.narrow) (vec_capacity c.self.inside.wide) (sym c.is_narrow.ensures ∙ c.if-is_narrow.false)))
