use Rattle.std.proofs.Common.{sym, ◌∙◌}
use Rattle.proto.proofs.WordLists.{keys_in_one}
use Rattle.proto.proofs.keys.Keys.only.Goals as goal

pub returns-then-self-eq1 : goal.returns-then-self-eq1
returns-then-self-eq1 c =
    rw (c.split_at.ensures.back, c.as_slice.ensures.value)
    (sym c.self.view_is ∙ keys_in_one c.self.inside.bytes.items (sym c.self.invariant ∙ c.if-self-eq1.true))
