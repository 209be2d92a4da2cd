use Rattle.std.proofs.Common.{◌++◌, ◌∷◌, [], arith, length-append, ap, ◌∙◌}
use Rattle.proto.specs.Words.{keys_in}
use Rattle.proto.proofs.WordLists.{keys_in-more, length-keys_in}
use Rattle.proto.proofs.keys.Keys.push.Goals as goal

pub overflow_add-self : goal.overflow_add-self
overflow_add-self c =
    let few = length-keys_in c.self.inside.bytes.items in
    omega (arith, few)

pub invariant_of-self-2 : goal.invariant_of-self-2
invariant_of-self-2 c =
    rw (
      c.extend_from_slice-2.ensures.items,
      c.unwrap-2.ensures,
      c.extend_from_slice.ensures.items,
      c.unwrap.ensures,
      c.in_ok-reserve.ensures.items,
      keys_in-more c.self.inside.bytes.items c.args.key.now c.requires,
    )
    (omega (arith, length-append (keys_in c.self.inside.bytes.items) (c.args.key.now ∷ [])))

pub returns-clause-ok : goal.returns-clause-ok
returns-clause-ok c =
    rw (
      c.extend_from_slice-2.ensures.items,
      c.unwrap-2.ensures,
      c.extend_from_slice.ensures.items,
      c.unwrap.ensures,
      c.in_ok-reserve.ensures.items,
    )
    (keys_in-more c.self.inside.bytes.items c.args.key.now c.requires
    ∙ ap (λ keys. keys ++ c.args.key.now ∷ []) c.self.view_is)
