use Rattle.index.proofs.PackedSlots.{word_below, word_said}
use Rattle.index.proofs.layout.Layout.packed_of.Goals as goal

pub returns-clause-value : goal.returns-clause-value
returns-clause-value c = word_said c.args.self c.args.slot c.requires.slot

pub returns-clause-limit : goal.returns-clause-limit
returns-clause-limit c = rw (word_said c.args.self c.args.slot c.requires.slot)
    (word_below c.args.self c.args.slot c.requires.slot)
