use Rattle.index.proofs.slots.Slots.copy.Goals as goal

pub returns : goal.returns
returns c = rw (← c.packed-packed.ensures.slot) c.set_packed.ensures
