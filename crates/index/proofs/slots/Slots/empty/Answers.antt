use Rattle.index.proofs.SlotRows.{zero_empty}
use Rattle.index.proofs.slots.Slots.empty.Goals as goal

pub returns : goal.returns
returns c = rw (← zero_empty c.args.self.now.layout) c.set_packed.ensures
