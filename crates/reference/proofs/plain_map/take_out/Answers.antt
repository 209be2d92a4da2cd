use Rattle.reference.proofs.PlainLemmas.{live-remove}
use Rattle.reference.proofs.plain_map.take_out.Goals as goal

pub returns : goal.returns
returns c t = live-remove t c.args.key.now c.args.map.now c.remove.new.self c.remove.ensures.updates
