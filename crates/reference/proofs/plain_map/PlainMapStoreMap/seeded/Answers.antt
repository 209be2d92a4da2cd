use Rattle.reference.proofs.PlainLemmas.{live-of-nil}
use Rattle.reference.proofs.plain_map.PlainMapStoreMap.seeded.Goals as goal

pub returns-clause-entries : goal.returns-clause-entries
returns-clause-entries c = live-of-nil c.new.result.entries 0 c.new.ensures.empty
