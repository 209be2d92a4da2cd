use Rattle.reference.proofs.PlainSteps.{handles_plainly, keeps_deadlines}
use Rattle.reference.proofs.plain_map.PlainMapStoreMap.keep_promises.Goals as goal

pub returns-clause-promised : goal.returns-clause-promised
returns-clause-promised c old t q reply new h = handles_plainly old t q reply new h

pub returns-clause-deadlines : goal.returns-clause-deadlines
returns-clause-deadlines c old t q reply new h = keeps_deadlines old t q reply new (handles_plainly old t q reply new h)
