use Rattle.tests.proofs.ExampleProofs.{session_is}
use Rattle.tests.proofs.examples.session.Goals as goal

pub returns : goal.returns
returns c = session_is
