use Rattle.tests.proofs.ExampleProofs.{quit_is}
use Rattle.tests.proofs.examples.quit.Goals as goal

pub returns : goal.returns
returns c = quit_is
