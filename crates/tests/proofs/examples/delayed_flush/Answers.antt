use Rattle.tests.proofs.ExampleProofs.{flush_is}
use Rattle.tests.proofs.examples.delayed_flush.Goals as goal

pub returns : goal.returns
returns c = flush_is
