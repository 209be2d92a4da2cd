use Rattle.tests.proofs.ExampleProofs.{counts_do, stats_are}
use Rattle.tests.proofs.examples.counts.Goals as goal

pub returns : goal.returns
returns c = record { counts = counts_do; told = stats_are }
