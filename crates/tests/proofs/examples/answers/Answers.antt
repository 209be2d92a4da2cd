use Rattle.tests.proofs.ExampleProofs.{answers_are, said_are}
use Rattle.tests.proofs.examples.answers.Goals as goal

pub returns : goal.returns
returns c = record { each = answers_are; in_order = said_are }
