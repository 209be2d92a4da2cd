use Rattle.tests.proofs.ExampleProofs.{lenient_lines_spelled, lenient_commands_spelled, lenient_long_lines_spelled, lenient_blocks_spelled}
use Rattle.tests.proofs.examples.lenient_spellings.Goals as goal

pub returns-clause-lines : goal.returns-clause-lines
returns-clause-lines c = lenient_lines_spelled

pub returns-clause-long_lines : goal.returns-clause-long_lines
returns-clause-long_lines c = lenient_long_lines_spelled

pub returns-clause-commands : goal.returns-clause-commands
returns-clause-commands c = lenient_commands_spelled

pub returns-clause-blocks : goal.returns-clause-blocks
returns-clause-blocks c = lenient_blocks_spelled
