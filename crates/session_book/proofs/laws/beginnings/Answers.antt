use Rattle.session_book.proofs.AccountLaws.{read_begins, read_is_whole, said_begins}
use Rattle.session_book.proofs.laws.beginnings.Goals as goal

pub returns-clause-read : goal.returns-clause-read
returns-clause-read c = read_begins

pub returns-clause-read_whole : goal.returns-clause-read_whole
returns-clause-read_whole c = read_is_whole

pub returns-clause-said : goal.returns-clause-said
returns-clause-said c = said_begins
