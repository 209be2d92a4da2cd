use Rattle.session_book.proofs.AccountLaws.{starts_accounts, read_keeps, settle_keeps}
use Rattle.session_book.proofs.laws.accounts.Goals as goal

pub returns-clause-starts : goal.returns-clause-starts
returns-clause-starts c = starts_accounts

pub returns-clause-read : goal.returns-clause-read
returns-clause-read c = read_keeps

pub returns-clause-settle : goal.returns-clause-settle
returns-clause-settle c = settle_keeps
