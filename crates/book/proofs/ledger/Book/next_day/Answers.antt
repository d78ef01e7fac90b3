use Rattle.std.proofs.Common.{rules}
use Rattle.book.proofs.Main.{called}
use Rattle.book.proofs.ledger.Book.next_day.Goals as goal

pub returns-in_err-day-clause-call : goal.returns-in_err-day-clause-call
returns-in_err-day-clause-call c = called _ _ _ (search rules)

pub returns-clause-call : goal.returns-clause-call
returns-clause-call c = called _ _ _ (search rules)
