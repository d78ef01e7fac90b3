use Rattle.std.proofs.Common.{rules}
use Rattle.book.proofs.Main.{called}
use Rattle.book.proofs.ledger.Book.list_term.Goals as goal

pub returns-in_err-admits : goal.returns-in_err-admits
returns-in_err-admits c = called _ _ _ (search rules)

pub returns-in_err-price : goal.returns-in_err-price
returns-in_err-price c = called _ _ _ (search rules)

pub returns-in_err-last_day : goal.returns-in_err-last_day
returns-in_err-last_day c = called _ _ _ (search rules)

pub returns-in_err-guarantee : goal.returns-in_err-guarantee
returns-in_err-guarantee c = called _ _ _ (search rules)

pub returns : goal.returns
returns c = called _ _ _ (search rules)
