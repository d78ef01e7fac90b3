use Rattle.std.proofs.Common.{rules}
use Rattle.book.proofs.Main.{called}
use Rattle.book.proofs.ledger.Book.list_series.Goals as goal

pub returns-in_err-admits : goal.returns-in_err-admits
returns-in_err-admits c = called _ _ _ (search rules)

pub returns-in_err-strike : goal.returns-in_err-strike
returns-in_err-strike c = called _ _ _ (search rules)

pub returns-in_err-last_day : goal.returns-in_err-last_day
returns-in_err-last_day c = called _ _ _ (search rules)

pub returns-in_err-premium : goal.returns-in_err-premium
returns-in_err-premium c = called _ _ _ (search rules)

pub returns : goal.returns
returns c = called _ _ _ (search rules)
