use Rattle.std.proofs.Common.{rules}
use Rattle.book.proofs.Main.{called}
use Rattle.book.proofs.ledger.Book.quote_premium.Goals as goal

pub returns-in_err-admits : goal.returns-in_err-admits
returns-in_err-admits c = called _ _ _ (search rules)

pub returns-in_err-premium : goal.returns-in_err-premium
returns-in_err-premium c = called _ _ _ (search rules)

pub returns-in_err-series : goal.returns-in_err-series
returns-in_err-series c = called _ _ _ (search rules)

pub returns : goal.returns
returns c = called _ _ _ (search rules)
