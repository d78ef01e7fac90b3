use Rattle.std.proofs.Common.{rules}
use Rattle.book.proofs.Main.{called}
use Rattle.book.proofs.ledger.Book.quote_price.Goals as goal

pub returns-in_err-admits : goal.returns-in_err-admits
returns-in_err-admits c = called _ _ _ (search rules)

pub returns-in_err-close : goal.returns-in_err-close
returns-in_err-close c = called _ _ _ (search rules)

pub returns-in_err-listed : goal.returns-in_err-listed
returns-in_err-listed c = called _ _ _ (search rules)

pub returns : goal.returns
returns c = called _ _ _ (search rules)
