use Rattle.std.proofs.Common.{rules}
use Rattle.book.proofs.Main.{called}
use Rattle.book.proofs.ledger.Book.list_security.Goals as goal

pub returns-in_err-admits : goal.returns-in_err-admits
returns-in_err-admits c = called _ _ _ (search rules)

pub returns-in_err-lot_size : goal.returns-in_err-lot_size
returns-in_err-lot_size c = called _ _ _ (search rules)

pub returns-in_err-close : goal.returns-in_err-close
returns-in_err-close c = called _ _ _ (search rules)

pub returns-then-is_full : goal.returns-then-is_full
returns-then-is_full c = called _ _ _ (search rules)

pub returns-then-is_full-2 : goal.returns-then-is_full-2
returns-then-is_full-2 c = called _ _ _ (search rules)

pub returns : goal.returns
returns c = called _ _ _ (search rules)
