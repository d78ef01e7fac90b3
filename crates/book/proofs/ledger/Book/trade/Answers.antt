use Rattle.std.proofs.Common.{rules}
use Rattle.book.proofs.Main.{called}
use Rattle.book.proofs.ledger.Book.trade.Goals as goal

pub returns-in_err-admits : goal.returns-in_err-admits
returns-in_err-admits c = called _ _ _ (search rules)

pub returns-then-lots-eq0 : goal.returns-then-lots-eq0
returns-then-lots-eq0 c = called _ _ _ (search rules)

pub returns-in_err-before : goal.returns-in_err-before
returns-in_err-before c = called _ _ _ (search rules)

pub returns-in_err-after : goal.returns-in_err-after
returns-in_err-after c = called _ _ _ (search rules)

pub returns : goal.returns
returns c = called _ _ _ (search rules)
