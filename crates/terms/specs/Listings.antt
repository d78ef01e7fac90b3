-- What a book lists, read by row number.
use Rattle.std.specs.Prelude.{ℕ, List, slice_index_or}
use Rattle.terms.specs.declared.holdings.Class.{Class}
use Rattle.terms.specs.declared.holdings.Security.{Security}
use Rattle.terms.specs.declared.holdings.Contract.{Contract}
use Rattle.terms.specs.declared.holdings.Row.{Row}
use Rattle.terms.specs.Holdings.{no_security, no_row}

-- the row of a number; a deposit without lots where there is none
abbrev pub row_at : List Row → ℕ → Row
row_at rows i = slice_index_or rows i no_row

-- the contract of a row
abbrev pub contract_at : List Row → ℕ → Contract
contract_at rows i = (row_at rows i).contract

-- the security of a row; one of class 3 without a lot or a price where there is none
abbrev pub security_at : List Security → List Row → ℕ → Security
security_at securities rows i = slice_index_or securities (row_at rows i).security no_security

-- the class of a row's security
abbrev pub class_at : List Security → List Row → ℕ → Class
class_at securities rows i = (security_at securities rows i).class
