-- A book as its callers see it.
use Rattle.std.specs.Prelude.{Ok, Err, Result}
use Rattle.denials.specs.declared.book.BookFault.{BookFault}
use Rattle.book.specs.declared.ledger.Book.{Book}
use Rattle.book.specs.declared.slips.Denied.{Denied}
use Rattle.book.specs.Calls.{State}

-- what a book holds
abbrev pub view : Book → State
view book = record {
  number = book.number;
  day = book.day;
  stage = book.stage;
  securities = book.securities.listed.items;
  rows = book.rows.listed.items;
  lines = book.lines;
}

-- the answer to a call that takes a slip, without the slip that a denial hands back
abbrev pub answered : {New Old : Type 0} → Result New (Denied Old) → Result New BookFault
answered (Ok slip) = Ok slip
answered (Err denied) = Err denied.fault
