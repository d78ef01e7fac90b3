-- How the fault of a call on a book is denied.
use Rattle.std.specs.Prelude.{ℕ, List, ◌++◌, codes, decimal}
use Rattle.terms.specs.Limits.{most_securities, most_rows}
use Rattle.terms.specs.declared.denial.Layer.{Layer}
use Rattle.terms.specs.declared.denial.Layer.TheVariants as layer
use Rattle.terms.specs.declared.denial.Place.{Place}
use Rattle.terms.specs.declared.denial.Place.TheVariants.{Nowhere, Number}
use Rattle.denials.specs.Sheet.{sheet_layer, sheet_number, sheet_place, sheet_fault_text}
use Rattle.denials.specs.declared.book.Figure.{Figure}
use Rattle.denials.specs.declared.book.Figure.TheVariants.{BookNumber, Day, LotSize, ClosingPrice, Strike, LastDay, Premium, TermPrice, Guarantee, Lots, NextDay}
use Rattle.denials.specs.declared.book.BookFault.{BookFault}
use Rattle.denials.specs.declared.book.BookFault.TheVariants.{Stale, OutOfLimits, NoSuchSecurity, NoSuchRow, NoSuchSeries, SecuritiesFull, RowsFull, LastDayPast, RowEnds, AlreadyListed, NetTooFar, DepositBelowZero, Sheet}

-- a fault of the sheet stays of the sheet's layer; every other is of the book's
abbrev pub book_layer : BookFault → Layer
book_layer Stale = layer.Book
book_layer (OutOfLimits position figure) = layer.Book
book_layer (NoSuchSecurity security) = layer.Book
book_layer (NoSuchRow row) = layer.Book
book_layer (NoSuchSeries row) = layer.Book
book_layer SecuritiesFull = layer.Book
book_layer RowsFull = layer.Book
book_layer LastDayPast = layer.Book
book_layer (RowEnds row) = layer.Book
book_layer (AlreadyListed row) = layer.Book
book_layer (NetTooFar row) = layer.Book
book_layer (DepositBelowZero row) = layer.Book
book_layer (Sheet fault) = sheet_layer fault

-- the number of each fault
abbrev pub book_number : BookFault → ℕ
book_number Stale = 1
book_number (OutOfLimits position figure) = 2
book_number (NoSuchSecurity security) = 3
book_number (NoSuchRow row) = 3
book_number (NoSuchSeries row) = 3
book_number SecuritiesFull = 4
book_number RowsFull = 4
book_number LastDayPast = 5
book_number (RowEnds row) = 5
book_number (AlreadyListed row) = 6
book_number (NetTooFar row) = 7
book_number (DepositBelowZero row) = 8
book_number (Sheet fault) = sheet_number fault

-- an argument goes by its position, a security and a row by their numbers, a full book by how many it has
abbrev pub book_place : BookFault → Place
book_place Stale = Nowhere
book_place (OutOfLimits position figure) = Number position
book_place (NoSuchSecurity security) = Number security
book_place (NoSuchRow row) = Number row
book_place (NoSuchSeries row) = Number row
book_place SecuritiesFull = Number most_securities
book_place RowsFull = Number most_rows
book_place LastDayPast = Nowhere
book_place (RowEnds row) = Number row
book_place (AlreadyListed row) = Number row
book_place (NetTooFar row) = Number row
book_place (DepositBelowZero row) = Number row
book_place (Sheet fault) = sheet_place fault

-- that a figure is outside its limits, and what they are
abbrev pub limits_text : Figure → List ℕ
limits_text BookNumber = codes "the book's number is outside 0 to 65535"
limits_text Day = codes "the day is outside 1 to 1000000"
limits_text LotSize = codes "the lot size is outside 1 to 10000"
limits_text ClosingPrice = codes "the closing price is outside 1 to 10000000"
limits_text Strike = codes "the strike is outside 1 to 10000000"
limits_text LastDay = codes "the last day is outside 1 to 1000000"
limits_text Premium = codes "the premium is outside 0 to 10000000"
limits_text TermPrice = codes "the term price is outside 1 to 10000000"
limits_text Guarantee = codes "the guarantee is outside 0 to 1000000000000"
limits_text Lots = codes "the lots are 0"
limits_text NextDay = codes "the day is not after the book's day, up to 1000000"

-- the reason in words
abbrev pub book_text : BookFault → List ℕ
book_text Stale = codes "the slip is of another book, day or stage"
book_text (OutOfLimits position figure) = limits_text figure
book_text (NoSuchSecurity security) = codes "there is no security " ++ decimal security
book_text (NoSuchRow row) = codes "there is no row " ++ decimal row
book_text (NoSuchSeries row) = codes "row " ++ (decimal row ++ codes " is no option series")
book_text SecuritiesFull = codes "the book has 16 securities already"
book_text RowsFull = codes "the book has 64 rows already"
book_text LastDayPast = codes "the last day is today or past"
book_text (RowEnds row) = codes "the last day of row " ++ (decimal row ++ codes " is today or past")
book_text (AlreadyListed row) = codes "row " ++ (decimal row ++ codes " lists an equal one")
book_text (NetTooFar row) = codes "the net of row " ++ (decimal row ++ codes " would pass 10000 lots")
book_text (DepositBelowZero row) = codes "the deposit in row " ++ (decimal row ++ codes " would fall below 0")
book_text (Sheet fault) = sheet_fault_text fault
