-- The tables of securities and rows: what is found in them, and what they are with an entry changed.
use Rattle.std.specs.Prelude.{ℕ, cond, List, length, get_or, Some, None, Ok, Err, Result, nat_lt, slice_index_or, slice_set}
use Rattle.std.specs.List.{position}
use Rattle.terms.specs.declared.holdings.Security.{Security}
use Rattle.terms.specs.declared.holdings.Series as series
use Rattle.terms.specs.declared.holdings.Contract.{Contract}
use Rattle.terms.specs.declared.holdings.Contract.TheVariants.{Deposit, Series, Term}
use Rattle.terms.specs.declared.holdings.Row.{Row}
use Rattle.terms.specs.Limits.{most_rows, most_securities}
use Rattle.terms.specs.Holdings.{no_security, no_row, same_row}
use Rattle.denials.specs.declared.book.BookFault.{BookFault}
use Rattle.denials.specs.declared.book.BookFault.TheVariants.{NoSuchSecurity, NoSuchRow, NoSuchSeries, SecuritiesFull, RowsFull, AlreadyListed}

-- the number of a security, where it is listed
abbrev pub has_security : List Security → ℕ → Result ℕ BookFault
has_security securities i = cond (nat_lt i (length securities)) (Ok i) (Err (NoSuchSecurity i))

-- nothing, where one security more has room
abbrev pub room_for_security : List Security → Result (Unit {0}) BookFault
room_for_security securities = cond (nat_lt (length securities) most_securities) (Ok tt) (Err SecuritiesFull)

-- nothing, where one row more has room
abbrev pub room_for_row : List Row → Result (Unit {0}) BookFault
room_for_row rows = cond (nat_lt (length rows) most_rows) (Ok tt) (Err RowsFull)

-- a row that is listed
abbrev pub row_at : List Row → ℕ → Result Row BookFault
row_at rows i = cond (nat_lt i (length rows)) (Ok (slice_index_or rows i no_row)) (Err (NoSuchRow i))

-- the option series that a contract is
abbrev pub series_of : ℕ → Contract → Result series.Series BookFault
series_of i Deposit = Err (NoSuchSeries i)
series_of i (Series series) = Ok series
series_of i (Term term) = Err (NoSuchSeries i)

-- an option series that is listed
abbrev pub series_at : List Row → ℕ → Result series.Series BookFault
series_at rows i = series_of i (get_or rows i no_row).contract

-- the securities with another closing price for one
abbrev pub requoted : List Security → ℕ → ℕ → List Security
requoted securities i close =
    let old = get_or securities i no_security in
    slice_set securities i (record { class = old.class; lot_size = old.lot_size; close = close })

-- nothing, where no row is equal
abbrev pub unlisted : List Row → Row → Result (Unit {0}) BookFault
unlisted rows row = elim (position (same_row row) rows) [ None ↦ Ok tt | Some i ↦ Err (AlreadyListed i) ]

-- the rows with another series in the place of one
abbrev pub repriced : List Row → ℕ → series.Series → List Row
repriced rows i series =
    let old = get_or rows i no_row in
    slice_set rows i (record { security = old.security; contract = Series series; net = old.net })
