-- What is tested in each call on a book, in the order of tests, and what becomes of the book.
use Rattle.std.specs.Prelude.{◌≡◌, ℕ, Bool, true, false, cond, ◌&&◌, ◌||◌, List, [], ◌∷◌, ◌++◌, map, length, ℤ, pos, negsuc, ◌+ℤ◌, Some, None, Ok, Err, Option, Result, ◌==◌, int_lt, nat_lt, slice_set}
use Rattle.std.specs.Option.{ok_or}
use Rattle.terms.specs.declared.OptionType.{OptionType}
use Rattle.terms.specs.declared.holdings.Class.{Class}
use Rattle.terms.specs.declared.holdings.Security.{Security}
use Rattle.terms.specs.declared.holdings.Series as series
use Rattle.terms.specs.declared.holdings.Contract.{Contract}
use Rattle.terms.specs.declared.holdings.Contract.TheVariants.{Deposit, Series, Term}
use Rattle.terms.specs.declared.holdings.Row.{Row}
use Rattle.terms.specs.declared.stage.Stage.{Stage}
use Rattle.terms.specs.declared.stage.Stage.TheVariants.{Trading, Valuing}
use Rattle.terms.specs.declared.strategy.Line.{Line}
use Rattle.terms.specs.Limits.{is_book_number, is_day, is_lot_size, is_price, is_premium, is_guarantee, limited}
use Rattle.denials.specs.declared.book.Figure.{Figure}
use Rattle.denials.specs.declared.book.Figure.TheVariants as figures
use Rattle.denials.specs.declared.book.BookFault.{BookFault}
use Rattle.denials.specs.declared.book.BookFault.TheVariants.{Stale, OutOfLimits, LastDayPast, RowEnds, NetTooFar, DepositBelowZero}
use Rattle.lines.specs.Broken.{Broken, sparing}
use Rattle.terms.specs.Holdings.{contract_last_day, is_over, ended_at, closed}
use Rattle.book.specs.Slips.{TradingSlip, ValuingSlip, slip_of}
use Rattle.book.specs.Tables.{has_security, room_for_security, room_for_row, row_at, series_at, requoted, repriced, unlisted}

-- what a book holds; a book that was never opened has no stage
pub record State : Type 0 where
  pub number : ℕ
  pub day : ℕ
  pub stage : Option Stage
  pub securities : List Security
  pub rows : List Row
  pub lines : List Line

-- what is tested next, where the test before was passed
abbrev pub and_then : {X Y : Type 0} → Result X BookFault → (X → Result Y BookFault) → Result Y BookFault
and_then (Ok x) next = next x
and_then (Err fault) next = Err fault

-- a fault, where something is so
abbrev pub denied_if : Bool → BookFault → Result (Unit {0}) BookFault
denied_if wrong fault = cond wrong (Err fault) (Ok tt)

-- the book is in a stage
abbrev pub is_in : Option Stage → Stage → Bool
is_in None stage = false
is_in (Some Trading) Trading = true
is_in (Some Trading) Valuing = false
is_in (Some Valuing) Trading = false
is_in (Some Valuing) Valuing = true

-- a slip of a stage has the book's number and day, and the book is in the stage
abbrev pub admits : Stage → State → (book day : ℕ) → Result (Unit {0}) BookFault
admits stage s book day = cond (is_in s.stage stage && (book == s.number && day == s.day)) (Ok tt) (Err Stale)

-- a trading slip has the book's number and day, and the book is in trading
abbrev pub for_trading : State → TradingSlip → Result (Unit {0}) BookFault
for_trading s slip = admits Trading s slip.book slip.day

-- a valuing slip has the book's number and day, and the book is in valuing
abbrev pub for_valuing : State → ValuingSlip → Result (Unit {0}) BookFault
for_valuing s slip = admits Valuing s slip.book slip.day

-- an argument within its limits
abbrev pub figure : (ℕ → Bool) → ℕ → ℕ → Figure → Result ℕ BookFault
figure within n position what = ok_or (limited within n) (OutOfLimits position what)

-- opening: the number and the day that the book is to have
pub record Opening : Type 0 where
  pub number : ℕ
  pub day : ℕ

abbrev pub opening : ℕ → ℕ → Result Opening BookFault
opening number day =
    and_then (figure is_book_number number 0 figures.BookNumber) (λ number.
    and_then (figure is_day day 1 figures.Day) (λ day.
    Ok (record { number = number; day = day })))

-- listing a security
abbrev pub new_security : State → TradingSlip → Class → ℕ → ℕ → Result Security BookFault
new_security s slip class lot close =
    and_then (for_trading s slip) (λ _.
    and_then (figure is_lot_size lot 1 figures.LotSize) (λ lot.
    and_then (figure is_price close 2 figures.ClosingPrice) (λ close.
    and_then (room_for_security s.securities) (λ _.
    and_then (room_for_row s.rows) (λ _.
    Ok (record { class = class; lot_size = lot; close = close }))))))

-- a contract on a listed security, to be listed under the next row: there is room, its last day is yet to come, and no row is equal
abbrev pub new_row : State → ℕ → Contract → Result Row BookFault
new_row s security contract =
    and_then (has_security s.securities security) (λ security.
    and_then (room_for_row s.rows) (λ _.
    and_then (denied_if (is_over (contract_last_day contract) s.day) LastDayPast) (λ _.
    and_then (unlisted s.rows (record { security = security; contract = contract; net = pos 0 })) (λ _.
    Ok (record { security = security; contract = contract; net = pos 0 })))))

-- listing a series
abbrev pub new_series : State → TradingSlip → ℕ → OptionType → ℕ → ℕ → ℕ → Result Row BookFault
new_series s slip security option strike last premium =
    and_then (for_trading s slip) (λ _.
    and_then (figure is_price strike 2 figures.Strike) (λ strike.
    and_then (figure is_day last 3 figures.LastDay) (λ last.
    and_then (figure is_premium premium 4 figures.Premium) (λ premium.
    new_row s security (Series (record { option = option; strike = strike; last_day = last; premium = premium }))))))

-- listing a term operation
abbrev pub new_term : State → TradingSlip → ℕ → ℕ → ℕ → ℕ → Result Row BookFault
new_term s slip security price last guarantee =
    and_then (for_trading s slip) (λ _.
    and_then (figure is_price price 1 figures.TermPrice) (λ price.
    and_then (figure is_day last 2 figures.LastDay) (λ last.
    and_then (figure is_guarantee guarantee 3 figures.Guarantee) (λ guarantee.
    new_row s security (Term (record { price = price; last_day = last; guarantee = guarantee }))))))

-- quoting a closing price: the securities with it
abbrev pub new_price : State → TradingSlip → ℕ → ℕ → Result (List Security) BookFault
new_price s slip security close =
    and_then (for_trading s slip) (λ _.
    and_then (figure is_price close 1 figures.ClosingPrice) (λ close.
    and_then (has_security s.securities security) (λ i.
    Ok (requoted s.securities i close))))

-- a series with another premium
abbrev pub with_premium : series.Series → ℕ → series.Series
with_premium series premium = record { option = series.option; strike = series.strike; last_day = series.last_day; premium = premium }

-- quoting a premium: the rows with it
abbrev pub new_premium : State → TradingSlip → ℕ → ℕ → Result (List Row) BookFault
new_premium s slip row premium =
    and_then (for_trading s slip) (λ _.
    and_then (figure is_premium premium 1 figures.Premium) (λ premium.
    and_then (series_at s.rows row) (λ series.
    Ok (repriced s.rows row (with_premium series premium)))))

-- no lots
abbrev pub is_zero : ℤ → Bool
is_zero (pos n) = n == 0
is_zero (negsuc n) = false

-- past 10,000 lots either way
abbrev pub is_far : ℤ → Bool
is_far net = int_lt (pos 10000) net || int_lt net (negsuc 9999)

-- a deposit below 0
abbrev pub is_owed : Contract → ℤ → Bool
is_owed Deposit net = int_lt net (pos 0)
is_owed (Series series) net = false
is_owed (Term term) net = false

-- a row with lots added to its net
abbrev pub moved : Row → ℤ → Row
moved row lots = record { security = row.security; contract = row.contract; net = row.net +ℤ lots }

-- a listed row that lots are traded in
abbrev pub traded_in : ℕ → ℕ → ℤ → Row → Result Row BookFault
traded_in day i lots row =
    cond (is_over (contract_last_day row.contract) day) (Err (RowEnds i))
    (cond (is_far (row.net +ℤ lots)) (Err (NetTooFar i))
    (cond (is_owed row.contract (row.net +ℤ lots)) (Err (DepositBelowZero i)) (Ok (moved row lots))))

-- trading: the row with the lots
abbrev pub new_net : State → TradingSlip → ℕ → ℤ → Result Row BookFault
new_net s slip i lots =
    and_then (for_trading s slip) (λ _.
    and_then (denied_if (is_zero lots) (OutOfLimits 1 figures.Lots)) (λ _.
    and_then (row_at s.rows i) (λ row.
    traded_in s.day i lots row)))

-- the next day: a day after the book's
abbrev pub new_day : State → ValuingSlip → ℕ → Result ℕ BookFault
new_day s slip day =
    and_then (for_valuing s slip) (λ _.
    figure (λ d. is_day d && nat_lt s.day d) day 0 figures.NextDay)

-- a book that was never opened
abbrev pub unopened : State
unopened = record { number = 0; day = 0; stage = None; securities = []; rows = []; lines = [] }

-- a newly opened book
abbrev pub opened : Opening → State
opened o = record { number = o.number; day = o.day; stage = Some Trading; securities = []; rows = []; lines = [] }

-- the slip that opening gives
abbrev pub first_slip : Opening → TradingSlip
first_slip o = slip_of o.number o.day

-- the book with one security more, and its deposit row
abbrev pub with_security : State → Security → State
with_security s security = record {
  number = s.number;
  day = s.day;
  stage = s.stage;
  securities = s.securities ++ security ∷ [];
  rows = s.rows ++ record { security = length s.securities; contract = Deposit; net = pos 0 } ∷ [];
  lines = s.lines;
}

-- the book with one row more
abbrev pub with_row : State → Row → State
with_row s row = record {
  number = s.number;
  day = s.day;
  stage = s.stage;
  securities = s.securities;
  rows = s.rows ++ row ∷ [];
  lines = s.lines;
}

-- the book with other securities
abbrev pub with_securities : State → List Security → State
with_securities s securities = record {
  number = s.number;
  day = s.day;
  stage = s.stage;
  securities = securities;
  rows = s.rows;
  lines = s.lines;
}

-- the book with other rows
abbrev pub with_rows : State → List Row → State
with_rows s rows = record {
  number = s.number;
  day = s.day;
  stage = s.stage;
  securities = s.securities;
  rows = rows;
  lines = s.lines;
}

-- the book in valuing
abbrev pub ended : State → State
ended s = record {
  number = s.number;
  day = s.day;
  stage = Some Valuing;
  securities = s.securities;
  rows = s.rows;
  lines = s.lines;
}

-- the book on a later day: lines that use a row that has ended are broken, and such rows have no lots
abbrev pub on_day : State → ℕ → State
on_day s day = record {
  number = s.number;
  day = day;
  stage = Some Trading;
  securities = s.securities;
  rows = map (closed day) s.rows;
  lines = sparing (ended_at s.rows day) s.lines;
}

-- a call is settled: passed, it is answered so and leaves the book so; denied, it tells the fault and leaves the book as it was
abbrev pub Settled : {X Y : Type 0} → Result X BookFault → (X → Y) → (X → State) → State → Result Y BookFault → State → Type 0
Settled (Ok x) answer after s r s' = (r ≡ Ok (answer x)) × (s' ≡ after x)
Settled (Err fault) answer after s r s' = (r ≡ Err fault) × (s' ≡ s)

-- k lines were broken by a trade that left the row so
pub record Traded (s : State) (i : ℕ) (row : Row) (k : ℕ) (s' : State) : Type 0 where
  pub left : List Line
  pub broken : Broken i row.net s.lines k left
  pub book : s' ≡ record {
    number = s.number;
    day = s.day;
    stage = s.stage;
    securities = s.securities;
    rows = slice_set s.rows i row;
    lines = left;
  }

-- a trade is settled: the answer is how many lines were broken
abbrev pub Trades : Result Row BookFault → ℕ → State → Result ℕ BookFault → State → Type 0
Trades (Ok row) i s r s' = (k : ℕ) × (r ≡ Ok k) × Traded s i row k s'
Trades (Err fault) i s r s' = (r ≡ Err fault) × (s' ≡ s)
