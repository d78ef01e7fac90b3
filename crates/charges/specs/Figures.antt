-- The figures that a guarantee is worked out from, by row number.
use Rattle.std.specs.Prelude.{ℕ, List, None, Option}
use Rattle.terms.specs.declared.OptionType.{OptionType}
use Rattle.terms.specs.declared.OptionType.TheVariants.{Call}
use Rattle.terms.specs.declared.holdings.Security.{Security}
use Rattle.terms.specs.declared.holdings.Series as series
use Rattle.terms.specs.declared.holdings.Contract.{Contract}
use Rattle.terms.specs.declared.holdings.Contract.TheVariants.{Deposit, Series, Term}
use Rattle.terms.specs.declared.holdings.Row.{Row}
use Rattle.terms.specs.Listings.{row_at, contract_at, security_at}
use Rattle.rates.specs.declared.rate_book.Quote.{Quote}

-- the price of a term operation; 0 of any other contract
abbrev pub price_of : Contract → ℕ
price_of Deposit = 0
price_of (Series series) = 0
price_of (Term term) = term.price

-- the guarantee per lot of a term operation; 0 of any other contract
abbrev pub guarantee_of : Contract → ℕ
guarantee_of Deposit = 0
guarantee_of (Series series) = 0
guarantee_of (Term term) = term.guarantee

-- the option type of a series; a call where there is none
abbrev pub type_of : Contract → OptionType
type_of Deposit = Call
type_of (Series series) = series.option
type_of (Term term) = Call

-- what a rate book is asked for a series in a row
abbrev pub quote_for : ℕ → ℕ → series.Series → Security → Quote
quote_for i number series security = record {
  row = i;
  security = number;
  option = series.option;
  strike = series.strike;
  premium = series.premium;
  close = security.close;
  lot = security.lot_size;
}

-- the rate that a table has for a row; none where the row is no series
abbrev pub rate_by : (Quote → Option ℕ) → ℕ → ℕ → Security → Contract → Option ℕ
rate_by table i number security Deposit = None
rate_by table i number security (Series series) = table (quote_for i number series security)
rate_by table i number security (Term term) = None

abbrev pub rate_at : (Quote → Option ℕ) → List Security → List Row → ℕ → Option ℕ
rate_at table securities rows i = rate_by table i (row_at rows i).security (security_at securities rows i) (contract_at rows i)
