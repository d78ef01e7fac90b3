-- What a contract says of its row: when it can no longer be traded, when it has ended, and which other it equals.
use Rattle.std.specs.Prelude.{ℕ, Bool, true, false, cond, ◌&&◌, List, pos, Some, None, Option, ◌==◌, nat_le, nat_lt, slice_index_or}
use Rattle.terms.specs.declared.OptionType.{OptionType}
use Rattle.terms.specs.declared.OptionType.TheVariants.{Call, Put}
use Rattle.terms.specs.declared.holdings.Class.TheVariants.{Other}
use Rattle.terms.specs.declared.holdings.Security.{Security}
use Rattle.terms.specs.declared.holdings.Contract.{Contract}
use Rattle.terms.specs.declared.holdings.Contract.TheVariants.{Deposit, Series, Term}
use Rattle.terms.specs.declared.holdings.Row.{Row}

-- what stands at a place where there is no security
abbrev pub no_security : Security
no_security = record { class = Other; lot_size = 0; close = 0 }

-- what stands at a place where there is no row: a deposit without lots
abbrev pub no_row : Row
no_row = record { security = 0; contract = Deposit; net = pos 0 }

-- the strike of a series; other contracts have none, and read as 0
abbrev pub strike_of : Contract → ℕ
strike_of Deposit = 0
strike_of (Series series) = series.strike
strike_of (Term term) = 0

-- the last day of a contract; a deposit has none
abbrev pub contract_last_day : Contract → Option ℕ
contract_last_day Deposit = None
contract_last_day (Series series) = Some series.last_day
contract_last_day (Term term) = Some term.last_day

-- a last day is today or past
abbrev pub is_over : Option ℕ → ℕ → Bool
is_over None day = false
is_over (Some last) day = nat_le last day

-- a last day is before the day
abbrev pub has_ended : Option ℕ → ℕ → Bool
has_ended None day = false
has_ended (Some last) day = nat_lt last day

-- the row of a number has ended by the day
abbrev pub ended_at : List Row → ℕ → ℕ → Bool
ended_at rows day i = has_ended (contract_last_day (slice_index_or rows i no_row).contract) day

-- a row as it is on a day: without lots, once it has ended
abbrev pub closed : ℕ → Row → Row
closed day row =
    cond (has_ended (contract_last_day row.contract) day) (record { security = row.security; contract = row.contract; net = pos 0 }) row

-- the same option type
abbrev pub same_type : OptionType → OptionType → Bool
same_type Call Call = true
same_type Call Put = false
same_type Put Call = false
same_type Put Put = true

-- equal series, or equal term operations; premium and guarantee are not compared
abbrev pub same_contract : Contract → Contract → Bool
same_contract (Series a) (Series b) = same_type a.option b.option && (a.strike == b.strike && a.last_day == b.last_day)
same_contract (Term a) (Term b) = a.price == b.price && a.last_day == b.last_day
same_contract Deposit b = false
same_contract (Series a) Deposit = false
same_contract (Series a) (Term b) = false
same_contract (Term a) Deposit = false
same_contract (Term a) (Series b) = false

-- equal contracts on one security
abbrev pub same_row : Row → Row → Bool
same_row a b = a.security == b.security && same_contract a.contract b.contract
