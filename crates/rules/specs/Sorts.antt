-- What rows are contracts of, as the rules tell them apart.
use Rattle.std.specs.Prelude.{ℕ, Bool, true, false, cond, ◌&&◌, ◌||◌, ◌==◌, nat_lt}
use Rattle.terms.specs.declared.OptionType.{OptionType}
use Rattle.terms.specs.declared.OptionType.TheVariants.{Call, Put}
use Rattle.terms.specs.declared.holdings.Class.{Class}
use Rattle.terms.specs.declared.holdings.Class.TheVariants.{ListB, ListA, Other}
use Rattle.terms.specs.declared.holdings.Contract.{Contract}
use Rattle.terms.specs.declared.holdings.Contract.TheVariants.{Deposit, Series, Term}
use Rattle.terms.specs.Holdings.{same_type as same_option_type}
use Rattle.terms.specs.declared.strategy.Kind.{Kind}
use Rattle.terms.specs.declared.strategy.Kind.TheVariants.{Opposed, BoughtButterfly, SoldButterfly, SoldCone, Covered, TermPurchase, TermSale}

-- an option of a type
abbrev pub is_option : OptionType → Contract → Bool
is_option option Deposit = false
is_option option (Series series) = same_option_type series.option option
is_option option (Term term) = false

-- a call option
abbrev pub is_call : Contract → Bool
is_call contract = is_option Call contract

-- a put option
abbrev pub is_put : Contract → Bool
is_put contract = is_option Put contract

-- a deposit
abbrev pub is_deposit : Contract → Bool
is_deposit Deposit = true
is_deposit (Series series) = false
is_deposit (Term term) = false

-- a term operation
abbrev pub is_term : Contract → Bool
is_term Deposit = false
is_term (Series series) = false
is_term (Term term) = true

-- two options of one type
abbrev pub same_type : Contract → Contract → Bool
same_type a b = (is_call a && is_call b) || (is_put a && is_put b)

-- the kinds whose legs are options of one type
abbrev pub of_one_type : Kind → Bool
of_one_type Opposed = true
of_one_type BoughtButterfly = true
of_one_type SoldButterfly = true
of_one_type SoldCone = false
of_one_type Covered = false
of_one_type TermPurchase = false
of_one_type TermSale = false

-- the sort of a leg's contract, where lead is that of leg 0: options of one type; a call and a put; a call and a deposit; a
-- call and a term operation
abbrev pub right_sort : Kind → Contract → ℕ → Contract → Bool
right_sort Opposed lead i contract = same_type lead contract
right_sort BoughtButterfly lead i contract = same_type lead contract
right_sort SoldButterfly lead i contract = same_type lead contract
right_sort SoldCone lead i contract = cond (i == 0) (is_call contract) (is_put contract)
right_sort Covered lead i contract = cond (i == 0) (is_call contract) (is_deposit contract)
right_sort TermPurchase lead i contract = cond (i == 0) (is_call contract) (is_term contract)
right_sort TermSale lead i contract = cond (i == 0) (is_call contract) (is_term contract)

-- an option's last day is before another's
abbrev pub ends_before : Contract → Contract → Bool
ends_before (Series a) (Series b) = nat_lt a.last_day b.last_day
ends_before (Series a) Deposit = false
ends_before (Series a) (Term b) = false
ends_before Deposit b = false
ends_before (Term a) b = false

-- class 1
abbrev pub is_list_b : Class → Bool
is_list_b ListB = true
is_list_b ListA = false
is_list_b Other = false

-- class 1 or 2
abbrev pub is_listed : Class → Bool
is_listed ListB = true
is_listed ListA = true
is_listed Other = false

-- the classes that admit a kind with options of a type
abbrev pub admits : Kind → OptionType → Class → Bool
admits Opposed Call class = true
admits Opposed Put class = is_list_b class
admits BoughtButterfly Call class = true
admits BoughtButterfly Put class = is_list_b class
admits SoldButterfly option class = is_list_b class
admits SoldCone option class = is_list_b class
admits Covered option class = true
admits TermPurchase option class = is_listed class
admits TermSale option class = is_listed class

-- a class admits a kind with leg 0's contract, an option
abbrev pub admitted : Kind → Contract → Class → Bool
admitted kind Deposit class = false
admitted kind (Series series) class = admits kind series.option class
admitted kind (Term term) class = false
