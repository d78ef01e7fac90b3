-- The guarantee of a strategy line. Here L is the lot size and n the lots of leg 0; a difference that would be negative is 0.
use Rattle.std.specs.Prelude.{ℕ, ◌+◌, ◌-◌, ◌*◌, min, max, List, Option}
use Rattle.std.specs.Option.{unwrap_or}
use Rattle.terms.specs.declared.OptionType.{OptionType}
use Rattle.terms.specs.declared.OptionType.TheVariants.{Call, Put}
use Rattle.terms.specs.declared.holdings.Class.{Class}
use Rattle.terms.specs.declared.holdings.Class.TheVariants.{ListB, ListA, Other}
use Rattle.terms.specs.declared.holdings.Security.{Security}
use Rattle.terms.specs.declared.holdings.Row.{Row}
use Rattle.terms.specs.declared.strategy.Kind.{Kind}
use Rattle.terms.specs.declared.strategy.Kind.TheVariants.{Opposed, BoughtButterfly, SoldButterfly, SoldCone, Covered, TermPurchase, TermSale}
use Rattle.terms.specs.declared.strategy.Leg.{Leg}
use Rattle.terms.specs.declared.strategy.Line.{Line}
use Rattle.rates.specs.declared.rate_book.Quote.{Quote}
use Rattle.terms.specs.Holdings.{strike_of}
use Rattle.terms.specs.Sides.{leg_at}
use Rattle.terms.specs.Listings.{contract_at, security_at, class_at}
use Rattle.charges.specs.Figures.{price_of, guarantee_of, type_of, rate_at}

-- what a held strike leaves of the risk of a written one: held less written for calls, written less held for puts
abbrev pub difference : OptionType → ℕ → ℕ → ℕ
difference Call written held = held - written
difference Put written held = written - held

-- difference × L × lots of one held leg of an opposed line
abbrev pub opposed_leg : List Security → List Row → Leg → Leg → ℕ
opposed_leg securities rows written held =
    difference (type_of (contract_at rows written.row)) (strike_of (contract_at rows written.row)) (strike_of (contract_at rows held.row))
    * (security_at securities rows written.row).lot_size * held.lots

-- the sum over the held legs of an opposed line, legs 1 to 3; one that is not used has no lots
abbrev pub opposed_sum : List Security → List Row → Line → ℕ
opposed_sum securities rows line =
    opposed_leg securities rows (leg_at line.legs 0) (leg_at line.legs 1) + opposed_leg securities rows (leg_at line.legs 0) (leg_at line.legs 2)
    + opposed_leg securities rows (leg_at line.legs 0) (leg_at line.legs 3)

-- in class 1 the lesser of the sum and the whole
abbrev pub opposed_by : Class → ℕ → ℕ → ℕ
opposed_by ListB sum whole = min sum whole
opposed_by ListA sum whole = sum
opposed_by Other sum whole = sum

-- opposed: the sum over the held legs; in class 1 the lesser of it and n × the written row's rate
abbrev pub opposed : (Quote → Option ℕ) → List Security → List Row → Line → ℕ
opposed table securities rows line =
    opposed_by (class_at securities rows (leg_at line.legs 0).row) (opposed_sum securities rows line)
    ((leg_at line.legs 0).lots * unwrap_or (rate_at table securities rows (leg_at line.legs 0).row) 0)

-- sold butterfly: (E2 − E1) × L × n
abbrev pub sold_butterfly : List Security → List Row → Line → ℕ
sold_butterfly securities rows line =
    (strike_of (contract_at rows (leg_at line.legs 1).row) - strike_of (contract_at rows (leg_at line.legs 0).row))
    * (security_at securities rows (leg_at line.legs 0).row).lot_size * (leg_at line.legs 0).lots

-- sold cone: n × the larger of the two rates
abbrev pub sold_cone : (Quote → Option ℕ) → List Security → List Row → Line → ℕ
sold_cone table securities rows line =
    (leg_at line.legs 0).lots * max (unwrap_or (rate_at table securities rows (leg_at line.legs 0).row) 0) (unwrap_or (rate_at table securities rows (leg_at line.legs 1).row) 0)

-- term purchase, at term price T and strike S: n × the term guarantee, or (T − S) × L × n where that is larger
abbrev pub term_purchase : List Security → List Row → Line → ℕ
term_purchase securities rows line =
    max ((leg_at line.legs 0).lots * guarantee_of (contract_at rows (leg_at line.legs 1).row))
    ((price_of (contract_at rows (leg_at line.legs 1).row) - strike_of (contract_at rows (leg_at line.legs 0).row))
    * (security_at securities rows (leg_at line.legs 0).row).lot_size * (leg_at line.legs 0).lots)

-- term sale: the lesser of (S − T) × L × n, which is 0 where S is not above T, and n × the term guarantee
abbrev pub term_sale : List Security → List Row → Line → ℕ
term_sale securities rows line =
    min ((strike_of (contract_at rows (leg_at line.legs 0).row) - price_of (contract_at rows (leg_at line.legs 1).row))
    * (security_at securities rows (leg_at line.legs 0).row).lot_size * (leg_at line.legs 0).lots)
    ((leg_at line.legs 0).lots * guarantee_of (contract_at rows (leg_at line.legs 1).row))

-- the guarantee of each kind; bought butterflies and covered calls ask none
abbrev pub charge_by : Kind → (Quote → Option ℕ) → List Security → List Row → Line → ℕ
charge_by Opposed table securities rows line = opposed table securities rows line
charge_by BoughtButterfly table securities rows line = 0
charge_by SoldButterfly table securities rows line = sold_butterfly securities rows line
charge_by SoldCone table securities rows line = sold_cone table securities rows line
charge_by Covered table securities rows line = 0
charge_by TermPurchase table securities rows line = term_purchase securities rows line
charge_by TermSale table securities rows line = term_sale securities rows line

abbrev pub charge : (Quote → Option ℕ) → List Security → List Row → Line → ℕ
charge table securities rows line = charge_by line.kind table securities rows line
