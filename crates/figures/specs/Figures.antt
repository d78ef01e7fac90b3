-- The worked figures that are proved: each follows from the definitions of the rates.
use Rattle.std.specs.Prelude.{◌≡◌, ℕ, List, [], ◌∷◌, map, Some, Option}
use Rattle.terms.specs.declared.OptionType.{OptionType}
use Rattle.terms.specs.declared.OptionType.TheVariants.{Call, Put}
use Rattle.rates.specs.declared.rate_book.Quote.{Quote}
use Rattle.rates.specs.Scale.{scale_rate}
use Rattle.rates.specs.Surcharged.{surcharged}

-- what is asked: a rate of the scale by option type, strike, premium, closing price and lot size,
-- or an amount under a surcharge of so many per cent
pub data Question : Type 0 where
  scale : (option : OptionType) (strike premium close lot : ℕ) → Question
  surcharge : (percent amount : ℕ) → Question

pub record Figure : Type 0 where
  pub question : Question
  pub amount : ℕ

abbrev is : Question → ℕ → Figure
is question amount = record { question = question; amount = amount }

abbrev quoted : OptionType → ℕ → ℕ → ℕ → ℕ → Quote
quoted option strike premium close lot =
    record { row = 0; security = 0; option = option; strike = strike; premium = premium; close = close; lot = lot }

-- what the definitions answer
abbrev pub answer : Question → Option ℕ
answer (scale option strike premium close lot) = scale_rate (quoted option strike premium close lot)
answer (surcharge percent amount) = surcharged (percent ∷ []) 0 (Some amount)

abbrev pub figures : List Figure
figures =
    is (scale Call 1150 5 1000 100) 2000
    ∷ is (scale Call 1149 5 1000 100) 5000
    ∷ is (scale Call 1100 5 1000 100) 10000
    ∷ is (scale Put 850 5 1000 100) 1700
    ∷ is (scale Put 851 5 1000 100) 4255
    ∷ is (scale Call 1001 0 1001 1) 101
    ∷ is (surcharge 25 9990) 12488
    ∷ []

-- each question has its figure for an answer
abbrev pub Follow : List Figure → Type 0
Follow table = map (λ f. answer f.question) table ≡ map (λ f. Some f.amount) table
