-- The denial of a surcharge.
use Rattle.std.specs.Prelude.{◌≡◌, ℕ, List, ◌++◌, codes, decimal}
use Rattle.terms.specs.declared.denial.Layer.{Layer}
use Rattle.terms.specs.declared.denial.Layer.TheVariants.{Book}
use Rattle.terms.specs.declared.denial.Place.{Place}
use Rattle.terms.specs.declared.denial.Place.TheVariants.{Number}
use Rattle.rates.specs.declared.surcharge.PercentageAbove100.{PercentageAbove100}
use Rattle.rates.specs.Percentages.{FirstUnfair}

abbrev pub percentage_layer : PercentageAbove100 → Layer
percentage_layer fault = Book

abbrev pub percentage_number : PercentageAbove100 → ℕ
percentage_number fault = 2

abbrev pub percentage_place : PercentageAbove100 → Place
percentage_place fault = Number fault.security

-- the reason in words
abbrev pub percentage_text : PercentageAbove100 → List ℕ
percentage_text fault = codes "the percentage of security " ++ (decimal fault.security ++ codes " is above 100")

-- by 2, at the first security whose percentage is above 100
pub record Denied (percents : List ℕ) (fault : PercentageAbove100) : Type 0 where
  pub layer : percentage_layer fault ≡ Book
  pub number : percentage_number fault ≡ 2
  pub place : percentage_place fault ≡ Number fault.security
  pub first : FirstUnfair percents fault.security
