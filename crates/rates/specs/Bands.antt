-- What a table of bands says, read line by line.
use Rattle.std.specs.Prelude.{ℕ, ◌*◌, Bool, true, cond, List, [], ◌∷◌, Some, None, Option}
use Rattle.rates.specs.declared.rate_book.Quote.{Quote}
use Rattle.rates.specs.declared.bands.Moneyness.{Moneyness}
use Rattle.rates.specs.declared.bands.Moneyness.TheVariants.{AtLeast, Over, AtMost, Under, Any}
use Rattle.rates.specs.declared.bands.Share.{Share}
use Rattle.rates.specs.declared.bands.Share.TheVariants.{OfStrike, OfClose}
use Rattle.rates.specs.declared.bands.Band.{Band}
use Rattle.rates.specs.Scale.{◌≥?◌, ◌>?◌, ◌≤?◌, ◌<?◌, percent_of}

-- the strike S stands so to a percentage of the closing price P
abbrev pub holds : Moneyness → ℕ → ℕ → Bool
holds (AtLeast percent) S P = 100 * S ≥? percent * P
holds (Over percent) S P = 100 * S >? percent * P
holds (AtMost percent) S P = 100 * S ≤? percent * P
holds (Under percent) S P = 100 * S <? percent * P
holds Any S P = true

-- so many per cent of one of the quote's prices, times the lot size
abbrev pub share_of : Share → Quote → ℕ
share_of (OfStrike percent) q = percent_of percent q.strike q.lot
share_of (OfClose percent) q = percent_of percent q.close q.lot

-- the band applies to the quote
abbrev pub applies : Band → Quote → Bool
applies band q = holds band.strike q.strike q.close

-- the floor of the first band that applies
abbrev pub first_floor : List Band → Quote → Option ℕ
first_floor [] q = None
first_floor (band ∷ bands) q = cond (applies band q) (Some (share_of band.floor q)) (first_floor bands q)
