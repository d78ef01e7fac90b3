-- The table of the rate book that is asked at present.
use Rattle.std.specs.Prelude.{ℕ, List, [], ◌∷◌, vec_items, fold, Option}
use Rattle.rates.specs.declared.percentages.Percentages.{Percentages}
use Rattle.rates.specs.declared.rate_book.Quote.{Quote}
use Rattle.rates.specs.Table.{Capped}
use Rattle.rates.specs.Scale.{scale_rate}
use Rattle.rates.specs.Ceilings.{scale-capped}
use Rattle.rates.specs.Published.{published_rate, published-capped}
use Rattle.rates.specs.Surcharged.{surcharged, surcharged-capped}
use Rattle.desk.specs.declared.present.Base.{Base}
use Rattle.desk.specs.declared.present.Base.TheVariants.{Scale, List as Listed}
use Rattle.desk.specs.declared.present.PresentRates.{PresentRates}

-- a table with a surcharge on each of its amounts
abbrev pub surcharged_rate : List ℕ → (Quote → Option ℕ) → Quote → Option ℕ
surcharged_rate percents table q = surcharged percents q.security (table q)

-- the scale, or the published list
abbrev pub base_rate : Base → Quote → Option ℕ
base_rate (Scale scale) q = scale_rate q
base_rate (Listed amounts) q = published_rate (vec_items amounts) q.row

-- an amount after one surcharge more
abbrev pub raised_by : ℕ → Option ℕ → Percentages → Option ℕ
raised_by security amount percentages = surcharged percentages.each security amount

-- an amount after all surcharges, the first of them first
abbrev pub stacked : List Percentages → ℕ → Option ℕ → Option ℕ
stacked surcharges security amount = fold (raised_by security) amount surcharges

abbrev pub present_rate : PresentRates → Quote → Option ℕ
present_rate present q = stacked (vec_items present.surcharges) q.security (base_rate present.base q)

pub base-capped : (base : Base) (q : Quote) → Capped (base_rate base q)
base-capped (Scale scale) q = scale-capped q
base-capped (Listed amounts) q = published-capped (vec_items amounts) q.row

stacked-capped : (surcharges : List Percentages) (security : ℕ) (amount : Option ℕ) → Capped amount → Capped (stacked surcharges security amount)
stacked-capped [] security amount h = h
stacked-capped (p ∷ ps) security amount h =
    stacked-capped ps security (raised_by security amount p) (surcharged-capped p.each security amount)

pub present-capped : (present : PresentRates) (q : Quote) → Capped (present_rate present q)
present-capped present q =
    stacked-capped (vec_items present.surcharges) q.security (base_rate present.base q) (base-capped present.base q)
