-- The exchange's scale: what one uncovered written lot asks for, by how far its strike lies from the closing price.
use Rattle.std.specs.Prelude.{ℕ, ◌*◌, max, Bool, cond, ◌&&◌, List, [], ◌∷◌, Some, None, Option, nat_le, nat_lt}
use Rattle.terms.specs.declared.OptionType.{OptionType}
use Rattle.terms.specs.declared.OptionType.TheVariants.{Call, Put}
use Rattle.terms.specs.Limits.{is_price, is_premium, is_lot_size}
use Rattle.rates.specs.declared.rate_book.Quote.{Quote}
use Rattle.rates.specs.Rounding.{rounded_up}

infix 50 ◌≥?◌ ◌>?◌ ◌≤?◌ ◌<?◌
abbrev pub ◌≥?◌ : ℕ → ℕ → Bool
a ≥? b = nat_le b a

abbrev pub ◌>?◌ : ℕ → ℕ → Bool
a >? b = nat_lt b a

abbrev pub ◌≤?◌ : ℕ → ℕ → Bool
a ≤? b = nat_le a b

abbrev pub ◌<?◌ : ℕ → ℕ → Bool
a <? b = nat_lt a b

-- so many per cent of a price times the lot size, rounded up to the centavo
abbrev pub percent_of : ℕ → ℕ → ℕ → ℕ
percent_of percent price lot = rounded_up (percent * price * lot)

-- the amount of the first line that applies, or the last amount where none does
abbrev pub first_that_applies : List (Bool × ℕ) → ℕ → ℕ
first_that_applies [] otherwise = otherwise
first_that_applies (line ∷ lines) otherwise = cond line.0 line.1 (first_that_applies lines otherwise)

-- the floor under a lot's rate; S is the strike, P the closing price
abbrev pub floor_of : OptionType → ℕ → ℕ → ℕ → ℕ
floor_of Call S P lot =
    first_that_applies
    ((100 * S ≥? 115 * P, percent_of 2 P lot)
    ∷ (100 * S >? 110 * P, percent_of 5 P lot)
    ∷ (S ≥? P, percent_of 10 P lot)
    ∷ [])
    (percent_of 10 S lot)
floor_of Put S P lot =
    first_that_applies
    ((100 * S ≤? 85 * P, percent_of 2 S lot)
    ∷ (100 * S <? 90 * P, percent_of 5 S lot)
    ∷ (S ≤? P, percent_of 10 S lot)
    ∷ [])
    (percent_of 10 P lot)

-- every figure of the quote is within its limits
abbrev pub is_admitted : Quote → Bool
is_admitted q = is_price q.strike && (is_premium q.premium && (is_price q.close && is_lot_size q.lot))

-- twice the premium times the lot size, or the floor where that is larger; no rate for a quote outside the limits
abbrev pub scale_rate : Quote → Option ℕ
scale_rate q =
    cond (is_admitted q)
    (Some (max (2 * q.premium * q.lot) (floor_of q.option q.strike q.close q.lot)))
    None
