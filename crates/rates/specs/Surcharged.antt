-- The house surcharge: an amount raised by the percentage of its security.
use Rattle.std.specs.Prelude.{ℕ, ◌+◌, ◌*◌, min, List, Some, None, Option, slice_index}
use Rattle.std.proofs.Common.{arith}
use Rattle.terms.specs.Limits.{ceiling}
use Rattle.rates.specs.Rounding.{rounded_up}
use Rattle.rates.specs.Table.{Capped}

-- the percentage of a security, and 0 past the listed ones
abbrev pub percent_for : List ℕ → ℕ → ℕ
percent_for percents security = slice_index percents security

-- an amount with so many per cent more, rounded up to the centavo, or the ceiling where that is less
abbrev pub raised : ℕ → ℕ → ℕ
raised percent amount = min ceiling (rounded_up (amount * (100 + percent)))

-- the amount with the surcharge of its security; no rate where there is none to raise
abbrev pub surcharged : List ℕ → ℕ → Option ℕ → Option ℕ
surcharged percents security None = None
surcharged percents security (Some amount) = Some (raised (percent_for percents security) amount)

pub surcharged-capped : (percents : List ℕ) (security : ℕ) (amount : Option ℕ) → Capped (surcharged percents security amount)
surcharged-capped percents security None = tt
surcharged-capped percents security (Some amount) = omega arith
