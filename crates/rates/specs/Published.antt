-- The published list: amounts by row number.
use Rattle.std.specs.Prelude.{ℕ, cond, List, Some, None, Option, slice_index}
use Rattle.std.proofs.Common.{arith}
use Rattle.std.proofs.lemmas.Bool.Decides.{nat_tests}
use Rattle.terms.specs.Limits.{ceiling, within}
use Rattle.rates.specs.Table.{Capped, capped-where}

-- an entry as a rate: 0 and an amount above the ceiling are none
abbrev pub entry_rate : ℕ → Option ℕ
entry_rate amount = cond (within 1 ceiling amount) (Some amount) None

-- the entry of the row; a missing one counts as 0
abbrev pub published_rate : List ℕ → ℕ → Option ℕ
published_rate amounts row = entry_rate (slice_index amounts row)

pub published-capped : (amounts : List ℕ) (row : ℕ) → Capped (published_rate amounts row)
published-capped amounts row = capped-where (within 1 ceiling (slice_index amounts row)) _ (λ e. grind (arith, nat_tests))
