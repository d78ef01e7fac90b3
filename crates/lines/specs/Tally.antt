-- Sums of lots by row, for the rows 0 to 63.
use Rattle.std.specs.Prelude.{◌≡◌, ℕ, ◌+◌, ◌<◌, ◌≤◌, cond, List, [], ◌∷◌, length, Some, None, Option, slice_index_or}
use Rattle.terms.specs.Limits.{most_rows}
use Rattle.terms.specs.declared.holdings.Row.{Row}
use Rattle.terms.specs.declared.strategy.Line.{Line}
use Rattle.lines.specs.declared.lots.Lots.{Lots}
use Rattle.lines.specs.Lots.{held, written, fits, AtMost}

-- what a row has where there is none
abbrev pub no_lots : Lots
no_lots = record { held = 0; written = 0 }

-- the lots of a row
abbrev pub lots_at : List Lots → ℕ → Lots
lots_at sums row = slice_index_or sums row no_lots

-- no sum is above a bound
abbrev pub Below : ℕ → List Lots → Type 0
Below most sums = (r : ℕ) → AtMost most (lots_at sums r)

-- to the lots of each row its figures were added, none grew by more than so much, and there are as many as before
pub record Gains (sums sums' : List Lots) (holding writing : ℕ → ℕ) (most : ℕ) : Type 0 where
  pub held : (r : ℕ) → r < most_rows → (lots_at sums' r).held ≡ (lots_at sums r).held + holding r
  pub written : (r : ℕ) → r < most_rows → (lots_at sums' r).written ≡ (lots_at sums r).written + writing r
  pub held_most : (r : ℕ) → (lots_at sums' r).held ≤ (lots_at sums r).held + most
  pub written_most : (r : ℕ) → (lots_at sums' r).written ≤ (lots_at sums r).written + most
  pub size : length sums' ≡ length sums

-- the sums are the lots of each row that lines hold and write
pub record Tallies (lines : List Line) (sums : List Lots) : Type 0 where
  pub holding : (r : ℕ) → r < most_rows → (lots_at sums r).held ≡ held r lines
  pub writing : (r : ℕ) → r < most_rows → (lots_at sums r).written ≡ written r lines

-- the first row whose lots do not fit its net, the first of these rows having the number i
abbrev pub first_overdrawn : List Lots → ℕ → List Row → Option ℕ
first_overdrawn sums i [] = None
first_overdrawn sums i (row ∷ rows) =
    cond (fits row.net (lots_at sums i).held (lots_at sums i).written) (first_overdrawn sums (i + 1) rows) (Some i)
