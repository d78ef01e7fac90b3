-- The scale once more, in words that do not hang on the order of its lines.
use Rattle.std.specs.Prelude.{◌≡◌, ℕ, ◌*◌, ◌<◌, ◌≤◌}
use Rattle.terms.specs.declared.OptionType.TheVariants.{Call, Put}
use Rattle.rates.specs.Rounding.{rounded_up, RoundsUp}
use Rattle.rates.specs.Scale.{percent_of, floor_of}
use Rattle.rates.specs.Surcharged.{raised}

-- a call's floor: far above the closing price, above it, at or just above it, and below it
pub record CallFloor (S P lot : ℕ) : Type 0 where
  pub far : 115 * P ≤ 100 * S → floor_of Call S P lot ≡ percent_of 2 P lot
  pub out : 110 * P < 100 * S → 100 * S < 115 * P → floor_of Call S P lot ≡ percent_of 5 P lot
  pub near : P ≤ S → 100 * S ≤ 110 * P → floor_of Call S P lot ≡ percent_of 10 P lot
  pub inside : S < P → floor_of Call S P lot ≡ percent_of 10 S lot

-- a put's floor: far below the closing price, below it, at or just below it, and above it
pub record PutFloor (S P lot : ℕ) : Type 0 where
  pub far : 100 * S ≤ 85 * P → floor_of Put S P lot ≡ percent_of 2 S lot
  pub out : 85 * P < 100 * S → 100 * S < 90 * P → floor_of Put S P lot ≡ percent_of 5 S lot
  pub near : S ≤ P → 90 * P ≤ 100 * S → floor_of Put S P lot ≡ percent_of 10 S lot
  pub inside : P < S → floor_of Put S P lot ≡ percent_of 10 P lot

pub record Laws : Type 0 where
  -- rounding up gives the least number of centavos that suffices
  pub rounding : (hundredths : ℕ) → RoundsUp hundredths (rounded_up hundredths)
  pub calls : (S P lot : ℕ) → CallFloor S P lot
  pub puts : (S P lot : ℕ) → PutFloor S P lot
  -- a surcharge of nothing leaves an amount, and none lowers it
  pub nothing : (amount : ℕ) → amount ≤ 1000000000000 → raised 0 amount ≡ amount
  pub raises : (percent amount : ℕ) → amount ≤ 1000000000000 → amount ≤ raised percent amount
