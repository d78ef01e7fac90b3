-- Rounding up to the centavo.
use Rattle.std.specs.Prelude.{ℕ, ◌+◌, ◌*◌, ◌/◌, ◌≤◌}

-- so many hundredths of a centavo, rounded up to the centavo
abbrev pub rounded_up : ℕ → ℕ
rounded_up hundredths = (hundredths + 99) / 100

-- the least number of centavos that is not below so many hundredths
pub record RoundsUp (hundredths centavos : ℕ) : Type 0 where
  pub enough : hundredths ≤ 100 * centavos
  pub least : (fewer : ℕ) → hundredths ≤ 100 * fewer → centavos ≤ fewer
