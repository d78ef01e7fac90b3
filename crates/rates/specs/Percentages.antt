-- The percentages of a house surcharge, by security number.
use Rattle.std.specs.Prelude.{ℕ, ◌<◌, ◌≤◌, Bool, List, length, nat_le, slice_index}
use Rattle.std.specs.List.{list_all}

-- none is above 100
abbrev pub all_fair : List ℕ → Bool
all_fair percents = list_all (λ percent. nat_le percent 100) percents

-- the first that is above 100 is this security's
pub record FirstUnfair (percents : List ℕ) (security : ℕ) : Type 0 where
  pub listed : security < length percents
  pub above : 100 < slice_index percents security
  pub first : (k : ℕ) → k < security → slice_index percents k ≤ 100
