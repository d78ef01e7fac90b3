-- Surcharges on no rate, and one surcharge more.
use Rattle.std.proofs.Common.{◌≡◌, ℕ, List, [], ◌∷◌, ◌++◌, None, Option, refl}
use Rattle.rates.specs.declared.percentages.Percentages.{Percentages}
use Rattle.desk.specs.Present.{raised_by, stacked}

pub stacked_none : (surcharges : List Percentages) (security : ℕ) → stacked surcharges security None ≡ None
stacked_none [] security = refl
stacked_none (p ∷ ps) security = stacked_none ps security

pub stacked_push : (surcharges : List Percentages) (p : Percentages) (security : ℕ) (amount : Option ℕ) → stacked (surcharges ++ p ∷ []) security amount ≡ raised_by security (stacked surcharges security amount) p
stacked_push [] p security amount = refl
stacked_push (x ∷ xs) p security amount = stacked_push xs p security (raised_by security amount x)
