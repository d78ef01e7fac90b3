-- What every entry of a rate book obeys.
use Rattle.std.specs.Prelude.{◌≡◌, ℕ, ◌≤◌, Bool, true, false, cond, Some, None, Option, refl}
use Rattle.terms.specs.Limits.{ceiling}

-- no rate, or an amount of at most the ceiling
abbrev pub Capped : Option ℕ → Type 0
Capped None = Unit {0}
Capped (Some amount) = amount ≤ ceiling

-- an amount that is given only where a test holds, and then is at most the ceiling
pub capped-where : (b : Bool) (amount : ℕ) → (b ≡ true → amount ≤ ceiling) → Capped (cond b (Some amount) None)
capped-where true amount h = h refl
capped-where false amount h = tt
