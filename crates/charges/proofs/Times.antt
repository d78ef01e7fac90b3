-- A product is the larger where its factor is.
use Rattle.std.specs.Prelude.{max}
use Rattle.std.proofs.Common.{◌≡◌, ℕ, ◌*◌, arith}

pub mul_max : (n a b : ℕ) → n * max a b ≡ max (n * a) (n * b)
mul_max n a b = grind arith
