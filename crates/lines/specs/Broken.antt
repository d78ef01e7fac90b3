-- Which lines are broken.
use Rattle.std.specs.Prelude.{◌≡◌, ℕ, ◌+◌, ◌<◌, ◌≤◌, Bool, true, false, cond, not, ◌&&◌, List, [], ◌∷◌, ◌++◌, length, take, drop, ℤ, filter, nat_lt}
use Rattle.terms.specs.declared.strategy.Line.{Line}
use Rattle.lines.specs.Lots.{fitting, uses_any, uses, users}

-- the lines without the k highest-numbered of those that use the row: a user goes where fewer than k users stand after it
abbrev pub without : ℕ → ℕ → List Line → List Line
without k row [] = []
without k row (line ∷ lines) =
    cond (uses row line && nat_lt (users row lines) k) (without k row lines) (line ∷ without k row lines)

-- k lines were broken, since the row's net is now this one: the highest-numbered users of the row, and no more of them than
-- it takes for the lots that are left to fit
pub record Broken (row : ℕ) (net : ℤ) (lines : List Line) (k : ℕ) (left : List Line) : Type 0 where
  pub rest : left ≡ without k row lines
  pub count : length left + k ≡ length lines
  pub fits : fitting row net left ≡ true
  pub least : (j : ℕ) → j < k → fitting row net (without j row lines) ≡ false

-- the lines that use no row of the set
abbrev pub sparing : (ℕ → Bool) → List Line → List Line
sparing has lines = filter (λ line. not (uses_any has line)) lines

-- the first n lines are the longest front whose lots of the row fit
pub record Front (row : ℕ) (net : ℤ) (lines : List Line) (n : ℕ) : Type 0 where
  pub within : n ≤ length lines
  pub fits : fitting row net (take n lines) ≡ true
  pub stops : n < length lines → fitting row net (take (n + 1) lines) ≡ false

-- the first n lines, and of the others those that use no row of the set
abbrev pub sparing_from : ℕ → (ℕ → Bool) → List Line → List Line
sparing_from n has lines = take n lines ++ sparing has (drop n lines)
