-- What may be written, and what is written.
use Rattle.std.specs.Prelude.{◌≡◌, ℕ, ◌+◌, ◌*◌, ◌<◌, ◌≤◌, Bool, true, false, cond, List, [], ◌∷◌, ◌++◌, length, drop, Some, None, Ok, Err, Option, Result, ◌==◌, not, nat_le, nat_lt}
use Rattle.std.specs.List.{position, AllByRecursion}
use Rattle.terms.specs.Limits.{is_day, most_lines}
use Rattle.terms.specs.declared.strategy.Leg.{Leg}
use Rattle.terms.specs.declared.strategy.Line.{Line}
use Rattle.sheet_text.specs.declared.fault.TextFault.{TextFault}
use Rattle.sheet_text.specs.declared.fault.TextFault.TheVariants.{DayOutsideLimits, LegOutsideFormat, TooManyLines, BufferTooShort, BrokenRecord, UnknownLetter, IllFormed, OutOfTurn, Differs}
use Rattle.sheet_text.specs.Sheet.{LegFits, LineFits, render}
use Rattle.sheet_text.specs.Reading.{and_then}

-- a leg that its columns can show
abbrev pub leg_fits : Leg → Bool
leg_fits l = cond (nat_le l.row 999) (cond (nat_le l.lots 999999) (cond (nat_lt 0 l.lots) true (l.row == 0)) false) false

-- the place of the first leg that does not fit
abbrev pub unfit : List Leg → Option ℕ
unfit ls = position (λ l. not (leg_fits l)) ls

-- the fault of line i, if a leg of it does not fit, or else that of the lines after it
abbrev pub unfit_at : ℕ → Option ℕ → Result (Unit {0}) TextFault → Result (Unit {0}) TextFault
unfit_at i None rest = rest
unfit_at i (Some j) rest = Err (LegOutsideFormat i j)

-- the first fault of the lines from the i-th on
abbrev pub fit_of_lines : ℕ → List Line → Result (Unit {0}) TextFault
fit_of_lines i [] = Ok tt
fit_of_lines i (l ∷ ls) = unfit_at i (unfit l.legs) (fit_of_lines (i + 1) ls)

-- leg j of line i does not fit, and each leg and each line before it does
pub record FirstUnfit (lines : List Line) (i j : ℕ) : Type 0 where
  pub before : List Line
  pub line : Line
  pub after : List Line
  pub lines_are : lines ≡ before ++ (line ∷ after)
  pub line_at : length before ≡ i
  pub before_fit : AllByRecursion LineFits before
  pub first : List Leg
  pub leg : Leg
  pub more : List Leg
  pub legs_are : line.legs ≡ first ++ (leg ∷ more)
  pub at_leg : length first ≡ j
  pub first_fit : AllByRecursion LegFits first
  pub unfit_leg : LegFits leg → ⊥

-- lines without a fault fit, and the fault of others is that of their first unfit leg
abbrev pub AllFit : Result (Unit {0}) TextFault → List Line → Type 0
AllFit (Ok u) ls = AllByRecursion LineFits ls
AllFit (Err DayOutsideLimits) ls = ⊥
AllFit (Err (LegOutsideFormat i j)) ls = FirstUnfit ls i j
AllFit (Err (TooManyLines limit)) ls = ⊥
AllFit (Err (BufferTooShort needed)) ls = ⊥
AllFit (Err (BrokenRecord at)) ls = ⊥
AllFit (Err (UnknownLetter at)) ls = ⊥
AllFit (Err (IllFormed at)) ls = ⊥
AllFit (Err (OutOfTurn at)) ls = ⊥
AllFit (Err (Differs at)) ls = ⊥

-- how many bytes a sheet of n lines needs
abbrev pub bytes_for : ℕ → ℕ
bytes_for n = 38 * (n + 2)

-- the answer to a writing into `room` bytes: the day, the legs, the lines, the buffer
abbrev pub writes : ℕ → List Line → ℕ → Result ℕ TextFault
writes day lines room =
    cond (is_day day)
    (and_then (fit_of_lines 0 lines) (λ _.
    cond (nat_le (length lines) most_lines)
    (cond (nat_le (bytes_for (length lines)) room) (Ok (bytes_for (length lines))) (Err (BufferTooShort (bytes_for (length lines)))))
    (Err (TooManyLines most_lines))))
    (Err DayOutsideLimits)

-- a sheet that may be written, in n bytes
pub record Writable (day : ℕ) (lines : List Line) (room n : ℕ) : Type 0 where
  pub day_fits : is_day day ≡ true
  pub lines_fit : AllByRecursion LineFits lines
  pub few : length lines ≤ most_lines
  pub bytes : n ≡ bytes_for (length lines)
  pub space : n ≤ room

-- a sheet that is answered with its bytes may be written, and a denial tells the first of the tests in their order that it fails
abbrev pub Judged : ℕ → List Line → ℕ → Result ℕ TextFault → Type 0
Judged day lines room (Ok n) = Writable day lines room n
Judged day lines room (Err DayOutsideLimits) = is_day day ≡ false
Judged day lines room (Err (LegOutsideFormat i j)) = (is_day day ≡ true) × FirstUnfit lines i j
Judged day lines room (Err (TooManyLines limit)) = (is_day day ≡ true) × AllByRecursion LineFits lines × (limit ≡ most_lines) × (most_lines < length lines)
Judged day lines room (Err (BufferTooShort needed)) =
    (is_day day ≡ true) × AllByRecursion LineFits lines × (length lines ≤ most_lines) × (needed ≡ bytes_for (length lines)) × (room < needed)
Judged day lines room (Err (BrokenRecord at)) = ⊥
Judged day lines room (Err (UnknownLetter at)) = ⊥
Judged day lines room (Err (IllFormed at)) = ⊥
Judged day lines room (Err (OutOfTurn at)) = ⊥
Judged day lines room (Err (Differs at)) = ⊥

-- the answer, and the buffer: the rendering and past it what the buffer held, or the buffer as it was
abbrev pub WriteIs : ℕ → List Line → List ℕ → List ℕ → Result ℕ TextFault → Type 0
WriteIs day lines old new (Ok n) = (writes day lines (length old) ≡ Ok n) × (new ≡ render day lines ++ drop n old)
WriteIs day lines old new (Err e) = (writes day lines (length old) ≡ Err e) × (new ≡ old)
