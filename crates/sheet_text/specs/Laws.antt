-- What reading and writing say of the format: which texts are accepted, and that nothing is lost either way.
use Rattle.std.specs.Prelude.{◌≡◌, ℕ, ◌≤◌, min, true, List, length, take, drop, Ok, Err, Result}
use Rattle.std.specs.List.{AllByRecursion}
use Rattle.terms.specs.Limits.{is_day, most_lines}
use Rattle.terms.specs.declared.strategy.Line.{Line}
use Rattle.sheet_text.specs.declared.fault.TextFault.{TextFault}
use Rattle.sheet_text.specs.Sheet.{LineFits, render}
use Rattle.sheet_text.specs.Reading.{reads_all}
use Rattle.sheet_text.specs.Writing.{writes}

-- the text is the rendering of a day and of lines that fit the format, for which there is room
pub record Lawful (day room : ℕ) (lines : List Line) (text : List ℕ) : Type 0 where
  pub day_fits : is_day day ≡ true
  pub lines_fit : AllByRecursion LineFits lines
  pub few : length lines ≤ min room most_lines
  pub text_is : text ≡ render day lines

-- the list begins with the lines that the text renders, n of them, and goes on as before
pub record Taken (day : ℕ) (text : List ℕ) (old new : List Line) (n : ℕ) : Type 0 where
  pub lawful : Lawful day (length old) (take n new) text
  pub count : length (take n new) ≡ n
  pub kept : drop n new ≡ drop n old

-- an accepted text is lawful, and its lines are taken
abbrev pub Accepted : ℕ → List ℕ → List Line → List Line → Result ℕ TextFault → Type 0
Accepted day text old new (Ok n) = Taken day text old new n
Accepted day text old new (Err e) = Unit {0}

-- a refused text is the rendering of no such lines, and the list stays as it was
abbrev pub Refused : ℕ → List ℕ → List Line → List Line → Result ℕ TextFault → Type 0
Refused day text old new (Ok n) = Unit {0}
Refused day text old new (Err e) = ((lines : List Line) → Lawful day (length old) lines text → ⊥) × (new ≡ old)

-- the lines of an accepted text are written again, and as that text byte for byte
abbrev pub Again : ℕ → List ℕ → List Line → Result ℕ TextFault → Type 0
Again day text new (Ok n) = (writes day (take n new) (length text) ≡ Ok (length text)) × (render day (take n new) ≡ text)
Again day text new (Err e) = Unit {0}

-- what is written reads back as that day's lines, wherever there is room for them
abbrev pub Back : ℕ → List Line → List ℕ → Result ℕ TextFault → Type 0
Back day lines new (Ok n) = (room : ℕ) → length lines ≤ room → reads_all day room (take n new) ≡ Ok lines
Back day lines new (Err e) = Unit {0}

-- what is written is the rendering of no other day and of no other lines
abbrev pub Unique : ℕ → List Line → List ℕ → Result ℕ TextFault → Type 0
Unique day lines new (Ok n) = (other : ℕ) (others : List Line) → is_day other ≡ true → AllByRecursion LineFits others → take n new ≡ render other others → (other ≡ day) × (others ≡ lines)
Unique day lines new (Err e) = Unit {0}
