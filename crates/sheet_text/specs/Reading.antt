-- The reading of a text, record by record, to its lines or to its first fault.
use Rattle.std.specs.Prelude.{◌≡◌, ℕ, zero, suc, ◌+◌, ◌≤◌, min, Bool, true, false, cond, List, [], ◌∷◌, ◌++◌, length, take, drop, Some, None, Ok, Err, Option, Result, ◌==◌, nat_lt}
use Rattle.std.specs.List.{between}
use Rattle.terms.specs.Limits.{is_day, most_lines}
use Rattle.terms.specs.declared.strategy.Kind.{Kind}
use Rattle.terms.specs.declared.strategy.Leg.{Leg}
use Rattle.terms.specs.declared.strategy.Line.{Line}
use Rattle.sheet_text.specs.declared.reader.State.{State}
use Rattle.sheet_text.specs.declared.reader.State.TheVariants as state
use Rattle.sheet_text.specs.Brought.{Brought}
use Rattle.sheet_text.specs.Brought as step
use Rattle.sheet_text.specs.declared.fault.TextFault.{TextFault}
use Rattle.sheet_text.specs.declared.fault.TextFault.TheVariants.{DayOutsideLimits, TooManyLines, IllFormed, OutOfTurn, Differs}
use Rattle.sheet_text.specs.Columns.{blank, field_of}
use Rattle.sheet_text.specs.Records.{Shape, head, strategy, trailer, record_of}

-- one reading after another, up to the first fault
abbrev pub and_then : {A B E : Type 0} → Result A E → (A → Result B E) → Result B E
and_then (Ok x) f = f x
and_then (Err e) f = Err e

-- a used leg at `at`, from the numbers of its row and its lots
abbrev pub leg_from : ℕ → Option ℕ → Option ℕ → Result Leg TextFault
leg_from at None lots = Err (IllFormed at)
leg_from at (Some r) None = Err (IllFormed (at + 3))
leg_from at (Some r) (Some n) = cond (nat_lt 0 n) (Ok (record { row = r; lots = n })) (Err (IllFormed (at + 3)))

-- the leg in nine columns at `at`: unused where all are spaces
abbrev pub leg_of : ℕ → List ℕ → Result Leg TextFault
leg_of at f = cond (blank f) (Ok (record { row = 0; lots = 0 })) (leg_from at (field_of (take 3 f)) (field_of (between 3 9 f)))

-- the strategy of a record at `at`, leg after leg
abbrev pub line_of : ℕ → Kind → List ℕ → List ℕ → List ℕ → List ℕ → Result Line TextFault
line_of at k f g h i =
    and_then (leg_of (at + 1) f) (λ a.
    and_then (leg_of (at + 10) g) (λ b.
    and_then (leg_of (at + 19) h) (λ c.
    and_then (leg_of (at + 28) i) (λ d.
    Ok (record { kind = k; legs = a ∷ b ∷ c ∷ d ∷ [] })))))

-- a head or a trailer at `at`: its number, then whether spaces follow, then whether n is its number
abbrev pub count_is : {A : Type 0} → ℕ → ℕ → Option ℕ → Bool → A → Result A TextFault
count_is at n None b s = Err (IllFormed (at + 1))
count_is at n (Some m) false s = Err (IllFormed (at + 9))
count_is at n (Some m) true s = cond (m == n) (Ok s) (Err (Differs (at + 1)))

-- a strategy brings its line
abbrev pub found : Result Line TextFault → Result Brought TextFault
found (Ok l) = Ok (step.Found l)
found (Err e) = Err e

-- what a record brings by what may come next, where n lines are found and there is room for `room`
abbrev pub turned : ℕ → ℕ → ℕ → ℕ → State → Shape → Result Brought TextFault
turned day room n at state.Head (head f b) = count_is at day (field_of f) (blank b) step.Opened
turned day room n at state.Head (strategy k f g h i) = Err (OutOfTurn at)
turned day room n at state.Head (trailer f b) = Err (OutOfTurn at)
turned day room n at state.Strategies (head f b) = Err (OutOfTurn at)
turned day room n at state.Strategies (strategy k f g h i) = cond (nat_lt n room) (found (line_of at k f g h i)) (Err (TooManyLines room))
turned day room n at state.Strategies (trailer f b) = count_is at n (field_of f) (blank b) step.Closed
turned day room n at state.End (head f b) = Err (OutOfTurn at)
turned day room n at state.End (strategy k f g h i) = Err (OutOfTurn at)
turned day room n at state.End (trailer f b) = Err (OutOfTurn at)

-- the same of what is left of the text
abbrev pub step_of : ℕ → ℕ → ℕ → ℕ → State → List ℕ → Result Brought TextFault
step_of day room n at st bs = and_then (record_of at bs) (turned day room n at st)

-- what may come after a record
abbrev pub next_state : State → Brought → State
next_state s step.Opened = state.Strategies
next_state s (step.Found l) = s
next_state s step.Closed = state.End

-- the lines that are found after a record
abbrev pub kept : List Line → Brought → List Line
kept ls step.Opened = ls
kept ls (step.Found l) = ls ++ (l ∷ [])
kept ls step.Closed = ls

-- how many records are read at most, where n lines are found
abbrev pub taken : State → ℕ → ℕ
taken state.Head n = n
taken state.Strategies n = n + 1
taken state.End n = n + 2

-- where the text ends: lawful only after the trailer
abbrev pub ended : State → ℕ → List Line → Result (List Line) TextFault
ended state.Head at ls = Err (OutOfTurn at)
ended state.Strategies at ls = Err (OutOfTurn at)
ended state.End at ls = Ok ls

-- the reading of what is left of the text, from `at` on; k is at least the number of its records
abbrev pub run : ℕ → ℕ → ℕ → ℕ → State → List Line → List ℕ → Result (List Line) TextFault
run k day room at st ls [] = ended st at ls
run zero day room at st ls (b ∷ bs) = Err (OutOfTurn at)
run (suc k) day room at st ls (b ∷ bs) =
    and_then (step_of day room (length ls) at st (b ∷ bs)) (λ s.
    run k day room (at + 38) (next_state st s) (kept ls s) (drop 38 (b ∷ bs)))

-- the reading of a whole text
abbrev pub reads : ℕ → ℕ → List ℕ → Result (List Line) TextFault
reads day room text = run (length text) day room 0 state.Head [] text

-- the day is tested first; there is room for as many lines as the list has entries, and for 64 at most
abbrev pub reads_all : ℕ → ℕ → List ℕ → Result (List Line) TextFault
reads_all day entries text = cond (is_day day) (reads day (min entries most_lines) text) (Err DayOutsideLimits)

-- the count of the lines that are read, which are the front of the new list, or the first fault; the rest of the old list stays
abbrev pub ReadIs : ℕ → List ℕ → List Line → List Line → Result ℕ TextFault → Type 0
ReadIs day text old new (Ok n) = (reads_all day (length old) text ≡ Ok (take n new)) × (n ≤ min (length old) most_lines) × (drop n new ≡ drop n old)
ReadIs day text old new (Err e) = (reads_all day (length old) text ≡ Err e) × (new ≡ old)
