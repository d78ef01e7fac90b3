-- What a denial tells of a text: what stands before its place is lawful, and what stands there fails that test as the first.
use Rattle.std.specs.Prelude.{◌≡◌, ℕ, ◌+◌, ◌^◌, ◌<◌, ◌≤◌, min, true, false, ◌⊎◌, List, [], ◌++◌, length, take, replicate, Ok, Err, Result, ◌≢◌, slice_index, slice_index_or}
use Rattle.std.specs.List.{between, flat_map, AllByRecursion}
use Rattle.terms.specs.Limits.{is_day, most_lines}
use Rattle.terms.specs.declared.strategy.Kind.{Kind}
use Rattle.terms.specs.declared.strategy.Leg.{Leg}
use Rattle.terms.specs.declared.strategy.Line.{Line}
use Rattle.sheet_text.specs.declared.letters.Sort.{Sort}
use Rattle.sheet_text.specs.declared.letters.Sort.TheVariants as sort
use Rattle.sheet_text.specs.declared.fault.TextFault.{TextFault}
use Rattle.sheet_text.specs.declared.fault.TextFault.TheVariants.{DayOutsideLimits, LegOutsideFormat, TooManyLines, BufferTooShort, BrokenRecord, UnknownLetter, IllFormed, OutOfTurn, Differs}
use Rattle.sheet_text.specs.Columns.{column}
use Rattle.sheet_text.specs.Letters.{sort_letter}
use Rattle.sheet_text.specs.Sheet.{LegFits, LineFits, head_text, leg_text, line_text, render}

-- what stands before a record of a lawful sheet: nothing, its head and some lines, or all of it
pub data Before : Type 0 where
  nothing : Before
  begun : List Line → Before
  whole : List Line → Before

-- the bytes of that
abbrev pub bytes_of : ℕ → Before → List ℕ
bytes_of day nothing = []
bytes_of day (begun lines) = head_text day ++ flat_map line_text lines
bytes_of day (whole lines) = render day lines

-- the lines of that
abbrev pub lines_of : Before → List Line
lines_of nothing = []
lines_of (begun lines) = lines
lines_of (whole lines) = lines

-- a record may come next: the head first, then strategies or the trailer, and nothing after it
abbrev pub Due : Before → Sort → Type 0
Due nothing sort.Head = Unit {0}
Due nothing (sort.Strategy k) = ⊥
Due nothing sort.Trailer = ⊥
Due (begun lines) sort.Head = ⊥
Due (begun lines) (sort.Strategy k) = Unit {0}
Due (begun lines) sort.Trailer = Unit {0}
Due (whole lines) s = ⊥

-- the number that a head or a trailer should show: the day, or how many lines there are
abbrev pub expected : ℕ → Before → ℕ
expected day nothing = day
expected day (begun lines) = length lines
expected day (whole lines) = length lines

-- the text may end only after a whole sheet
abbrev pub Unfinished : Before → Type 0
Unfinished nothing = Unit {0}
Unfinished (begun lines) = Unit {0}
Unfinished (whole lines) = ⊥

-- a record is whole: 38 bytes, the last a line feed
pub record Unbroken (bs : List ℕ) : Type 0 where
  pub long : 38 ≤ length bs
  pub line_feed : slice_index_or bs 37 0 ≡ 10

-- a field is the number n in w columns
pub record Shows (w : ℕ) (f : List ℕ) (n : ℕ) : Type 0 where
  pub fits : n < 10 ^ w
  pub is : f ≡ column w n

-- a field is no number in w columns
abbrev pub ShowsNone : ℕ → List ℕ → Type 0
ShowsNone w f = (n : ℕ) → Shows w f n → ⊥

-- nine columns are a leg's
abbrev pub LegShown : List ℕ → Type 0
LegShown f = (l : Leg) × LegFits l × (f ≡ leg_text l)

-- of nine columns at `at` that are not all spaces, the row is no number, or it is and the lots are no number from 1
abbrev pub LegIll : ℕ → List ℕ → ℕ → Type 0
LegIll at f p =
    (f ≢ replicate 9 32)
    × (((p ≡ at) × ShowsNone 3 (take 3 f))
    ⊎ ((p ≡ at + 3) × ((row : ℕ) × Shows 3 (take 3 f) row) × ((lots : ℕ) → 0 < lots → Shows 6 (between 3 9 f) lots → ⊥)))

-- the nine columns at `at` are the first that are ill-formed, or they are a leg and it is among those after them
abbrev pub FirstIll : ℕ → List ℕ → ℕ → Type 0 → Type 0
FirstIll at f p After = LegIll at f p ⊎ (LegShown f × After)

-- of a head or a trailer the number is none, or it is one and spaces do not follow
abbrev pub CountIll : ℕ → List ℕ → ℕ → Type 0
CountIll at bs p =
    ((p ≡ at + 1) × ShowsNone 8 (between 1 9 bs))
    ⊎ ((p ≡ at + 9) × ((n : ℕ) × Shows 8 (between 1 9 bs) n) × (between 9 37 bs ≢ replicate 28 32))

-- p is the place of the first ill-formed field of a record at `at`
abbrev pub IllBy : ℕ → Sort → List ℕ → ℕ → Type 0
IllBy at sort.Head bs p = CountIll at bs p
IllBy at (sort.Strategy k) bs p = FirstIll (at + 1) (between 1 10 bs) p (FirstIll (at + 10) (between 10 19 bs) p (FirstIll (at + 19) (between 19 28 bs) p (FirstIll (at + 28) (between 28 37 bs) p ⊥)))
IllBy at sort.Trailer bs p = CountIll at bs p

-- a head or a trailer is well-formed, and its number is not n
abbrev pub CountDiffers : Sort → ℕ → List ℕ → Type 0
CountDiffers sort.Head n bs = ((m : ℕ) × Shows 8 (between 1 9 bs) m × (m ≢ n)) × (between 9 37 bs ≡ replicate 28 32)
CountDiffers (sort.Strategy k) n bs = ⊥
CountDiffers sort.Trailer n bs = ((m : ℕ) × Shows 8 (between 1 9 bs) m × (m ≢ n)) × (between 9 37 bs ≡ replicate 28 32)

-- a strategy has room
abbrev pub HasRoom : Sort → ℕ → ℕ → Type 0
HasRoom sort.Head n room = Unit {0}
HasRoom (sort.Strategy k) n room = n < room
HasRoom sort.Trailer n room = Unit {0}

-- an unbroken record whose letter stands for s, and which may come next
pub record InTurn (before : Before) (bs : List ℕ) (s : Sort) : Type 0 where
  pub unbroken : Unbroken bs
  pub letter : slice_index_or bs 0 0 ≡ sort_letter s
  pub due : Due before s

-- the fault of what stands at `at`, by the first of the tests in their order that it fails
abbrev pub Here : ℕ → ℕ → ℕ → Before → List ℕ → TextFault → Type 0
Here day room at before bs DayOutsideLimits = ⊥
Here day room at before bs (LegOutsideFormat line leg) = ⊥
Here day room at before bs (BufferTooShort needed) = ⊥
Here day room at before bs (BrokenRecord p) = (p ≡ at) × (0 < length bs) × (Unbroken bs → ⊥)
Here day room at before bs (UnknownLetter p) = (p ≡ at) × Unbroken bs × ((s : Sort) → slice_index bs 0 ≢ sort_letter s)
Here day room at before bs (OutOfTurn p) =
    (p ≡ at) × (((bs ≡ []) × Unfinished before) ⊎ (Unbroken bs × ((s : Sort) × (slice_index bs 0 ≡ sort_letter s) × (Due before s → ⊥))))
Here day room at before bs (TooManyLines limit) = (limit ≡ room) × (room ≤ length (lines_of before)) × ((k : Kind) × InTurn before bs (sort.Strategy k))
Here day room at before bs (IllFormed p) = (s : Sort) × InTurn before bs s × HasRoom s (length (lines_of before)) room × IllBy at s bs p
Here day room at before bs (Differs p) = (p ≡ at + 1) × ((s : Sort) × InTurn before bs s × CountDiffers s (expected day before) bs)

-- the text is the beginning of a lawful sheet of that day, with lines for which there is room, and then what has the fault
pub record Place (day room : ℕ) (text : List ℕ) (fault : TextFault) : Type 0 where
  pub before : Before
  pub left : List ℕ
  pub text_is : text ≡ bytes_of day before ++ left
  pub lines_fit : AllByRecursion LineFits (lines_of before)
  pub few : length (lines_of before) ≤ room
  pub here : Here day room (length (bytes_of day before)) before left fault

-- a denial tells that the day is outside its limits, or the place of the first fault of the text
abbrev pub Told : ℕ → List ℕ → List Line → Result ℕ TextFault → Type 0
Told day text old (Ok n) = Unit {0}
Told day text old (Err fault) = ((is_day day ≡ false) × (fault ≡ DayOutsideLimits)) ⊎ ((is_day day ≡ true) × Place day (min (length old) most_lines) text fault)
