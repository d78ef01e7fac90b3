-- What a line of the journal says.
use Rattle.std.specs.Prelude.{◌≡◌, ℕ, ◌+◌, ◌-◌, Bool, cond, List, [], ◌∷◌, ◌++◌, length, drop, replicate, Some, None, Ok, Err, vec_items, codes, Option, Result, ◌==◌, nat_le, ⊤, slice_index, slice_index_or}
use Rattle.std.specs.Str.{bytes_eq}
use Rattle.std.specs.Option.{ok_or}
use Rattle.terms.specs.declared.OptionType.{OptionType}
use Rattle.terms.specs.declared.OptionType.TheVariants.{Call, Put}
use Rattle.rates.specs.declared.rate_book.Quote.{Quote}
use Rattle.journal.specs.Words.{words_of, number_of}
use Rattle.journal.specs.declared.words.NotNumber as words
use Rattle.journal.specs.declared.words.NotNumber.TheVariants as no_number
use Rattle.journal.specs.declared.command.Command.{Command}
use Rattle.journal.specs.declared.command.Command.TheVariants as code
use Rattle.journal.specs.declared.command.SheetFile.{SheetFile}
use Rattle.journal.specs.declared.command.Unreadable.{Unreadable}
use Rattle.journal.specs.declared.command.Unreadable.TheVariants.{UnknownCommand, WordCount, NoSuchRates, NotNumber, TooManyDigits, NotOptionType}
use Rattle.journal.specs.declared.command.ReadError.{ReadError}
use Rattle.journal.specs.declared.command.ReadError.TheVariants as read_error

-- a command, with what it lists as a plain list
pub data Order : Type 0 where
  rates_scale : Order
  rates_list : List ℕ → Order
  surcharge : List ℕ → Order
  rate : Quote → Order
  check : (day : ℕ) (file : List ℕ) → Order
  copy : (day : ℕ) (file : List ℕ) → Order

-- a word is a keyword
unfoldable pub spells : List ℕ → List ℕ → Bool
spells word keyword = bytes_eq word keyword

-- what is read next, unless a fault was found
abbrev pub next : {X Y : Type 0} → Result X Unreadable → (X → Result Y Unreadable) → Result Y Unreadable
next (Ok x) then = then x
next (Err fault) then = Err fault

-- what is wrong with a number, and where
abbrev pub fault_at : ℕ → words.NotNumber → Unreadable
fault_at k no_number.NotDigits = NotNumber k
fault_at k no_number.TooManyDigits = TooManyDigits k

-- a number that was read at index k
abbrev pub placed : ℕ → Result ℕ words.NotNumber → Result ℕ Unreadable
placed k (Ok n) = Ok n
placed k (Err fault) = Err (fault_at k fault)

-- the number at index k
unfoldable pub number_at : List (List ℕ) → ℕ → Result ℕ Unreadable
number_at line k = placed k (number_of (slice_index_or line k []))

-- the numbers that these words write, the first of which stands at index k
abbrev pub numbers_at : ℕ → List (List ℕ) → Result (List ℕ) Unreadable
numbers_at k [] = Ok []
numbers_at k (word ∷ line) =
    next (placed k (number_of word)) (λ n.
    next (numbers_at (k + 1) line) (λ ns. Ok (n ∷ ns)))

-- the numbers from index k on
unfoldable pub numbers_from : List (List ℕ) → ℕ → Result (List ℕ) Unreadable
numbers_from line k = numbers_at k (drop k line)

-- nothing, where the line has n words
unfoldable pub has_count : List (List ℕ) → ℕ → Result (Unit {0}) Unreadable
has_count line n = cond (length line == n) (Ok tt) (Err WordCount)

-- the option type that a word names
abbrev pub option_of : List ℕ → Option OptionType
option_of word =
    cond (spells word (codes "call")) (Some Call)
    (cond (spells word (codes "put")) (Some Put) None)

-- the option type at index k
unfoldable pub option_at : List (List ℕ) → ℕ → Result OptionType Unreadable
option_at line k = ok_or (option_of (slice_index_or line k [])) (NotOptionType k)

-- `rates scale`
abbrev pub rates_scale_of : List (List ℕ) → Result Order Unreadable
rates_scale_of line = next (has_count line 2) (λ _. Ok rates_scale)

-- `rates list A B ..`
abbrev pub rates_list_of : List (List ℕ) → Result Order Unreadable
rates_list_of line = next (numbers_from line 2) (λ amounts. Ok (rates_list amounts))

-- the rest of `rates`, by its second word
abbrev pub rates_by : List ℕ → List (List ℕ) → Result Order Unreadable
rates_by source line =
    cond (spells source (codes "scale")) (rates_scale_of line)
    (cond (spells source (codes "list")) (rates_list_of line) (Err NoSuchRates))

-- `rates`: its second word is tested before the count of words
unfoldable pub rates_of : List (List ℕ) → Result Order Unreadable
rates_of line = rates_by (slice_index_or line 1 []) line

-- `surcharge P0 P1 ..`: 16 numbers, 0 where none is given
unfoldable pub surcharge_of : List (List ℕ) → Result Order Unreadable
surcharge_of line =
    cond (nat_le (length line) 17)
    (next (numbers_from line 1) (λ ns. Ok (surcharge (ns ++ replicate (16 - length ns) 0))))
    (Err WordCount)

-- `rate ROW SECURITY call STRIKE PREMIUM CLOSE LOT`, or `put`
abbrev pub rate_of : List (List ℕ) → Result Order Unreadable
rate_of line =
    next (has_count line 8) (λ _.
    next (number_at line 1) (λ row.
    next (number_at line 2) (λ security.
    next (option_at line 3) (λ option.
    next (number_at line 4) (λ strike.
    next (number_at line 5) (λ premium.
    next (number_at line 6) (λ close.
    next (number_at line 7) (λ lot.
    Ok (rate (record { row = row; security = security; option = option; strike = strike; premium = premium; close = close; lot = lot }))))))))))

-- the day of `check DAY FILE` and `copy DAY FILE`
abbrev pub sheet_day_of : List (List ℕ) → Result ℕ Unreadable
sheet_day_of line = next (has_count line 3) (λ _. number_at line 1)

-- a day and a file
pub record DatedFile : Type 0 where
  pub day : ℕ
  pub file : List ℕ

-- the day and the file of `check DAY FILE` and `copy DAY FILE`
unfoldable pub sheet_file_of : List (List ℕ) → Result DatedFile Unreadable
sheet_file_of line = next (sheet_day_of line) (λ day. Ok (record { day = day; file = slice_index_or line 2 [] }))

-- `check DAY FILE`
abbrev pub check_of : List (List ℕ) → Result Order Unreadable
check_of line = next (sheet_file_of line) (λ sheet. Ok (check sheet.day sheet.file))

-- `copy DAY FILE`
abbrev pub copy_of : List (List ℕ) → Result Order Unreadable
copy_of line = next (sheet_file_of line) (λ sheet. Ok (copy sheet.day sheet.file))

-- the command that the words of a line give, the first of which is `verb`
abbrev pub order_by : List ℕ → List (List ℕ) → Result Order Unreadable
order_by verb line =
    cond (spells verb (codes "rates")) (rates_of line)
    (cond (spells verb (codes "surcharge")) (surcharge_of line)
    (cond (spells verb (codes "rate")) (rate_of line)
    (cond (spells verb (codes "check")) (check_of line)
    (cond (spells verb (codes "copy")) (copy_of line) (Err UnknownCommand)))))

-- a line with no words is skipped
abbrev pub reading_of : List (List ℕ) → Result (Option Order) Unreadable
reading_of [] = Ok None
reading_of (word ∷ line) = next (order_by word (word ∷ line)) (λ order. Ok (Some order))

-- the line begins with `#`
abbrev pub is_comment : List ℕ → Bool
is_comment line = slice_index line 0 == 35

-- what a line says: a command, nothing where it is skipped, or why it is unreadable; a comment is skipped
abbrev pub reading : List ℕ → Result (Option Order) Unreadable
reading line = cond (is_comment line) (Ok None) (reading_of (words_of line))

-- the file that a command wants to read
abbrev pub order_file : Order → Option (List ℕ)
order_file rates_scale = None
order_file (rates_list amounts) = None
order_file (surcharge percentages) = None
order_file (rate quote) = None
order_file (check day file) = Some file
order_file (copy day file) = Some file

-- a command that was read, with plain lists
abbrev pub ordered : Command → Order
ordered code.RatesScale = rates_scale
ordered (code.RatesList amounts) = rates_list (vec_items amounts)
ordered (code.Surcharge percentages) = surcharge percentages
ordered (code.Rate quote) = rate quote
ordered (code.Check sheet) = check sheet.day (vec_items sheet.file)
ordered (code.Copy sheet) = copy sheet.day (vec_items sheet.file)

-- a day and a file that were read, with a plain list
abbrev pub dated : SheetFile → DatedFile
dated sheet = record { day = sheet.day; file = vec_items sheet.file }

-- what was read of the words, with plain lists
abbrev pub heard : Result Command Unreadable → Result Order Unreadable
heard (Ok given) = Ok (ordered given)
heard (Err fault) = Err fault

-- what was read, seen by `view`, is what the words say, unless memory was wanting
abbrev pub Tells : {T X : Type 0} → (T → X) → Result X Unreadable → Result T ReadError → Type 0
Tells view words (Ok given) = Ok (view given) ≡ words
Tells view words (Err read_error.NoMemory) = ⊤
Tells view words (Err (read_error.Unreadable fault)) = Err fault ≡ words
