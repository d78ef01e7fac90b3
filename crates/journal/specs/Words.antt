-- The words of a line, and the number that a word writes.
use Rattle.std.specs.Prelude.{◌≡◌, ℕ, ◌-◌, cond, ◌&&◌, List, map, length, take, Ok, Err, filter, Result, ◌==◌, nat_le, nat_lt, slice_index}
use Rattle.std.specs.Borrow.{Bor}
use Rattle.std.specs.Str.Iter.{LacksByte}
use Rattle.std.specs.List.{join_with_byte, slice_split, list_all, AllByRecursion}
use Rattle.std.specs.Char.{is_ascii_digit}
use Rattle.std.specs.Str.Parse.{digits_value}
use Rattle.journal.specs.declared.words.NotNumber.{NotNumber}
use Rattle.journal.specs.declared.words.NotNumber.TheVariants.{NotDigits, TooManyDigits}

-- a line without its last byte, where that is a line feed
abbrev pub without_line_feed : List ℕ → List ℕ
without_line_feed line = cond (slice_index line (length line - 1) == 10) (take (length line - 1) line) line

-- the words of a line: the pieces between its spaces that are not empty
abbrev pub words_of : List ℕ → List (List ℕ)
words_of line = filter (λ piece. nat_lt 0 (length piece)) (slice_split (λ b. b == 32) line)

-- the words are what is not empty of some parts, none of which has a space, that a space between each two makes the line again
pub record Cuts (words : List (List ℕ)) (line : List ℕ) : Type 0 where
  pub parts : List (List ℕ)
  pub whole : join_with_byte 32 parts ≡ line
  pub apart : AllByRecursion (λ part. LacksByte 32 part) parts
  pub kept : words ≡ filter (λ part. nat_lt 0 (length part)) parts

-- what each of some parts of a line holds
abbrev pub texts : List (Bor (List ℕ)) → List (List ℕ)
texts parts = map (λ part. part.now) parts

-- the number that 1 to 18 decimal digits write, or why a word writes none
abbrev pub number_of : List ℕ → Result ℕ NotNumber
number_of word =
    cond (nat_lt 0 (length word) && list_all is_ascii_digit word)
    (cond (nat_le (length word) 18) (Ok (digits_value 10 word)) (Err TooManyDigits))
    (Err NotDigits)
