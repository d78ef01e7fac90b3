-- A number in a field of fixed width, and how the bytes of a field are read.
use Rattle.std.specs.Prelude.{◌≡◌, ℕ, zero, suc, ◌+◌, ◌-◌, ◌*◌, ◌/◌, ◌%◌, ◌^◌, ◌<◌, Bool, false, cond, List, [], ◌∷◌, ◌++◌, length, replicate, Some, None, fold, Option, ◌==◌, ◌≢◌, nat_le, nat_lt}
use Rattle.std.specs.List.{list_all}
use Rattle.sheet_text.specs.declared.fields.Seen.{Seen}
use Rattle.sheet_text.specs.declared.fields.Seen.TheVariants.{Blank, Number, Bad}

-- n in w columns, right-justified after spaces: its last digit, and before it the rest or spaces
unfoldable pub column : ℕ → ℕ → List ℕ
column zero n = []
column (suc w) n = cond (nat_lt n 10) (replicate w 32) (column w (n / 10)) ++ ((48 + n % 10) ∷ [])

-- the answer to the reading of a field: its number, or that it is no number's column
abbrev pub FieldIs : List ℕ → Option ℕ → Type 0
FieldIs f None = (n : ℕ) → n < 10 ^ length f → f ≢ column (length f) n
FieldIs f (Some n) = (f ≡ column (length f) n) × (n < 10 ^ length f)

-- every byte is a space
abbrev pub blank : List ℕ → Bool
blank bs = list_all (λ b. b == 32) bs

-- a byte from 0 to 9
abbrev pub is_digit : ℕ → Bool
is_digit b = cond (nat_le 48 b) (nat_le b 57) false

-- what one more byte makes of the bytes before it: spaces, then digits of which the first is 0 only where it stands alone
abbrev pub stepped : Seen → ℕ → Seen
stepped Blank b = cond (b == 32) Blank (cond (is_digit b) (Number (b - 48)) Bad)
stepped (Number n) b = cond (is_digit b) (cond (nat_lt 0 n) (Number (n * 10 + (b - 48))) Bad) Bad
stepped Bad b = Bad

-- what a field's bytes are
abbrev pub seen_of : List ℕ → Seen
seen_of bs = fold stepped Blank bs

-- the number, where there is one
abbrev pub value_of : Seen → Option ℕ
value_of Blank = None
value_of (Number n) = Some n
value_of Bad = None

-- the number in a field
abbrev pub field_of : List ℕ → Option ℕ
field_of f = value_of (seen_of f)

-- at most eight digits are seen
abbrev pub SmallSeen : Seen → Type 0
SmallSeen Blank = Unit {0}
SmallSeen (Number n) = n < 10 ^ 8
SmallSeen Bad = Unit {0}
