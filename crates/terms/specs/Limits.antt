-- The limits of a book's figures.
use Rattle.std.specs.Prelude.{ℕ, Bool, cond, ◌&&◌, Some, None, Option, nat_le}

-- from the least to the most, both included
abbrev pub within : ℕ → ℕ → ℕ → Bool
within least most n = nat_le least n && nat_le n most

-- a day: 1 to 1,000,000
abbrev pub is_day : ℕ → Bool
is_day day = within 1 1000000 day

-- a strike, a closing price or a term price: 1 to 10,000,000 centavos
abbrev pub is_price : ℕ → Bool
is_price amount = within 1 10000000 amount

-- a premium: 0 to 10,000,000 centavos
abbrev pub is_premium : ℕ → Bool
is_premium amount = nat_le amount 10000000

-- a lot size: 1 to 10,000 securities
abbrev pub is_lot_size : ℕ → Bool
is_lot_size size = within 1 10000 size

-- the most that one lot can ask in guarantee, in centavos
abbrev pub ceiling : ℕ
ceiling = 1000000000000

-- how many strategy lines can stand at once
abbrev pub most_lines : ℕ
most_lines = 64

-- how many rows a book can list
abbrev pub most_rows : ℕ
most_rows = 64

-- how many securities a book can list
abbrev pub most_securities : ℕ
most_securities = 16

-- a book's number: 0 to 65,535
abbrev pub is_book_number : ℕ → Bool
is_book_number number = nat_le number 65535

-- a term operation's guarantee per lot: 0 to 1,000,000,000,000 centavos
abbrev pub is_guarantee : ℕ → Bool
is_guarantee amount = nat_le amount ceiling

-- a figure, where it is within its limits
abbrev pub limited : (ℕ → Bool) → ℕ → Option ℕ
limited within n = cond (within n) (Some n) None
