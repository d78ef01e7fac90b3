-- What holds of a book over any run of its calls.
use Rattle.std.specs.Prelude.{◌≡◌, ℕ, ◌⊎◌, List, ◌∷◌, ℤ, pos, ◌+ℤ◌, ◌-ℤ◌, ◌≤ℤ◌, slice_index_or}
use Rattle.terms.specs.declared.strategy.Line.{Line}
use Rattle.lines.specs.Lots.{held, written}
use Rattle.terms.specs.Holdings.{no_row}
use Rattle.book.specs.Calls.{State, Opening, opened}
use Rattle.book.specs.History.{Event, Settles, Led, lots_of, standing}

-- the lots of a row in strategies, written ones negative
abbrev pub grouped : ℕ → List Line → ℤ
grouped i lines = pos (held i lines) -ℤ pos (written i lines)

-- the lots of a row that are loose: the net that the book keeps less the grouped ones
abbrev pub loose : State → ℕ → List Line → ℤ
loose s i lines = (slice_index_or s.rows i no_row).net -ℤ grouped i lines

-- two figures lie on one side: neither is below 0, or neither is above
abbrev pub OneSide : ℤ → ℤ → Type 0
OneSide a b = ((pos 0 ≤ℤ a) × (pos 0 ≤ℤ b)) ⊎ ((a ≤ℤ pos 0) × (b ≤ℤ pos 0))

-- what a history promises of the book that it led to
pub record Promise (h : List Event) (s : State) : Type 0 where
  -- the lines of the book are those that stand by the history
  pub lines : s.lines ≡ standing h
  -- loose and grouped lots of each row add up to what was bought less what was sold, or to 0 once its last day has passed
  pub add_up : (i : ℕ) → loose s i (standing h) +ℤ grouped i (standing h) ≡ lots_of i h
  -- and never lie on opposite sides
  pub sides : (i : ℕ) → OneSide (loose s i (standing h)) (grouped i (standing h))

-- whatever run of calls led here from a newly opened book, with this call it leads on, and the promise holds
abbrev pub GoesOn : State → Event → State → Type 0
GoesOn s e s' = (o : Opening) (h : List Event) → Led (opened o) h s → Led (opened o) (e ∷ h) s' × Promise (e ∷ h) s'

-- what each call ensures: it is settled, and every run goes on
pub record Call (s : State) (e : Event) (s' : State) : Type 0 where
  pub settles : Settles s e s'
  pub onward : GoesOn s e s'
