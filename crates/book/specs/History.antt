-- The history of a book's calls, and what it says of rows and lines.
use Rattle.std.specs.Prelude.{ℕ, Bool, false, cond, ◌||◌, List, [], ◌∷◌, length, ℤ, pos, ◌+ℤ◌, Some, None, Ok, Err, Option, Result, ◌==◌}
use Rattle.terms.specs.declared.OptionType.{OptionType}
use Rattle.terms.specs.declared.holdings.Class.{Class}
use Rattle.terms.specs.declared.strategy.Line.{Line}
use Rattle.denials.specs.declared.book.BookFault.{BookFault}
use Rattle.lines.specs.Broken.{without, sparing}
use Rattle.terms.specs.Holdings.{has_ended}
use Rattle.book.specs.declared.ledger.Listed.{Listed}
use Rattle.book.specs.Slips.{TradingSlip, ValuingSlip, slip_of}
use Rattle.book.specs.Calls.{State, new_security, new_series, new_term, new_price, new_premium, new_net, for_trading, new_day, with_security, with_row, with_securities, with_rows, ended, on_day, Settled, Trades}

-- a call with its slip and arguments, and its answer
pub data Event : Type 0 where
  security_listed : TradingSlip → Class → (lot close : ℕ) → Result Listed BookFault → Event
  series_listed : TradingSlip → (security : ℕ) → OptionType → (strike last premium : ℕ) → Result ℕ BookFault → Event
  term_listed : TradingSlip → (security price last guarantee : ℕ) → Result ℕ BookFault → Event
  price_quoted : TradingSlip → (security price : ℕ) → Result (Unit {0}) BookFault → Event
  premium_quoted : TradingSlip → (row premium : ℕ) → Result (Unit {0}) BookFault → Event
  traded : TradingSlip → (row : ℕ) (lots : ℤ) → Result ℕ BookFault → Event
  session_ended : TradingSlip → Result ValuingSlip BookFault → Event
  day_opened : ValuingSlip → (day : ℕ) → Result TradingSlip BookFault → Event

-- how each call is settled, for all arguments: its answer, and what becomes of the book
abbrev pub Settles : State → Event → State → Type 0
Settles s (security_listed slip class lot close r) s' =
    Settled (new_security s slip class lot close) (λ _. record { security = length s.securities; row = length s.rows }) (with_security s) s r s'
Settles s (series_listed slip security option strike last premium r) s' =
    Settled (new_series s slip security option strike last premium) (λ _. length s.rows) (with_row s) s r s'
Settles s (term_listed slip security price last guarantee r) s' =
    Settled (new_term s slip security price last guarantee) (λ _. length s.rows) (with_row s) s r s'
Settles s (price_quoted slip security price r) s' =
    Settled (new_price s slip security price) (λ _. tt) (with_securities s) s r s'
Settles s (premium_quoted slip row premium r) s' =
    Settled (new_premium s slip row premium) (λ _. tt) (with_rows s) s r s'
Settles s (traded slip row lots r) s' =
    Trades (new_net s slip row lots) row s r s'
Settles s (session_ended slip r) s' =
    Settled (for_trading s slip) (λ _. slip_of s.number s.day) (λ _. ended s) s r s'
Settles s (day_opened slip day r) s' =
    Settled (new_day s slip day) (λ d. slip_of s.number d) (on_day s) s r s'

-- a history, the newest event first, leads from one book to another: each call is settled in its turn, whatever its slip and arguments
pub data Led (s₀ : State) : List Event → State → Type 0 where
  start : Led s₀ [] s₀
  more : {h : List Event} {s s' : State} {e : Event} → Led s₀ h s → Settles s e s' → Led s₀ (e ∷ h) s'

-- the lots that an accepted trade adds to a row
abbrev pub adds : ℕ → Event → ℤ
adds i (security_listed slip class lot close r) = pos 0
adds i (series_listed slip security option strike last premium r) = pos 0
adds i (term_listed slip security price last guarantee r) = pos 0
adds i (price_quoted slip security price r) = pos 0
adds i (premium_quoted slip row premium r) = pos 0
adds i (traded slip row lots (Ok k)) = cond (row == i) lots (pos 0)
adds i (traded slip row lots (Err fault)) = pos 0
adds i (session_ended slip r) = pos 0
adds i (day_opened slip day r) = pos 0

-- lots bought less lots sold: the signed lots of a row's accepted trades
abbrev pub bought_less_sold : ℕ → List Event → ℤ
bought_less_sold i [] = pos 0
bought_less_sold i (e ∷ h) = bought_less_sold i h +ℤ adds i e

-- a listing's last day, where the listing was answered by this row, and else what was known before
abbrev pub listed_under : ℕ → ℕ → Result ℕ BookFault → Option ℕ → Option ℕ
listed_under i last (Ok row) before = cond (row == i) (Some last) before
listed_under i last (Err fault) before = before

-- the last day under which a row was listed; none of a deposit
abbrev pub last_day_of : ℕ → List Event → Option ℕ
last_day_of i [] = None
last_day_of i (security_listed slip class lot close r ∷ h) = last_day_of i h
last_day_of i (series_listed slip security option strike last premium r ∷ h) = listed_under i last r (last_day_of i h)
last_day_of i (term_listed slip security price last guarantee r ∷ h) = listed_under i last r (last_day_of i h)
last_day_of i (price_quoted slip security price r ∷ h) = last_day_of i h
last_day_of i (premium_quoted slip row premium r ∷ h) = last_day_of i h
last_day_of i (traded slip row lots r ∷ h) = last_day_of i h
last_day_of i (session_ended slip r ∷ h) = last_day_of i h
last_day_of i (day_opened slip day r ∷ h) = last_day_of i h

-- an accepted next day brought a day after this last day
abbrev pub brings : Option ℕ → Event → Bool
brings last (security_listed slip class lot close r) = false
brings last (series_listed slip security option strike strike_last premium r) = false
brings last (term_listed slip security price term_last guarantee r) = false
brings last (price_quoted slip security price r) = false
brings last (premium_quoted slip row premium r) = false
brings last (traded slip row lots r) = false
brings last (session_ended slip r) = false
brings last (day_opened slip day (Ok next)) = has_ended last day
brings last (day_opened slip day (Err fault)) = false

-- a last day has passed
abbrev pub passed : Option ℕ → List Event → Bool
passed last [] = false
passed last (e ∷ h) = brings last e || passed last h

-- the lots that a row should have: bought less sold, or none once its last day has passed
abbrev pub lots_of : ℕ → List Event → ℤ
lots_of i h = cond (passed (last_day_of i h) h) (pos 0) (bought_less_sold i h)

-- the lines that stand after an event: without those that a trade or a next day broke
abbrev pub standing_after : List Event → Event → List Line → List Line
standing_after h (security_listed slip class lot close r) lines = lines
standing_after h (series_listed slip security option strike last premium r) lines = lines
standing_after h (term_listed slip security price last guarantee r) lines = lines
standing_after h (price_quoted slip security price r) lines = lines
standing_after h (premium_quoted slip row premium r) lines = lines
standing_after h (traded slip row lots (Ok k)) lines = without k row lines
standing_after h (traded slip row lots (Err fault)) lines = lines
standing_after h (session_ended slip r) lines = lines
standing_after h (day_opened slip day (Ok next)) lines = sparing (λ i. has_ended (last_day_of i h) day) lines
standing_after h (day_opened slip day (Err fault)) lines = lines

-- the lines that stand; none on a newly opened book
abbrev pub standing : List Event → List Line
standing [] = []
standing (e ∷ h) = standing_after h e (standing h)
