-- Slips by their stage.
use Rattle.std.specs.Prelude.{ℕ}
use Rattle.book.specs.declared.slips.InTrading.{InTrading}
use Rattle.book.specs.declared.slips.InValuing.{InValuing}
use Rattle.book.specs.declared.slips.Slip.{Slip}

-- admits listing, quoting, trading and ending the session
abbrev pub TradingSlip : Type 0
TradingSlip = Slip InTrading

-- admits the next day
abbrev pub ValuingSlip : Type 0
ValuingSlip = Slip InValuing

-- the slip of a book and a day
abbrev pub slip_of : {S : Type 0} → (book day : ℕ) → Slip S
slip_of book day = record { book = book; day = day; stage = record {} }
