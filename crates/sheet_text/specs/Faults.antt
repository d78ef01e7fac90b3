-- How the fault of a text is denied.
use Rattle.std.specs.Prelude.{ℕ, List, ◌++◌, codes, decimal}
use Rattle.terms.specs.declared.denial.Layer.{Layer}
use Rattle.terms.specs.declared.denial.Layer.TheVariants.{Text}
use Rattle.terms.specs.declared.denial.Place.{Place}
use Rattle.terms.specs.declared.denial.Place.TheVariants.{Number, Leg}
use Rattle.sheet_text.specs.declared.fault.TextFault.{TextFault}
use Rattle.sheet_text.specs.declared.fault.TextFault.TheVariants.{DayOutsideLimits, LegOutsideFormat, TooManyLines, BufferTooShort, BrokenRecord, UnknownLetter, IllFormed, OutOfTurn, Differs}

-- every fault of a text is of the text's layer
abbrev pub fault_layer : TextFault → Layer
fault_layer fault = Text

-- the number of each fault
abbrev pub fault_number : TextFault → ℕ
fault_number DayOutsideLimits = 2
fault_number (LegOutsideFormat line leg) = 2
fault_number (TooManyLines limit) = 4
fault_number (BufferTooShort needed) = 4
fault_number (BrokenRecord at) = 20
fault_number (UnknownLetter at) = 21
fault_number (IllFormed at) = 22
fault_number (OutOfTurn at) = 23
fault_number (Differs at) = 24

-- the day is the call's first argument; a leg is told by its line, space by how much there is or is needed, the rest by the byte
abbrev pub fault_place : TextFault → Place
fault_place DayOutsideLimits = Number 0
fault_place (LegOutsideFormat line leg) = Leg line leg
fault_place (TooManyLines limit) = Number limit
fault_place (BufferTooShort needed) = Number needed
fault_place (BrokenRecord at) = Number at
fault_place (UnknownLetter at) = Number at
fault_place (IllFormed at) = Number at
fault_place (OutOfTurn at) = Number at
fault_place (Differs at) = Number at

-- the reason in words
abbrev pub fault_text : TextFault → List ℕ
fault_text DayOutsideLimits = codes "the day is outside 1 to 1000000"
fault_text (LegOutsideFormat line leg) = codes "leg " ++ (decimal leg ++ (codes " of line " ++ (decimal line ++ codes " does not fit its columns")))
fault_text (TooManyLines limit) = codes "there is room for " ++ (decimal limit ++ codes " lines")
fault_text (BufferTooShort needed) = codes "the text needs " ++ (decimal needed ++ codes " bytes")
fault_text (BrokenRecord at) = codes "the record at byte " ++ (decimal at ++ codes " is shorter than 38 bytes or lacks its line feed")
fault_text (UnknownLetter at) = codes "the letter at byte " ++ (decimal at ++ codes " is of no record")
fault_text (IllFormed at) = codes "the field at byte " ++ (decimal at ++ codes " is ill-formed")
fault_text (OutOfTurn at) = codes "the text is out of turn at byte " ++ decimal at
fault_text (Differs at) = codes "the number at byte " ++ (decimal at ++ codes " is not the expected one")
