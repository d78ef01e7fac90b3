-- How the fault of a sheet is denied.
use Rattle.std.specs.Prelude.{ℕ, List, ◌++◌, codes, decimal}
use Rattle.terms.specs.declared.denial.Layer.{Layer}
use Rattle.terms.specs.declared.denial.Layer.TheVariants as layer
use Rattle.terms.specs.declared.denial.Place.{Place}
use Rattle.terms.specs.declared.denial.Place.TheVariants as place
use Rattle.denials.specs.declared.sheet.LegFault.{LegFault}
use Rattle.denials.specs.declared.sheet.LegFault.TheVariants.{NoSuchRow, WrongSort, RowUsedTwice, OtherSecurity, EndsTooEarly}
use Rattle.denials.specs.declared.sheet.LineFault.{LineFault}
use Rattle.denials.specs.declared.sheet.LineFault.TheVariants.{LegCount, ClassNotAdmitted, LotsDoNotMatch, StrikesBreakRule, Leg}
use Rattle.denials.specs.declared.sheet.SheetFault.{SheetFault}
use Rattle.denials.specs.declared.sheet.SheetFault.TheVariants.{Line, Overdrawn}

-- every fault of a sheet is of the sheet's layer
abbrev pub sheet_layer : SheetFault → Layer
sheet_layer fault = layer.Sheet

-- the number of each fault of a leg
abbrev pub leg_number : LegFault → ℕ
leg_number NoSuchRow = 3
leg_number WrongSort = 10
leg_number RowUsedTwice = 11
leg_number OtherSecurity = 12
leg_number EndsTooEarly = 15

-- the number of each fault of a line
abbrev pub line_number : LineFault → ℕ
line_number LegCount = 9
line_number ClassNotAdmitted = 13
line_number LotsDoNotMatch = 14
line_number StrikesBreakRule = 16
line_number (Leg leg fault) = leg_number fault

-- the number of each fault of a sheet
abbrev pub sheet_number : SheetFault → ℕ
sheet_number (Line line fault) = line_number fault
sheet_number (Overdrawn row) = 17

-- the leg at fault: a fault of the whole line goes by its first leg
abbrev pub faulty_leg : LineFault → ℕ
faulty_leg LegCount = 0
faulty_leg ClassNotAdmitted = 0
faulty_leg LotsDoNotMatch = 0
faulty_leg StrikesBreakRule = 0
faulty_leg (Leg leg fault) = leg

-- a line is told with its leg at fault, an overdrawn row by its number
abbrev pub sheet_place : SheetFault → Place
sheet_place (Line line fault) = place.Leg line (faulty_leg fault)
sheet_place (Overdrawn row) = place.Number row

-- what is wrong with a leg, in words that follow its place
abbrev pub leg_text : LegFault → List ℕ
leg_text NoSuchRow = codes "names a row that is not listed"
leg_text WrongSort = codes "is not of the sort that the line's kind names"
leg_text RowUsedTwice = codes "uses a row that an earlier leg uses"
leg_text OtherSecurity = codes "is on another security than leg 0"
leg_text EndsTooEarly = codes "ends before a written leg"

-- what is wrong with a line of this number, in words
abbrev pub line_text : ℕ → LineFault → List ℕ
line_text line LegCount = codes "line " ++ (decimal line ++ codes " has too few, too many or misplaced legs")
line_text line ClassNotAdmitted = codes "the class of line " ++ (decimal line ++ codes "'s security does not admit its kind")
line_text line LotsDoNotMatch = codes "the lots of line " ++ (decimal line ++ codes " do not match")
line_text line StrikesBreakRule = codes "the strikes of line " ++ (decimal line ++ codes " break the rule of its kind")
line_text line (Leg leg fault) = codes "leg " ++ (decimal leg ++ (codes " of line " ++ (decimal line ++ (codes " " ++ leg_text fault))))

-- the reason in words
abbrev pub sheet_fault_text : SheetFault → List ℕ
sheet_fault_text (Line line fault) = line_text line fault
sheet_fault_text (Overdrawn row) = codes "the sheet asks more lots of row " ++ (decimal row ++ codes " than its net has")
