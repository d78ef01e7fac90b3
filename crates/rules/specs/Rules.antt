-- The rules of strategy lines, each with the number of the denial that tells its breach. Of a leg it is said what is wrong with
-- it, of a line as a whole what is right.
use Rattle.std.specs.Prelude.{ℕ, ◌+◌, ◌*◌, Bool, true, cond, not, ◌&&◌, List, [], ◌∷◌, length, Some, None, Ok, Err, count_by, Option, Result, ◌==◌, nat_le, nat_lt}
use Rattle.terms.specs.declared.holdings.Contract.{Contract}
use Rattle.terms.specs.declared.holdings.Security.{Security}
use Rattle.terms.specs.declared.holdings.Row.{Row}
use Rattle.terms.specs.declared.strategy.Kind.{Kind}
use Rattle.terms.specs.declared.strategy.Kind.TheVariants.{Opposed, BoughtButterfly, SoldButterfly, SoldCone, Covered, TermPurchase, TermSale}
use Rattle.terms.specs.declared.strategy.Leg.{Leg}
use Rattle.terms.specs.declared.strategy.Line.{Line}
use Rattle.terms.specs.Sides.{writes, leg_at}
use Rattle.denials.specs.declared.sheet.LegFault.{LegFault}
use Rattle.denials.specs.declared.sheet.LegFault.TheVariants.{NoSuchRow, WrongSort, RowUsedTwice, OtherSecurity, EndsTooEarly}
use Rattle.denials.specs.declared.sheet.LineFault.{LineFault}
use Rattle.denials.specs.declared.sheet.LineFault.TheVariants as faults
use Rattle.denials.specs.declared.sheet.SheetFault.{SheetFault}
use Rattle.denials.specs.declared.sheet.SheetFault.TheVariants as sheet
use Rattle.terms.specs.Holdings.{strike_of}
use Rattle.rules.specs.Sorts.{of_one_type, right_sort, ends_before, admitted}
use Rattle.rules.specs.Legs.{row_of, contract_of, class_of, used, first_leg, some_leg, used_first}

-- 3: a leg names a row that is not listed
abbrev pub not_listed : List Row → Leg → Bool
not_listed rows leg = nat_le (length rows) leg.row

-- how many legs a kind has
abbrev pub right_number : Kind → ℕ → Bool
right_number Opposed n = nat_le 2 n && nat_le n 4
right_number BoughtButterfly n = n == 3
right_number SoldButterfly n = n == 3
right_number SoldCone n = n == 2
right_number Covered n = n == 2
right_number TermPurchase n = n == 2
right_number TermSale n = n == 2

-- 9: as many legs are used as the kind has, and they come first
abbrev pub right_count : Kind → List Leg → Bool
right_count kind legs = right_number kind (count_by used legs) && used_first legs

-- 10: a leg is not of the sort that its kind names
abbrev pub wrong_sort : Kind → List Leg → List Row → ℕ → Leg → Bool
wrong_sort kind legs rows i leg = not (right_sort kind (contract_of rows (leg_at legs 0)) i (contract_of rows leg))

-- a leg comes before the leg of index i, and has the row
abbrev pub is_earlier : ℕ → ℕ → ℕ → Leg → Bool
is_earlier i row j other = nat_lt j i && other.row == row

-- 11: an earlier leg uses the row
abbrev pub used_before : List Leg → ℕ → Leg → Bool
used_before legs i leg = some_leg (is_earlier i leg.row) legs

-- 12: a leg's row is on another security than leg 0's
abbrev pub other_security : List Leg → List Row → Leg → Bool
other_security legs rows leg = not ((row_of rows leg).security == (row_of rows (leg_at legs 0)).security)

-- 13: the class of leg 0's security admits the kind, with leg 0's option type
abbrev pub right_class : Kind → List Leg → List Row → List Security → Bool
right_class kind legs rows securities = admitted kind (contract_of rows (leg_at legs 0)) (class_of rows securities (leg_at legs 0))

-- the lots of a leg
abbrev pub lots_at : List Leg → ℕ → ℕ
lots_at legs i = (leg_at legs i).lots

-- 14: opposed, the held lots add up to the written ones; in a butterfly, leg 2 has as many lots as leg 0, and leg 1 twice as
-- many; elsewhere leg 1 has as many as leg 0
abbrev pub right_lots : Kind → List Leg → Bool
right_lots Opposed legs = lots_at legs 1 + lots_at legs 2 + lots_at legs 3 == lots_at legs 0
right_lots BoughtButterfly legs = lots_at legs 1 == 2 * lots_at legs 0 && lots_at legs 2 == lots_at legs 0
right_lots SoldButterfly legs = lots_at legs 1 == 2 * lots_at legs 0 && lots_at legs 2 == lots_at legs 0
right_lots SoldCone legs = lots_at legs 1 == lots_at legs 0
right_lots Covered legs = lots_at legs 1 == lots_at legs 0
right_lots TermPurchase legs = lots_at legs 1 == lots_at legs 0
right_lots TermSale legs = lots_at legs 1 == lots_at legs 0

-- a leg is written, and a contract ends before its last day
abbrev pub outlives : Kind → List Row → Contract → ℕ → Leg → Bool
outlives kind rows contract j other = writes kind j && ends_before contract (contract_of rows other)

-- a contract ends before the last day of a written leg of the line
abbrev pub ends_before_written : Kind → List Leg → List Row → Contract → Bool
ends_before_written kind legs rows contract = some_leg (outlives kind rows contract) legs

-- 15: among options of one type, a held leg ends before a written leg of the line
abbrev pub ends_too_early : Kind → List Leg → List Row → ℕ → Leg → Bool
ends_too_early kind legs rows i leg = of_one_type kind && (not (writes kind i) && ends_before_written kind legs rows (contract_of rows leg))

-- the strike of a leg
abbrev pub strike_at : List Leg → List Row → ℕ → ℕ
strike_at legs rows i = strike_of (contract_of rows (leg_at legs i))

-- three strikes that rise by equal steps
abbrev pub equal_steps : ℕ → ℕ → ℕ → Bool
equal_steps a b c = nat_lt a b && (nat_lt b c && a + c == 2 * b)

-- 16: a butterfly's strikes rise by equal steps, and a cone's are equal
abbrev pub right_strikes : Kind → List Leg → List Row → Bool
right_strikes Opposed legs rows = true
right_strikes BoughtButterfly legs rows = equal_steps (strike_at legs rows 0) (strike_at legs rows 1) (strike_at legs rows 2)
right_strikes SoldButterfly legs rows = equal_steps (strike_at legs rows 0) (strike_at legs rows 1) (strike_at legs rows 2)
right_strikes SoldCone legs rows = strike_at legs rows 0 == strike_at legs rows 1
right_strikes Covered legs rows = true
right_strikes TermPurchase legs rows = true
right_strikes TermSale legs rows = true

-- what each fault of a leg is, at the leg of index i
abbrev pub at_fault : LegFault → Kind → List Leg → List Row → ℕ → Leg → Bool
at_fault NoSuchRow kind legs rows i leg = not_listed rows leg
at_fault WrongSort kind legs rows i leg = wrong_sort kind legs rows i leg
at_fault RowUsedTwice kind legs rows i leg = used_before legs i leg
at_fault OtherSecurity kind legs rows i leg = other_security legs rows leg
at_fault EndsTooEarly kind legs rows i leg = ends_too_early kind legs rows i leg

-- what is tested next, where the test before was passed
abbrev pub and_then : {F : Type 0} → Result (Unit {0}) F → Result (Unit {0}) F → Result (Unit {0}) F
and_then (Ok u) next = next
and_then (Err fault) next = Err fault

-- a fault, unless something is so
abbrev pub unless : {F : Type 0} → Bool → F → Result (Unit {0}) F
unless right fault = cond right (Ok tt) (Err fault)

-- a fault of a line, where a leg has it
abbrev pub told_at : LegFault → Option ℕ → Result (Unit {0}) LineFault
told_at fault None = Ok tt
told_at fault (Some i) = Err (faults.Leg i fault)

-- the first used leg that has the fault is told
abbrev pub legs_checked : LegFault → Kind → List Leg → List Row → Result (Unit {0}) LineFault
legs_checked fault kind legs rows = told_at fault (first_leg (at_fault fault kind legs rows) 0 legs)

-- the tests of a line, in the order of their numbers; the first that fails is told
abbrev pub rules_checked : Kind → List Leg → List Row → List Security → Result (Unit {0}) LineFault
rules_checked kind legs rows securities =
    and_then (legs_checked NoSuchRow kind legs rows) (
    and_then (unless (right_count kind legs) faults.LegCount) (
    and_then (legs_checked WrongSort kind legs rows) (
    and_then (legs_checked RowUsedTwice kind legs rows) (
    and_then (legs_checked OtherSecurity kind legs rows) (
    and_then (unless (right_class kind legs rows securities) faults.ClassNotAdmitted) (
    and_then (unless (right_lots kind legs) faults.LotsDoNotMatch) (
    and_then (legs_checked EndsTooEarly kind legs rows) (
    unless (right_strikes kind legs rows) faults.StrikesBreakRule))))))))

-- a line by its kind and its legs
abbrev pub line_checked : List Row → List Security → Line → Result (Unit {0}) LineFault
line_checked rows securities line = rules_checked line.kind line.legs rows securities

-- a fault of a sheet, where the line of index i has one
abbrev pub told_in : ℕ → Result (Unit {0}) LineFault → Result (Unit {0}) SheetFault
told_in i (Ok u) = Ok u
told_in i (Err fault) = Err (sheet.Line i fault)

-- the first line at fault, where the first of the lines has the index i
abbrev pub lines_checked : List Row → List Security → ℕ → List Line → Result (Unit {0}) SheetFault
lines_checked rows securities i [] = Ok tt
lines_checked rows securities i (line ∷ lines) =
    and_then (told_in i (line_checked rows securities line)) (lines_checked rows securities (i + 1) lines)

-- the lines of a sheet in turn; the first at fault is told
abbrev pub sheet_checked : List Row → List Security → List Line → Result (Unit {0}) SheetFault
sheet_checked rows securities lines = lines_checked rows securities 0 lines
